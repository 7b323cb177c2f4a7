use Rattle.std.proofs.Common.{◌≡◌, ◌++◌, [], map, sym, subst, OnOk}
use Rattle.std.specs.Option.{option_map_or}
use Rattle.hem_emit.specs.Layout.{queues_at}
use Rattle.hem_translate.specs.Places.{queue_of}
use Rattle.hem_translate.specs.ByObject.{object_queues}
use Rattle.hem_translate.proofs.layout.push_queues_of.Goals as goal

pub returns : goal.returns
unfolding object_queues
returns c = subst (λ k. OnOk c.push_queues.result (map queue_of c.push_queues.new.queues ≡ map queue_of c.args.queues.now ++ option_map_or (λ kind. queues_at kind c.args.o.0) k [])) (sym c.kind-kind.ensures) c.push_queues.ensures
