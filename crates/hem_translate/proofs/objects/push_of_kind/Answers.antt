use Rattle.std.proofs.Common.{◌≡◌, ◌++◌, [], sym, subst, OnOk}
use Rattle.std.specs.Option.{option_map_or}
use Rattle.hem_translate.specs.ByObject.{rules_by, object_rules}
use Rattle.hem_translate.proofs.objects.push_of_kind.Goals as goal

pub returns : goal.returns
unfolding object_rules
returns c = subst (λ k. OnOk c.push_object.result (c.push_object.new.rules ≡ c.args.rules.now ++ option_map_or (rules_by c.args.l.now c.args.p.now c.args.tree.now c.args.o.0) k [])) (sym c.kind-level.ensures) (c.push_object.ensures c.kind-level.result c.kind-level.ensures)
