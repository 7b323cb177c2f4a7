use Rattle.std.proofs.Common.{◌≡◌, ◌++◌, [], map, sym, subst, OnOk}
use Rattle.std.specs.Option.{option_map_or}
use Rattle.hem_emit.specs.Layout.{registers_at}
use Rattle.hem_translate.specs.Places.{reg_of}
use Rattle.hem_translate.specs.ByObject.{object_registers}
use Rattle.hem_translate.proofs.layout.push_object.Goals as goal

pub returns : goal.returns
unfolding object_registers
returns c = subst (λ k. OnOk c.push_kind.result (map reg_of c.push_kind.new.regs ≡ map reg_of c.args.regs.now ++ option_map_or (registers_at c.args.p.now c.args.tree.now c.args.o.0) k [])) (sym c.kind-kind.ensures) c.push_kind.ensures
