use Rattle.std.proofs.Common.{◌≡◌, ap, sym, ◌∙◌, subst, map, IfOk}
use Rattle.hem_syntax.specs.Lawful.{are_distinct}
use Rattle.hem_emit.specs.Written.{name_of_reg, written_register}
use Rattle.hem_translate.specs.Places.{reg_of}
use Rattle.hem_translate.proofs.NamedApart.{map_map}
use Rattle.hem_translate.proofs.names.register_table.Goals as goal

pub named_registers-requires : goal.named_registers-requires
named_registers-requires c = ap are_distinct (sym (map_map name_of_reg reg_of c.args.regs.now) ∙ ap (map name_of_reg) c.requires) ∙ c.registers_are_named_apart.ensures

pub returns : goal.returns
returns c =
    let write = written_register c.args.p.now c.args.tree.now in
    subst (λ xs. IfOk c.named_registers.result (λ t. t ≡ xs)) (sym (map_map write reg_of c.args.regs.now) ∙ ap (map write) c.requires) c.named_registers.ensures
