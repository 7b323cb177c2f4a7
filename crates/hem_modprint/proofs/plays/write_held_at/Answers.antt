use Rattle.std.proofs.Common.{◌≡◌, ◌++◌, List, ℕ, subst}
use Rattle.std.specs.Prelude.{OnOk}
use Rattle.hem_modprint.proofs.Words.{register_word}
use Rattle.hem_modprint.proofs.Numbered.{register_is}
use Rattle.hem_modprint.proofs.plays.write_held_at.Goals as goal

pub write_held-requires : goal.write_held-requires
write_held-requires c = register_word c.args.m.now c.regs.result.now c.args.place c.in-Some.name.now c.rules-rules.ensures.lawful c.regs.ensures c.in-Some.ensures

pub returns-in-Some : goal.returns-in-Some
returns-in-Some c =
    subst (λ (t : List ℕ). OnOk c.write_held.result (c.write_held.new.output ≡ c.args.output.now ++ t))
    (register_is c.args.s.now c.args.place c.regs.result.now c.args.m.now.regs c.in-Some.name.now c.number_at.result c.regs.ensures c.number_at.ensures c.in-Some.ensures)
    c.write_held.ensures
