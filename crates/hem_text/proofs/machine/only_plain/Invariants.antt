use Rattle.std.proofs.Common.{◌≡◌, drop}
use Rattle.std.specs.List.{list_all}
use Rattle.hem_text.specs.Grammars.{standing, is_plain}
use Rattle.hem_text.proofs.machine.only_plain.Given as goal

abbrev pub invariant-loop-depth : goal.invariant-loop-depth
invariant-loop-depth g l =
    let gr = g.L.Language.grammar in
    list_all (λ x. is_plain (gr.stands x)) (standing gr (drop l.depth l.stack)) ≡ list_all (λ x. is_plain (gr.stands x)) (standing gr l.stack)
