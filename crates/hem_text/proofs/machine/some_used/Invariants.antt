use Rattle.std.proofs.Common.{◌≡◌, drop}
use Rattle.std.specs.List.{list_any}
use Rattle.hem_text.specs.Grammars.{standing, is_used}
use Rattle.hem_text.proofs.machine.some_used.Given as goal

abbrev pub invariant-loop-depth : goal.invariant-loop-depth
invariant-loop-depth g l =
    let gr = g.L.Language.grammar in
    list_any (λ x. is_used (gr.stands x)) (standing gr (drop l.depth l.stack)) ≡ list_any (λ x. is_used (gr.stands x)) (standing gr l.stack)
