use Rattle.std.specs.Prelude.{◌≡◌, Some, None}
use Rattle.hem_abstract.specs.First.{first_with}
use Rattle.hem_tree.specs.Tree.{below}
use Rattle.hem_choice.specs.Choices.{choice_with}
use Rattle.hem_choice.proofs.choice.Sight.choose_below.Given as goal

abbrev pub invariant-loop-place : goal.invariant-loop-place
invariant-loop-place l = first_with (λ place. choice_with l.p l.kind l.local l.self l.rule (Some place)) (below l.place) ≡ None
