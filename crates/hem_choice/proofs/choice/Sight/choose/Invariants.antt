use Rattle.std.proofs.Common.{◌≡◌, drop}
use Rattle.hem_abstract.specs.First.{first_with}
use Rattle.hem_choice.specs.Choices.{choice_of}
use Rattle.hem_choice.proofs.choice.Sight.choose.Given as goal

abbrev pub invariant-loop-rule : goal.invariant-loop-rule
invariant-loop-rule l = first_with (choice_of l.p l.kind l.local l.self) (drop l.rule-index l.rules) ≡ first_with (choice_of l.p l.kind l.local l.self) l.rules
