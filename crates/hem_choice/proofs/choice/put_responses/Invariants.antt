use Rattle.std.proofs.Common.{◌≡◌, take}
use Rattle.std.specs.Prelude.{map}
use Rattle.hem_choice.specs.Choices.{message_in}
use Rattle.hem_choice.proofs.choice.put_responses.Given as goal

abbrev pub invariant-loop-kid : goal.invariant-loop-kid
invariant-loop-kid l = l.heads.items ≡ map (λ kid. message_in kid.response) (take l.kid-index l.kids)
