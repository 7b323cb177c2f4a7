use Rattle.std.proofs.Common.{◌≡◌, drop}
use Rattle.std.specs.Prelude.{fold}
use Rattle.hem_text.specs.Numbers.{with_digit, number_of}
use Rattle.hem_text.proofs.numbers.number.Given as goal

abbrev pub invariant-loop-b : goal.invariant-loop-b
invariant-loop-b l = fold with_digit l.n (drop l.b-index l.text) ≡ number_of l.text
