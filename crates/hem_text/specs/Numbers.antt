-- Decimal numbers of any length.
use Rattle.std.specs.Prelude.{ℕ, ◌+◌, ◌*◌, ◌-◌, List, fold}

-- a number with one more digit
abbrev pub with_digit : ℕ → ℕ → ℕ
with_digit n b = n * 10 + (b - 48)

-- the value of digits
abbrev pub number_of : List ℕ → ℕ
number_of text = fold with_digit 0 text
