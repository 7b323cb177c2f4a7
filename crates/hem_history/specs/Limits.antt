-- The limits on a history, in numbers.
use Rattle.std.specs.Prelude.{ℕ}

-- how many firings a history may have
abbrev pub most_firings : ℕ
most_firings = 1000000

-- the greatest number of a line or an object
abbrev pub most_number : ℕ
most_number = 4294967295
