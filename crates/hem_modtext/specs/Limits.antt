-- The limits on the text of modules, in numbers.
use Rattle.std.specs.Prelude.{ℕ}

-- the greatest number of an object, of a child and of a message
abbrev pub most_id : ℕ
most_id = 4294967295

-- the greatest of all other numbers
abbrev pub most_number : ℕ
most_number = 18446744073709551615

-- how many bytes a name may have
abbrev pub most_bytes : ℕ
most_bytes = 32
