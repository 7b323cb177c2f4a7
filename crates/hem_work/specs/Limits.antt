-- The limits on a work, in numbers.
use Rattle.std.specs.Prelude.{ℕ}

-- how many lines a work may have; it has at least one
abbrev pub most_lines : ℕ
most_lines = 16

-- how many firings of self rules each object may make on each line
abbrev pub most_self : ℕ
most_self = 1000

-- how many requests a work may have
abbrev pub most_requests : ℕ
most_requests = 100000

-- how many transactions a work may start: one for each request, and one for each firing of a self rule
abbrev pub most_starts : ℕ
most_starts = 200000

-- the greatest number of a line or an object, and the greatest counts, at the head of a work
abbrev pub most_number : ℕ
most_number = 4294967295

-- the greatest value of a request
abbrev pub most_value : ℕ
most_value = 18446744073709551615
