-- The limits on a tree, in numbers.
use Rattle.std.specs.Prelude.{ℕ}

-- how many objects a tree may have
abbrev pub most_objects : ℕ
most_objects = 64

-- how many children an object may have
abbrev pub most_children : ℕ
most_children = 8

-- how many levels a tree may have; the root is level 1
abbrev pub most_levels : ℕ
most_levels = 8
