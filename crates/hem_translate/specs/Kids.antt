-- Children as the code has them.
use Rattle.std.specs.Prelude.{ℕ, List, map}

-- the children's numbers, of their places and numbers
abbrev pub numbers_of : List (ℕ × ℕ) → List ℕ
numbers_of kids = map (λ k. k.1) kids
