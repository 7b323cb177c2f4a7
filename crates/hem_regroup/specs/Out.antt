-- Numbers that come out once.
use Rattle.std.specs.Prelude.{ℕ, ◌≡◌, false, List, [], ◌∷◌}
use Rattle.hem_law.specs.Orders.{stands_in}

-- no number is there twice
abbrev pub AreOnce : List ℕ → Type 0
AreOnce [] = Unit {0}
AreOnce (x ∷ xs) = (stands_in xs x ≡ false) × AreOnce xs
