-- Entries that stand right behind one another.
use Rattle.std.specs.Prelude.{◌≡◌, ◌≢◌, true, List, [], ◌∷◌, ◌⊎◌}
use Rattle.hem_trace.specs.Blocks.{Each}
use Rattle.hem_trace.specs.Order.{Entry}

-- the next entry is of the same transaction, or none of the later ones is
abbrev pub NextOwn : Entry → List Entry → Type 0
NextOwn x [] = Unit {0}
NextOwn x (y ∷ ys) = (y.number ≡ x.number) ⊎ Each (λ z. z.number ≢ x.number) (y ∷ ys)

-- so behind each request upward
abbrev pub AreAdjacent : List Entry → Type 0
AreAdjacent [] = Unit {0}
AreAdjacent (x ∷ xs) = (x.upward ≡ true → NextOwn x xs) × AreAdjacent xs
