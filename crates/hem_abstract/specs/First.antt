-- The first that a list gives.
use Rattle.std.specs.Prelude.{List, [], ◌∷◌, Option, None}
use Rattle.std.specs.Option.{option_or}

-- what the first element gives for which something is given
abbrev pub first_with : {A B : Type 0} → (A → Option B) → List A → Option B
first_with give [] = None
first_with give (x ∷ xs) = option_or (give x) (first_with give xs)
