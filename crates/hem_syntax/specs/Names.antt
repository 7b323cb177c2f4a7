-- Tables of names: where a name stands, and the last value of a table.
use Rattle.std.specs.Prelude.{ℕ, ◌-◌, List, [], length, position, Option, Bool, unwrap_or, slice_get, slice_set}
use Rattle.std.specs.List.{list_any, AllByRecursion}
use Rattle.std.specs.Str.{bytes_eq}
use Rattle.hem_base.specs.Names.{IsName}

-- the place of a name
abbrev pub place_in : List (List ℕ) → List ℕ → Option ℕ
place_in names text = position (λ n. bytes_eq n text) names

-- whether a name is declared
abbrev pub is_in : List (List ℕ) → List ℕ → Bool
is_in names text = list_any (λ n. bytes_eq n text) names

-- the place of a name that is declared with something
abbrev pub place_among : {A : Type 0} → List (List ℕ × A) → List ℕ → Option ℕ
place_among names text = position (λ n. bytes_eq n.0 text) names

-- whether a name is declared with something
abbrev pub is_among : {A : Type 0} → List (List ℕ × A) → List ℕ → Bool
is_among names text = list_any (λ n. bytes_eq n.0 text) names

-- all texts are names
abbrev pub AreNames : List (List ℕ) → Type 0
AreNames names = AllByRecursion IsName names

-- all texts with something are names
abbrev pub AreNamed : {A : Type 0} → List (List ℕ × A) → Type 0
AreNamed names = AllByRecursion (λ n. IsName n.0) names

-- the last element, or the one given where there is none
abbrev pub last_or : {A : Type 0} → A → List A → A
last_or d xs = unwrap_or (slice_get xs (length xs - 1)) d

-- the list with another last element
abbrev pub set_last : {A : Type 0} → List A → A → List A
set_last xs x = slice_set xs (length xs - 1) x

-- the table, the last name with this
abbrev pub with_last : {A : Type 0} → List (List ℕ × A) → A → List (List ℕ × A)
with_last xs v = set_last xs ((last_or ([], v) xs).0, v)
