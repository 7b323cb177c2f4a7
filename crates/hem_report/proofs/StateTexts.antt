-- Texts of states, object by object and line by line.
use Rattle.std.proofs.Common.{◌≡◌, refl, ℕ, ◌+◌, ◌<◌, zero, suc, add-one, List, [], ◌∷◌, ◌++◌, length, drop, arith}
use Rattle.std.proofs.lemmas.Option.{slice_get-get_or}
use Rattle.std.specs.Prelude.{slice_get, slice_index_or}
use Rattle.std.specs.Option.{option_map_or}
use Rattle.hem_syntax.specs.Protocol.{Text}
use Rattle.hem_system.specs.State.{State, Cell}
use Rattle.hem_report.specs.Texts.{text_of_each}
use Rattle.hem_report.specs.Places.{text_at}

-- one more element
pub each_more : {A : Type 0} (f : ℕ → A → Text) (k : ℕ) (xs : List A) (i : ℕ) → i < length xs → option_map_or (f k) (slice_get xs i) [] ++ text_of_each f (suc k) (drop (suc i) xs) ≡ text_of_each f k (drop i xs)
each_more f k [] i h = absurd (omega arith)
each_more f k (x ∷ xs) zero h = rw add-one refl
each_more f k (x ∷ xs) (suc i) h = each_more f k xs i (omega arith)

-- one more object of a line
pub objects_more : (f : ℕ → Cell → Text) (s : State) (l o : ℕ) → l < length s → o < length (slice_index_or s l []) → text_at (f o) s l o ++ text_of_each f (o + 1) (drop (o + 1) (slice_index_or s l [])) ≡ text_of_each f o (drop o (slice_index_or s l []))
objects_more f s l o there h = rw (slice_get-get_or s l [] there, add-one) (each_more f o (slice_index_or s l []) o h)
