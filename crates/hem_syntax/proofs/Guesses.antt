-- A name at a guessed place stands nowhere else; and texts are compared byte by byte.
use Rattle.std.proofs.Common.{◌≡◌, ℕ, suc, zero, ◌+◌, ◌<◌, nat_lt, Bool, true, false, cond, not, List, [], ◌∷◌, length, slice_get, get_or, drop, refl, sym, ap, ◌∙◌, Some, arith}
use Rattle.std.specs.Prelude.{◌&&◌, nat_eq}
use Rattle.std.specs.List.{IsDistinct, prefix_len, AllByRecursion}
use Rattle.std.specs.Str.{bytes_eq}
use Rattle.std.proofs.lemmas.List.{drop_more}
use Rattle.std.proofs.lemmas.Slice.Eq.{bytes_eq-Decides}
use Rattle.hem_syntax.specs.Names.{place_in}

-- one of those that differ from a name
differs_at : (key : List ℕ) (keys : List (List ℕ)) (place : ℕ) (name : List ℕ) → AllByRecursion (λ y. bytes_eq key y ≡ false) keys → slice_get keys place ≡ Some name → bytes_eq key name ≡ false
differs_at key [] place name all at = absurd cc
differs_at key (k ∷ ks) zero name all at =
    let same : k ≡ name = cc in
    rw (← same) all.0
differs_at key (k ∷ ks) (suc place) name all at = differs_at key ks place name all.1 at

one_more : (n m : ℕ) → n ≡ m → 1 + n ≡ suc m
one_more n m is = omega (arith, is)

first_at : (keys : List (List ℕ)) (text : List ℕ) (place : ℕ) (name : List ℕ) → IsDistinct bytes_eq keys → slice_get keys place ≡ Some name → name ≡ text → prefix_len (λ n. not (bytes_eq n text)) keys ≡ place
unfolding IsDistinct
first_at [] text place name distinct at same = absurd cc
first_at (k ∷ ks) text zero name distinct at same =
    let here : k ≡ text = cc in
    rw ((bytes_eq-Decides k text).1 here) refl
first_at (k ∷ ks) text (suc place) name distinct at same =
    let other : bytes_eq k text ≡ false = rw (← same) (differs_at k ks place name distinct.0 at) in
    rw other (one_more _ place (first_at ks text place name distinct.1 at same))

within : (keys : List (List ℕ)) (place : ℕ) (name : List ℕ) → slice_get keys place ≡ Some name → nat_lt place (length keys) ≡ true
within [] place name at = absurd cc
within (k ∷ ks) zero name at = grind arith
within (k ∷ ks) (suc place) name at =
    let rest : nat_lt place (length ks) ≡ true = within ks place name at in
    grind (arith, rest)

pub guess_is_right : (keys : List (List ℕ)) (text : List ℕ) (place : ℕ) (name : List ℕ) → IsDistinct bytes_eq keys → slice_get keys place ≡ Some name → bytes_eq name text ≡ true → place_in keys text ≡ Some place
guess_is_right keys text place name distinct at same =
    let first : prefix_len (λ n. not (bytes_eq n text)) keys ≡ place = first_at keys text place name distinct at ((bytes_eq-Decides name text).0 same) in
    rw (first, within keys place name at) refl

pub is_below : (a b : ℕ) → true ≡ nat_lt a b → a < b
is_below a b h = grind (arith, h)
