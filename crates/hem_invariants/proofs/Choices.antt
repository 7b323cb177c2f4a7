-- What follows from a choice or an option that came out.
use Rattle.std.proofs.Common.{◌≡◌, refl, subst, ℕ, Bool, true, false, cond, List, [], ◌∷◌, Option, Some, None}
use Rattle.std.specs.Prelude.{◌&&◌, option_map, option_and_then, find, slice_get, All}
use Rattle.std.specs.List.{list_all}
use Rattle.std.proofs.lemmas.Option.{get_or_from_slice_get, slice_get_within}

-- both of two tests
pub both : (a b : Bool) → (a && b) ≡ true → (a ≡ true) × (b ≡ true)
both true b is = (refl, is)
both false b is = cc

-- a choice that came out
pub chosen : {A : Type 0} (b : Bool) (x y : A) → cond b (Some x) None ≡ Some y → (b ≡ true) × (x ≡ y)
chosen true x y is = (refl, cc)
chosen false x y is = cc

-- an option behind a test
pub if_passed : {A : Type 0} (b : Bool) (x : Option A) (y : A) → cond b x None ≡ Some y → (b ≡ true) × (x ≡ Some y)
if_passed true x y is = (refl, is)
if_passed false x y is = cc

-- what comes of an option, if it is there
pub if_some : {A B : Type 0} (f : A → Option B) (o : Option A) (y : B) → option_and_then f o ≡ Some y → (x : A) × (o ≡ Some x) × (f x ≡ Some y)
if_some f None y is = cc
if_some f (Some x) y is = (x, refl, is)

-- what an option was mapped from
pub if_mapped : {A B : Type 0} (f : A → B) (o : Option A) (y : B) → option_map f o ≡ Some y → (x : A) × (o ≡ Some x) × (f x ≡ y)
if_mapped f None y is = cc
if_mapped f (Some x) y is = (x, refl, (let e : f x ≡ y = cc in e))

-- what is found in a list passes a test that all pass
pub found-all : {A : Type 0} (each test : A → Bool) (xs : List A) (x : A) → list_all each xs ≡ true → find test xs ≡ Some x → each x ≡ true
found-all each test [] x all is = cc
found-all {A = A} each test (y ∷ xs) x all is = by_test (test y) is (both (each y) (list_all each xs) all).0 (found-all each test xs x (both (each y) (list_all each xs) all).1)
  where
    by_test : (b : Bool) → cond b (Some y) (find test xs) ≡ Some x → each y ≡ true → (find test xs ≡ Some x → each x ≡ true) → each x ≡ true
    by_test true is head rest = let same : y ≡ x = cc in rw (← same) head
    by_test false is head rest = rest is

-- an element of a list has what all of them have
pub all-at : {A : Type 0} (P : A → Type 0) (xs : List A) (i : ℕ) (x : A) → All P xs → slice_get xs i ≡ Some x → P x
all-at P xs i x all at = subst P (get_or_from_slice_get xs i x x at) (all i x (slice_get_within xs i x at))
