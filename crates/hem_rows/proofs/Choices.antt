-- Tests and choices that came out one way.
use Rattle.std.proofs.Common.{◌≡◌, ◌≢◌, ℕ, arith, refl, ap, sym, ◌∙◌, Bool, true, false, not, cond, ◌&&◌, List, [], ◌∷◌, Option, Some, None}
use Rattle.std.specs.Prelude.{◌==◌, ◌||◌, find, option_map, option_and_then, is_none}

-- both of two tests that hold together
pub both : (a b : Bool) → (a && b) ≡ true → (a ≡ true) × (b ≡ true)
both true b is = (refl, is)
both false b is = cc

pub not-true : (b : Bool) → not b ≡ true → b ≡ false
not-true false is = refl
not-true true is = cc

-- the first of a list that passes a test passes it
pub found-passes : {A : Type 0} (test : A → Bool) (xs : List A) (x : A) → find test xs ≡ Some x → test x ≡ true
found-passes test [] x is = cc
found-passes test (y ∷ xs) x is = by_test (test y) refl is (found-passes test xs x)
  where
    by_test : (b : Bool) → test y ≡ b → cond b (Some y) (find test xs) ≡ Some x → (find test xs ≡ Some x → test x ≡ true) → test x ≡ true
    by_test true passed is rest = let same : y ≡ x = cc in ap test (sym same) ∙ passed
    by_test false passed is rest = rest is

-- what is there of an option of an option
pub if_some : {A B : Type 0} (f : A → Option B) (o : Option A) (y : B) → option_and_then f o ≡ Some y → (x : A) × (o ≡ Some x) × (f x ≡ Some y)
if_some f None y is = cc
if_some f (Some x) y is = (x, refl, is)

pub if_mapped : {A B : Type 0} (f : A → B) (o : Option A) (y : B) → option_map f o ≡ Some y → (x : A) × (o ≡ Some x) × (f x ≡ y)
if_mapped f None y is = cc
if_mapped f (Some x) y is = (x, refl, cc)

-- what is there under a test
pub if_passed : {A : Type 0} (b : Bool) (x : Option A) (y : A) → cond b x None ≡ Some y → (b ≡ true) × (x ≡ Some y)
if_passed true x y is = (refl, is)
if_passed false x y is = cc

pub is_nothing : {A : Type 0} (o : Option A) → is_none o ≡ true → o ≡ None
is_nothing None is = refl
is_nothing (Some x) is = cc

-- a choice that is there
pub chosen : {A : Type 0} (b : Bool) (x y : A) → cond b (Some x) None ≡ Some y → (b ≡ true) × (x ≡ y)
chosen true x y is = (refl, cc)
chosen false x y is = cc

-- either of two tests
pub or_left : (a b : Bool) → a ≡ true → (a || b) ≡ true
or_left true b is = refl
or_left false b is = cc

-- different numbers
pub not_same : (k o : ℕ) → k ≢ o → (k == o) ≡ false
not_same k o differ = grind arith
