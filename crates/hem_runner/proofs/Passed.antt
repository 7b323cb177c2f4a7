-- What the elements passed and those that are left come to.
use Rattle.std.proofs.Common.{◌≡◌, ap, sym, ◌∙◌, ℕ, ◌+◌, arith, Bool, true, false, ◌&&◌, List, [], ◌∷◌, length, refl}
use Rattle.std.specs.Prelude.{sum_by}
use Rattle.std.specs.List.{list_all}
use Rattle.std.proofs.lemmas.List.Sums.{sum_by-cons}

pub none-left : {A : Type 0} (xs : List A) (n : ℕ) → n ≡ length xs → n ≡ 0 → xs ≡ []
none-left [] n is none = refl
none-left (x ∷ xs) n is none = absurd (omega (arith, is, none))

module _ {A : Type 0} (test : A → Bool) where
  pub all-one-passed : (xs ys : List A) (x : A) (quiet this whole : Bool) → xs ≡ x ∷ ys → this ≡ test x → (quiet && list_all test xs) ≡ whole → ((quiet && this) && list_all test ys) ≡ whole
  all-one-passed xs ys x true this whole are is before = ap (λ b. b && list_all test ys) is ∙ sym (ap (list_all test) are) ∙ before
  all-one-passed xs ys x false this whole are is before = before

  pub all-passed : (xs : List A) (quiet whole : Bool) → xs ≡ [] → (quiet && list_all test xs) ≡ whole → quiet ≡ whole
  all-passed xs true whole none before = sym (ap (list_all test) none) ∙ before
  all-passed xs false whole none before = before

module _ {A : Type 0} (f : A → ℕ) where
  pub sum-one-passed : (xs ys : List A) (x : A) (count next whole : ℕ) → xs ≡ x ∷ ys → next ≡ count + f x → count + sum_by f xs ≡ whole → next + sum_by f ys ≡ whole
  sum-one-passed xs ys x count next whole are more before = let split : sum_by f xs ≡ f x + sum_by f ys = ap (sum_by f) are ∙ sum_by-cons f x ys in omega (arith, split, more, before)

  pub sum-passed : (xs : List A) (count whole : ℕ) → xs ≡ [] → count + sum_by f xs ≡ whole → count ≡ whole
  sum-passed xs count whole none before = let no : sum_by f xs ≡ 0 = ap (sum_by f) none in omega (arith, no, before)
