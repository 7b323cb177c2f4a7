-- Of numbers below a bound those that pass, and one more.
use Rattle.std.proofs.Common.{◌≡◌, refl, ap, sym, ◌∙◌, ℕ, zero, suc, ◌+◌, arith, Bool, true, false, cond, List, [], ◌∷◌, ◌++◌, map}
use Rattle.std.specs.Prelude.{filter, slice_get, slice_index_or}
use Rattle.std.specs.Option.{option_map_or}
use Rattle.std.specs.List.{flat_map, enumerate_from}
use Rattle.std.proofs.lemmas.List.{map-append}
use Rattle.std.proofs.lemmas.List.Elements.{filter-append}
use Rattle.hem_tree.specs.Tree.{below}

pub one_more : {A B : Type 0} (g : A → B) (f : ℕ → A) (keep : ℕ → Bool) (n : ℕ) → map g (map f (filter keep (below (n + 1)))) ≡ map g (map f (filter keep (below n))) ++ cond (keep n) (g (f n) ∷ []) []
one_more g f keep n =
    let next : n + 1 ≡ suc n = omega arith in
    ap (λ m. map g (map f (filter keep (below m)))) next
    ∙ ap (λ xs. map g (map f xs)) (filter-append keep (below n) (n ∷ []))
    ∙ ap (map g) (map-append f (filter keep (below n)) (filter keep (n ∷ [])))
    ∙ map-append g (map f (filter keep (below n))) (map f (filter keep (n ∷ [])))
    ∙ ap (λ xs. map g (map f (filter keep (below n))) ++ xs) (last (keep n) refl)
  where
    last : (b : Bool) → keep n ≡ b → map g (map f (filter keep (n ∷ []))) ≡ cond b (g (f n) ∷ []) []
    last true is = rw is refl
    last false is = rw is refl

-- what each element gives, read by a function
pub map_spread : {A B C : Type 0} (g : B → C) (f : A → List B) (xs : List A) → flat_map (λ x. map g (f x)) xs ≡ map g (flat_map f xs)
map_spread g f [] = refl
map_spread g f (x ∷ xs) = ap (λ ys. map g (f x) ++ ys) (map_spread g f xs) ∙ sym (map-append g (f x) (flat_map f xs))

-- the number of the child at a place
pub child_number : (n : ℕ) (xs : List ℕ) (k : ℕ) → option_map_or (λ k. k.1) (slice_get (enumerate_from n xs) k) 0 ≡ slice_index_or xs k 0
child_number n [] k = refl
child_number n (x ∷ xs) zero = refl
child_number n (x ∷ xs) (suc k) = child_number (n + 1) xs k

-- five lists in a row, read by a function
pub map_five : {A B : Type 0} (f : A → B) (a b c d e : List A) → map f a ++ map f b ++ map f c ++ map f d ++ map f e ≡ map f (a ++ b ++ c ++ d ++ e)
map_five f a b c d e =
    ap (λ xs. xs ++ map f c ++ map f d ++ map f e) (sym (map-append f a b))
    ∙ ap (λ xs. xs ++ map f d ++ map f e) (sym (map-append f (a ++ b) c))
    ∙ ap (λ xs. xs ++ map f e) (sym (map-append f (a ++ b ++ c) d))
    ∙ sym (map-append f (a ++ b ++ c ++ d) e)

-- two lists in a row, read by a function
pub map_two : {A B : Type 0} (f : A → B) (a b : List A) → map f a ++ map f b ≡ map f (a ++ b)
map_two f a b = sym (map-append f a b)

-- three lists in a row, read by a function
pub map_three : {A B : Type 0} (f : A → B) (a b c : List A) → map f a ++ map f b ++ map f c ≡ map f (a ++ b ++ c)
map_three f a b c = ap (λ xs. xs ++ map f c) (map_two f a b) ∙ map_two f (a ++ b) c
