-- A loop that changes the ends of one child after another.
use Rattle.std.proofs.Common.{◌≡◌, refl, ap, sym, ◌∙◌, subst, ℕ, zero, suc, ◌+◌, ◌<◌, ◌≤◌, arith, List, [], ◌∷◌, ◌++◌, length, map, take, Some, ◌⊎◌, inl, inr}
use Rattle.std.specs.Prelude.{slice_get, slice_set}
use Rattle.std.proofs.lemmas.List.{length-set, map-append}
use Rattle.std.proofs.lemmas.Option.{slice_get_within}
use Rattle.hem_system.proofs.Sets.{get_set_here, get_set_other}
use Rattle.hem_ends.specs.declared.kids.KidLook.{KidLook}
use Rattle.hem_ends.specs.Ends.{Kid, AreKids, IsKidChanged, IsKidLooked, kid_look}

-- the children before this place are changed so, and no other
pub record IsSoFar (Change : ℕ → Kid → Kid → Type 0) (place : ℕ) (old now : List Kid) : Type 0 where
  pub count : length now ≡ length old
  pub done : (k : ℕ) (a b : Kid) → k < place → slice_get old k ≡ Some a → slice_get now k ≡ Some b → Change k a b
  pub left : (k : ℕ) → place ≤ k → slice_get now k ≡ slice_get old k

pub none-yet : (Change : ℕ → Kid → Kid → Type 0) (old : List Kid) → IsSoFar Change 0 old old
none-yet Change old = record { count = refl; done = λ k a b less. absurd (omega (arith, less)); left = λ k more. refl }

pub one-more : (Change : ℕ → Kid → Kid → Type 0) (place : ℕ) (old now next : List Kid) → IsSoFar Change place old now → IsKidChanged (Change place) place now next → IsSoFar Change (place + 1) old next
one-more Change place old now next so change =
    record {
      count = ap length change.after ∙ length-set now place change.next ∙ so.count;
      done = λ k a b less here there. by_order k a b here there (split k place less);
      left = λ k more. ap (λ (xs : List Kid). slice_get xs k) change.after ∙ get_set_other now place k change.next (λ same. absurd (omega (arith, more, same))) ∙ so.left k (omega (arith, more));
    }
  where
    within : place < length now
    within = slice_get_within now place change.kid change.there

    split : (k place : ℕ) → k < place + 1 → (k < place) ⊎ (k ≡ place)
    split k place less = grind arith

    by_order : (k : ℕ) (a b : Kid) → slice_get old k ≡ Some a → slice_get next k ≡ Some b → (k < place) ⊎ (k ≡ place) → Change k a b
    by_order k a b here there (inl less) =
        so.done k a b less here (sym (get_set_other now place k change.next (λ same. absurd (omega (arith, less, same)))) ∙ sym (ap (λ (xs : List Kid). slice_get xs k) change.after) ∙ there)
    by_order k a b here there (inr same) =
        let one : Some a ≡ Some change.kid = sym here ∙ ap (slice_get old) same ∙ sym (so.left place (omega arith)) ∙ change.there in
        let two : Some b ≡ Some change.next = sym there ∙ ap (slice_get next) same ∙ ap (λ (xs : List Kid). slice_get xs place) change.after ∙ get_set_here now place change.next within in
        let kid : change.kid ≡ a = cc in
        let new : change.next ≡ b = cc in
        subst (λ n. Change n a b) (sym same) (subst (λ x. Change place x b) kid (subst (λ x. Change place change.kid x) new change.changed))

pub all-done : (Change : ℕ → Kid → Kid → Type 0) (place : ℕ) (old now : List Kid) → length old ≤ place → IsSoFar Change place old now → AreKids Change old now
all-done Change place old now most so =
    record { count = so.count; each = λ k a b here there. so.done k a b (let less = slice_get_within old k a here in omega (arith, less, most)) here there }

-- one look more
take-set : (xs : List Kid) (k : ℕ) (x : Kid) → k < length xs → take (suc k) (slice_set xs k x) ≡ take k xs ++ x ∷ []
take-set [] k x less = absurd (omega (arith, less))
take-set (y ∷ xs) zero x less = refl
take-set (y ∷ xs) (suc k) x less = ap (λ zs. y ∷ zs) (take-set xs k x (omega (arith, less)))

pub look-more : (place : ℕ) (now next : List Kid) (look : KidLook) (looks : List KidLook) → IsKidChanged IsKidLooked place now next → ((kid : Kid) → slice_get next place ≡ Some kid → look ≡ kid_look kid) → looks ≡ map kid_look (take place now) → looks ++ look ∷ [] ≡ map kid_look (take (place + 1) next)
look-more place now next look looks change seen so =
    let within = slice_get_within now place change.kid change.there in
    let here : slice_get next place ≡ Some change.next = ap (λ (xs : List Kid). slice_get xs place) change.after ∙ get_set_here now place change.next within in
    let taken : take (suc place) next ≡ take place now ++ change.next ∷ [] = ap (take (suc place)) change.after ∙ take-set now place change.next within in
    let count : suc place ≡ place + 1 = omega arith in
    ap (λ ls. ls ++ look ∷ []) so
    ∙ ap (λ l. map kid_look (take place now) ++ l ∷ []) (seen change.next here)
    ∙ sym (map-append kid_look (take place now) (change.next ∷ []))
    ∙ ap (map kid_look) (sym taken ∙ ap (λ n. take n next) count)
