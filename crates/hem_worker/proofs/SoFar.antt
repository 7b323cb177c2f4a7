-- A loop that changes one element of a list after another.
use Rattle.std.proofs.Common.{◌≡◌, refl, ap, sym, ◌∙◌, subst, ℕ, ◌+◌, ◌<◌, ◌≤◌, arith, List, length, Some, ◌⊎◌, inl, inr}
use Rattle.std.specs.Prelude.{slice_get}
use Rattle.std.proofs.lemmas.List.{length-set}
use Rattle.std.proofs.lemmas.Option.{slice_get_within}
use Rattle.hem_system.proofs.Sets.{get_set_here, get_set_other}
use Rattle.hem_worker.specs.Workers.{IsChangedAt, AreChanged}

-- the elements before this place are changed so, and no other
pub record IsSoFar {A : Type 0} (Change : ℕ → A → A → Type 0) (place : ℕ) (old now : List A) : Type 0 where
  pub count : length now ≡ length old
  pub done : (i : ℕ) (a b : A) → i < place → slice_get old i ≡ Some a → slice_get now i ≡ Some b → Change i a b
  pub left : (i : ℕ) → place ≤ i → slice_get now i ≡ slice_get old i

pub none-yet : {A : Type 0} (Change : ℕ → A → A → Type 0) (old : List A) → IsSoFar Change 0 old old
none-yet Change old = record { count = refl; done = λ i a b less. absurd (omega (arith, less)); left = λ i more. refl }

split : (i place : ℕ) → i < place + 1 → (i < place) ⊎ (i ≡ place)
split i place less = grind arith

pub one-more : {A : Type 0} (Change : ℕ → A → A → Type 0) (place : ℕ) (old now next : List A) → IsSoFar Change place old now → IsChangedAt (Change place) place now next → IsSoFar Change (place + 1) old next
one-more {A = A} Change place old now next so change =
    record {
      count = ap length change.after ∙ length-set now place change.next ∙ so.count;
      done = λ i a b less here there. by_order i a b here there (split i place less);
      left = λ i more. ap (λ (xs : List A). slice_get xs i) change.after ∙ get_set_other now place i change.next (λ same. absurd (omega (arith, more, same))) ∙ so.left i (omega (arith, more));
    }
  where
    within : place < length now
    within = slice_get_within now place change.item change.there

    by_order : (i : ℕ) (a b : A) → slice_get old i ≡ Some a → slice_get next i ≡ Some b → (i < place) ⊎ (i ≡ place) → Change i a b
    by_order i a b here there (inl less) =
        so.done i a b less here (sym (get_set_other now place i change.next (λ same. absurd (omega (arith, less, same)))) ∙ sym (ap (λ (xs : List A). slice_get xs i) change.after) ∙ there)
    by_order i a b here there (inr same) =
        let one : Some a ≡ Some change.item = sym here ∙ ap (slice_get old) same ∙ sym (so.left place (omega arith)) ∙ change.there in
        let two : Some b ≡ Some change.next = sym there ∙ ap (slice_get next) same ∙ ap (λ (xs : List A). slice_get xs place) change.after ∙ get_set_here now place change.next within in
        let item : change.item ≡ a = cc in
        let new : change.next ≡ b = cc in
        subst (λ n. Change n a b) (sym same) (subst (λ x. Change place x b) item (subst (λ x. Change place change.item x) new change.changed))

pub all-done : {A : Type 0} (Change : ℕ → A → A → Type 0) (place : ℕ) (old now : List A) → length old ≤ place → IsSoFar Change place old now → AreChanged Change old now
all-done Change place old now most so =
    record { count = so.count; each = λ i a b here there. so.done i a b (let less = slice_get_within old i a here in omega (arith, less, most)) here there }

order-of : (i place : ℕ) → (i < place) ⊎ (place ≤ i)
order-of i place = grind arith

-- where an element that stays counts as changed
pub done-early : {A : Type 0} (Change : ℕ → A → A → Type 0) (place : ℕ) (old now : List A) → ((i : ℕ) (a : A) → Change i a a) → IsSoFar Change place old now → AreChanged Change old now
done-early {A = A} Change place old now stays so = record { count = so.count; each = λ i a b here there. by_order i a b here there (order-of i place) }
  where
    by_order : (i : ℕ) (a b : A) → slice_get old i ≡ Some a → slice_get now i ≡ Some b → (i < place) ⊎ (place ≤ i) → Change i a b
    by_order i a b here there (inl less) = so.done i a b less here there
    by_order i a b here there (inr past) =
        let one : Some a ≡ Some b = sym here ∙ sym (so.left i past) ∙ there in
        let same : a ≡ b = cc in
        subst (λ x. Change i a x) same (stays i a)
