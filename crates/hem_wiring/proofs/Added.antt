-- A line is added to one worker after another, from the last to the first.
use Rattle.std.proofs.Common.{◌≡◌, refl, ap, sym, ◌∙◌, subst, ℕ, ◌+◌, ◌<◌, ◌≤◌, arith, List, [], ◌∷◌, ◌++◌, length, Some, ◌⊎◌, inl, inr, append_assoc}
use Rattle.std.specs.Prelude.{slice_get}
use Rattle.std.proofs.str.Laws.{order}
use Rattle.std.proofs.lemmas.List.{length_push, length-set, append-nil}
use Rattle.std.proofs.lemmas.Option.{slice_get_within}
use Rattle.hem_system.proofs.Sets.{get_set_here, get_set_other}
use Rattle.hem_base.specs.declared.ids.Message.{Message}
use Rattle.hem_syntax.specs.Protocol.{Protocol}
use Rattle.hem_ends.specs.Ends.{Ends}
use Rattle.hem_worker.specs.Workers.{Worker, IsAdded, IsChangedAt}
use Rattle.hem_wiring.proofs.Pushed.{get_left, get_last}
use Rattle.hem_wiring.specs.Wiring.{CanTake, AreLinesAdded}

-- those whose ends are left stay, and the others have their line
pub record AreAddedAfter (p : Protocol) (requests : ℕ → List Message) (row left : List Ends) (old now : List Worker) : Type 0 where
  pub rest : List Ends
  pub split : row ≡ left ++ rest
  pub count : length now ≡ length old
  pub still : (o : ℕ) → o < length left → slice_get now o ≡ slice_get old o
  pub added : (o : ℕ) (own : Ends) (a b : Worker) → length left ≤ o → slice_get row o ≡ Some own → slice_get old o ≡ Some a → slice_get now o ≡ Some b → IsAdded p (requests o) own a b

pub none_added : (p : Protocol) (requests : ℕ → List Message) (row left : List Ends) (old : List Worker) → left ≡ row → AreAddedAfter p requests row left old old
none_added p requests row left old all =
    record {
      rest = [];
      split = sym all ∙ sym (append-nil left);
      count = refl;
      still = λ o less. refl;
      added = λ o own a b past there. absurd (let within = slice_get_within row o own there in let size = ap length all in omega (arith, past, within, size));
    }

-- the last of those that are left, at a place
module _ (p : Protocol) (requests : ℕ → List Message) (row before left : List Ends) (own : Ends) (old now : List Worker) (place : ℕ) (popped : before ≡ left ++ own ∷ []) (at_place : place ≡ length left) (so_before : AreAddedAfter p requests row before old now) where
  so : AreAddedAfter p requests row (left ++ own ∷ []) old now
  so = subst (λ (left : List Ends). AreAddedAfter p requests row left old now) popped so_before

  size : length (left ++ own ∷ []) ≡ length left + 1
  size = length_push left own

  -- the last ends that are left are those of the object at that place
  last_left : slice_get row (length left) ≡ Some own
  last_left = ap (λ (xs : List Ends). slice_get xs (length left)) so.split ∙ get_left (left ++ own ∷ []) so.rest (length left) (omega (arith, size)) ∙ get_last left own

  pub last_takes : ((o : ℕ) (w : Worker) (own : Ends) → slice_get old o ≡ Some w → slice_get row o ≡ Some own → CanTake own w) → (w : Worker) → slice_get now place ≡ Some w → CanTake own w
  last_takes takes w at = takes (length left) w own (sym (so.still (length left) (omega (arith, size))) ∙ ap (slice_get now) (sym at_place) ∙ at) last_left

  pub one_added : (next : List Worker) (asked : List Message) → asked ≡ requests place → IsChangedAt (IsAdded p asked own) place now next → AreAddedAfter p requests row left old next
  one_added next asked is added =
      record {
        rest = own ∷ so.rest;
        split = so.split ∙ append_assoc left (own ∷ []) so.rest;
        count = ap length change.after ∙ length-set now (length left) change.next ∙ so.count;
        still = λ o less. ap (λ (xs : List Worker). slice_get xs o) change.after ∙ get_set_other now (length left) o change.next (omega arith) ∙ so.still o (omega (arith, size));
        added = λ o own a b past there here after. by_place o own a b there here after (order (length left) o) past;
      }
    where
      change : IsChangedAt (IsAdded p (requests (length left)) own) (length left) now next
      change = subst (λ (m : ℕ). IsChangedAt (IsAdded p (requests m) own) m now next) at_place (subst (λ (asked : List Message). IsChangedAt (IsAdded p asked own) place now next) is added)

      by_place : (o : ℕ) (e : Ends) (a b : Worker) → slice_get row o ≡ Some e → slice_get old o ≡ Some a → slice_get next o ≡ Some b → (length left < o) ⊎ (o ≤ length left) → length left ≤ o → IsAdded p (requests o) e a b
      by_place o e a b there here after (inl later) past =
          so.added o e a b (omega (arith, size)) there here (sym (get_set_other now (length left) o change.next (omega arith)) ∙ sym (ap (λ (xs : List Worker). slice_get xs o) change.after) ∙ after)
      by_place o e a b there here after (inr now_or_later) past =
          let same : length left ≡ o = omega arith in
          let ends : Some own ≡ Some e = sym last_left ∙ ap (slice_get row) same ∙ there in
          let ends_same : own ≡ e = cc in
          let one : Some change.item ≡ Some a = sym change.there ∙ so.still (length left) (omega (arith, size)) ∙ ap (slice_get old) same ∙ here in
          let item : change.item ≡ a = cc in
          let two : Some change.next ≡ Some b = sym (get_set_here now (length left) change.next (slice_get_within now (length left) change.item change.there)) ∙ sym (ap (λ (xs : List Worker). slice_get xs (length left)) change.after) ∙ ap (slice_get next) same ∙ after in
          let new : change.next ≡ b = cc in
          subst (λ m. IsAdded p (requests m) e a b) same
          (subst (λ e. IsAdded p (requests (length left)) e a b) ends_same
          (subst (λ a. IsAdded p (requests (length left)) own a b) item
          (subst (λ b. IsAdded p (requests (length left)) own change.item b) new change.changed)))

pub all_added : (p : Protocol) (requests : ℕ → List Message) (row left : List Ends) (old now : List Worker) → length left ≡ 0 → AreAddedAfter p requests row left old now → AreLinesAdded p requests row old now
all_added p requests row left old now none so = record { count = so.count; each = λ o own a b there here after. so.added o own a b (omega (arith, none)) there here after }
