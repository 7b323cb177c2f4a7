-- A walk so far: at the start, and after one turn more.
use Rattle.std.proofs.Common.{◌≡◌, refl, sym, ap, ◌∙◌, subst, ℕ, zero, suc, ◌+◌, ◌*◌, ◌<◌, arith, true, false, ◌&&◌, not, List, [], ◌∷◌, ◌++◌, length, Some, add-one, length-append, ⊎_elim, inl, inr, ◌⊎◌}
use Rattle.std.specs.Prelude.{◌%◌, nat_le, take, slice_get, is_some}
use Rattle.std.proofs.lemmas.Bool.Decides.{nat_tests}
use Rattle.std.proofs.lemmas.List.{take-append-le}
use Rattle.hem_base.specs.declared.ids.Firing.{Firing}
use Rattle.hem_syntax.specs.Protocol.{Protocol}
use Rattle.hem_tree.specs.Tree.{Tree, IsTree}
use Rattle.hem_work.specs.Work.{Work}
use Rattle.hem_system.specs.State.{State, Runs, start, fire}
use Rattle.hem_system.specs.Ended.{is_self, self_firings}
use Rattle.hem_system.proofs.Runs.{Runs-snoc, run_once}
use Rattle.hem_rows.specs.Rows.{AllHaveTemplates}
use Rattle.hem_rows.proofs.Choices.{both, not-true, found-passes}
use Rattle.hem_bound.specs.Starts as bound
use Rattle.hem_bound.proofs.Further.{within_further, further_few}
use Rattle.hem_work.specs.Generator.{draw_after, draw_of, next_number, number_after}
use Rattle.hem_walk.specs.Walk.{positions, is_spent, is_ready, firings_at, IsTurn, AreTurns}
use Rattle.hem_walk.specs.Working.{Walking, IsNext, IsSoFar}
use Rattle.hem_walk.proofs.Counting.{counts_same, self_is}

-- a self firing whose turn it is leaves its object within k
pub unspent : (p : Protocol) (tree : Tree) (k : ℕ) (h : List Firing) (s : State) (from : ℕ) (f : Firing) → IsTurn p tree k h s from f → is_self p tree f ≡ true → self_firings p tree h f.line.0 f.object.0 < k
unspent p tree k h s from f turn self =
    let ready = found-passes (is_ready p tree k h s) (firings_at p tree f.line.0 f.object.0) f turn.ready in
    let fresh = not-true (is_spent p tree k h f) (both (is_some (fire p tree s f)) (not (is_spent p tree k h f)) ready).1 in
    less k (self_firings p tree h f.line.0 f.object.0) (sym (ap (λ b. b && nat_le k (self_firings p tree h f.line.0 f.object.0)) self) ∙ fresh)
  where
    less : (k n : ℕ) → nat_le k n ≡ false → n < k
    less k n not_le = grind (arith, nat_tests)

-- the history with the firing of a turn is within k
pub within_next : (p : Protocol) (tree : Tree) (k : ℕ) (h : List Firing) (s : State) (from : ℕ) (f : Firing) → bound.IsWithin p tree k h → IsTurn p tree k h s from f → bound.IsWithin p tree k (h ++ f ∷ [])
within_next p tree k h s from f within turn =
    within_further p tree k h f within
    (λ self.
    let less = unspent p tree k h s from f turn (self_is p tree f self) in
    let same = counts_same p tree h f.line.0 f.object.0 in
    omega arith)

-- an element of a list with one more: one of the list, or the last
get_more : {A : Type 0} (xs : List A) (x y : A) (i : ℕ) → slice_get (xs ++ x ∷ []) i ≡ Some y → ((i < length xs) × (slice_get xs i ≡ Some y)) ⊎ ((i ≡ length xs) × (x ≡ y))
get_more [] x y zero at = inr (refl, cc)
get_more [] x y (suc i) at = cc
get_more (z ∷ xs) x y zero at = inl (omega arith, at)
get_more (z ∷ xs) x y (suc i) at = ⊎_elim (λ before. inl (omega (arith, before.0), before.1)) (λ last. inr (ap suc last.0, last.1)) (get_more xs x y i at)

take_all_more : {A : Type 0} (xs : List A) (x : A) → take (length xs) (xs ++ x ∷ []) ≡ xs
take_all_more [] x = refl
take_all_more (y ∷ xs) x = ap (λ ys. y ∷ ys) (take_all_more xs x)

-- the turns with one more
pub turns_next : (p : Protocol) (tree : Tree) (work : Work) (seed : ℕ) (h : List Firing) (s : State) (f : Firing) → AreTurns p tree work seed h → Runs p tree (start p tree work) h s → IsTurn p tree work.self_count h s (draw_after seed (length h) % positions tree s) f → AreTurns p tree work seed (h ++ f ∷ [])
turns_next p tree work seed h s f turns runs turn =
    record {
      each = λ i g now at ran.
          ⊎_elim
          (λ before.
          let same = take-append-le i h (f ∷ []) (omega (arith, before.0)) in
          subst (λ h. IsTurn p tree work.self_count h now (draw_after seed i % positions tree now) g) (sym same)
          (turns.each i g now before.1 (subst (λ h. Runs p tree (start p tree work) h now) same ran)))
          (λ last.
          let same : take i (h ++ f ∷ []) ≡ h = ap (λ i. take i (h ++ f ∷ [])) last.0 ∙ take_all_more h f in
          let state : s ≡ now = run_once runs (subst (λ h. Runs p tree (start p tree work) h now) same ran) in
          subst (λ h. IsTurn p tree work.self_count h now (draw_after seed i % positions tree now) g) (sym same)
          (subst (λ now. IsTurn p tree work.self_count h now (draw_after seed i % positions tree now) g) state
          (subst (λ i. IsTurn p tree work.self_count h s (draw_after seed i % positions tree s) g) (sym last.0)
          (subst (IsTurn p tree work.self_count h s (draw_after seed (length h) % positions tree s)) last.1 turn))))
          (get_more h f g i at);
    }

-- a walk so far goes on by a turn
pub so_far_next : (p : Protocol) (tree : Tree) (work : Work) (seed : ℕ) (old new : Walking) → IsSoFar p tree work seed old → IsNext p tree work.self_count old new → IsSoFar p tree work seed new
so_far_next p tree work seed old new it next =
    let more = sym next.made.journal in
    let long : length new.journal ≡ suc (length old.journal) = ap length next.made.journal ∙ length-append old.journal (next.firing ∷ []) ∙ add-one (length old.journal) in
    let from = ap (λ n. draw_of (next_number n) % positions tree old.system) it.number in
    let turn = subst (λ n. IsTurn p tree work.self_count old.journal old.system n next.firing) from next.turn in
    record {
      runs = subst (λ h. Runs p tree (start p tree work) h new.system) more (Runs-snoc next.firing it.runs next.made.fires.leads);
      turns = subst (AreTurns p tree work seed) more (turns_next p tree work seed old.journal old.system next.firing it.turns it.runs turn);
      number = next.made.number ∙ ap next_number it.number ∙ sym (ap (number_after seed) long);
      counted = next.made.counted;
      within = subst (bound.IsWithin p tree work.self_count) more (within_next p tree work.self_count old.journal old.system _ next.firing it.within next.turn);
    }

-- and its history was shorter than the longest that there may be
pub shorter_before : (p : Protocol) (tree : Tree) (work : Work) (seed : ℕ) (old new : Walking) → IsTree tree → AllHaveTemplates p → IsSoFar p tree work seed old → IsNext p tree work.self_count old new → length old.journal < 3 * length tree * (bound.requests_in tree work + work.lines * (length tree * work.self_count))
shorter_before p tree work seed old new lawful templates it next =
    further_few p tree work work.self_count old.journal next.firing old.system new.system lawful templates (within_next p tree work.self_count old.journal old.system _ next.firing it.within next.turn) it.runs next.made.fires
