-- Each transaction is out once at most.
use Rattle.std.proofs.Common.{◌≡◌, refl, sym, ap, ◌∙◌, ◌≢◌, ℕ, zero, suc, ◌+◌, ◌<◌, Bool, true, false, ◌||◌, subst, List, [], ◌∷◌, ◌++◌, map, take, get_or, add-one, length, Option, None, Some, arith}
use Rattle.std.specs.Prelude.{◌==◌, slice_index_or}
use Rattle.std.proofs.lemmas.Bool.{eq-eqb, eqb-true, both_ways, false_from_ne_true}
use Rattle.hem_law.specs.Orders.{stands_in}
use Rattle.hem_base.specs.declared.ids.Firing.{Firing}
use Rattle.hem_trace.specs.Blocks.{Block}
use Rattle.hem_regroup.specs.Printed.{block_among}
use Rattle.hem_regroup.specs.Ranks.{started}
use Rattle.std.proofs.Math.Seq.{take-suc}
use Rattle.std.proofs.lemmas.List.{map-append}
use Rattle.std.proofs.lemmas.List.Folds.{list_any_at, list_any_more}
use Rattle.hem_regroup.specs.Turns.{next, without, turns}
use Rattle.hem_regroup.specs.Out.{AreOnce}
use Rattle.hem_regroup.proofs.SameTurns.{turns_some, turns_none, in_without}
use Rattle.hem_regroup.proofs.Grouped.{turns_left}

by_turns : (xs ys : List ℕ) → xs ≡ ys → AreOnce ys → AreOnce xs
by_turns xs ys same once = subst (λ zs. AreOnce zs) (sym same) once

-- none comes out again
pub turns-once : (n : ℕ) (waits : ℕ → ℕ → Bool) (left : List ℕ) → AreOnce (turns n waits left)
turns-once zero waits left = tt
turns-once (suc n) waits left = by_next (next waits left) refl (λ t. turns-once n waits (without t left))
  where
    by_next : (o : Option ℕ) → next waits left ≡ o → ((t : ℕ) → AreOnce (turns n waits (without t left))) → AreOnce (turns (suc n) waits left)
    by_next None is rest = by_turns (turns (suc n) waits left) [] (turns_none n waits left is) tt
    by_next (Some t) is rest =
        by_turns (turns (suc n) waits left) (t ∷ turns n waits (without t left)) (turns_some n waits left t is) (
          false_from_ne_true _ (λ again.
              let it = in_without t t left (turns_left n waits (without t left) t again) in
              both_ways (t == t) it.1 (eq-eqb t t refl)),
          rest t,
        )

-- so before its place a number isn't there
pub once_before : (xs : List ℕ) (k : ℕ) → AreOnce xs → k < length xs → stands_in (take k xs) (get_or xs k 0) ≡ false
once_before [] k once within = absurd (omega arith)
once_before (x ∷ xs) zero once within = refl
once_before (x ∷ xs) (suc k) once within =
    let later : stands_in xs (get_or xs k 0) ≡ true = at_place xs k 0 (omega arith) in
    or_false (x == get_or xs k 0) (stands_in (take k xs) (get_or xs k 0))
    (false_from_ne_true _ (λ same. both_ways (stands_in xs x) once.0 (ap (stands_in xs) (eqb-true x (get_or xs k 0) same) ∙ later)))
    (once_before xs k once.1 (omega arith))
  where
    or_false : (a b : Bool) → a ≡ false → b ≡ false → (a || b) ≡ false
    or_false false b first second = second
    or_false true b first second = absurd (both_ways true first refl)

    at_place : (xs : List ℕ) (k d : ℕ) → k < length xs → stands_in xs (get_or xs k d) ≡ true
    at_place xs k d within = list_any_at (λ u. u == get_or xs k d) xs k d within (eq-eqb _ _ refl)

-- the blocks so far, and the lists of those whose blocks come later
pub record AreTaken (starts : List ℕ) (groups : List (List Firing)) (out : List ℕ) (left : List (List Firing)) (blocks : List Block) : Type 0 where
  pub blocks_are : blocks ≡ map (started starts) (map (block_among groups) out)
  pub size : length left ≡ length groups
  pub others : (u : ℕ) → stands_in out u ≡ false → slice_index_or left u [] ≡ slice_index_or groups u []

-- one more block
pub taken_more : (starts : List ℕ) (groups : List (List Firing)) (order : List ℕ) (k : ℕ) (left next : List (List Firing)) (blocks more : List Block) (firings : List Firing) → AreOnce order → k < length order → AreTaken starts groups (take k order) left blocks → firings ≡ slice_index_or left (get_or order k 0) [] → ((t : ℕ) → t ≢ get_or order k 0 → slice_index_or next t [] ≡ slice_index_or left t []) → length next ≡ length left → more ≡ blocks ++ record { number = get_or starts (get_or order k 0) 0; firings = firings } ∷ [] → AreTaken starts groups (take (k + 1) order) next more
taken_more starts groups order k left next blocks more firings once within were taken others size pushed =
    let x = get_or order k 0 in
    record {
      blocks_are =
          pushed
          ∙ (λ i. were.blocks_are i ++ record { number = get_or starts x 0; firings = (taken ∙ were.others x (once_before order k once within)) i } ∷ [])
          ∙ sym (map-append (started starts) (map (block_among groups) (take k order)) (block_among groups x ∷ []))
          ∙ ap (map (started starts)) (sym (map-append (block_among groups) (take k order) (x ∷ [])))
          ∙ ap (λ ts. map (started starts) (map (block_among groups) ts)) (sym (ap (λ k. take k order) (add-one k) ∙ take-suc order k 0 within));
      size = size ∙ were.size;
      others = λ u later.
          let parts = or_parts (stands_in (take k order) u) (x == u) (sym (list_any_more (λ n. n == u) order k 0 within) ∙ later) in
          others u (λ same. both_ways (x == u) parts.1 (eq-eqb x u (sym same))) ∙ were.others u parts.0;
    }
  where
    or_parts : (a b : Bool) → (a || b) ≡ false → (a ≡ false) × (b ≡ false)
    or_parts false b is = (refl, is)
    or_parts true b is = absurd (both_ways true is refl)
