-- What a sort by stamp, line and object gives: a list in the order of firings.
use Rattle.std.proofs.Common.{◌≡◌, refl, ap, sym, ◌∙◌, subst, ℕ, suc, ◌+◌, ◌<◌, ◌≤◌, Bool, true, false, ◌&&◌, ◌||◌, cond, List, [], ◌∷◌, length, arith}
use Rattle.std.specs.Prelude.{◌==◌, nat_lt, slice_index_or}
use Rattle.std.specs.Ordering.{nat_cmp, is_lt, ordering_then}
use Rattle.std.specs.declared.cmp.Ordering.{Ordering}
use Rattle.std.specs.declared.cmp.Ordering.TheVariants.{Less, Equal, Greater}
use Rattle.hem_base.specs.declared.ids.Stamped.{Stamped}
use Rattle.hem_parts.specs.Merged.{comes_before, IsSorted}
use Rattle.hem_parts.proofs.Order.{comes-follows}
use Rattle.hem_law.proofs.ListFacts.{each-map}

-- the order by stamp, then line, then object, as a comparison
abbrev pub turn_cmp : Stamped → Stamped → Ordering
turn_cmp s t = ordering_then (ordering_then (nat_cmp s.stamp t.stamp) (nat_cmp s.firing.line.0 t.firing.line.0)) (nat_cmp s.firing.object.0 t.firing.object.0)

-- it is less where the one comes before the other
turn-before : (s t : Stamped) → is_lt (turn_cmp s t) ≡ comes_before s t
turn-before s t =
    by_test (nat_lt s.stamp t.stamp) (s.stamp == t.stamp) (nat_lt s.firing.line.0 t.firing.line.0) (s.firing.line.0 == t.firing.line.0)
    ∙ ap (λ b. nat_lt s.stamp t.stamp || (s.stamp == t.stamp && (nat_lt s.firing.line.0 t.firing.line.0 || (s.firing.line.0 == t.firing.line.0 && b))))
    (last (nat_lt s.firing.object.0 t.firing.object.0) (s.firing.object.0 == t.firing.object.0))
  where
    objects : Ordering
    objects = nat_cmp s.firing.object.0 t.firing.object.0

    by_test : (a b c d : Bool) → is_lt (ordering_then (ordering_then (cond a Less (cond b Equal Greater)) (cond c Less (cond d Equal Greater))) objects) ≡ (a || (b && (c || (d && is_lt objects))))
    by_test true b c d = refl
    by_test false true true d = refl
    by_test false true false true = refl
    by_test false true false false = refl
    by_test false false c d = refl

    last : (a b : Bool) → is_lt (cond a Less (cond b Equal Greater)) ≡ a
    last true b = refl
    last false true = refl
    last false false = refl

-- neighbours in order are all in order
abbrev IsStep : List Stamped → Type 0
IsStep ss = (k : ℕ) (d : Stamped) → k + 1 < length ss → comes_before (slice_index_or ss (k + 1) d) (slice_index_or ss k d) ≡ false

step-rest : (s : Stamped) (ss : List Stamped) → IsStep (s ∷ ss) → IsStep ss
step-rest s ss steps k d lt = subst (λ n. comes_before (slice_index_or (s ∷ ss) n d) (slice_index_or ss k d) ≡ false) (further k) (steps (suc k) d (omega (arith, lt)))
  where
    further : (k : ℕ) → suc k + 1 ≡ suc (k + 1)
    further k = omega arith

step-first : (s t : Stamped) (ss : List Stamped) → IsStep (s ∷ t ∷ ss) → comes_before t s ≡ false
step-first s t ss steps = steps 0 s (omega arith)

later-still : (s t u : Stamped) → comes_before t s ≡ false → comes_before u t ≡ false → comes_before u s ≡ false
later-still s t u one two = by_test (comes_before u s) refl
  where
    by_test : (b : Bool) → comes_before u s ≡ b → comes_before u s ≡ false
    by_test false is = is
    by_test true is = absurd (let clash : true ≡ false = sym (comes-follows u s t is one) ∙ two in cc)

sorted-from : (ss : List Stamped) → IsStep ss → IsSorted (λ s. s) ss
sorted-from [] steps = tt
sorted-from (s ∷ []) steps = (tt, tt)
sorted-from (s ∷ t ∷ ss) steps =
    let rest = sorted-from (t ∷ ss) (step-rest s (t ∷ ss) steps) in
    let first = step-first s t ss steps in
    ((first, each-map (λ u. comes_before u t ≡ false) (λ u. comes_before u s ≡ false) ss (λ u later. later-still s t u first later) rest.0), rest)

-- so a list that is sorted by this key is sorted
pub sorted-by-turn : (ss : List Stamped) → ((k : ℕ) (d : Stamped) → 0 ≤ k → k + 1 < length ss → is_lt (turn_cmp (slice_index_or ss (k + 1) d) (slice_index_or ss k d)) ≡ false) → IsSorted (λ s. s) ss
sorted-by-turn ss steps = sorted-from ss (λ k d lt. sym (turn-before (slice_index_or ss (k + 1) d) (slice_index_or ss k d)) ∙ steps k d (omega arith) lt)
