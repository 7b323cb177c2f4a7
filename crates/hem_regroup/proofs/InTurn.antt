-- One turn: who is out, and what waits after it.
use Rattle.std.proofs.Common.{◌≡◌, ◌≢◌, refl, sym, ap, ◌∙◌, ℕ, zero, suc, ◌<◌, ◌≤◌, Bool, true, false, not, ◌&&◌, ◌||◌, List, None, Some, arith, ⊎_elim, ◌⊎◌, inl, inr}
use Rattle.std.specs.Prelude.{◌==◌, slice_index}
use Rattle.std.specs.List.{list_any}
use Rattle.std.specs.BTreeSet.{BTreeSet}
use Rattle.std.proofs.lemmas.Bool.{eq-eqb, eqb-true, ne_eqb, and_parts, and_from, and_left, both_ways, not_from_false, not_from_true, true≢false, false_from_ne_true, cases_Bool, cases_eq}
use Rattle.hem_law.specs.Orders.{stands_in}
use Rattle.hem_regroup.specs.Turns.{next, without}
use Rattle.hem_regroup.specs.Links.{Link, is_linked}
use Rattle.hem_regroup.specs.Graph.{targets, entering}
use Rattle.hem_regroup.specs.Ready.{is_ready, times, IsReleased, IsWaiting}
use Rattle.hem_law.proofs.Filters.{any-number}
use Rattle.hem_regroup.proofs.SameTurns.{any_from, in_without, without_in}
use Rattle.hem_regroup.proofs.Waiting.{times-none, in_targets, entering_some, linked_some, without-test, entering-without, find_least, find_none, ascends_without}

-- those that are ready wait for none, and the others for some
zero_waits : (ls : List Link) (rest : List ℕ) (u : ℕ) → entering (stands_in rest) ls u ≡ 0 → list_any (λ t. is_linked ls t u) rest ≡ false
zero_waits ls rest u none =
    false_from_ne_true _ (λ some.
    let one = any-number (λ t. is_linked ls t u) rest some in
    let counted = entering_some (stands_in rest) ls one.0 u one.2 one.1 in
    absurd (omega (arith, none, counted)))

some_wait : (ls : List Link) (rest : List ℕ) (u : ℕ) → 0 < entering (stands_in rest) ls u → list_any (λ t. is_linked ls t u) rest ≡ true
some_wait ls rest u some = let one = linked_some (stands_in rest) ls u some in any_from (λ t. is_linked ls t u) rest one.0 one.1 one.2

-- what is ready waits, and no link leads to it
pub ready_at : (ls : List Link) (rest : List ℕ) (nexts : List (List ℕ)) (counts : List ℕ) (ready : BTreeSet ℕ) (t : ℕ) → IsWaiting ls rest nexts counts ready → is_ready ready t ≡ true → (stands_in rest t ≡ true) × (entering (stands_in rest) ls t ≡ 0)
ready_at ls rest nexts counts ready t waiting is =
    let parts = and_parts (stands_in rest t) (slice_index counts t == 0) (sym (waiting.ready_are t) ∙ is) in
    (parts.0, sym (waiting.counts_are t parts.0) ∙ eqb-true (slice_index counts t) 0 parts.1)

-- the least of those that are ready is the next out
pub next_ready : (ls : List Link) (rest : List ℕ) (nexts : List (List ℕ)) (counts : List ℕ) (ready : BTreeSet ℕ) (t : ℕ) → IsWaiting ls rest nexts counts ready → is_ready ready t ≡ true → ((u : ℕ) → is_ready ready u ≡ true → t ≤ u) → next (is_linked ls) rest ≡ Some t
next_ready ls rest nexts counts ready t waiting is least =
    let at = ready_at ls rest nexts counts ready t waiting is in
    find_least (λ u. not (list_any (λ t. is_linked ls t u) rest)) rest t waiting.ascends at.0 (not_from_false _ (zero_waits ls rest t at.1))
    (λ u within none. least u (waiting.ready_are u ∙ and_from _ _ within (eq-eqb _ _ (waiting.counts_are u within ∙ no_count u none))))
  where
    no_count : (u : ℕ) → not (list_any (λ t. is_linked ls t u) rest) ≡ true → entering (stands_in rest) ls u ≡ 0
    no_count u none =
        ⊎_elim (λ is. is) (λ some. absurd (both_ways _ none' (some_wait ls rest u some))) (zero_or (entering (stands_in rest) ls u))
      where
        none' : list_any (λ t. is_linked ls t u) rest ≡ false
        none' = false_from_ne_true _ (λ is. both_ways _ (not_from_true _ is) none)

        zero_or : (n : ℕ) → (n ≡ 0) ⊎ (0 < n)
        zero_or zero = inl refl
        zero_or (suc n) = inr (omega arith)

-- where none is ready none is next
pub next_none : (ls : List Link) (rest : List ℕ) (nexts : List (List ℕ)) (counts : List ℕ) (ready : BTreeSet ℕ) → IsWaiting ls rest nexts counts ready → ((u : ℕ) → is_ready ready u ≡ false) → next (is_linked ls) rest ≡ None
next_none ls rest nexts counts ready waiting none =
    find_none (λ u. not (list_any (λ t. is_linked ls t u) rest)) rest
    (λ u within. not_from_true _ (some_wait ls rest u (more u within (entering (stands_in rest) ls u) refl)))
  where
    more : (u : ℕ) → stands_in rest u ≡ true → (n : ℕ) → entering (stands_in rest) ls u ≡ n → 0 < entering (stands_in rest) ls u
    more u within zero is = absurd (both_ways (is_ready ready u) (none u) (waiting.ready_are u ∙ and_from _ _ within (eq-eqb _ _ (waiting.counts_are u within ∙ is))))
    more u within (suc n) is = omega (arith, is)

-- what a release may count down
pub can_release : (ls : List Link) (rest : List ℕ) (nexts : List (List ℕ)) (counts : List ℕ) (ready : BTreeSet ℕ) (t : ℕ) → IsWaiting ls rest nexts counts ready → stands_in rest t ≡ true → (u : ℕ) → times (targets ls t) u ≤ slice_index counts u
can_release ls rest nexts counts ready t waiting there u =
    ⊎_elim
    (λ within. let split = entering-without ls t u rest there in let is = waiting.counts_are u within in omega (arith, split, is))
    (λ apart.
    let none = times-none (targets ls t) u (false_from_ne_true _ (λ led. both_ways (stands_in rest u) apart (waiting.closed t u (sym (in_targets ls t u) ∙ led) there))) in
    omega (arith, none))
    (cases_Bool (stands_in rest u))

-- who is ready after a release
ready_after : (counted new_zero old_zero within led : Bool) → (led ≡ true → within ≡ true) → (led ≡ false → new_zero ≡ old_zero) → (old_zero ≡ true → new_zero ≡ true) → ((within && old_zero) || (led && new_zero)) ≡ (within && new_zero)
ready_after counted new_zero old_zero true true closed same kept = by_zero old_zero kept
  where
    by_zero : (old : Bool) → (old ≡ true → new_zero ≡ true) → (old || new_zero) ≡ new_zero
    by_zero true kept = sym (kept refl)
    by_zero false kept = refl
ready_after counted new_zero old_zero true false closed same kept = or_false old_zero ∙ sym (same refl)
  where
    or_false : (b : Bool) → (b || false) ≡ b
    or_false true = refl
    or_false false = refl
ready_after counted new_zero old_zero false true closed same kept = absurd (true≢false (sym (closed refl)))
ready_after counted new_zero old_zero false false closed same kept = refl

-- what is ready after a turn, one by one
ready_next : (ls : List Link) (rest : List ℕ) (nexts : List (List ℕ)) (counts : List ℕ) (ready popped : BTreeSet ℕ) (new : List ℕ) (after : BTreeSet ℕ) (t : ℕ) → IsWaiting ls rest nexts counts ready → is_ready ready t ≡ true → is_ready popped t ≡ false → ((u : ℕ) → u ≢ t → is_ready popped u ≡ is_ready ready u) → IsReleased (targets ls t) counts popped new after → (u : ℕ) → is_ready after u ≡ (stands_in (without t rest) u && slice_index new u == 0)
ready_next ls rest nexts counts ready popped new after t waiting is gone others released u =
    released.ready_are u
    ∙ ⊎_elim
    (λ same.
    let apart : stands_in (without t rest) u ≡ false = without-test t u rest ∙ ap (λ b. stands_in rest u && not b) (eq-eqb u t same) ∙ and_false (stands_in rest u) in
    let not_led : stands_in (targets ls t) u ≡ false = false_from_ne_true _ (λ led.
    let counted = entering_some (stands_in rest) ls t u (sym (in_targets ls t u) ∙ led) at.0 in
    let none : entering (stands_in rest) ls u ≡ 0 = ap (entering (stands_in rest) ls) same ∙ at.1 in
    absurd (omega (arith, counted, none))) in
    ap (λ b. is_ready popped u || (b && slice_index new u == 0)) not_led
    ∙ ap (λ b. b || false) (ap (is_ready popped) same ∙ gone)
    ∙ sym (and_left (stands_in (without t rest) u) (slice_index new u == 0) apart))
    (λ other.
    ap (λ b. b || (stands_in (targets ls t) u && slice_index new u == 0)) (others u other ∙ waiting.ready_are u)
    ∙ ready_after true (slice_index new u == 0) (slice_index counts u == 0) (stands_in rest u) (stands_in (targets ls t) u)
    (λ led. waiting.closed t u (sym (in_targets ls t u) ∙ led) at.0)
    (λ free. let none = times-none (targets ls t) u free in let is = released.counts_are u in ap (λ n. n == 0) (let same : slice_index new u ≡ slice_index counts u = omega (arith, none, is) in same))
    (λ zero_count. let at_zero = eqb-true (slice_index counts u) 0 zero_count in let is = released.counts_are u in eq-eqb _ _ (omega (arith, at_zero, is)))
    ∙ ap (λ b. b && slice_index new u == 0) (sym (without-test t u rest ∙ ap (λ b. stands_in rest u && not b) (ne_eqb u t other) ∙ and_true (stands_in rest u))))
    (cases_eq u t)
  where
    at : (stands_in rest t ≡ true) × (entering (stands_in rest) ls t ≡ 0)
    at = ready_at ls rest nexts counts ready t waiting is

    and_false : (b : Bool) → (b && false) ≡ false
    and_false true = refl
    and_false false = refl

    and_true : (b : Bool) → (b && true) ≡ b
    and_true true = refl
    and_true false = refl

-- what waits after a turn
pub waiting_next : (ls : List Link) (rest : List ℕ) (nexts : List (List ℕ)) (counts : List ℕ) (ready popped : BTreeSet ℕ) (new : List ℕ) (after : BTreeSet ℕ) (t : ℕ) → IsWaiting ls rest nexts counts ready → is_ready ready t ≡ true → is_ready popped t ≡ false → ((u : ℕ) → u ≢ t → is_ready popped u ≡ is_ready ready u) → IsReleased (targets ls t) counts popped new after → IsWaiting ls (without t rest) nexts new after
waiting_next ls rest nexts counts ready popped new after t waiting is gone others released =
    record {
      nexts_are = λ a there. waiting.nexts_are a (in_without t a rest there).0;
      counts_are = λ u there.
          let was = waiting.counts_are u (in_without t u rest there).0 in
          let split = entering-without ls t u rest at.0 in
          let now = released.counts_are u in
          omega (arith, was, split, now);
      ready_are = ready_next ls rest nexts counts ready popped new after t waiting is gone others released;
      closed = λ a u linked there.
          let before = in_without t a rest there in
          without_in t u rest (waiting.closed a u linked before.0)
          (false_from_ne_true (u == t) (λ same.
          let counted = entering_some (stands_in rest) ls a u linked before.0 in
          let none : entering (stands_in rest) ls u ≡ 0 = ap (entering (stands_in rest) ls) (eqb-true u t same) ∙ at.1 in
          absurd (omega (arith, counted, none))));
      ascends = ascends_without t rest waiting.ascends;
    }
  where
    at : (stands_in rest t ≡ true) × (entering (stands_in rest) ls t ≡ 0)
    at = ready_at ls rest nexts counts ready t waiting is
