-- Counts that go down.
use Rattle.std.proofs.Common.{◌≡◌, ◌≢◌, refl, sym, ap, ◌∙◌, ℕ, zero, suc, ◌+◌, ◌-◌, ◌<◌, ◌≤◌, Bool, true, false, ◌&&◌, ◌||◌, cond, List, [], ◌∷◌, length, take, get_or, set, arith, ⊎_elim, subst}
use Rattle.std.specs.Prelude.{◌==◌}
use Rattle.std.proofs.lemmas.Bool.{eq-eqb, ne_eqb, cases_eq}
use Rattle.std.proofs.lemmas.List.Folds.{list_any_at, list_any_more}
use Rattle.std.proofs.lemmas.List.Sums.{count_by_more_yes, count_by_more_no, sum_by-take-le}
use Rattle.std.proofs.lemmas.List.{get_or-set_other, get_or-set_same}
use Rattle.std.proofs.Math.ListN.{length-set}
use Rattle.std.specs.BTreeSet.{BTreeSet}
use Rattle.hem_law.specs.Orders.{stands_in}
use Rattle.hem_regroup.specs.Ready.{is_ready, times, IsReleased}

-- an element is there
pub in_at : (xs : List ℕ) (k : ℕ) → k < length xs → stands_in xs (get_or xs k 0) ≡ true
in_at xs k within = let x = get_or xs k 0 in list_any_at (λ u. u == x) xs k 0 within (eq-eqb x x refl)

-- an element is there once more than before its place
pub times_at : (xs : List ℕ) (k : ℕ) → k < length xs → times (take k xs) (get_or xs k 0) + 1 ≤ times xs (get_or xs k 0)
times_at xs k within =
    let x = get_or xs k 0 in
    let one = count_by_more_yes (λ y. y == x) xs k 0 within (eq-eqb x x refl) in
    let all = sum_by-take-le (λ y. cond (y == x) 1 0) xs (k + 1) in
    omega (arith, one, all)

-- what isn't 0 is there
pub nonzero_within : (xs : List ℕ) (k : ℕ) → 0 < get_or xs k 0 → k < length xs
nonzero_within [] k more = absurd (omega arith)
nonzero_within (x ∷ xs) zero more = omega arith
nonzero_within (x ∷ xs) (suc k) more = let rest = nonzero_within xs k more in omega (arith, rest)

-- one more number counted down
counts_next : (us : List ℕ) (k : ℕ) (counts now new : List ℕ) → k < length us → 0 < get_or now (get_or us k 0) 0 → new ≡ set now (get_or us k 0) (get_or now (get_or us k 0) 0 - 1) → (u : ℕ) → get_or now u 0 + times (take k us) u ≡ get_or counts u 0 → get_or new u 0 + times (take (k + 1) us) u ≡ get_or counts u 0
counts_next us k counts now new within some written u was =
    let x = get_or us k 0 in
    ⊎_elim
    (λ (same : x ≡ u).
    let more = count_by_more_yes (λ y. y == u) us k 0 within (eq-eqb x u same) in
    let here = ap (λ xs. get_or xs x 0) written ∙ get_or-set_same now x (get_or now x 0 - 1) 0 (nonzero_within now x some) in
    let at_u : get_or new u 0 ≡ get_or now u 0 - 1 = ap (λ u. get_or new u 0) (sym same) ∙ here ∙ ap (λ u. get_or now u 0 - 1) same in
    let some_there : 0 < get_or now u 0 = subst (λ u. 0 < get_or now u 0) same some in
    omega (arith, more, at_u, some_there, was))
    (λ (other : x ≢ u).
    let more = count_by_more_no (λ y. y == u) us k 0 within (ne_eqb x u other) in
    let there = ap (λ xs. get_or xs u 0) written ∙ get_or-set_other now x u (get_or now x 0 - 1) 0 (λ same. other (sym same)) in
    omega (arith, more, there, was))
    (cases_eq x u)

ready_same : (old «in» now_zero new_zero : Bool) → now_zero ≡ false → ((old || («in» && now_zero)) || (true && new_zero)) ≡ (old || ((«in» || true) && new_zero))
ready_same true «in» now_zero new_zero none = refl
ready_same false true now_zero new_zero none = ap (λ b. b || new_zero) none
ready_same false false now_zero new_zero none = refl

ready_other : (old «in» now_zero at_zero : Bool) → ((old || («in» && now_zero)) || (false && at_zero)) ≡ (old || ((«in» || false) && now_zero))
ready_other true «in» now_zero at_zero = refl
ready_other false true now_zero at_zero = or_false now_zero
  where
    or_false : (b : Bool) → (b || false) ≡ b
    or_false true = refl
    or_false false = refl
ready_other false false now_zero at_zero = refl

ready_next : (us : List ℕ) (k : ℕ) (now new : List ℕ) (ready before after : BTreeSet ℕ) → k < length us → 0 < get_or now (get_or us k 0) 0 → new ≡ set now (get_or us k 0) (get_or now (get_or us k 0) 0 - 1) → (u : ℕ) → is_ready before u ≡ (is_ready ready u || (stands_in (take k us) u && get_or now u 0 == 0)) → is_ready after u ≡ (is_ready before u || (u == get_or us k 0 && get_or new (get_or us k 0) 0 == 0)) → is_ready after u ≡ (is_ready ready u || (stands_in (take (k + 1) us) u && get_or new u 0 == 0))
ready_next us k now new ready before after within some written u was is =
    let x = get_or us k 0 in
    is ∙ ap (λ b. b || (u == x && get_or new x 0 == 0)) was
    ∙ ⊎_elim
    (λ (same : u ≡ x).
    ap (λ b. (is_ready ready u || (stands_in (take k us) u && get_or now u 0 == 0)) || (b && get_or new x 0 == 0)) (eq-eqb u x same)
    ∙ ready_same (is_ready ready u) (stands_in (take k us) u) (get_or now u 0 == 0) (get_or new x 0 == 0) (ne_eqb (get_or now u 0) 0 (let some_there : 0 < get_or now u 0 = subst (λ u. 0 < get_or now u 0) (sym same) some in λ none. absurd (omega arith)))
    ∙ ap (λ n. is_ready ready u || ((stands_in (take k us) u || true) && n == 0)) (ap (λ u. get_or new u 0) (sym same))
    ∙ ap (λ b. is_ready ready u || ((stands_in (take k us) u || b) && get_or new u 0 == 0)) (sym (eq-eqb x u (sym same))))
    (λ (other : u ≢ x).
    ap (λ b. (is_ready ready u || (stands_in (take k us) u && get_or now u 0 == 0)) || (b && get_or new x 0 == 0)) (ne_eqb u x other)
    ∙ ready_other (is_ready ready u) (stands_in (take k us) u) (get_or now u 0 == 0) (get_or new x 0 == 0)
    ∙ ap (λ n. is_ready ready u || ((stands_in (take k us) u || false) && n == 0)) (sym (ap (λ xs. get_or xs u 0) written ∙ get_or-set_other now x u (get_or now x 0 - 1) 0 other))
    ∙ ap (λ b. is_ready ready u || ((stands_in (take k us) u || b) && get_or new u 0 == 0)) (sym (ne_eqb x u (λ same. other (sym same)))))
    (cases_eq u x)
    ∙ ap (λ b. is_ready ready u || (b && get_or new u 0 == 0)) (sym (list_any_more (λ y. y == u) us k 0 within))

pub released_more : (us : List ℕ) (k : ℕ) (counts now new : List ℕ) (ready before after : BTreeSet ℕ) → k < length us → IsReleased (take k us) counts ready now before → 0 < get_or now (get_or us k 0) 0 → new ≡ set now (get_or us k 0) (get_or now (get_or us k 0) 0 - 1) → ((u : ℕ) → is_ready after u ≡ (is_ready before u || (u == get_or us k 0 && get_or new (get_or us k 0) 0 == 0))) → IsReleased (take (k + 1) us) counts ready new after
released_more us k counts now new ready before after within released some written is =
    record {
      size = ap length written ∙ length-set now (get_or us k 0) (get_or now (get_or us k 0) 0 - 1) ∙ released.size;
      counts_are = λ u. counts_next us k counts now new within some written u (released.counts_are u);
      ready_are = λ u. ready_next us k now new ready before after within some written u (released.ready_are u) (is u);
    }
