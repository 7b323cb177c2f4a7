-- What waits and what is ready, turn by turn.
use Rattle.std.proofs.Common.{◌≡◌, refl, sym, ap, ◌∙◌, ℕ, ◌+◌, ◌<◌, ◌≤◌, Bool, true, false, not, ◌&&◌, ◌||◌, cond, List, [], ◌∷◌, None, Some, arith, ⊎_elim, ◌⊎◌, inl, inr}
use Rattle.std.specs.Prelude.{◌==◌, find}
use Rattle.std.proofs.lemmas.Bool.{eq-eqb, eqb-true, or_cases, or_left, or_right, and_parts, and_from, both_ways, not_from_false, not-true, true≢false, cond-false}
use Rattle.std.proofs.lemmas.List.Sums.{sum_by-cons}
use Rattle.hem_law.specs.Orders.{stands_in}
use Rattle.hem_regroup.specs.Turns.{without}
use Rattle.hem_regroup.specs.Links.{Link, is_linked}
use Rattle.hem_regroup.specs.Graph.{targets, entering}
use Rattle.hem_regroup.specs.Ready.{times, Ascends}
use Rattle.hem_regroup.proofs.SameTurns.{in_without, without_in, same_bool}

-- how often a number is there
times-cons : (x : ℕ) (us : List ℕ) (u : ℕ) → times (x ∷ us) u ≡ cond (x == u) 1 0 + times us u
times-cons x us u = sum_by-cons (λ y. cond (y == u) 1 0) x us

pub times-none : (us : List ℕ) (u : ℕ) → stands_in us u ≡ false → times us u ≡ 0
times-none [] u none = refl
times-none (x ∷ us) u none = by_test (x == u) none (times-cons x us u) (times-none us u)
  where
    by_test : (b : Bool) → (b || stands_in us u) ≡ false → times (x ∷ us) u ≡ cond b 1 0 + times us u → (stands_in us u ≡ false → times us u ≡ 0) → times (x ∷ us) u ≡ 0
    by_test true none is rest = absurd (true≢false none)
    by_test false none is rest = let zero_there = rest none in omega (arith, is, zero_there)

-- those to which the links lead
pub in_targets : (ls : List Link) (t u : ℕ) → stands_in (targets ls t) u ≡ is_linked ls t u
in_targets [] t u = refl
in_targets (l ∷ ls) t u = by_test (l.from == t) (in_targets ls t u)
  where
    by_test : (b : Bool) → stands_in (targets ls t) u ≡ is_linked ls t u → stands_in (cond b (l.to ∷ targets ls t) (targets ls t)) u ≡ (b && l.to == u || is_linked ls t u)
    by_test true rest = ap (λ b. l.to == u || b) rest
    by_test false rest = rest

-- a link from one that passes is counted
pub entering_some : (passes : ℕ → Bool) (ls : List Link) (t u : ℕ) → is_linked ls t u ≡ true → passes t ≡ true → 0 < entering passes ls u
entering_some passes [] t u linked is = absurd (true≢false (sym linked))
entering_some passes (l ∷ ls) t u linked is =
    ⊎_elim
    (λ here.
    let parts = and_parts (l.from == t) (l.to == u) here in
    let one : (l.to == u && passes l.from) ≡ true = and_from _ _ parts.1 (ap passes (eqb-true l.from t parts.0) ∙ is) in
    let counts : cond {A = ℕ} (l.to == u && passes l.from) 1 0 ≡ 1 = ap (λ b. cond {A = ℕ} b 1 0) one in
    omega (arith, counts))
    (λ later. let rest = entering_some passes ls t u later is in omega (arith, rest))
    (or_cases (l.from == t && l.to == u) (is_linked ls t u) linked)

-- where some are counted there is a link from one that passes
pub linked_some : (passes : ℕ → Bool) (ls : List Link) (u : ℕ) → 0 < entering passes ls u → (t : ℕ) × (passes t ≡ true) × (is_linked ls t u ≡ true)
linked_some passes [] u some = absurd (omega arith)
linked_some passes (l ∷ ls) u some = by_test (l.to == u && passes l.from) refl some (linked_some passes ls u)
  where
    by_test : (b : Bool) → (l.to == u && passes l.from) ≡ b → 0 < cond b 1 0 + entering passes ls u → (0 < entering passes ls u → (t : ℕ) × (passes t ≡ true) × (is_linked ls t u ≡ true)) → (t : ℕ) × (passes t ≡ true) × (is_linked (l ∷ ls) t u ≡ true)
    by_test true is some rest = let parts = and_parts (l.to == u) (passes l.from) is in (l.from, parts.1, or_left _ _ (and_from _ _ (eq-eqb l.from l.from refl) parts.0))
    by_test false is some rest = let it = rest (omega arith) in (it.0, it.1, or_right (l.from == it.0 && l.to == u) _ it.2)

-- those left without one, as a test
pub without-test : (t a : ℕ) (rest : List ℕ) → stands_in (without t rest) a ≡ (stands_in rest a && not (a == t))
without-test t a rest =
    same_bool _ _
    (λ there. let it = in_without t a rest there in and_from _ _ it.0 (not_from_false _ it.1))
    (λ both. let parts = and_parts (stands_in rest a) (not (a == t)) both in without_in t a rest parts.0 (not-true _ parts.1))

-- as one goes out, the links from it are counted no more
count_split : (to there here : Bool) → (here ≡ true → there ≡ true) → cond (to && (there && not here)) 1 0 + cond (here && to) 1 0 ≡ cond (to && there) 1 0
count_split true true true within = refl
count_split true true false within = refl
count_split true false true within = absurd (true≢false (sym (within refl)))
count_split true false false within = refl
count_split false there true within = refl
count_split false there false within = refl

pub entering-without : (ls : List Link) (t u : ℕ) (rest : List ℕ) → stands_in rest t ≡ true → entering (stands_in (without t rest)) ls u + times (targets ls t) u ≡ entering (stands_in rest) ls u
entering-without [] t u rest there = refl
entering-without (l ∷ ls) t u rest there =
    let one : cond {A = ℕ} (l.to == u && stands_in (without t rest) l.from) 1 0 + cond {A = ℕ} (l.from == t && l.to == u) 1 0 ≡ cond (l.to == u && stands_in rest l.from) 1 0 = ap (λ b. cond (l.to == u && b) 1 0 + cond (l.from == t && l.to == u) 1 0) (without-test t l.from rest) ∙ count_split (l.to == u) (stands_in rest l.from) (l.from == t) (λ same. ap (stands_in rest) (eqb-true l.from t same) ∙ there) in
    let others = entering-without ls t u rest there in
    let more = targets_count (l.from == t) in
    omega (arith, one, others, more)
  where
    targets_count : (b : Bool) → times (cond b (l.to ∷ targets ls t) (targets ls t)) u ≡ cond (b && l.to == u) 1 0 + times (targets ls t) u
    targets_count true = times-cons l.to (targets ls t) u
    targets_count false = omega arith

-- of numbers that ascend, the first that passes is the least that does
pub find_least : (test : ℕ → Bool) (xs : List ℕ) (t : ℕ) → Ascends xs → stands_in xs t ≡ true → test t ≡ true → ((u : ℕ) → stands_in xs u ≡ true → test u ≡ true → t ≤ u) → find test xs ≡ Some t
find_least test [] t up there is least = absurd (true≢false (sym there))
find_least test (x ∷ xs) t up there is least = by_test (test x) refl (or_cases (x == t) (stands_in xs t) there) (λ later. find_least test xs t up.1 later is (λ u within passes. least u (or_right (x == u) _ within) passes))
  where
    by_test : (b : Bool) → test x ≡ b → ((x == t) ≡ true) ⊎ (stands_in xs t ≡ true) → (stands_in xs t ≡ true → find test xs ≡ Some t) → cond b (Some x) (find test xs) ≡ Some t
    by_test true passes (inl here) rest = ap Some (eqb-true x t here)
    by_test true passes (inr later) rest = absurd (let less = up.0 t later in let more = least x (or_left _ _ (eq-eqb x x refl)) passes in omega (arith, less, more))
    by_test false fails (inl here) rest = absurd (both_ways (test t) (ap test (sym (eqb-true x t here)) ∙ fails) is)
    by_test false fails (inr later) rest = rest later

pub find_none : (test : ℕ → Bool) (xs : List ℕ) → ((u : ℕ) → stands_in xs u ≡ true → test u ≡ false) → find test xs ≡ None
find_none test [] none = refl
find_none test (x ∷ xs) none = cond-false (test x) (Some x) (find test xs) (none x (or_left _ _ (eq-eqb x x refl))) ∙ find_none test xs (λ u within. none u (or_right (x == u) _ within))

pub ascends_without : (t : ℕ) (xs : List ℕ) → Ascends xs → Ascends (without t xs)
ascends_without t [] up = tt
ascends_without t (x ∷ xs) up = by_test (not (x == t)) (ascends_without t xs up.1)
  where
    by_test : (b : Bool) → Ascends (without t xs) → Ascends (cond b (x ∷ without t xs) (without t xs))
    by_test true rest = (λ u there. up.0 u (in_without t u xs there).0, rest)
    by_test false rest = rest
