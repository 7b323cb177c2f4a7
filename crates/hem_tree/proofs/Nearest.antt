-- The greatest number that passes a test, and levels that rise by at most one at each step.
use Rattle.std.proofs.Common.{◌≡◌, ℕ, zero, suc, ◌+◌, ◌-◌, ◌<◌, ◌≤◌, Bool, true, false, cond, eqb, refl, sym, ap, ◌∙◌, arith, Option, Some, None, ⊎_elim, inl, inr, ◌⊎◌}
use Rattle.std.proofs.str.Laws.{order}
use Rattle.std.proofs.lemmas.Bool.{eqb-true, eq-eqb}
use Rattle.hem_tree.specs.Raw.{last_below}

-- what the greatest number that passes is
pub record IsLastBelow (test : ℕ → Bool) (n m : ℕ) : Type 0 where
  pub below : m < n
  pub passes : test m ≡ true
  pub later : (j : ℕ) → m < j → j < n → test j ≡ false

pub last_below_is : (test : ℕ → Bool) (n m : ℕ) → last_below test n ≡ Some m → IsLastBelow test n m
last_below_is test zero m h = absurd cc
last_below_is test (suc n) m h = go (last_below_is test n m) (test n) refl h
  where
    go : (last_below test n ≡ Some m → IsLastBelow test n m) → (b : Bool) → test n ≡ b → cond b (Some n) (last_below test n) ≡ Some m → IsLastBelow test (suc n) m
    go rest true is k = let same : n ≡ m = cc in record {
      below = omega arith;
      passes = ap test (sym same) ∙ is;
      later = λ j low high. absurd (omega arith);
    }
    go rest false is k = let last = rest k in record {
      below = omega (arith, last.below);
      passes = last.passes;
      later = λ j low high. ⊎_elim (λ lt. last.later j low lt) (λ le. let same : j ≡ n = omega arith in ap test same ∙ is) (order j n);
    }

pub none_below : (test : ℕ → Bool) (n : ℕ) → last_below test n ≡ None → (j : ℕ) → j < n → test j ≡ false
none_below test zero h j lt = absurd (omega arith)
none_below test (suc n) h j lt = go (none_below test n) (test n) refl h
  where
    go : (last_below test n ≡ None → (j : ℕ) → j < n → test j ≡ false) → (b : Bool) → test n ≡ b → cond b (Some n) (last_below test n) ≡ None → test j ≡ false
    go rest true is k = absurd cc
    go rest false is k = ⊎_elim (λ low. rest k j low) (λ le. let same : j ≡ n = omega arith in ap test same ∙ is) (order j n)

-- a number that passes is there, or none
pub last_cases : (test : ℕ → Bool) (n : ℕ) → ((m : ℕ) × (last_below test n ≡ Some m)) ⊎ (last_below test n ≡ None)
last_cases test n = go (last_below test n) refl
  where
    go : (o : Option ℕ) → last_below test n ≡ o → ((m : ℕ) × (last_below test n ≡ Some m)) ⊎ (last_below test n ≡ None)
    go None e = inr e
    go (Some m) e = inl (m, e)

pub last_exists : (test : ℕ → Bool) (n j : ℕ) → j < n → test j ≡ true → (m : ℕ) × (last_below test n ≡ Some m)
last_exists test n j lt passes = ⊎_elim (λ some. some) (λ none. absurd (let no = none_below test n none j lt in cc)) (last_cases test n)

pub last_is : (test : ℕ → Bool) (n m : ℕ) → IsLastBelow test n m → last_below test n ≡ Some m
last_is test n m is =
    let some = last_exists test n m is.below is.passes in
    let last = last_below_is test n some.0 some.1 in
    let low : some.0 ≤ m = ⊎_elim (λ lt. absurd (let no = is.later some.0 lt last.below in let yes = last.passes in cc)) (λ le. le) (order m some.0) in
    let high : m ≤ some.0 = ⊎_elim (λ lt. absurd (let no = last.later m lt is.below in let yes = is.passes in cc)) (λ le. le) (order some.0 m) in
    let same : some.0 ≡ m = omega arith in
    some.1 ∙ ap Some same

-- levels of n nodes: the first is 1, the others are above 1, and no step rises by more than one
pub record Levels (level : ℕ → ℕ) (n : ℕ) : Type 0 where
  pub first : level 0 ≡ 1
  pub others : (k : ℕ) → 0 < k → k < n → 2 ≤ level k
  pub rises : (k : ℕ) → k + 1 < n → level (k + 1) ≤ level k + 1

-- whether a node has one level less than this
abbrev pub is_above : (ℕ → ℕ) → ℕ → ℕ → Bool
is_above level high j = eqb (level j + 1) high

-- between a node below a level and one that has it, a node has one level less
crossed : {level : ℕ → ℕ} {n : ℕ} → Levels level n → (d a high : ℕ) → a + d < n → level a < high → high ≤ level (a + d) → (m : ℕ) × (a ≤ m) × (m < a + d) × (level m + 1 ≡ high)
crossed {level} ls zero a high within low top = let same : level (a + 0) ≡ level a = ap level (omega arith) in absurd (omega arith)
crossed {level} ls (suc d) a high within low top =
    let next : a + suc d ≡ a + 1 + d = omega arith in
    ⊎_elim
    (λ lt. let later = crossed ls d (a + 1) high (omega arith) lt (let e = ap level next in omega arith) in (later.0, omega (arith, later.1), omega (arith, later.2), later.3))
    (λ le. (a, omega arith, omega arith, let r = ls.rises a (omega arith) in omega arith))
    (order (level (a + 1)) high)

between : {level : ℕ → ℕ} {n : ℕ} → Levels level n → (a k high : ℕ) → a < k → k < n → level a < high → high ≤ level k → (m : ℕ) × (a ≤ m) × (m < k) × (level m + 1 ≡ high)
between {level} ls a k high lt within low top =
    let sum : a + (k - a) ≡ k = omega arith in
    let e : level (a + (k - a)) ≡ level k = ap level sum in
    let m = crossed ls (k - a) a high (omega arith) low (omega arith) in
    (m.0, m.1, omega (arith, m.2), m.3)

module _ {level : ℕ → ℕ} {n : ℕ} (ls : Levels level n) where
  -- each node but the first has a nearest earlier node of one level less
  pub has_parent : (k : ℕ) → 0 < k → k < n → (m : ℕ) × (last_below (is_above level (level k)) k ≡ Some m)
  has_parent k some within =
      let low = ls.others k some within in
      let m = between ls 0 k (level k) some within (omega (arith, ls.first)) (omega arith) in
      last_exists (is_above level (level k)) k m.0 m.2 (eq-eqb _ _ m.3)

  -- what stands between a node and its parent is at least as deep as the node
  pub deep_between : (k m j : ℕ) → k < n → last_below (is_above level (level k)) k ≡ Some m → m < j → j ≤ k → level k ≤ level j
  deep_between k m j within h low high = ⊎_elim inner (λ le. let same : j ≡ k = omega arith in let e = ap level same in omega arith) (order j k)
    where
      shallow : j < k → level j < level k → ⊥
      shallow lt less =
          let c = between ls j k (level k) lt within less (omega arith) in
          let no = (last_below_is (is_above level (level k)) k m h).later c.0 (omega (arith, c.1)) c.2 in
          let yes = eq-eqb (level c.0 + 1) (level k) c.3 in
          cc

      inner : j < k → level k ≤ level j
      inner lt = ⊎_elim (λ less. absurd (shallow lt less)) (λ le. le) (order (level j) (level k))

pub parent_is : (level : ℕ → ℕ) (k m : ℕ) → last_below (is_above level (level k)) k ≡ Some m → (m < k) × (level m + 1 ≡ level k)
parent_is level k m h = let last = last_below_is (is_above level (level k)) k m h in (last.below, eqb-true _ _ last.passes)

-- the parent of the node after a node with a deeper one next
pub next_parent : (level : ℕ → ℕ) (k : ℕ) → level (k + 1) ≡ level k + 1 → last_below (is_above level (level (k + 1))) (k + 1) ≡ Some k
next_parent level k e = last_is (is_above level (level (k + 1))) (k + 1) k (record {
  below = omega arith;
  passes = eq-eqb _ _ (sym e);
  later = λ j low high. absurd (omega arith);
})
