-- The normal order is adjacent.
use Rattle.std.proofs.Common.{◌≡◌, ◌≢◌, ℕ, ◌≤◌, Bool, true, false, cond, ◌&&◌, List, [], ◌∷◌, ◌++◌, refl, sym, ap, ◌∙◌, subst, arith, ⊎_elim, inl, inr}
use Rattle.std.specs.Prelude.{◌==◌, nat_lt, filter, flat_map}
use Rattle.std.proofs.lemmas.Bool.{eqb-true}
use Rattle.std.proofs.str.Laws.{order}
use Rattle.hem_trace.specs.Blocks.{Each}
use Rattle.hem_trace.specs.Order.{Entry, entries_in, anchor_of, is_moved, with_moved, normal}
use Rattle.hem_law.specs.Lists.{IsPairwise}
use Rattle.hem_law.specs.Normal.{InOrder}
use Rattle.hem_law.proofs.ListFacts.{each-map, each-filter, each-passes, each-both}
use Rattle.hem_law.proofs.NormalSame.{normal-each}
use Rattle.hem_shape.proofs.Spots.{not_false, true_false, or_cases}
use Rattle.hem_numbered.specs.Histories.{EndsWhereUp}
use Rattle.hem_numbered.specs.Grouped.{next_other, is_broken, StandAdjacent}
use Rattle.hem_numbered.specs.Adjacent.{NextOwn, AreAdjacent}
use Rattle.hem_rows.proofs.Choices.{both, not-true}
use Rattle.hem_numbered.proofs.Walks.{append_one}

-- behind an unmoved request upward none of its transaction comes
abbrev LastOwn : List Entry → Entry → Entry → Type 0
LastOwn es e z = e.upward ≡ true → is_moved es e ≡ false → z.number ≢ e.number

pairwise_tail : {A : Type 0} (R : A → A → Type 0) (xs ys : List A) → IsPairwise R (xs ++ ys) → IsPairwise R ys
pairwise_tail R [] ys pairs = pairs
pairwise_tail R (x ∷ xs) ys pairs = pairwise_tail R xs ys pairs.1

-- a group of the normal order before adjacent entries
group_adjacent : (es us : List Entry) (e : Entry) (rest : List Entry) → Each (λ u. u.number ≡ e.number) us → IsPairwise (LastOwn es) ((us ++ e ∷ []) ++ rest) → is_moved es e ≡ false → AreAdjacent rest → AreAdjacent ((us ++ e ∷ []) ++ rest)
group_adjacent es [] e rest own pairs unmoved adjacent = ((λ up. next rest (each-map (λ z. LastOwn es e z) (λ z. z.number ≢ e.number) rest (λ z last. last up unmoved) pairs.0)), adjacent)
  where
    next : (rest : List Entry) → Each (λ z. z.number ≢ e.number) rest → NextOwn e rest
    next [] others = tt
    next (y ∷ rest) others = inr others
group_adjacent es (u ∷ us) e rest own pairs unmoved adjacent = ((λ up. next us own.1), group_adjacent es us e rest own.1 pairs.1 unmoved adjacent)
  where
    next : (us : List Entry) → Each (λ u. u.number ≡ e.number) us → NextOwn u ((us ++ e ∷ []) ++ rest)
    next [] own_more = inl (sym own.0)
    next (v ∷ us) own_more = inl (own_more.0 ∙ sym own.0)

groups_adjacent : (es later : List Entry) → IsPairwise (LastOwn es) (flat_map (with_moved es) later) → AreAdjacent (flat_map (with_moved es) later)
groups_adjacent es [] pairs = tt
groups_adjacent es (e ∷ later) pairs =
    let rest = groups_adjacent es later (pairwise_tail (LastOwn es) (with_moved es e) (flat_map (with_moved es) later) pairs) in
    by_group (is_moved es e) refl (e.place == anchor_of es e.number) pairs rest
  where
    own : Each (λ u. u.number ≡ e.number) (filter (is_moved es) (entries_in e.number es))
    own = each-filter (λ u. u.number ≡ e.number) (is_moved es) (entries_in e.number es) (each-map (λ u. (u.number == e.number) ≡ true) (λ u. u.number ≡ e.number) (entries_in e.number es) (λ u is. eqb-true u.number e.number is) (each-passes (λ u. u.number == e.number) es))

    by_group : (m : Bool) → is_moved es e ≡ m → (b : Bool) → IsPairwise (LastOwn es) (cond m [] (cond b (filter (is_moved es) (entries_in e.number es)) [] ++ e ∷ []) ++ flat_map (with_moved es) later) → AreAdjacent (flat_map (with_moved es) later) → AreAdjacent (cond m [] (cond b (filter (is_moved es) (entries_in e.number es)) [] ++ e ∷ []) ++ flat_map (with_moved es) later)
    by_group true is b pairs rest = rest
    by_group false is true pairs rest = group_adjacent es (filter (is_moved es) (entries_in e.number es)) e (flat_map (with_moved es) later) own pairs is rest
    by_group false is false pairs rest = group_adjacent es [] e (flat_map (with_moved es) later) tt pairs is rest

-- what holds of all entries holds of each
abbrev Among : List Entry → Entry → Type 0
Among es z = (n k : ℕ) → Each (λ y. y.number ≡ n → y.place ≤ k) es → z.number ≡ n → z.place ≤ k

each_among : (es : List Entry) → Each (Among es) es
each_among [] = tt
each_among (e ∷ es) = ((λ n k all. all.0), each-map (Among es) (Among (e ∷ es)) es (λ z at n k all. at n k all.1) (each_among es))

-- an unmoved request upward is its transaction's last
abbrev EndsUnmoved : List Entry → Entry → Type 0
EndsUnmoved es e = e.upward ≡ true → is_moved es e ≡ false → Each (λ y. y.number ≡ e.number → y.place ≤ e.place) es

ends_unmoved : (es : List Entry) (e : Entry) → EndsWhereUp es e → (e.upward ≡ true → e.place ≤ anchor_of es e.number) → EndsUnmoved es e
ends_unmoved es e ends early up unmoved =
    let first = early up in
    ends (⊎_elim
    (λ less. absurd (let less_is : nat_lt e.place (anchor_of es e.number) ≡ true = grind arith in let moved : is_moved es e ≡ true = ap (λ b. b && nat_lt e.place (anchor_of es e.number)) up ∙ less_is in true_false moved unmoved))
    (λ late. omega (arith, first, late))
    (order e.place (anchor_of es e.number))) up

last_own : (es xs : List Entry) → IsPairwise InOrder xs → Each (Among es) xs → Each (EndsUnmoved es) xs → IsPairwise (LastOwn es) xs
last_own es [] pairs among ends = tt
last_own es (e ∷ xs) pairs among ends = (
  each-map (λ z. InOrder e z × Among es z) (LastOwn es e) xs (λ z both up unmoved same.
      let less = both.0 (sym same) in
      let most = both.1 e.number e.place (ends.0 up unmoved) same in
      omega (arith, less, most))
      (each-both (InOrder e) (Among es) xs pairs.0 among.1),
  last_own es xs pairs.1 among.1 ends.1,
)

pub normal_adjacent : (es : List Entry) → IsPairwise InOrder (normal es) → Each (EndsWhereUp es) es → Each (λ x. x.upward ≡ true → x.place ≤ anchor_of es x.number) es → AreAdjacent (normal es)
normal_adjacent es pairs ends early =
    groups_adjacent es es (last_own es (normal es) pairs (normal-each (Among es) es (each_among es))
    (normal-each (EndsUnmoved es) es (each-map (λ e. EndsWhereUp es e × (e.upward ≡ true → e.place ≤ anchor_of es e.number)) (EndsUnmoved es) es (λ e both. ends_unmoved es e both.0 both.1) (each-both (EndsWhereUp es) (λ e. e.upward ≡ true → e.place ≤ anchor_of es e.number) es ends early))))

-- adjacent entries stand adjacent
each_end : (P : Entry → Type 0) (xs : List Entry) (x : Entry) (ys : List Entry) → Each P (xs ++ x ∷ ys) → P x
each_end P [] x ys all = all.0
each_end P (y ∷ xs) x ys all = each_end P xs x ys all.1

not_broken : (past : List Entry) (x : Entry) (xs : List Entry) → AreAdjacent (past ++ x ∷ xs) → is_broken past x.number ≡ false
not_broken [] x xs adjacent = refl
not_broken (y ∷ past) x xs adjacent =
    not_false (is_broken (y ∷ past) x.number) (λ broken. ⊎_elim
    (λ now.
    let one = both (y.number == x.number && y.upward) (next_other past x.number) now in
    let two = both (y.number == x.number) y.upward one.0 in
    next past (eqb-true y.number x.number two.0) one.1 (adjacent.0 two.1))
    (λ later. true_false later (not_broken past x xs adjacent.1))
    (or_cases (y.number == x.number && y.upward && next_other past x.number) (is_broken past x.number) broken))
  where
    next : (past : List Entry) → y.number ≡ x.number → next_other past x.number ≡ true → NextOwn y (past ++ x ∷ xs) → ⊥
    next [] same other own = let bad : false ≡ true = other in cc
    next (z ∷ past) same other (inl own) = let is : (z.number == x.number) ≡ true = grind arith in true_false is (not-true (z.number == x.number) other)
    next (z ∷ past) same other (inr none) = each_end (λ z. z.number ≢ y.number) (z ∷ past) x xs none (sym same)

pub stand_adjacent : (past xs : List Entry) → AreAdjacent (past ++ xs) → StandAdjacent past xs
stand_adjacent past [] adjacent = tt
stand_adjacent past (x ∷ xs) adjacent = (not_broken past x xs adjacent, stand_adjacent (past ++ x ∷ []) xs (subst (λ l. AreAdjacent l) (sym (append_one past x xs)) adjacent))
