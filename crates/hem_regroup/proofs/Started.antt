-- The transactions of numbered firings.
use Rattle.std.proofs.Common.{◌≡◌, refl, sym, ap, ◌∙◌, ℕ, suc, ◌+◌, ◌<◌, ◌≤◌, Bool, true, false, ◌&&◌, cond, List, [], ◌∷◌, ◌++◌, map, length, arith, ⊎_elim}
use Rattle.std.specs.Prelude.{◌==◌, filter}
use Rattle.std.proofs.lemmas.Bool.{eqb-true, or_cases, true≢false}
use Rattle.hem_trace.specs.Order.{Entry, printed, transactions_of}
use Rattle.hem_regroup.specs.declared.numbered.Numbered.{Numbered}
use Rattle.hem_law.specs.Orders.{stands_in}
use Rattle.hem_regroup.specs.Members.{IsWhole}
use Rattle.hem_regroup.specs.Ready.{Ascends}
use Rattle.hem_regroup.specs.Printed.{blocks_of}
use Rattle.hem_regroup.specs.Normal.{member_at, is_moved, anchor, held_from, with_held, normal_from, normal_members, all_numbered, ArePlaced, AreBelow}
use Rattle.hem_regroup.specs.Starts.{starts, AreAmong, AreStarted}
use Rattle.hem_law.proofs.ListFacts.{each-append}
use Rattle.hem_regroup.proofs.Printing.{printed-members}
use Rattle.hem_regroup.proofs.NormalMembers.{normal_members-same}

-- they ascend
starts-from : (k : ℕ) (xs : List Numbered) (u : ℕ) → stands_in (starts k xs) u ≡ true → (k ≤ u) × (u < k + length xs)
starts-from k [] u there = absurd (true≢false (sym there))
starts-from k (x ∷ xs) u there = by_test (k == x.number) refl there (starts-from (k + 1) xs u)
  where
    by_test : (b : Bool) → (k == x.number) ≡ b → stands_in (cond b (x.number ∷ starts (k + 1) xs) (starts (k + 1) xs)) u ≡ true → (stands_in (starts (k + 1) xs) u ≡ true → (k + 1 ≤ u) × (u < k + 1 + length xs)) → (k ≤ u) × (u < k + suc (length xs))
    by_test true is there rest =
        ⊎_elim
        (λ here. let at = eqb-true k x.number is in let same = eqb-true x.number u here in (omega (arith, at, same), omega (arith, at, same)))
        (λ later. let it = rest later in (omega (arith, it.0), omega (arith, it.1)))
        (or_cases (x.number == u) (stands_in (starts (k + 1) xs) u) there)
    by_test false is there rest = let it = rest there in (omega (arith, it.0), omega (arith, it.1))

starts-ascend : (k : ℕ) (xs : List Numbered) → Ascends (starts k xs)
starts-ascend k [] = tt
starts-ascend k (x ∷ xs) = by_test (k == x.number) refl (starts-ascend (k + 1) xs)
  where
    by_test : (b : Bool) → (k == x.number) ≡ b → Ascends (starts (k + 1) xs) → Ascends (cond b (x.number ∷ starts (k + 1) xs) (starts (k + 1) xs))
    by_test true is rest = (λ u there. let at = eqb-true k x.number is in let later = starts-from (k + 1) xs u there in omega (arith, at, later.0), rest)
    by_test false is rest = rest

pub all_ascend : (all : List Numbered) → Ascends (starts 0 all)
all_ascend all = starts-ascend 0 all

pub start-below : (all : List Numbered) (u : ℕ) → stands_in (starts 0 all) u ≡ true → u < length all
start-below all u there = let it = starts-from 0 all u there in omega (arith, it.1)

among-below : (count : ℕ) (xs : List Numbered) (left : List ℕ) → ((u : ℕ) → stands_in left u ≡ true → u < count) → AreAmong xs left → AreBelow count xs
among-below count [] left below among = tt
among-below count (x ∷ xs) left below among = (below x.number among.0, among-below count xs left below among.1)

pub started-below : (all : List Numbered) → AreStarted all → AreBelow (length all) all
started-below all started = among-below (length all) all (starts 0 all) (start-below all) started

-- and so do all members in the normal order
held-whole : (all : List Numbered) (k : ℕ) (xs : List Numbered) (n : ℕ) (left : List ℕ) → AreAmong xs left → IsWhole (held_from all k xs n) left
held-whole all k [] n left among = tt
held-whole all k (x ∷ xs) n left among = by_test (x.number == n && is_moved all k x) (held-whole all (k + 1) xs n left among.1)
  where
    by_test : (b : Bool) → IsWhole (held_from all (k + 1) xs n) left → IsWhole (cond b (member_at x ∷ []) [] ++ held_from all (k + 1) xs n) left
    by_test true rest = (among.0, rest)
    by_test false rest = rest

with-whole : (all : List Numbered) (k : ℕ) (x : Numbered) (left : List ℕ) → AreAmong all left → stands_in left x.number ≡ true → IsWhole (with_held all k x) left
with-whole all k x left among there = by_tests (is_moved all k x) (k == anchor all x.number)
  where
    by_tests : (m a : Bool) → IsWhole (cond m [] (cond a (held_from all 0 all x.number) [] ++ member_at x ∷ [])) left
    by_tests true a = tt
    by_tests false true = each-append (λ m. stands_in left m.number ≡ true) (held_from all 0 all x.number) (member_at x ∷ []) (held-whole all 0 all x.number left among) (there, tt)
    by_tests false false = (there, tt)

pub normal-whole : (all : List Numbered) (k : ℕ) (xs : List Numbered) (left : List ℕ) → AreAmong all left → AreAmong xs left → IsWhole (normal_from all k xs) left
normal-whole all k [] left all_among among = tt
normal-whole all k (x ∷ xs) left all_among among = each-append (λ m. stands_in left m.number ≡ true) (with_held all k x) (normal_from all (k + 1) xs) (with-whole all k x left all_among among.0) (normal-whole all (k + 1) xs left all_among among.1)

pub members-whole : (all : List Numbered) → AreStarted all → IsWhole (normal_members all) (starts 0 all)
members-whole all started = normal-whole all 0 all (starts 0 all) started started

-- the transactions of entries
pub transactions-same : (k : ℕ) (es : List Entry) → ArePlaced k es → transactions_of es ≡ starts k (all_numbered es)
transactions-same k [] placed = refl
transactions-same k (e ∷ es) placed = ap (λ p. map (λ e. e.number) (cond (p == e.number) (e ∷ filter (λ e. e.place == e.number) es) (filter (λ e. e.place == e.number) es))) placed.0 ∙ by_test (k == e.number) (transactions-same (k + 1) es placed.1)
  where
    by_test : (b : Bool) → transactions_of es ≡ starts (k + 1) (all_numbered es) → map (λ e. e.number) (cond b (e ∷ filter (λ e. e.place == e.number) es) (filter (λ e. e.place == e.number) es)) ≡ cond b (e.number ∷ starts (k + 1) (all_numbered es)) (starts (k + 1) (all_numbered es))
    by_test true rest = ap (λ ns. e.number ∷ ns) rest
    by_test false rest = rest

pub printed-numbered : (es : List Entry) → ArePlaced 0 es → printed es ≡ blocks_of (normal_members (all_numbered es)) (starts 0 (all_numbered es))
printed-numbered es placed = printed-members es ∙ (λ i. blocks_of (normal_members-same es placed i) (transactions-same 0 es placed i))
