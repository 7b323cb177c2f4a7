-- A round of all workers, from each worker's share.
use Rattle.std.proofs.Common.{◌≡◌, refl, ap, subst, ℕ, zero, suc, ◌+◌, ◌<◌, ◌≤◌, nat_lt, arith, Bool, true, false, cond, List, [], ◌∷◌, Some, ◌⊎◌, inl, inr, ⊎_elim, ltb-true}
use Rattle.std.specs.Prelude.{slice_get}
use Rattle.std.proofs.lemmas.Bool.{ltb-false}
use Rattle.std.proofs.lemmas.Option.{same_Some, none-some}
use denote.Ref.{MutBor}
use denote.Param.Members.{Shared}
use Rattle.hem_syntax.specs.Protocol.{Protocol}
use Rattle.hem_tree.specs.Tree.{Tree}
use Rattle.hem_system.specs.State.{State}
use Rattle.hem_turns.specs.OnLine.{IsSeen}
use Rattle.hem_worker.specs.Workers.{Worker, AreChanged, AreParts, IsRound, IsStuck, journaled}
use Rattle.hem_worker.specs.Edges.{channels}
use Rattle.hem_crew.specs.Rounds.{IsTurn, IsShare, IsRoundOfAll, all_journaled}
use Rattle.hem_runner.specs.Turned.{TurnsInto, Turned, capped_sum}

-- whether there is one or more, as a number
abbrev pub some : ℕ → ℕ
some n = cond (nat_lt 0 n) 1 0

none-is : (n : ℕ) → n ≡ 0 → nat_lt 0 n ≡ false
none-is n none = ap (nat_lt 0) none

is-none : (n : ℕ) → nat_lt 0 n ≡ false → n ≡ 0
is-none n none = let few = ltb-false 0 n none in omega (arith, few)

-- there is none, or there is one or more
pub none-or-some : (n : ℕ) → ((n ≡ 0) × (some n ≡ 0)) ⊎ ((0 < n) × (some n ≡ 1))
none-or-some n = by_test (nat_lt 0 n) refl
  where
    by_test : (b : Bool) → nat_lt 0 n ≡ b → ((n ≡ 0) × (some n ≡ 0)) ⊎ ((0 < n) × (some n ≡ 1))
    by_test true is = inr (ltb-true 0 n is, ap {B = ℕ} (λ b. cond b 1 0) is)
    by_test false is = inl (is-none n is, ap {B = ℕ} (λ b. cond b 1 0) is)

some-few : (n : ℕ) → some n ≤ n
some-few n = ⊎_elim (λ none. (let no = none.1 in omega (arith, no))) (λ one. (let more = one.0 in let is = one.1 in omega (arith, more, is))) (none-or-some n)

-- what a worker's round of n firings is
pub round-is-turn : (p : Protocol) (burst n : ℕ) (old new : Worker) → 0 < burst → IsRound p burst n old new → (n < burst → IsStuck p new) → (n ≡ 0 → 0 < burst → AreChanged (λ l. IsSeen) old.lines new.lines) → channels new ≡ channels old → ((tree : Tree) (start : State) → AreParts p tree start old → AreParts p tree start new) → IsTurn p (nat_lt 0 n) old new
round-is-turn p burst n old new more round stuck looked same parts =
    record {
      kept = record { same = round.same; count = round.lines.count; parts = parts; channels = same };
      longer = (let few = some-few n in let grows = round.grows in omega (arith, few, grows));
      looked = λ none. looked (is-none n none) more;
      stuck = λ none. stuck (let no = is-none n none in omega (arith, no, more));
    }

-- the sum is none where both are
some-of-sum : (r s n : ℕ) → n ≡ capped_sum r s → some n ≤ some r + some s
some-of-sum r s n sum = go (none-or-some r) (none-or-some s) (none-or-some n)
  where
    go : ((r ≡ 0) × (some r ≡ 0)) ⊎ ((0 < r) × (some r ≡ 1)) → ((s ≡ 0) × (some s ≡ 0)) ⊎ ((0 < s) × (some s ≡ 1)) → ((n ≡ 0) × (some n ≡ 0)) ⊎ ((0 < n) × (some n ≡ 1)) → some n ≤ some r + some s
    go first second (inl last) = let a = last.1 in omega (arith, a)
    go (inr first) second (inr last) = let a = first.1 in let b = last.1 in omega (arith, a, b)
    go (inl first) (inr second) (inr last) = let a = second.1 in let b = last.1 in omega (arith, a, b)
    go (inl first) (inl second) (inr last) = absurd (let a = first.0 in let b = second.0 in let c = last.0 in omega (arith, a, b, c, sum))

both-none : (r s n : ℕ) → n ≡ capped_sum r s → n ≡ 0 → (r ≡ 0) × (s ≡ 0)
both-none r s n sum none = (omega (arith, sum, none), omega (arith, sum, none))

none-longer : (n : ℕ) → n ≡ 0 → 0 + some n ≤ 0
none-longer n none = let few = some-few n in omega (arith, few, none)

more-longer : (a b c d r s n : ℕ) → a + some r ≤ b → c + some s ≤ d → n ≡ capped_sum r s → (a + c) + some n ≤ b + d
more-longer a b c d r s n first rest sum = let few = some-of-sum r s n sum in omega (arith, few, first, rest)

-- elements of two lists, first and rest
changed-none : {A : Type 0} (Change : A → A → Type 0) → AreChanged (λ i. Change) [] []
changed-none Change = record { count = refl; each = λ i a b here there. absurd (none-some a here) }

changed-cons : {A : Type 0} (Change : A → A → Type 0) (x y : A) (xs ys : List A) → Change x y → AreChanged (λ i. Change) xs ys → AreChanged (λ i. Change) (x ∷ xs) (y ∷ ys)
changed-cons {A = A} Change x y xs ys first rest = record { count = (let count = rest.count in omega (arith, count)); each = by_place }
  where
    by_place : (i : ℕ) (a b : A) → slice_get (x ∷ xs) i ≡ Some a → slice_get (y ∷ ys) i ≡ Some b → Change a b
    by_place zero a b here there = subst (λ w. Change w b) (same_Some x a here) (subst (λ w. Change x w) (same_Some y b there) first)
    by_place (suc i) a b here there = rest.each i a b here there

-- a worker's share, and those of the others
share-first : (p : Protocol) (any : Bool) (x y : Worker) (r : ℕ) → (any ≡ false → r ≡ 0) → IsTurn p (nat_lt 0 r) x y → IsShare p any x y
share-first p any x y r none turn = record { fired = nat_lt 0 r; turn = turn; none = λ any_none. none-is r (none any_none) }

module _ {F : Type 0} (g : Shared F (MutBor Worker × Unit {0}) (ℕ × (MutBor Worker × Unit {0}))) (f : F) (p : Protocol) (step : (x y : Worker) (n : ℕ) → TurnsInto g f x n y → IsTurn p (nat_lt 0 n) x y) where
  shares : (any : Bool) (xs ys : List Worker) (n : ℕ) → (any ≡ false → n ≡ 0) → Turned g f xs ys n → AreChanged (λ o. IsShare p any) xs ys
  shares any [] [] n none turned = changed-none (IsShare p any)
  shares any (x ∷ xs) (y ∷ ys) n none turned =
      changed-cons (IsShare p any) x y xs ys
      (share-first p any x y turned.0 (λ any_none. (both-none turned.0 turned.1.0 n turned.1.1.1.1 (none any_none)).0) (step x y turned.0 turned.1.1.0))
      (shares any xs ys turned.1.0 (λ any_none. (both-none turned.0 turned.1.0 n turned.1.1.1.1 (none any_none)).1) turned.1.1.1.0)
  shares any [] (y ∷ ys) n none turned = elim turned [ ]
  shares any (x ∷ xs) [] n none turned = elim turned [ ]

  longer : (xs ys : List Worker) (n : ℕ) → Turned g f xs ys n → all_journaled xs + some n ≤ all_journaled ys
  longer [] [] n none = none-longer n none
  longer (x ∷ xs) (y ∷ ys) n turned = more-longer (journaled x.lines) (journaled y.lines) (all_journaled xs) (all_journaled ys) turned.0 turned.1.0 n (step x y turned.0 turned.1.1.0).longer (longer xs ys turned.1.0 turned.1.1.1.0) turned.1.1.1.1
  longer [] (y ∷ ys) n turned = elim turned [ ]
  longer (x ∷ xs) [] n turned = elim turned [ ]

  pub turned-round : (xs ys : List Worker) (n : ℕ) → Turned g f xs ys n → IsRoundOfAll p (nat_lt 0 n) xs ys
  turned-round xs ys n turned = record { each = shares (nat_lt 0 n) xs ys n (is-none n) turned; longer = longer xs ys n turned }
