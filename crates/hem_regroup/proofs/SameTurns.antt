-- The order by neighbours is the order by all that precede.
use Rattle.std.proofs.Common.{◌≡◌, refl, sym, ap, ◌∙◌, ℕ, zero, suc, Bool, true, false, not, ◌&&◌, List, [], ◌∷◌, cond, length, Option, None, Some, inl, inr, ⊎_elim, ◌⊎◌}
use Rattle.std.specs.Prelude.{◌==◌, find}
use Rattle.std.specs.List.{list_any}
use Rattle.std.proofs.lemmas.Bool.{eqb-true, or_cases, or_left, or_right, and_parts, and_from, both_ways, not_from_false, not-true, true≢false, false_from_ne_true}
use Rattle.hem_law.proofs.Filters.{any-number, find-some}
use Rattle.hem_regroup.specs.declared.member.Member.{Member}
use Rattle.hem_law.specs.Orders.{stands_in}
use Rattle.hem_regroup.specs.Members.{same_place, is_of, stands_before, precedes, IsWhole}
use Rattle.hem_regroup.specs.Turns.{next, without, turns}
use Rattle.hem_regroup.specs.Links.{follows, backwards}
use Rattle.hem_regroup.proofs.Neighbours.{IsClosed, stood-backwards, link_before, before_link}

-- one of a list that passes a test
pub any_from : (test : ℕ → Bool) (xs : List ℕ) (x : ℕ) → stands_in xs x ≡ true → test x ≡ true → list_any test xs ≡ true
any_from test [] x «in» is = absurd (true≢false (sym «in»))
any_from test (y ∷ xs) x there is =
    ⊎_elim
    (λ here. or_left _ _ (ap test (eqb-true _ _ here) ∙ is))
    (λ later. or_right (test y) _ (any_from test xs x later is))
    (or_cases (y == x) (stands_in xs x) there)

-- those left without one
pub in_without : (t a : ℕ) (xs : List ℕ) → stands_in (without t xs) a ≡ true → (stands_in xs a ≡ true) × ((a == t) ≡ false)
in_without t a [] is = absurd (true≢false (sym is))
in_without t a (x ∷ xs) is = by_test (x == t) refl is (in_without t a xs)
  where
    by_test : (b : Bool) → (x == t) ≡ b → stands_in (cond (not b) (x ∷ without t xs) (without t xs)) a ≡ true → (stands_in (without t xs) a ≡ true → (stands_in xs a ≡ true) × ((a == t) ≡ false)) → (stands_in (x ∷ xs) a ≡ true) × ((a == t) ≡ false)
    by_test true same there rest = let it = rest there in (or_right (x == a) _ it.0, it.1)
    by_test false differ there rest =
        ⊎_elim
        (λ here. (or_left _ _ here, ap (λ n. n == t) (sym (eqb-true x a here)) ∙ differ))
        (λ later. let it = rest later in (or_right (x == a) _ it.0, it.1))
        (or_cases (x == a) (stands_in (without t xs) a) there)

pub without_in : (t a : ℕ) (xs : List ℕ) → stands_in xs a ≡ true → (a == t) ≡ false → stands_in (without t xs) a ≡ true
without_in t a [] is other = is
without_in t a (x ∷ xs) is other = by_test (x == t) refl (or_cases (x == a) (stands_in xs a) is) (λ there. without_in t a xs there other)
  where
    by_test : (b : Bool) → (x == t) ≡ b → ((x == a) ≡ true) ⊎ (stands_in xs a ≡ true) → (stands_in xs a ≡ true → stands_in (without t xs) a ≡ true) → stands_in (cond (not b) (x ∷ without t xs) (without t xs)) a ≡ true
    by_test true same (inl here) rest = absurd (both_ways (a == t) other (ap (λ n. n == t) (sym (eqb-true x a here)) ∙ same))
    by_test true same (inr later) rest = rest later
    by_test false differ (inl here) rest = or_left _ _ here
    by_test false differ (inr later) rest = or_right (x == a) _ (rest later)

-- two tests that are true together are equal
pub same_bool : (a b : Bool) → (a ≡ true → b ≡ true) → (b ≡ true → a ≡ true) → a ≡ b
same_bool true b there back = sym (there refl)
same_bool false true there back = back refl
same_bool false false there back = refl

-- all that those left precede are left
pub record IsLate (members : List Member) (left : List ℕ) : Type 0 where
  pub later : (t u : ℕ) → stands_in left t ≡ true → precedes members t u ≡ true → stands_in left u ≡ true

not_equal : (t u : ℕ) (b : Bool) → (not (t == u) && b) ≡ true → ((t == u) ≡ false) × (b ≡ true)
not_equal t u b is = let parts = and_parts (not (t == u)) b is in (not-true _ parts.0, parts.1)

closed_late : (members : List Member) (left : List ℕ) → IsLate members left → IsClosed (stands_in left) (backwards [] members)
closed_late members left late =
    record { later = λ t u is other stood. late.later t u is (and_from _ _ (not_from_false _ other) (sym (stood-backwards members t u) ∙ stood)) }

-- so one waits for one left by either test
waits_same : (members : List Member) (left : List ℕ) → IsLate members left → (u : ℕ) → list_any (λ t. follows members t u) left ≡ list_any (λ t. precedes members t u) left
waits_same members left late u =
    same_bool _ _
    (λ near.
    let one = any-number (λ t. follows members t u) left near in
    let it = before_link (backwards [] members) one.0 u one.2 in
    any_from (λ t. precedes members t u) left one.0 one.1 (and_from _ _ (not_from_false _ it.0) (sym (stood-backwards members one.0 u) ∙ it.1)))
    (λ far.
    let one = any-number (λ t. precedes members t u) left far in
    let parts = not_equal one.0 u (stands_before members one.0 u) one.2 in
    let it = link_before (stands_in left) (backwards [] members) one.0 u (closed_late members left late) one.1 parts.0 (stood-backwards members one.0 u ∙ parts.1) in
    any_from (λ t. follows members t u) left it.0 it.1 it.2)

next_same : (members : List Member) (left : List ℕ) → IsLate members left → next (follows members) left ≡ next (precedes members) left
next_same members left late = λ i. find (λ u. not (waits_same members left late u i)) left

-- all that the others precede are left once one that waits for none is out
late_without : (members : List Member) (left : List ℕ) (t : ℕ) → IsLate members left → next (precedes members) left ≡ Some t → IsLate members (without t left)
late_without members left t late out =
    record {
      later = λ a u is before.
          let from = in_without t a left is in
          without_in t u left (late.later a u from.0 before)
          (false_from_ne_true (u == t) (λ same.
          both_ways (list_any (λ a. precedes members a t) left) (not-true _ (find-some (λ u. not (list_any (λ t. precedes members t u) left)) left t out).1)
          (any_from (λ a. precedes members a t) left a from.0 (ap (precedes members a) (sym (eqb-true u t same)) ∙ before))));
    }

pub turns_some : (n : ℕ) (waits : ℕ → ℕ → Bool) (left : List ℕ) (t : ℕ) → next waits left ≡ Some t → turns (suc n) waits left ≡ t ∷ turns n waits (without t left)
turns_some n waits left t is = rw (is, turns) refl

pub turns_none : (n : ℕ) (waits : ℕ → ℕ → Bool) (left : List ℕ) → next waits left ≡ None → turns (suc n) waits left ≡ []
turns_none n waits left is = rw (is, turns) refl

late_turns : (n : ℕ) (members : List Member) (left : List ℕ) → IsLate members left → turns n (follows members) left ≡ turns n (precedes members) left
late_turns zero members left late = refl
late_turns (suc n) members left late = by_next (next (precedes members) left) refl (λ t out. late_turns n members (without t left) (late_without members left t late out))
  where
    by_next : (out : Option ℕ) → next (precedes members) left ≡ out → ((t : ℕ) → next (precedes members) left ≡ Some t → turns n (follows members) (without t left) ≡ turns n (precedes members) (without t left)) → turns (suc n) (follows members) left ≡ turns (suc n) (precedes members) left
    by_next None is rest = turns_none n (follows members) left (next_same members left late ∙ is) ∙ sym (turns_none n (precedes members) left is)
    by_next (Some t) is rest =
        turns_some n (follows members) left t (next_same members left late ∙ is)
        ∙ ap (λ ts. t ∷ ts) (rest t is)
        ∙ sym (turns_some n (precedes members) left t is)

-- at the start all are left
whole_any : (u : ℕ) (r : Member) (members : List Member) (left : List ℕ) → IsWhole members left → list_any (is_of u r) members ≡ true → stands_in left u ≡ true
whole_any u r [] left whole any = absurd (true≢false (sym any))
whole_any u r (x ∷ members) left whole any =
    ⊎_elim
    (λ here. ap (stands_in left) (sym (eqb-true x.number u (and_parts (x.number == u) (same_place r x) here).0)) ∙ whole.0)
    (λ later. whole_any u r members left whole.1 later)
    (or_cases (is_of u r x) (list_any (is_of u r) members) any)

whole_before : (members : List Member) (left : List ℕ) (t u : ℕ) → IsWhole members left → stands_before members t u ≡ true → stands_in left u ≡ true
whole_before [] left t u whole stands = absurd (true≢false (sym stands))
whole_before (r ∷ members) left t u whole stands =
    ⊎_elim
    (λ here. whole_any u r members left whole.1 (and_parts (r.number == t) (list_any (is_of u r) members) here).1)
    (λ later. whole_before members left t u whole.1 later)
    (or_cases (r.number == t && list_any (is_of u r) members) (stands_before members t u) stands)

pub same_turns : (members : List Member) (left : List ℕ) → IsWhole members left → turns (length left) (follows members) left ≡ turns (length left) (precedes members) left
same_turns members left whole = late_turns (length left) members left (record { later = λ t u is before. whole_before members left t u whole (not_equal t u (stands_before members t u) before).1 })
