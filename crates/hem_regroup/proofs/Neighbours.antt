-- A transaction that one not out precedes follows one not out.
use Rattle.std.proofs.Common.{◌≡◌, refl, sym, ap, ◌∙◌, ℕ, Bool, true, false, ◌&&◌, ◌||◌, cond, List, [], ◌∷◌, ◌++◌, Option, None, Some, inl, inr, ⊎_elim, ◌⊎◌, subst}
use Rattle.std.specs.Prelude.{◌==◌}
use Rattle.std.specs.List.{list_any}
use Rattle.std.proofs.lemmas.Bool.{eq-eqb, eqb-true, or_cases, or_left, or_right, and_parts, and_from, both_ways, true≢false}
use Rattle.std.proofs.lemmas.List.Folds.{list_any-append}
use Rattle.hem_regroup.specs.declared.member.Member.{Member}
use Rattle.hem_regroup.specs.Members.{same_place, is_of, stands_before}
use Rattle.hem_regroup.specs.Links.{Link, last_at, link_from, links, backwards, is_linked}

-- whether a member of t stands at the place of a later member
abbrev is_by : ℕ → Member → Member → Bool
is_by t later earlier = earlier.number == t && same_place earlier later

-- whether a member of t stands before one of u at some place, of members the last of which stands first
abbrev pub stood_before : List Member → ℕ → ℕ → Bool
stood_before [] t u = false
stood_before (r ∷ seen) t u = (r.number == u && list_any (is_by t r) seen) || stood_before seen t u

-- whether one of t among the earlier members stands at the place of one of u among the later ones
abbrev crosses : List Member → List Member → ℕ → ℕ → Bool
crosses [] members t u = false
crosses (p ∷ seen) members t u = (p.number == t && list_any (is_of u p) members) || crosses seen members t u

crosses-none : (seen : List Member) (t u : ℕ) → crosses seen [] t u ≡ false
crosses-none [] t u = refl
crosses-none (p ∷ seen) t u = rw (crosses-none seen t u) (and_no (p.number == t))
  where
    and_no : (b : Bool) → (b && false || false) ≡ false
    and_no true = refl
    and_no false = refl

crosses-step : (a b c d e f : Bool) → (a && (b && c || d) || (b && e || f)) ≡ (b && (a && c || e) || (a && d || f))
crosses-step true true c d e f = by_cases c d e f
  where
    by_cases : (c d e f : Bool) → (c || d || (e || f)) ≡ (c || e || (d || f))
    by_cases true d e f = refl
    by_cases false true true f = refl
    by_cases false true false f = refl
    by_cases false false true f = refl
    by_cases false false false f = refl
crosses-step true false c true e true = refl
crosses-step true false c true e false = refl
crosses-step true false c false e f = refl
crosses-step false true c d true f = refl
crosses-step false true c d false f = refl
crosses-step false false c d e f = refl

crosses-more : (seen : List Member) (r : Member) (members : List Member) (t u : ℕ) → crosses seen (r ∷ members) t u ≡ (r.number == u && list_any (is_by t r) seen || crosses seen members t u)
crosses-more [] r members t u = none (r.number == u)
  where
    none : (b : Bool) → false ≡ (b && false || false)
    none true = refl
    none false = refl
crosses-more (p ∷ seen) r members t u =
    ap (λ x. p.number == t && (r.number == u && same_place p r || list_any (is_of u p) members) || x) (crosses-more seen r members t u)
    ∙ crosses-step (p.number == t) (r.number == u) (same_place p r) (list_any (is_of u p) members) (list_any (is_by t r) seen) (crosses seen members t u)

shuffle : (a b c d e : Bool) → (a || b || (c || d) || e) ≡ (b || (a || d) || (c || e))
shuffle true true c d e = refl
shuffle true false c d e = refl
shuffle false true c d e = refl
shuffle false false true true e = refl
shuffle false false true false e = refl
shuffle false false false d e = refl

-- read from either end the same stand before each other
stood-onto : (seen members : List Member) (t u : ℕ) → stood_before (backwards seen members) t u ≡ (stood_before seen t u || crosses seen members t u || stands_before members t u)
stood-onto seen [] t u = rw (crosses-none seen t u) (last (stood_before seen t u))
  where
    last : (b : Bool) → b ≡ (b || false || false)
    last true = refl
    last false = refl
stood-onto seen (r ∷ members) t u =
    stood-onto (r ∷ seen) members t u
    ∙ shuffle (r.number == u && list_any (is_by t r) seen) (stood_before seen t u) (r.number == t && list_any (is_of u r) members) (crosses seen members t u) (stands_before members t u)
    ∙ ap (λ x. stood_before seen t u || x || ((r.number == t && list_any (is_of u r) members) || stands_before members t u)) (sym (crosses-more seen r members t u))

pub stood-backwards : (members : List Member) (t u : ℕ) → stood_before (backwards [] members) t u ≡ stands_before members t u
stood-backwards members t u = stood-onto [] members t u

-- places
same-join : (p x r : Member) → same_place p r ≡ true → same_place x r ≡ true → same_place p x ≡ true
same-join p x r first second =
    let one = and_parts (p.firing.line.0 == r.firing.line.0) (p.firing.object.0 == r.firing.object.0) first in
    let other = and_parts (x.firing.line.0 == r.firing.line.0) (x.firing.object.0 == r.firing.object.0) second in
    and_from _ _
    (eq-eqb _ _ (eqb-true _ _ one.0 ∙ sym (eqb-true _ _ other.0)))
    (eq-eqb _ _ (eqb-true _ _ one.1 ∙ sym (eqb-true _ _ other.1)))

-- what one of t among the earlier members at a member's place and the last member there say
any_at_last : (t : ℕ) (r x : Member) (seen : List Member) → same_place x r ≡ true → list_any (is_by t r) seen ≡ true → list_any (is_by t x) seen ≡ true
any_at_last t r x [] there any = any
any_at_last t r x (p ∷ seen) there any =
    ⊎_elim
    (λ here. let parts = and_parts (p.number == t) (same_place p r) here in or_left (is_by t x p) _ (and_from _ _ parts.0 (same-join p x r parts.1 there)))
    (λ later. or_right (is_by t x p) _ (any_at_last t r x seen there later))
    (or_cases (is_by t r p) (list_any (is_by t r) seen) any)

-- the last member at a place is of t, or stands after one of t
abbrev IsAfter : ℕ → Member → List Member → Type 0
IsAfter t r seen = (q : Member) × (last_at r seen ≡ Some q) × ((t == q.number) ≡ false → stood_before seen t q.number ≡ true)

-- so it is where one of t stands at the place
last_after : (t : ℕ) (r : Member) (seen : List Member) → list_any (is_by t r) seen ≡ true → IsAfter t r seen
last_after t r [] any = absurd (true≢false (sym any))
last_after t r (x ∷ seen) any = by_place (same_place x r) refl (or_cases (is_by t r x) (list_any (is_by t r) seen) any) (last_after t r seen)
  where
    by_place : (b : Bool) → same_place x r ≡ b → (is_by t r x ≡ true) ⊎ (list_any (is_by t r) seen ≡ true) → (list_any (is_by t r) seen ≡ true → IsAfter t r seen) → (q : Member) × (cond b (Some x) (last_at r seen) ≡ Some q) × ((t == q.number) ≡ false → stood_before (x ∷ seen) t q.number ≡ true)
    by_place true there (inl here) earlier = (x, refl, λ other. absurd (both_ways (t == x.number) other (eq-eqb _ _ (sym (eqb-true _ _ (and_parts (x.number == t) (same_place x r) here).0)))))
    by_place true there (inr before) earlier = (x, refl, λ other. or_left _ _ (and_from _ _ (eq-eqb x.number x.number refl) (any_at_last t r x seen there before)))
    by_place false there (inl here) earlier = absurd (both_ways (same_place x r) there (and_parts (x.number == t) (same_place x r) here).1)
    by_place false there (inr before) earlier = let it = earlier before in (it.0, it.1, λ other. or_right (x.number == it.0.number && list_any (is_by t x) seen) _ (it.2 other))

linked_left : (ls more : List Link) (t u : ℕ) → is_linked ls t u ≡ true → is_linked (ls ++ more) t u ≡ true
linked_left ls more t u is = list_any-append (λ l. l.from == t && l.to == u) ls more ∙ or_left _ _ is

linked_right : (ls more : List Link) (t u : ℕ) → is_linked more t u ≡ true → is_linked (ls ++ more) t u ≡ true
linked_right ls more t u is = list_any-append (λ l. l.from == t && l.to == u) ls more ∙ or_right (is_linked ls t u) _ is

-- the link from the last member
linked_last : (q r : Member) (last : Option Member) → last ≡ Some q → (q.number == r.number) ≡ false → is_linked (link_from last r) q.number r.number ≡ true
linked_last q r None is other = cc
linked_last q r (Some x) is other =
    let same : x ≡ q = cc in
    ap (λ x. is_linked (link_from (Some x) r) q.number r.number) same ∙ rw (other, eq-eqb q.number q.number refl, eq-eqb r.number r.number refl) refl

-- with one that passes a test all that it stands before pass it
pub record IsClosed (passes : ℕ → Bool) (seen : List Member) : Type 0 where
  pub later : (t u : ℕ) → passes t ≡ true → (t == u) ≡ false → stood_before seen t u ≡ true → passes u ≡ true

closed_tail : (passes : ℕ → Bool) (r : Member) (seen : List Member) → IsClosed passes (r ∷ seen) → IsClosed passes seen
closed_tail passes r seen closed = record { later = λ t u is other stood. closed.later t u is other (or_right (r.number == u && list_any (is_by t r) seen) _ stood) }

-- one that passes a test leads to u
abbrev HasLink : (ℕ → Bool) → List Link → ℕ → Type 0
HasLink passes ls u = (w : ℕ) × (passes w ≡ true) × (is_linked ls w u ≡ true)

from_last : (passes : ℕ → Bool) (r : Member) (seen : List Member) (t : ℕ) → IsClosed passes (r ∷ seen) → passes t ≡ true → (t == r.number) ≡ false → IsAfter t r seen → (stood_before seen t r.number ≡ true → HasLink passes (links seen) r.number) → HasLink passes (links (r ∷ seen)) r.number
from_last passes r seen t closed is other after earlier = by_number (after.0.number == r.number) refl
  where
    by_number : (b : Bool) → (after.0.number == r.number) ≡ b → HasLink passes (links (r ∷ seen)) r.number
    by_number true same =
        let at : after.0.number ≡ r.number = eqb-true _ _ same in
        let it = earlier (ap (stood_before seen t) (sym at) ∙ after.2 (ap (λ n. t == n) at ∙ other)) in
        (it.0, it.1, linked_left (links seen) (link_from (last_at r seen) r) it.0 r.number it.2)
    by_number false differ = (after.0.number, passes_last (t == after.0.number) refl, linked_right (links seen) (link_from (last_at r seen) r) after.0.number r.number (linked_last after.0 r (last_at r seen) after.1 differ))
      where
        passes_last : (b : Bool) → (t == after.0.number) ≡ b → passes after.0.number ≡ true
        passes_last true same = ap passes (sym (eqb-true _ _ same)) ∙ is
        passes_last false apart = closed.later t after.0.number is apart (or_right (r.number == after.0.number && list_any (is_by t r) seen) _ (after.2 apart))

-- one that one that passes stands before follows one that passes
pub link_before : (passes : ℕ → Bool) (seen : List Member) (t u : ℕ) → IsClosed passes seen → passes t ≡ true → (t == u) ≡ false → stood_before seen t u ≡ true → HasLink passes (links seen) u
link_before passes [] t u closed is other stood = absurd (true≢false (sym stood))
link_before passes (r ∷ seen) t u closed is other stood =
    let more = link_before passes seen t u (closed_tail passes r seen closed) is other in
    ⊎_elim
    (λ here.
    let parts = and_parts (r.number == u) (list_any (is_by t r) seen) here in
    let at : r.number ≡ u = eqb-true _ _ parts.0 in
    subst (λ v. HasLink passes (links (r ∷ seen)) v) at
    (from_last passes r seen t closed is (ap (λ n. t == n) at ∙ other) (last_after t r seen parts.1) (λ stood. subst (λ v. HasLink passes (links seen) v) (sym at) (more (ap (stood_before seen t) (sym at) ∙ stood)))))
    (λ before. let it = more before in (it.0, it.1, linked_left (links seen) (link_from (last_at r seen) r) it.0 u it.2))
    (or_cases (r.number == u && list_any (is_by t r) seen) (stood_before seen t u) stood)

-- the last member at a place is there
last_there : (q r : Member) (seen : List Member) → last_at r seen ≡ Some q → list_any (is_by q.number r) seen ≡ true
last_there q r [] is = cc
last_there q r (x ∷ seen) is = by_place (same_place x r) refl is (last_there q r seen)
  where
    by_place : (b : Bool) → same_place x r ≡ b → cond b (Some x) (last_at r seen) ≡ Some q → (last_at r seen ≡ Some q → list_any (is_by q.number r) seen ≡ true) → list_any (is_by q.number r) (x ∷ seen) ≡ true
    by_place true there here earlier = let same : x ≡ q = cc in or_left _ _ (and_from _ _ (eq-eqb _ _ (ap (λ x. x.number) same)) there)
    by_place false there here earlier = or_right (is_by q.number r x) _ (earlier here)

-- what a link to a member says
link_says : (r : Member) (last : Option Member) (t u : ℕ) → is_linked (link_from last r) t u ≡ true → (q : Member) × (last ≡ Some q) × (q.number ≡ t) × (r.number ≡ u) × ((t == u) ≡ false)
link_says r None t u is = absurd (true≢false (sym is))
link_says r (Some q) t u is = by_number (q.number == r.number) refl is
  where
    by_number : (b : Bool) → (q.number == r.number) ≡ b → is_linked (cond b [] (record { from = q.number; to = r.number } ∷ [])) t u ≡ true → (x : Member) × (Some q ≡ Some x) × (x.number ≡ t) × (r.number ≡ u) × ((t == u) ≡ false)
    by_number true same none = absurd (true≢false (sym none))
    by_number false differ some =
        ⊎_elim
        (λ both.
        let parts = and_parts (q.number == t) (r.number == u) both in
        let from : q.number ≡ t = eqb-true _ _ parts.0 in
        let to : r.number ≡ u = eqb-true _ _ parts.1 in
        (q, refl, from, to, sym (ap (λ m. m == r.number) from ∙ ap (λ n. t == n) to) ∙ differ))
        (λ none. absurd (true≢false (sym none)))
        (or_cases (q.number == t && r.number == u) false some)

-- who leads to one stands before it, and is another
pub before_link : (seen : List Member) (t u : ℕ) → is_linked (links seen) t u ≡ true → ((t == u) ≡ false) × (stood_before seen t u ≡ true)
before_link [] t u is = absurd (true≢false (sym is))
before_link (r ∷ seen) t u is =
    ⊎_elim
    (λ earlier. let it = before_link seen t u earlier in (it.0, or_right (r.number == u && list_any (is_by t r) seen) _ it.1))
    (λ here.
    let it = link_says r (last_at r seen) t u here in
    (it.4, or_left _ _ (and_from _ _ (eq-eqb _ _ it.3) (subst (λ n. list_any (is_by n r) seen ≡ true) it.2 (last_there it.0 r seen it.1)))))
    (or_cases (is_linked (links seen) t u) (is_linked (link_from (last_at r seen) r) t u) (sym (list_any-append (λ l. l.from == t && l.to == u) (links seen) (link_from (last_at r seen) r)) ∙ is))
