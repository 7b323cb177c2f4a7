-- The tables of links.
use Rattle.std.proofs.Common.{◌≡◌, ◌≢◌, refl, sym, ap, ◌∙◌, ℕ, zero, suc, ◌+◌, ◌<◌, ◌≤◌, Bool, true, false, ◌&&◌, cond, List, [], ◌∷◌, ◌++◌, length, get_or, set, take, Option, None, Some, arith, add-one, ⊎_elim, subst, length-append, append-nil}
use Rattle.std.specs.Prelude.{◌==◌, slice_get, slice_index_or, option_map, unwrap_or, IfSome}
use Rattle.std.proofs.lemmas.Bool.{eq-eqb, ne_eqb, cases_eq, cond-true, cond-false}
use Rattle.std.proofs.lemmas.List.{get_or-set_other, get_or-set_same}
use Rattle.std.proofs.Math.ListN.{length-set}
use Rattle.std.proofs.lemmas.Option.{unwrap_or-slice_get, get_or_from_slice_get, slice_get-get_or}
use Rattle.hem_regroup.specs.declared.member.Member.{Member}
use Rattle.hem_regroup.specs.declared.last.LastNumbers.{LastNumbers}
use Rattle.hem_regroup.specs.Members.{same_place, IsBelow}
use Rattle.hem_regroup.specs.Last.{number_at}
use Rattle.hem_regroup.specs.Links.{Link, last_at, link_from, links, backwards}
use Rattle.hem_regroup.specs.Graph.{targets, entering, any_one, joined, AreTables, IsBuilt, members_before, last_number}

-- one more list with nothing in it
pub none_more : (xs : List (List ℕ)) (t : ℕ) → slice_index_or xs t [] ≡ [] → slice_index_or (xs ++ [] ∷ []) t [] ≡ []
none_more [] zero is = refl
none_more [] (suc t) is = refl
none_more (x ∷ xs) zero is = is
none_more (x ∷ xs) (suc t) is = none_more xs t is

-- one more link
targets-more : (ls : List Link) (l : Link) (t : ℕ) → targets (ls ++ l ∷ []) t ≡ targets ls t ++ cond (l.from == t) (l.to ∷ []) []
targets-more [] l t = refl
targets-more (x ∷ ls) l t = by_test (x.from == t) (targets-more ls l t)
  where
    by_test : (b : Bool) → targets (ls ++ l ∷ []) t ≡ targets ls t ++ cond (l.from == t) (l.to ∷ []) [] → cond b (x.to ∷ targets (ls ++ l ∷ []) t) (targets (ls ++ l ∷ []) t) ≡ cond b (x.to ∷ targets ls t) (targets ls t) ++ cond (l.from == t) (l.to ∷ []) []
    by_test true rest = ap (λ us. x.to ∷ us) rest
    by_test false rest = rest

entering-more : (passes : ℕ → Bool) (ls : List Link) (l : Link) (u : ℕ) → entering passes (ls ++ l ∷ []) u ≡ entering passes ls u + cond (l.to == u && passes l.from) 1 0
entering-more passes [] l u = omega arith
entering-more passes (x ∷ ls) l u = let more = entering-more passes ls l u in omega (arith, more)

entering-le : (passes : ℕ → Bool) (ls : List Link) (u : ℕ) → entering passes ls u ≤ length ls
entering-le passes [] u = omega arith
entering-le passes (l ∷ ls) u = let rest = entering-le passes ls u in one (l.to == u && passes l.from) (entering passes ls u) (length ls) rest
  where
    one : (b : Bool) (m n : ℕ) → m ≤ n → cond b 1 0 + m ≤ suc n
    one true m n less = omega arith
    one false m n less = omega arith

counted_more : (from to u m : ℕ) (counts : List ℕ) → to < length counts → u < length counts → get_or counts u 0 ≡ m → get_or (set counts to (get_or counts to 0 + 1)) u 0 ≡ m + cond ((to == u) && true) 1 0
counted_more from to u m counts within inside is =
    ⊎_elim
    (λ same.
    ap (λ n. get_or (set counts n (get_or counts n 0 + 1)) u 0) same ∙ get_or-set_same counts u (get_or counts u 0 + 1) 0 inside ∙ ap (λ n. n + 1) is
    ∙ ap (λ (b : Bool). m + cond (b && true) 1 0) (sym (eq-eqb to u same)))
    (λ other.
    get_or-set_other counts to u (get_or counts to 0 + 1) 0 (λ same. other (sym same)) ∙ is
    ∙ plus_zero m ∙ ap (λ (b : Bool). m + cond (b && true) 1 0) (sym (ne_eqb to u other)))
    (cases_eq to u)
  where
    plus_zero : (m : ℕ) → m ≡ m + 0
    plus_zero m = omega arith

-- the tables of one more link
pub tables_more : (count : ℕ) (ls : List Link) (from to : ℕ) (nexts after : List (List ℕ)) (counts new : List ℕ) → AreTables count ls nexts counts → from < count → to < count → slice_get after from ≡ Some (slice_index_or nexts from [] ++ to ∷ []) → ((t : ℕ) → t ≢ from → slice_get after t ≡ slice_get nexts t) → length after ≡ length nexts → new ≡ set counts to (get_or counts to 0 + 1) → AreTables count (ls ++ record { from = from; to = to } ∷ []) after new
tables_more count ls from to nexts after counts new tables from_below to_below there others size written =
    record {
      nexts_size = size ∙ tables.nexts_size;
      counts_size = ap length written ∙ length-set counts to (get_or counts to 0 + 1) ∙ tables.counts_size;
      nexts_are = λ t below.
          ⊎_elim
          (λ same.
          ap (λ t. slice_index_or after t []) same
          ∙ get_or_from_slice_get after from (slice_index_or nexts from [] ++ to ∷ []) [] there
          ∙ ap (λ us. us ++ to ∷ []) (tables.nexts_are from from_below)
          ∙ ap (λ (b : Bool). targets ls from ++ cond b (to ∷ []) []) (sym (eq-eqb from from refl))
          ∙ sym (targets-more ls (record { from = from; to = to }) from)
          ∙ ap (targets (ls ++ record { from = from; to = to } ∷ [])) (sym same))
          (λ other.
          sym (unwrap_or-slice_get after t [])
          ∙ ap (λ o. unwrap_or o []) (others t other)
          ∙ unwrap_or-slice_get nexts t []
          ∙ tables.nexts_are t below
          ∙ sym (append-nil (targets ls t))
          ∙ ap (λ (b : Bool). targets ls t ++ cond b (to ∷ []) []) (sym (ne_eqb from t (λ same. other (sym same))))
          ∙ sym (targets-more ls (record { from = from; to = to }) t))
          (cases_eq t from);
      counts_are = λ u below.
          ap (λ xs. get_or xs u 0) written
          ∙ counted_more from to u (entering any_one ls u) counts (omega (arith, tables.counts_size)) (omega (arith, tables.counts_size)) (tables.counts_are u below)
          ∙ sym (entering-more any_one ls (record { from = from; to = to }) u);
    }

-- members that stand before a place
backwards-more : (seen members : List Member) (k : ℕ) (member : Member) → slice_get members k ≡ Some member → backwards seen (take (suc k) members) ≡ member ∷ backwards seen (take k members)
backwards-more seen [] k member there = cc
backwards-more seen (r ∷ members) zero member there = let same : r ≡ member = cc in ap (λ r. r ∷ seen) same
backwards-more seen (r ∷ members) (suc k) member there = backwards-more (r ∷ seen) members k member there

pub before-more : (members : List Member) (k : ℕ) (d : Member) → k < length members → members_before (k + 1) members ≡ get_or members k d ∷ members_before k members
before-more members k d within = rw add-one (backwards-more [] members k (get_or members k d) (slice_get-get_or members k d within))

before_all : (seen members : List Member) → backwards seen (take (length members) members) ≡ backwards seen members
before_all seen [] = refl
before_all seen (r ∷ members) = before_all (r ∷ seen) members

pub before-all : (members : List Member) → members_before (length members) members ≡ backwards [] members
before-all members = before_all [] members

length-before : (seen members : List Member) (k : ℕ) → length (backwards seen (take k members)) ≤ length seen + k
length-before seen [] zero = omega arith
length-before seen [] (suc k) = omega arith
length-before seen (r ∷ members) zero = omega arith
length-before seen (r ∷ members) (suc k) = let rest = length-before (r ∷ seen) members k in omega (arith, rest)

below_before : (count : ℕ) (seen members : List Member) (k : ℕ) → IsBelow count seen → IsBelow count members → IsBelow count (backwards seen (take k members))
below_before count seen [] zero first all = first
below_before count seen [] (suc k) first all = first
below_before count seen (r ∷ members) zero first all = first
below_before count seen (r ∷ members) (suc k) first all = below_before count (r ∷ seen) members k (all.0, first) all.1

pub below-at : (count : ℕ) (members : List Member) (k : ℕ) (d : Member) → k < length members → IsBelow count members → (get_or members k d).number < count
below-at count [] k d within below = absurd (omega arith)
below-at count (r ∷ members) zero d within below = below.0
below-at count (r ∷ members) (suc k) d within below = below-at count members k d (omega arith) below.1

last_below : (count : ℕ) (member : Member) (seen : List Member) (n : ℕ) → IsBelow count seen → last_number member seen ≡ Some n → n < count
last_below count member [] n below is = cc
last_below count member (x ∷ seen) n below is = by_place (same_place x member) is (last_below count member seen n below.1)
  where
    by_place : (b : Bool) → option_map (λ r. r.number) (cond b (Some x) (last_at member seen)) ≡ Some n → (last_number member seen ≡ Some n → n < count) → n < count
    by_place true is rest = let same : x.number ≡ n = cc in omega (arith, below.0)
    by_place false is rest = rest is

-- the number of the last member there
pub from_below : (count : ℕ) (members : List Member) (k : ℕ) (member : Member) (n : ℕ) → IsBelow count members → last_number member (members_before k members) ≡ Some n → n < count
from_below count members k member n below is = last_below count member (members_before k members) n (below_before count [] members k tt below) is

length-link_from : (last : Option Member) (member : Member) → length (link_from last member) ≤ 1
length-link_from None member = omega arith
length-link_from (Some last) member = by_test (last.number == member.number)
  where
    by_test : (b : Bool) → length (cond {A = List Link} b [] (record { from = last.number; to = member.number } ∷ [])) ≤ 1
    by_test true = omega arith
    by_test false = omega arith

length-links : (seen : List Member) → length (links seen) ≤ length seen
length-links [] = omega arith
length-links (member ∷ seen) =
    let rest = length-links seen in
    let one = length-link_from (last_at member seen) member in
    let both = length-append (links seen) (link_from (last_at member seen) member) in
    omega (arith, rest, one, both)

-- so few links lead to one
pub few_enter : (passes : ℕ → Bool) (members : List Member) (k u : ℕ) → entering passes (links (members_before k members)) u ≤ k
few_enter passes members k u =
    let one = entering-le passes (links (members_before k members)) u in
    let two = length-links (members_before k members) in
    let three = length-before [] members k in
    omega (arith, one, two, three)

-- what the tables have where no link is added
pub no_link : (count : ℕ) (ls more : List Link) (nexts : List (List ℕ)) (counts : List ℕ) → more ≡ [] → AreTables count ls nexts counts → AreTables count (ls ++ more) nexts counts
no_link count ls more nexts counts none tables = subst (λ ls. AreTables count ls nexts counts) (sym (ap (λ more. ls ++ more) none ∙ append-nil ls)) tables

pub joined-same : (from to : ℕ) → from ≡ to → joined (Some from) to ≡ []
joined-same from to same = cond-true (from == to) [] (record { from = from; to = to } ∷ []) (eq-eqb from to same)

pub joined-other : (from to : ℕ) → from ≢ to → joined (Some from) to ≡ record { from = from; to = to } ∷ []
joined-other from to other = cond-false (from == to) [] (record { from = from; to = to } ∷ []) (ne_eqb from to other)

link_joined : (last : Option Member) (member : Member) → link_from last member ≡ joined (option_map (λ r. r.number) last) member.number
link_joined None member = refl
link_joined (Some last) member = refl

-- the tables with one member more
pub built_more : (count : ℕ) (seen : List Member) (member : Member) (nexts : List (List ℕ)) (counts : List ℕ) (last new : LastNumbers) → ((other : Member) → number_at last other ≡ last_number other seen) → AreTables count (links seen ++ joined (number_at last member) member.number) nexts counts → ((other : Member) → number_at new other ≡ cond (same_place member other) (Some member.number) (number_at last other)) → IsBuilt count (member ∷ seen) nexts counts new
built_more count seen member nexts counts last new was tables replaced =
    record {
      tables = subst (λ ls. AreTables count (links seen ++ ls) nexts counts) (ap (λ last. joined last member.number) (was member) ∙ sym (link_joined (last_at member seen) member)) tables;
      last_is = λ other. replaced other ∙ ap (cond (same_place member other) (Some member.number)) (was other) ∙ by_place (same_place member other) other;
    }
  where
    by_place : (b : Bool) (other : Member) → cond b (Some member.number) (last_number other seen) ≡ option_map (λ r. r.number) (cond b (Some member) (last_at other seen))
    by_place true other = refl
    by_place false other = refl

-- a member of no firing
abbrev pub no_member : Member
no_member = record { number = 0; firing = record { line = record { 0 = 0 }; object = record { 0 = 0 }; rule = record { 0 = 0 }; me = None } }

-- the tables with the member at a place
pub built_next : (count : ℕ) (members : List Member) (k : ℕ) (nexts new_nexts : List (List ℕ)) (counts new_counts : List ℕ) (last new : LastNumbers) → k < length members → IsBuilt count (members_before k members) nexts counts last → AreTables count (links (members_before k members) ++ joined (number_at last (get_or members k no_member)) (get_or members k no_member).number) new_nexts new_counts → ((other : Member) → number_at new other ≡ cond (same_place (get_or members k no_member) other) (Some (get_or members k no_member).number) (number_at last other)) → IsBuilt count (members_before (k + 1) members) new_nexts new_counts new
built_next count members k nexts new_nexts counts new_counts last new within built tables replaced =
    subst (λ seen. IsBuilt count seen new_nexts new_counts new) (sym (before-more members k no_member within))
    (built_more count (members_before k members) (get_or members k no_member) new_nexts new_counts last new built.last_is tables replaced)

-- so few links lead to a member's transaction
pub room_for : (count : ℕ) (members : List Member) (k u : ℕ) (nexts : List (List ℕ)) (counts : List ℕ) → AreTables count (links (members_before k members)) nexts counts → u < count → get_or counts u 0 ≤ k
room_for count members k u nexts counts tables below = let few = few_enter any_one members k u in let are = tables.counts_are u below in omega (arith, few, are)

-- the last number at a member's place is below the count
pub all_below : (count : ℕ) (members : List Member) (k : ℕ) (member : Member) (last : Option ℕ) → IsBelow count members → last ≡ last_number member (members_before k members) → IfSome last (λ from. from < count)
all_below count members k member None below is = tt
all_below count members k member (Some from) below is = from_below count members k member from below (sym is)
