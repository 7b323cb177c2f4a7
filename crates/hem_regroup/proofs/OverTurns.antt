-- The loop over the turns gives the order.
use Rattle.std.proofs.Common.{◌≡◌, ◌≢◌, refl, sym, ap, ◌∙◌, ℕ, suc, ◌+◌, ◌-◌, ◌<◌, ◌≤◌, Bool, true, false, ◌&&◌, cond, List, [], ◌∷◌, ◌++◌, append_assoc, append-nil, length, Some, arith, ⊎_elim}
use Rattle.std.specs.Prelude.{◌==◌, slice_index}
use Rattle.std.specs.List.{list_any}
use Rattle.std.specs.Ordering.{nat_cmp, is_gt}
use Rattle.std.specs.BTreeSet.{BTreeSet}
use Rattle.std.specs.BTreeMap.{is_at}
use Rattle.std.proofs.lemmas.Bool.{and_parts, or_cases, eqb-true, true≢false}
use Rattle.std.proofs.lemmas.Option.{slice_get-get_or}
use Rattle.hem_regroup.specs.declared.member.Member.{Member}
use Rattle.hem_law.specs.Orders.{stands_in}
use Rattle.hem_regroup.specs.Members.{same_place, IsWhole, IsBelow}
use Rattle.hem_regroup.specs.Turns.{without, turns}
use Rattle.hem_regroup.specs.Links.{Link, is_linked, links, link_from, last_at, backwards}
use Rattle.hem_regroup.specs.Graph.{targets, entering, any_one, AreTables}
use Rattle.hem_regroup.specs.Ready.{is_ready, IsReleased, Ascends, IsWaiting, IsInTurn}
use Rattle.hem_regroup.proofs.SameTurns.{turns_some, turns_none}
use Rattle.hem_regroup.proofs.InTurn.{next_ready, next_none, waiting_next}

-- the order of numbers as the set keeps it
pub at_other : (t u : ℕ) → u ≢ t → is_at (nat_cmp t) u ≡ false
at_other t u other = grind arith

pub least_at : (t u : ℕ) → is_gt (nat_cmp t u) ≡ false → t ≤ u
least_at t u is = grind arith

pub none_ready : (ready : BTreeSet ℕ) → (0 < length ready.keys → ⊥) → (u : ℕ) → is_ready ready u ≡ false
none_ready ready none u = of_keys ready.keys none
  where
    of_keys : (keys : List ℕ) → (0 < length keys → ⊥) → list_any (is_at (nat_cmp u)) keys ≡ false
    of_keys [] none = refl
    of_keys (k ∷ keys) none = absurd (none (omega arith))

-- the turns that are over
one_more : (n k : ℕ) → k < n → n - k ≡ suc (n - (k + 1))
one_more n k less = omega arith

pub in_turn_start : (ls : List Link) (left out : List ℕ) (nexts : List (List ℕ)) (counts : List ℕ) (ready : BTreeSet ℕ) → out ≡ [] → IsWaiting ls left nexts counts ready → IsInTurn ls left 0 out nexts counts ready
in_turn_start ls left out nexts counts ready none waiting =
    record {
      rest = left;
      gives = ap (λ out. out ++ turns (length left - 0) (is_linked ls) left) none ∙ ap (λ n. turns n (is_linked ls) left) (all_turns (length left));
      waiting = waiting;
    }
  where
    all_turns : (n : ℕ) → n - 0 ≡ n
    all_turns n = omega arith

pub in_turn_next : (ls : List Link) (left : List ℕ) (k : ℕ) (out more : List ℕ) (nexts : List (List ℕ)) (counts new : List ℕ) (ready popped after : BTreeSet ℕ) (t : ℕ) → (turn : IsInTurn ls left k out nexts counts ready) → k < length left → is_ready ready t ≡ true → ((u : ℕ) → is_ready ready u ≡ true → t ≤ u) → is_ready popped t ≡ false → ((u : ℕ) → u ≢ t → is_ready popped u ≡ is_ready ready u) → more ≡ out ++ t ∷ [] → IsReleased (targets ls t) counts popped new after → IsInTurn ls left (k + 1) more nexts new after
in_turn_next ls left k out more nexts counts new ready popped after t turn less is least gone others pushed released =
    record {
      rest = without t turn.rest;
      gives =
          ap (λ more. more ++ turns (length left - (k + 1)) (is_linked ls) (without t turn.rest)) pushed
          ∙ append_assoc out (t ∷ []) (turns (length left - (k + 1)) (is_linked ls) (without t turn.rest))
          ∙ ap (λ ts. out ++ ts) (sym (turns_some (length left - (k + 1)) (is_linked ls) turn.rest t (next_ready ls turn.rest nexts counts ready t turn.waiting is least)))
          ∙ ap (λ n. out ++ turns n (is_linked ls) turn.rest) (sym (one_more (length left) k less))
          ∙ turn.gives;
      waiting = waiting_next ls turn.rest nexts counts ready popped new after t turn.waiting is gone others released;
    }

pub in_turn_none : (ls : List Link) (left : List ℕ) (k : ℕ) (out : List ℕ) (nexts : List (List ℕ)) (counts : List ℕ) (ready : BTreeSet ℕ) → (turn : IsInTurn ls left k out nexts counts ready) → k < length left → ((u : ℕ) → is_ready ready u ≡ false) → out ≡ turns (length left) (is_linked ls) left
in_turn_none ls left k out nexts counts ready turn less none =
    sym (append-nil out)
    ∙ ap (λ ts. out ++ ts) (sym (turns_none (length left - (k + 1)) (is_linked ls) turn.rest (next_none ls turn.rest nexts counts ready turn.waiting none)))
    ∙ ap (λ n. out ++ turns n (is_linked ls) turn.rest) (sym (one_more (length left) k less))
    ∙ turn.gives

pub in_turn_end : (ls : List Link) (left : List ℕ) (k : ℕ) (out : List ℕ) (nexts : List (List ℕ)) (counts : List ℕ) (ready : BTreeSet ℕ) → (turn : IsInTurn ls left k out nexts counts ready) → length left ≤ k → out ≡ turns (length left) (is_linked ls) left
in_turn_end ls left k out nexts counts ready turn all =
    sym (append-nil out)
    ∙ ap (λ n. out ++ turns n (is_linked ls) turn.rest) (none_left (length left) k all)
    ∙ turn.gives
  where
    none_left : (n k : ℕ) → n ≤ k → 0 ≡ n - k
    none_left n k all = omega arith

-- at the start
pub below_whole : (count : ℕ) (members : List Member) (left : List ℕ) → ((u : ℕ) → stands_in left u ≡ true → u < count) → IsWhole members left → IsBelow count members
below_whole count [] left below whole = tt
below_whole count (r ∷ members) left below whole = (below r.number whole.0, below_whole count members left below whole.1)

whole_backwards : (left : List ℕ) (seen members : List Member) → IsWhole seen left → IsWhole members left → IsWhole (backwards seen members) left
whole_backwards left seen [] first rest = first
whole_backwards left seen (r ∷ members) first rest = whole_backwards left (r ∷ seen) members (rest.0, first) rest.1

-- both ends of each link are left
abbrev AreWithin : List ℕ → List Link → Type 0
AreWithin left [] = Unit {0}
AreWithin left (l ∷ ls) = (stands_in left l.from ≡ true) × (stands_in left l.to ≡ true) × AreWithin left ls

within_append : (left : List ℕ) (ls more : List Link) → AreWithin left ls → AreWithin left more → AreWithin left (ls ++ more)
within_append left [] more first rest = rest
within_append left (l ∷ ls) more first rest = (first.0, first.1, within_append left ls more first.2 rest)

last_whole : (left : List ℕ) (member : Member) (seen : List Member) → IsWhole seen left → stands_in left member.number ≡ true → AreWithin left (link_from (last_at member seen) member)
last_whole left member [] whole there = tt
last_whole left member (x ∷ seen) whole there = by_place (same_place x member) (last_whole left member seen whole.1 there)
  where
    by_number : (b : Bool) → AreWithin left (cond b [] (record { from = x.number; to = member.number } ∷ []))
    by_number true = tt
    by_number false = (whole.0, there, tt)

    by_place : (b : Bool) → AreWithin left (link_from (last_at member seen) member) → AreWithin left (link_from (cond b (Some x) (last_at member seen)) member)
    by_place true rest = by_number (x.number == member.number)
    by_place false rest = rest

links_within : (left : List ℕ) (seen : List Member) → IsWhole seen left → AreWithin left (links seen)
links_within left [] whole = tt
links_within left (member ∷ seen) whole = within_append left (links seen) (link_from (last_at member seen) member) (links_within left seen whole.1) (last_whole left member seen whole.1 whole.0)

end_within : (left : List ℕ) (ls : List Link) (t u : ℕ) → AreWithin left ls → is_linked ls t u ≡ true → stands_in left u ≡ true
end_within left [] t u within is = absurd (true≢false (sym is))
end_within left (l ∷ ls) t u within is =
    ⊎_elim
    (λ here. ap (stands_in left) (sym (eqb-true l.to u (and_parts (l.from == t) (l.to == u) here).1)) ∙ within.1)
    (λ later. end_within left ls t u within.2 later)
    (or_cases (l.from == t && l.to == u) (is_linked ls t u) is)

all_counted : (left : List ℕ) (ls : List Link) (u : ℕ) → AreWithin left ls → entering any_one ls u ≡ entering (stands_in left) ls u
all_counted left [] u within = refl
all_counted left (l ∷ ls) u within =
    let one : cond {A = ℕ} (l.to == u && true) 1 0 ≡ cond {A = ℕ} (l.to == u && stands_in left l.from) 1 0 = ap (λ b. cond {A = ℕ} (l.to == u && b) 1 0) (sym within.0) in
    let others = all_counted left ls u within.2 in
    omega (arith, one, others)

-- what waits at the start
pub waiting_start : (count : ℕ) (members : List Member) (left : List ℕ) (nexts : List (List ℕ)) (counts : List ℕ) (ready : BTreeSet ℕ) → IsWhole members left → Ascends left → ((u : ℕ) → stands_in left u ≡ true → u < count) → AreTables count (links (backwards [] members)) nexts counts → ((u : ℕ) → is_ready ready u ≡ (stands_in left u && slice_index counts u == 0)) → IsWaiting (links (backwards [] members)) left nexts counts ready
waiting_start count members left nexts counts ready whole up below tables are_ready =
    record {
      nexts_are = λ t there. slice_get-get_or nexts t [] (let less = below t there in let size = tables.nexts_size in omega (arith, less, size)) ∙ ap Some (tables.nexts_are t (below t there));
      counts_are = λ u there. tables.counts_are u (below u there) ∙ all_counted left (links (backwards [] members)) u within;
      ready_are = are_ready;
      closed = λ t u linked there. end_within left (links (backwards [] members)) t u within linked;
      ascends = up;
    }
  where
    within : AreWithin left (links (backwards [] members))
    within = links_within left (backwards [] members) (whole_backwards left [] members tt whole)
