-- The first channel that an event takes from is one from which it takes, and no processor's requests.
use Rattle.std.proofs.Common.{◌≡◌, ◌≢◌, refl, ap, sym, ◌∙◌, subst, ℕ, Bool, true, false, cond, List, [], ◌∷◌, ◌++◌, map, Option, Some, None, ◌⊎◌, inl, inr}
use Rattle.std.specs.Prelude.{length, filter, slice_get, option_to_list}
use Rattle.std.proofs.lemmas.Bool.{eq-eqb}
use Rattle.std.proofs.lemmas.Option.{slice_get-map}
use Rattle.std.proofs.lemmas.List.Elements.{All-filter, filter_passes}
use Rattle.hem_base.specs.Sets.{has_bit}
use Rattle.hem_base.specs.declared.ids.ObjectId.{ObjectId}
use Rattle.hem_tree.specs.Tree.{Tree, below, is_child, children_of, place_among}
use Rattle.hem_system.specs.declared.lane.Lane.TheVariants.{UpRequests, UpResponses, Down, Requests}
use Rattle.hem_system.specs.State.{is_own_child}
use Rattle.hem_system.specs.Events.{Event}
use Rattle.hem_trace.specs.History.{Channel, channels_taken, takes_from}
use Rattle.hem_invariants.proofs.Choices.{if_mapped, all-at}

-- the event takes from the channel, which isn't the requests
pub record IsTakenFrom (tree : Tree) (e : Event) (c : Channel) : Type 0 where
  pub taken : takes_from tree c e ≡ true
  pub no_request : c.lane ≢ Requests

-- the first of two lists is the first of one of them
first-append : {A : Type 0} (xs ys : List A) (x : A) → slice_get (xs ++ ys) 0 ≡ Some x → (slice_get xs 0 ≡ Some x) ⊎ (slice_get ys 0 ≡ Some x)
first-append [] ys x is = inr is
first-append (z ∷ xs) ys x is = inl is

-- the requests of the child that the event names
named-taken : (tree : Tree) (e : Event) (c : Channel) (taken : Bool) (me : Option ObjectId) → e.outs.taken_request ≡ taken → e.firing.me ≡ me → is_own_child tree e.firing.object.0 e.firing.me ≡ true → slice_get (map (λ (child : ObjectId). (let it : Channel = record { line = e.firing.line.0; object = child.0; lane = UpRequests } in it)) (cond taken (option_to_list me) [])) 0 ≡ Some c → IsTakenFrom tree e c
named-taken tree e c false me is named own first = cc
named-taken tree e c true None is named own first = cc
named-taken tree e c true (Some child) is named own first =
    let l = e.firing.line.0 in
    let child_is : is_child tree child.0 e.firing.object.0 ≡ true = ap (is_own_child tree e.firing.object.0) (sym named) ∙ own in
    let same : (let it : Channel = record { line = l; object = child.0; lane = UpRequests } in it) ≡ c = (let both_are : Some (let it : Channel = record { line = l; object = child.0; lane = UpRequests } in it) ≡ Some c = first in cc) in
    subst (IsTakenFrom tree e) same (record { taken = rw (eq-eqb l l refl, is, named, eq-eqb child.0 child.0 refl, child_is) refl; no_request = λ no_lane. cc })

-- the parent's messages
parent-taken : (tree : Tree) (e : Event) (c : Channel) (taken : Bool) → e.outs.taken_parent ≡ taken → slice_get (cond taken ((let it : Channel = record { line = e.firing.line.0; object = e.firing.object.0; lane = Down } in it) ∷ []) []) 0 ≡ Some c → IsTakenFrom tree e c
parent-taken tree e c false is first = cc
parent-taken tree e c true is first =
    let l = e.firing.line.0 in
    let o = e.firing.object.0 in
    let same : (let it : Channel = record { line = l; object = o; lane = Down } in it) ≡ c = (let both_are : Some (let it : Channel = record { line = l; object = o; lane = Down } in it) ≡ Some c = first in cc) in
    subst (IsTakenFrom tree e) same (record { taken = rw (eq-eqb l l refl, is, eq-eqb o o refl) refl; no_request = λ no_lane. cc })

-- the responses of an awaited child
kid-taken : (tree : Tree) (e : Event) (c : Channel) → slice_get (map (λ k. (let it : Channel = record { line = e.firing.line.0; object = k; lane = UpResponses } in it)) (filter (λ k. has_bit e.outs.taken_kids.0 (place_among tree e.firing.object.0 k)) (children_of tree e.firing.object.0))) 0 ≡ Some c → IsTakenFrom tree e c
kid-taken tree e c first =
    let l = e.firing.line.0 in
    let o = e.firing.object.0 in
    let bit = λ (k : ℕ). has_bit e.outs.taken_kids.0 (place_among tree o k) in
    let of = λ (k : ℕ). (let it : Channel = record { line = l; object = k; lane = UpResponses } in it) in
    let kids = filter bit (children_of tree o) in
    let it = if_mapped of (slice_get kids 0) c (sym (slice_get-map of kids 0) ∙ first) in
    let passes : bit it.0 ≡ true = all-at (λ k. bit k ≡ true) kids 0 it.0 (filter_passes bit (children_of tree o)) it.1 in
    let child : is_child tree it.0 o ≡ true = all-at (λ k. is_child tree k o ≡ true) kids 0 it.0 (All-filter bit (λ k. is_child tree k o ≡ true) (children_of tree o) (filter_passes (λ k. is_child tree k o) (below (length tree)))) it.1 in
    subst (IsTakenFrom tree e) it.2 (record { taken = rw (eq-eqb l l refl, child, passes) refl; no_request = λ no_lane. cc })

-- the first channel that an event takes from
pub first-taken : (tree : Tree) (e : Event) (c : Channel) → is_own_child tree e.firing.object.0 e.firing.me ≡ true → slice_get (channels_taken tree e) 0 ≡ Some c → IsTakenFrom tree e c
first-taken tree e c own first = by_last (first-append (map (λ (child : ObjectId). (let it : Channel = record { line = e.firing.line.0; object = child.0; lane = UpRequests } in it)) (cond e.outs.taken_request (option_to_list e.firing.me) []) ++ cond e.outs.taken_parent ((let it : Channel = record { line = e.firing.line.0; object = e.firing.object.0; lane = Down } in it) ∷ []) []) _ c first)
  where
    by_first : (slice_get (map (λ (child : ObjectId). (let it : Channel = record { line = e.firing.line.0; object = child.0; lane = UpRequests } in it)) (cond e.outs.taken_request (option_to_list e.firing.me) [])) 0 ≡ Some c) ⊎ (slice_get (cond e.outs.taken_parent ((let it : Channel = record { line = e.firing.line.0; object = e.firing.object.0; lane = Down } in it) ∷ []) []) 0 ≡ Some c) → IsTakenFrom tree e c
    by_first (inl named) = named-taken tree e c e.outs.taken_request e.firing.me refl refl own named
    by_first (inr parent) = parent-taken tree e c e.outs.taken_parent refl parent

    by_last : (slice_get (map (λ (child : ObjectId). (let it : Channel = record { line = e.firing.line.0; object = child.0; lane = UpRequests } in it)) (cond e.outs.taken_request (option_to_list e.firing.me) []) ++ cond e.outs.taken_parent ((let it : Channel = record { line = e.firing.line.0; object = e.firing.object.0; lane = Down } in it) ∷ []) []) 0 ≡ Some c) ⊎ (slice_get (map (λ k. (let it : Channel = record { line = e.firing.line.0; object = k; lane = UpResponses } in it)) (filter (λ k. has_bit e.outs.taken_kids.0 (place_among tree e.firing.object.0 k)) (children_of tree e.firing.object.0))) 0 ≡ Some c) → IsTakenFrom tree e c
    by_last (inl first) = by_first (first-append (map (λ (child : ObjectId). (let it : Channel = record { line = e.firing.line.0; object = child.0; lane = UpRequests } in it)) (cond e.outs.taken_request (option_to_list e.firing.me) [])) _ c first)
    by_last (inr kids) = kid-taken tree e c kids
