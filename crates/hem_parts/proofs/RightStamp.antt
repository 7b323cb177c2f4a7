-- The right stamp of an event is 1 plus the greatest of the last stamp and of the stamps taken.
use Rattle.std.proofs.Common.{◌≡◌, ◌≢◌, refl, ap, sym, ◌∙◌, subst, ℕ, zero, suc, ◌+◌, ◌≤◌, Bool, true, false, ◌&&◌, cond, List, [], ◌∷◌, ◌++◌, map, arith, Option, Some, None, inl, inr, ◌⊎◌}
use Rattle.std.specs.Prelude.{◌==◌, max, filter, slice_get, option_to_list}
use Rattle.std.specs.Option.{option_map_or}
use Rattle.std.proofs.Math.Nat.{le-max_left, le-max_right}
use Rattle.std.proofs.lemmas.Bool.{eqb-true}
use Rattle.hem_base.specs.Sets.{has_bit}
use Rattle.hem_base.specs.declared.ids.ObjectId.{ObjectId}
use Rattle.hem_base.specs.declared.ids.Carried.{Carried}
use Rattle.hem_tree.specs.Tree.{Tree, is_child, children_of, place_among}
use Rattle.hem_system.specs.declared.lane.Lane.{Lane}
use Rattle.hem_system.specs.declared.lane.Lane.TheVariants.{UpRequests, UpResponses, Down, Requests, Answers}
use Rattle.hem_system.specs.State.{takes}
use Rattle.hem_system.proofs.Kids.{child_at}
use Rattle.hem_system.specs.Events.{Event}
use Rattle.hem_trace.specs.History.{Channel, channels_taken}
use Rattle.hem_trace.specs.Blocks.{Each}
use Rattle.hem_rows.proofs.Choices.{both}
use Rattle.hem_law.proofs.ListFacts.{each-map, each-left, each-right}
use Rattle.hem_law.proofs.TakenChannels.{NamesOwnChild, IsTakenFrom, channels-taken}
use Rattle.hem_parts.specs.Stamps.{first_stamp, IsStamp}
use Rattle.hem_parts.specs.Restamped.{Clocks, greatest, stamp_in, right_stamp}

each-passing : (P : Channel → Type 0) (G : ℕ → Channel) (test : ℕ → Bool) (ks : List ℕ) (i k : ℕ) → Each P (map G (filter test ks)) → slice_get ks i ≡ Some k → test k ≡ true → P (G k)
each-passing P G test [] i k all at passes = cc
each-passing P G test (m ∷ ks) i k all at passes = by_place i at (test m) refl all (λ j rest later. each-passing P G test ks j k rest later passes)
  where
    by_place : (i : ℕ) → slice_get (m ∷ ks) i ≡ Some k → (b : Bool) → test m ≡ b → Each P (map G (cond b (m ∷ filter test ks) (filter test ks))) → ((j : ℕ) → Each P (map G (filter test ks)) → slice_get ks j ≡ Some k → P (G k)) → P (G k)
    by_place zero at true is all rest = let same : m ≡ k = cc in subst (λ n. P (G n)) same all.0
    by_place zero at false is all rest = let same : m ≡ k = cc in let clash : false ≡ true = sym is ∙ ap test same ∙ passes in cc
    by_place (suc i) at true is all rest = rest i all.1 at
    by_place (suc i) at false is all rest = rest i all at

me-passing : (P : Channel → Type 0) (l k : ℕ) (taken : Bool) (me : Option ObjectId) → Each P (map (λ child. record { line = l; object = child.0; lane = UpRequests }) (cond taken (option_to_list me) [])) → taken ≡ true → option_map_or (λ child. child.0 == k) me false ≡ true → P (record { line = l; object = k; lane = UpRequests })
me-passing P l k false me all is named = cc
me-passing P l k true None all is named = cc
me-passing P l k true (Some child) all is named = subst (λ n. P (record { line = l; object = n; lane = UpRequests })) (eqb-true child.0 k named) all.0

parent-passing : (P : Channel → Type 0) (l o k : ℕ) (taken : Bool) → Each P (cond taken (record { line = l; object = o; lane = Down } ∷ []) []) → taken ≡ true → (k == o) ≡ true → P (record { line = l; object = k; lane = Down })
parent-passing P l o k false all is same = cc
parent-passing P l o k true all is same = subst (λ n. P (record { line = l; object = n; lane = Down })) (sym (eqb-true k o same)) all.0

abbrev me_channels : Event → List Channel
me_channels e = map (λ child. record { line = e.firing.line.0; object = child.0; lane = UpRequests }) (cond e.outs.taken_request (option_to_list e.firing.me) [])

abbrev parent_channels : Event → List Channel
parent_channels e = cond e.outs.taken_parent (record { line = e.firing.line.0; object = e.firing.object.0; lane = Down } ∷ []) []

abbrev kid_channels : Tree → Event → List Channel
kid_channels tree e = map (λ k. record { line = e.firing.line.0; object = k; lane = UpResponses }) (filter (λ k. has_bit e.outs.taken_kids.0 (place_among tree e.firing.object.0 k)) (children_of tree e.firing.object.0))

pub channel-taken : (P : Channel → Type 0) (tree : Tree) (e : Event) (k : ℕ) (lane : Lane) → Each P (channels_taken tree e) → lane ≢ Requests → takes tree e.firing e.outs k lane ≡ true → P (record { line = e.firing.line.0; object = k; lane = lane })
channel-taken P tree e k UpRequests all other is =
    let parts = both (e.outs.taken_request && option_map_or (λ child. child.0 == k) e.firing.me false) (is_child tree k e.firing.object.0) is in
    let two = both e.outs.taken_request (option_map_or (λ child. child.0 == k) e.firing.me false) parts.0 in
    me-passing P e.firing.line.0 k e.outs.taken_request e.firing.me (each-left P (me_channels e) (parent_channels e) (each-left P (me_channels e ++ parent_channels e) (kid_channels tree e) all)) two.0 two.1
channel-taken P tree e k Down all other is =
    let parts = both e.outs.taken_parent (k == e.firing.object.0) is in
    parent-passing P e.firing.line.0 e.firing.object.0 k e.outs.taken_parent (each-right P (me_channels e) (parent_channels e) (each-left P (me_channels e ++ parent_channels e) (kid_channels tree e) all)) parts.0 parts.1
channel-taken P tree e k UpResponses all other is =
    let o = e.firing.object.0 in
    let parts = both (is_child tree k o) (has_bit e.outs.taken_kids.0 (place_among tree o k)) is in
    each-passing P (λ k. record { line = e.firing.line.0; object = k; lane = UpResponses }) (λ k. has_bit e.outs.taken_kids.0 (place_among tree o k)) (children_of tree o) (place_among tree o k) k (each-right P (me_channels e ++ parent_channels e) (kid_channels tree e) all) (child_at tree o k parts.0) parts.1
channel-taken P tree e k Requests all other is = absurd (other refl)
channel-taken P tree e k Answers all other is = cc

-- the greatest of numbers
max-one : (a b : ℕ) → (max a b ≡ a) ⊎ (max a b ≡ b)
max-one a b = grind arith

each-at-most : (F : Channel → ℕ) (cs : List Channel) → Each (λ c. F c ≤ greatest (map F cs)) cs
each-at-most F [] = tt
each-at-most F (c ∷ cs) =
    let right = le-max_right (F c) (greatest (map F cs)) in
    (le-max_left (F c) (greatest (map F cs)), each-map (λ d. F d ≤ greatest (map F cs)) (λ d. F d ≤ greatest (map F (c ∷ cs))) cs (λ d le. omega arith) (each-at-most F cs))

greatest-one : (F : Channel → ℕ) (P : Channel → Type 0) (cs : List Channel) → Each P cs → (greatest (map F cs) ≡ 0) ⊎ ((c : Channel) × P c × (F c ≡ greatest (map F cs)))
greatest-one F P [] all = inl refl
greatest-one F P (c ∷ cs) all =
    elim (max-one (F c) (greatest (map F cs))) [
      | inl first ↦ inr (c, all.0, sym first)
      | inr rest ↦ elim (greatest-one F P cs all.1) [ inl none ↦ inl (rest ∙ none) | inr it ↦ inr (it.0, it.1, it.2 ∙ sym rest) ]
    ]

-- the right stamp is one
pub right-is-stamp : (tree : Tree) (clocks : Clocks) (e : Event) → NamesOwnChild tree e → IsStamp tree (clocks.waiting e.firing.line.0) (clocks.last e.firing.line.0 e.firing.object.0) e (right_stamp tree clocks e)
right-is-stamp tree clocks e own =
    let last = clocks.last e.firing.line.0 e.firing.object.0 in
    let most = greatest (map (stamp_in clocks) (channels_taken tree e)) in
    let right = le-max_right last most in
    let left = le-max_left last most in
    record {
      above_last = omega arith;
      above_taken = λ k lane other t. let le = channel-taken (λ c. stamp_in clocks c ≤ most) tree e k lane (each-at-most (stamp_in clocks) (channels_taken tree e)) other t in omega arith;
      least = least last most (max-one last most) (greatest-one (stamp_in clocks) (IsTakenFrom tree e) (channels_taken tree e) (channels-taken tree e own));
    }
  where
    taken_stamp : (m : ℕ) → Type 0
    taken_stamp m = (k : ℕ) × (lane : Lane) × (lane ≢ Requests) × (takes tree e.firing e.outs k lane ≡ true) × (m ≡ first_stamp (clocks.waiting e.firing.line.0 k lane) + 1)

    of_channel : (c : Channel) (most : ℕ) → IsTakenFrom tree e c → stamp_in clocks c ≡ most → taken_stamp (suc most)
    of_channel c most from is =
        let parts = both (e.firing.line.0 == c.line) (takes tree e.firing e.outs c.object c.lane) from.1 in
        let line = eqb-true e.firing.line.0 c.line parts.0 in
        (c.object, c.lane, from.0, parts.1, (let it : first_stamp (clocks.waiting e.firing.line.0 c.object c.lane) ≡ most = ap (λ l. first_stamp (clocks.waiting l c.object c.lane)) line ∙ is in omega arith))

    least : (last most : ℕ) → (max last most ≡ last) ⊎ (max last most ≡ most) → (most ≡ 0) ⊎ ((c : Channel) × IsTakenFrom tree e c × (stamp_in clocks c ≡ most)) → (suc (max last most) ≡ last + 1) ⊎ taken_stamp (suc (max last most))
    least last most (inl is) some = inl (omega arith)
    least last most (inr is) (inl none) = let le = le-max_left last most in inl (omega arith)
    least last most (inr is) (inr it) = inr (subst (λ m. taken_stamp (suc m)) (sym is) (of_channel it.0 most it.1 it.2))

-- an event has one right stamp
no-greater : (tree : Tree) (left : ℕ → Lane → List Carried) (last : ℕ) (e : Event) (m n : ℕ) → IsStamp tree left last e m → IsStamp tree left last e n → m ≤ n
no-greater tree left last e m n one two =
    elim one.least [
      | inl next ↦ (let above = two.above_last in omega arith)
      | inr it ↦ (let above = two.above_taken it.0 it.1 it.2 it.3 in let is = it.4 in omega arith)
    ]

pub one-stamp : (tree : Tree) (left : ℕ → Lane → List Carried) (last : ℕ) (e : Event) (m n : ℕ) → IsStamp tree left last e m → IsStamp tree left last e n → m ≡ n
one-stamp tree left last e m n one two =
    let less = no-greater tree left last e m n one two in
    let more = no-greater tree left last e n m two one in
    omega arith
