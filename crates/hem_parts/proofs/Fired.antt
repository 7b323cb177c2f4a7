-- A firing at an object with the heads of its lists is a step of the object's chain.
use Rattle.std.proofs.Common.{◌≡◌, refl, ap, sym, ◌∙◌, ℕ, ◌+◌, Bool, true, false, ◌&&◌, cond, List, [], ◌∷◌, map, length, arith, Option, Some, None}
use Rattle.std.specs.Prelude.{slice_get, option_map, option_and_then}
use Rattle.std.proofs.lemmas.Option.{slice_get-map}
use Rattle.hem_base.specs.Sets.{has_bit}
use Rattle.hem_base.specs.declared.ids.Message.{Message}
use Rattle.hem_base.specs.declared.ids.Firing.{Firing}
use Rattle.hem_syntax.specs.Protocol.{Protocol}
use Rattle.hem_object.specs.Local.{Local}
use Rattle.hem_tree.specs.Tree.{Tree, is_child, children_of, place_among}
use Rattle.hem_fire.specs.OneFire.{Heads}
use Rattle.hem_fire.specs.declared.outs.Outs.{Outs}
use Rattle.hem_system.specs.declared.lane.Lane.{Lane}
use Rattle.hem_system.specs.declared.lane.Lane.TheVariants.{UpRequests, UpResponses, Down, Requests, Answers}
use Rattle.hem_system.specs.State.{Effect, map_each, taken_heads, own_effect, takes}
use Rattle.hem_system.proofs.Kids.{at_passes}
use Rattle.hem_system.proofs.TakenHeads.{own_effect-enough}
use Rattle.hem_trace.specs.History.{head_seen}
use Rattle.hem_law.specs.Chains.{heads_seen, ChainStep}
use Rattle.hem_rows.proofs.Choices.{both}
use Rattle.hem_law.proofs.OwnEffect.{own_effect-took}
use Rattle.hem_law.proofs.LineParts.{length-map_each}
use Rattle.hem_law.proofs.AllLines.{same_elements}
use Rattle.hem_parts.specs.Steps.{head_among}
use Rattle.hem_system.specs.Events.{event_of}
use Rattle.hem_system.proofs.Own.{slice_get-map_each}
use Rattle.hem_parts.proofs.AllRun.{there-too, none-too}

-- heads that are taken once more
once : (b : Bool) (head : Option Message) → cond b (cond b head None) None ≡ cond b head None
once true head = refl
once false head = refl

kids-once : (set i : ℕ) (heads : List (Option Message)) → map_each (λ k head. cond (has_bit set k) head None) i (map_each (λ k head. cond (has_bit set k) head None) i heads) ≡ map_each (λ k head. cond (has_bit set k) head None) i heads
kids-once set i [] = refl
kids-once set i (head ∷ heads) = rw (once (has_bit set i) head, kids-once set (i + 1) heads) refl

taken-once : (outs : Outs) (heads : Heads) → taken_heads outs (taken_heads outs heads) ≡ taken_heads outs heads
taken-once outs heads = rw (once outs.taken_request heads.request, once outs.taken_parent heads.parent, kids-once outs.taken_kids.0 0 heads.kids) refl

-- of heads, one of each child, those at the children's places
kids-seen : (tree : Tree) (o : ℕ) (heads : List (Option Message)) → length heads ≡ length (children_of tree o) → map (λ k. option_and_then (λ head. head) (slice_get heads (place_among tree o k))) (children_of tree o) ≡ heads
kids-seen tree o heads size = same_elements _ heads (λ i. slice_get-map at (children_of tree o) i ∙ by_child i (slice_get (children_of tree o) i) refl)
  where
    at : ℕ → Option Message
    at k = option_and_then (λ head. head) (slice_get heads (place_among tree o k))

    joined : (i : ℕ) (head : Option Message) → slice_get heads i ≡ Some head → option_and_then (λ head. head) (slice_get heads i) ≡ head
    joined i head is = ap (option_and_then (λ head. head)) is

    by_child : (i : ℕ) (child : Option ℕ) → slice_get (children_of tree o) i ≡ child → option_map at child ≡ slice_get heads i
    by_child i None is = sym (none-too (children_of tree o) heads i size is)
    by_child i (Some k) is =
        let place = (at_passes (λ k. is_child tree k o) (length tree) i k is).1 in
        let there = there-too (children_of tree o) heads i k size is in
        ap (λ j. Some (option_and_then (λ head. head) (slice_get heads j))) place ∙ ap Some (joined i there.0 there.1) ∙ sym there.1

-- what the event saw is what it took
seen-took : (tree : Tree) (f : Firing) (e : Effect) → length e.took.kids ≡ length (children_of tree f.object.0) → heads_seen tree (event_of f e) ≡ e.took
seen-took tree f e size = ap (λ kids. record { request = e.took.request; parent = e.took.parent; kids = kids }) (kids-seen tree f.object.0 e.took.kids size)

-- a firing that is possible with these heads is a step of the chain
pub fired-steps : (p : Protocol) (tree : Tree) (f : Firing) (now : Local) (heads : Heads) (e : Effect) → length heads.kids ≡ length (children_of tree f.object.0) → own_effect p tree f now heads ≡ Some e → ChainStep p tree (Some now) (event_of f e) e.after
fired-steps p tree f now heads e size fires =
    let took = own_effect-took p tree f now heads e fires in
    let kids : length e.took.kids ≡ length (children_of tree f.object.0) = ap (λ (h : Heads). length h.kids) took ∙ length-map_each _ 0 heads.kids ∙ size in
    let enough : taken_heads e.outs (heads_seen tree (event_of f e)) ≡ e.took = ap (taken_heads e.outs) (seen-took tree f e kids ∙ took) ∙ taken-once e.outs heads ∙ sym took in
    record { now = now; here = refl; fires = own_effect-enough p tree f now heads (heads_seen tree (event_of f e)) e fires enough }

-- the messages that it takes are those heads
pub fired-sees : (p : Protocol) (tree : Tree) (f : Firing) (now : Local) (heads : Heads) (e : Effect) (k : ℕ) (lane : Lane) → own_effect p tree f now heads ≡ Some e → takes tree f e.outs k lane ≡ true → head_seen tree (event_of f e) k lane ≡ head_among tree f.object.0 heads k lane
fired-sees p tree f now heads e k UpRequests fires t = ap (λ (h : Heads). h.request) (own_effect-took p tree f now heads e fires) ∙ ap (λ b. cond b heads.request None) (both _ _ (both (e.outs.taken_request && _) _ t).0).0
fired-sees p tree f now heads e k UpResponses fires t =
    let i = place_among tree f.object.0 k in
    let bit = (both (is_child tree k f.object.0) _ t).1 in
    ap (λ (h : Heads). option_and_then (λ head. head) (slice_get h.kids i)) (own_effect-took p tree f now heads e fires)
    ∙ ap (option_and_then (λ head. head)) (slice_get-map_each (λ k head. cond (has_bit e.outs.taken_kids.0 k) head None) 0 heads.kids i)
    ∙ ap (λ j. option_and_then (λ head. head) (option_map (λ head. cond (has_bit e.outs.taken_kids.0 j) head None) (slice_get heads.kids i))) (let z : 0 + i ≡ i = omega arith in z)
    ∙ ap (λ b. option_and_then (λ head. head) (option_map (λ head. cond b head None) (slice_get heads.kids i))) bit
    ∙ same (slice_get heads.kids i)
  where
    same : (head : Option (Option Message)) → option_and_then (λ head. head) (option_map (λ head. cond true head None) head) ≡ option_and_then (λ head. head) head
    same None = refl
    same (Some head) = refl
fired-sees p tree f now heads e k Down fires t = ap (λ (h : Heads). h.parent) (own_effect-took p tree f now heads e fires) ∙ ap (λ b. cond b heads.parent None) (both e.outs.taken_parent _ t).0
fired-sees p tree f now heads e k Requests fires t = ap (λ (h : Heads). h.request) (own_effect-took p tree f now heads e fires) ∙ ap (λ b. cond b heads.request None) (both e.outs.taken_request _ (both (e.outs.taken_request && _) _ t).0).0
fired-sees p tree f now heads e k Answers fires t = cc
