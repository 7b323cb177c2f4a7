-- What a firing takes is there.
use Rattle.std.proofs.Common.{◌≡◌, refl, ap, sym, ◌∙◌, subst, ℕ, zero, suc, ◌+◌, Bool, true, false, cond, List, [], ◌∷◌, arith, add-zero, Option, Some, None}
use Rattle.std.specs.Prelude.{◌==◌, ◌&&◌, filter, slice_get, option_map, is_none}
use Rattle.std.specs.List.{list_all, enumerate_from}
use Rattle.std.specs.Option.{option_map_or}
use Rattle.std.proofs.lemmas.Bool.{eqb-true}
use Rattle.std.proofs.lemmas.Option.{slice_get-map}
use Rattle.hem_base.specs.Sets.{has_bit}
use Rattle.hem_base.specs.declared.ids.Firing.{Firing}
use Rattle.hem_base.specs.declared.ids.Message.{Message}
use Rattle.hem_base.specs.declared.ids.MsgId.{MsgId}
use Rattle.hem_base.specs.declared.ids.ObjectId.{ObjectId}
use Rattle.hem_base.specs.declared.ids.Kind.{Kind}
use Rattle.hem_syntax.specs.declared.rule.Rule.{Rule}
use Rattle.hem_syntax.specs.declared.rule.Take.{Take}
use Rattle.hem_syntax.specs.declared.rule.Take.TheVariants as take
use Rattle.hem_syntax.specs.Protocol.{Protocol, rule_named}
use Rattle.hem_object.specs.Local.{Local}
use Rattle.hem_fire.specs.declared.outs.Outs.{Outs}
use Rattle.hem_fire.specs.Heads.{has_id, awaited_of, takes_there}
use Rattle.hem_fire.specs.OneFire.{Heads, can_fire, outs_of}
use Rattle.hem_tree.specs.Tree.{Tree, kind_of, is_child, children_of, place_among}
use Rattle.hem_system.specs.declared.lane.Lane.{Lane}
use Rattle.hem_system.specs.declared.lane.Lane.TheVariants.{UpRequests, UpResponses, Down, Requests, Answers}
use Rattle.hem_system.specs.State.{Line, Effect, head_at, request_head, heads_of, is_own_child, place_of_me, own_effect, effect_of, local_at, takes}
use Rattle.hem_system.proofs.Takers.{and_left, and_right}
use Rattle.hem_system.proofs.Kids.{child_at}
use Rattle.hem_invariants.proofs.Choices.{both, chosen, if_some, if_passed}
use Rattle.hem_invariants.proofs.LocalKept.{can_fire-parts}

-- a message is there
abbrev HasMessage : Option Message → Type 0
HasMessage head = (m : Message) × (head ≡ Some m)

-- the heads that a firing takes are there
record AreThere (outs : Outs) (heads : Heads) : Type 0 where
  request : outs.taken_request ≡ true → HasMessage heads.request
  parent : outs.taken_parent ≡ true → HasMessage heads.parent
  kids : (j : ℕ) (head : Option Message) → has_bit outs.taken_kids.0 j ≡ true → slice_get heads.kids j ≡ Some head → HasMessage head

-- a head with an id is there
has-message : (head : Option Message) (id : MsgId) → has_id head id ≡ true → HasMessage head
has-message None id has = cc
has-message (Some m) id has = (m, refl)

-- nobody has no bit
no_bit : (j : ℕ) → has_bit 0 j ≡ true → ⊥
no_bit j has = grind arith

-- each awaited head has the id
awaited-has : (set i : ℕ) (id : MsgId) (heads : List (Option Message)) (j : ℕ) (head : Option Message) → list_all (λ k. has_id k.1 id) (filter (λ k. has_bit set k.0) (enumerate_from i heads)) ≡ true → has_bit set (i + j) ≡ true → slice_get heads j ≡ Some head → has_id head id ≡ true
awaited-has set i id [] j head all has at = cc
awaited-has set i id (x ∷ heads) zero head all has at =
    let bit : has_bit set i ≡ true = rw add-zero at has in
    let it : x ≡ head = cc in
    subst (λ x. has_id x id ≡ true) it (both (has_id x id) _ (rw bit at all)).0
awaited-has set i id (x ∷ heads) (suc j) head all has at =
    let e : i + suc j ≡ (i + 1) + j = omega arith in
    awaited-has set (i + 1) id heads j head (rest (has_bit set i) all) (rw e at has) at
  where
    rest : (b : Bool) → list_all (λ k. has_id k.1 id) (cond b ((i, x) ∷ filter (λ k. has_bit set k.0) (enumerate_from (i + 1) heads)) (filter (λ k. has_bit set k.0) (enumerate_from (i + 1) heads))) ≡ true → list_all (λ k. has_id k.1 id) (filter (λ k. has_bit set k.0) (enumerate_from (i + 1) heads)) ≡ true
    rest true all = (both (has_id x id) _ all).1
    rest false all = all

-- by what the rule takes
there-taking : (t : Take) (p : Protocol) (kind : Kind) (rule : Rule) (me : Option ℕ) (local : Local) (heads : Heads) → rule.take ≡ t → takes_there t local heads ≡ true → AreThere (outs_of p kind rule me local heads) heads
there-taking (take.Me id) p kind rule me local heads is there =
    record {
      request = λ taken. has-message heads.request id there;
      parent = λ taken. let never : false ≡ true = rw is at taken in cc;
      kids = λ j head bit at. absurd (no_bit j (rw is at bit));
    }
there-taking (take.Parent id) p kind rule me local heads is there =
    record {
      request = λ taken. let never : false ≡ true = rw is at taken in cc;
      parent = λ taken. has-message heads.parent id there;
      kids = λ j head bit at. absurd (no_bit j (rw is at bit));
    }
there-taking (take.Kids id) p kind rule me local heads is there =
    record {
      request = λ taken. let never : false ≡ true = rw is at taken in cc;
      parent = λ taken. let never : false ≡ true = rw is at taken in cc;
      kids = λ j head bit at. has-message head id (awaited-has (awaited_of local).0 0 id heads.kids j head (both _ _ there).1 (let e : 0 + j ≡ j = omega arith in rw e (rw is at bit)) at);
    }
there-taking take.Nothing p kind rule me local heads is there =
    record {
      request = λ taken. let never : false ≡ true = rw is at taken in cc;
      parent = λ taken. let never : false ≡ true = rw is at taken in cc;
      kids = λ j head bit at. absurd (no_bit j (rw is at bit));
    }

-- the heads that a firing takes are there
are-there : (p : Protocol) (tree : Tree) (f : Firing) (local : Local) (heads : Heads) (effect : Effect) → own_effect p tree f local heads ≡ Some effect → AreThere effect.outs heads
are-there p tree f local heads effect is =
    let by_kind = if_some _ (kind_of tree f.object.0) effect is in
    let by_rule = if_some _ (rule_named p by_kind.0 f.rule) effect by_kind.2 in
    let by_child = if_passed (is_own_child tree f.object.0 f.me) _ effect by_rule.2 in
    let me = place_of_me tree f.object.0 f.me in
    let made = chosen (can_fire p by_kind.0 by_rule.0 me local heads) _ effect by_child.1 in
    subst (λ (e : Effect). AreThere e.outs heads) made.1
    (there-taking by_rule.0.take p by_kind.0 by_rule.0 me local heads refl (can_fire-parts p by_kind.0 by_rule.0 me local heads made.0).there)

-- the head of the requester's requests is that of the named child
named-head : (line : Line) (o k : ℕ) (me : Option ObjectId) → option_map_or (λ child. child.0 == k) me false ≡ true → request_head line o me ≡ head_at line k UpRequests
named-head line o k None named = cc
named-head line o k (Some child) named = ap (λ n. head_at line n UpRequests) (eqb-true child.0 k named)

-- or of the processor
own-head : (line : Line) (o : ℕ) (me : Option ObjectId) → is_none me ≡ true → request_head line o me ≡ head_at line o Requests
own-head line o None none = refl
own-head line o (Some child) none = cc

-- each list that a firing takes from has a head
head-there : (tree : Tree) (line : Line) (f : Firing) (outs : Outs) (k : ℕ) (lane : Lane) → AreThere outs (heads_of tree line f.object.0 f.me) → takes tree f outs k lane ≡ true → HasMessage (head_at line k lane)
head-there tree line f outs k UpRequests there taken =
    let parts = and_left (outs.taken_request && option_map_or (λ child. child.0 == k) f.me false) (is_child tree k f.object.0) taken in
    let it = there.request (and_left outs.taken_request _ parts) in
    (it.0, sym (named-head line f.object.0 k f.me (and_right outs.taken_request _ parts)) ∙ it.1)
head-there tree line f outs k UpResponses there taken =
    let o = f.object.0 in
    there.kids (place_among tree o k) (head_at line k UpResponses) (and_right (is_child tree k o) _ taken)
    (slice_get-map (λ n. head_at line n UpResponses) (children_of tree o) (place_among tree o k) ∙ ap (option_map (λ n. head_at line n UpResponses)) (child_at tree o k (and_left (is_child tree k o) _ taken)))
head-there tree line f outs k Down there taken =
    let it = there.parent (and_left outs.taken_parent _ taken) in
    (it.0, ap (λ n. head_at line n Down) (eqb-true k f.object.0 (and_right outs.taken_parent _ taken)) ∙ it.1)
head-there tree line f outs k Requests there taken =
    let parts = and_left (outs.taken_request && is_none f.me) (k == f.object.0) taken in
    let it = there.request (and_left outs.taken_request _ parts) in
    (it.0, ap (λ n. head_at line n Requests) (eqb-true k f.object.0 (and_right (outs.taken_request && is_none f.me) _ taken)) ∙ sym (own-head line f.object.0 f.me (and_right outs.taken_request _ parts)) ∙ it.1)
head-there tree line f outs k Answers there taken = cc

-- so by the effect of a firing
pub taken-there : (p : Protocol) (tree : Tree) (line : Line) (f : Firing) (effect : Effect) (k : ℕ) (lane : Lane) → effect_of p tree line f ≡ Some effect → takes tree f effect.outs k lane ≡ true → (m : Message) × (head_at line k lane ≡ Some m)
taken-there p tree line f effect k lane is taken =
    let heads = heads_of tree line f.object.0 f.me in
    let by_local = if_some (λ local. own_effect p tree f local heads) (local_at line f.object.0) effect is in
    head-there tree line f effect.outs k lane (are-there p tree f by_local.0 heads effect by_local.2) taken
