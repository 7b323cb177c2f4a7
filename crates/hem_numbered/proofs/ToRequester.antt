-- The answer to whoever asked.
use Rattle.std.proofs.Common.{◌≡◌, ℕ, Bool, true, false, ◌&&◌, refl, sym, ap, ◌∙◌, subst, Option, Some, None, inl, inr, ◌⊎◌}
use Rattle.std.specs.Prelude.{◌==◌, slice_get}
use Rattle.std.specs.Option.{option_map_or}
use Rattle.std.proofs.lemmas.Bool.{eqb-true}
use Rattle.hem_base.specs.declared.ids.Kind.{Kind}
use Rattle.hem_base.specs.declared.ids.Kind.TheVariants.{Root, Mid, Leaf}
use Rattle.hem_base.specs.declared.ids.MsgId.{MsgId}
use Rattle.hem_base.specs.declared.ids.Firing.{Firing}
use Rattle.hem_syntax.specs.declared.rule.Class.{Class}
use Rattle.hem_syntax.specs.declared.rule.Class.TheVariants.{ExtReq, ExtRsp, UpReq, UpRsp, DownReq, DownRsp}
use Rattle.hem_object.specs.declared.state.By.{By}
use Rattle.hem_object.specs.declared.state.By.TheVariants.{Processor, Kid, Parent, Own}
use Rattle.hem_syntax.specs.Protocol.{Protocol, class_of, has_class, is_down_req, is_down_rsp}
use Rattle.hem_template.specs.Template.{is_leaf}
use Rattle.hem_tree.specs.Tree.{Tree, kind_of, children_of, is_child, place_among, IsTree}
use Rattle.hem_fire.specs.declared.outs.To.TheVariants as to
use Rattle.hem_fire.specs.declared.outs.Outs.{Outs}
use Rattle.hem_fire.specs.Sends.{to_requester}
use Rattle.hem_system.specs.declared.lane.Lane.{Lane}
use Rattle.hem_system.specs.declared.lane.Lane.TheVariants.{UpRequests, UpResponses, Down}
use Rattle.hem_system.specs.State.{reaches}
use Rattle.hem_system.proofs.Kids.{child_at}
use Rattle.hem_rows.specs.Acts.{is_down_response}
use Rattle.hem_shape.specs.Progress.{child, processor}
use Rattle.hem_shape.specs.Move.{answer}
use Rattle.hem_numbered.specs.Numbers.{asker_of}
use Rattle.hem_locks.proofs.Places.{within}
use Rattle.hem_numbered.proofs.Held.{Asks}
use Rattle.hem_numbered.proofs.GivesAs.{GivesAs, nowhere_as, processor_reached, answer_down_as}

-- a message is no request and response at once
one_class : (c : Option Class) → option_map_or is_down_rsp c false ≡ true → option_map_or is_down_req c false ≡ false
one_class None is = refl
one_class (Some ExtReq) is = refl
one_class (Some ExtRsp) is = refl
one_class (Some UpReq) is = refl
one_class (Some UpRsp) is = refl
one_class (Some DownReq) is = cc
one_class (Some DownRsp) is = refl

pub response_no_request : (p : Protocol) (id : MsgId) → has_class p id is_down_rsp ≡ true → has_class p id is_down_req ≡ false
response_no_request p id is = one_class (class_of p id) is

other_class : (c : Option Class) → option_map_or is_down_req c false ≡ true → option_map_or is_down_rsp c false ≡ false
other_class None is = refl
other_class (Some ExtReq) is = refl
other_class (Some ExtRsp) is = refl
other_class (Some UpReq) is = refl
other_class (Some UpRsp) is = refl
other_class (Some DownReq) is = refl
other_class (Some DownRsp) is = cc

pub request_no_response : (p : Protocol) (id : MsgId) → has_class p id is_down_req ≡ true → has_class p id is_down_rsp ≡ false
request_no_response p id is = other_class (class_of p id) is

-- an object with a child is no leaf
parents_no_leaf : (tree : Tree) (o i c : ℕ) (kind : Kind) → IsTree tree → kind_of tree o ≡ Some kind → slice_get (children_of tree o) i ≡ Some c → is_leaf kind ≡ false
parents_no_leaf tree o i c Root lawful is there = refl
parents_no_leaf tree o i c Mid lawful is there = refl
parents_no_leaf tree o i c Leaf lawful is there =
    let none = (lawful.leaves o (within tree o Leaf is)).0 is in
    absurd (let bad : None ≡ Some c = sym (ap (λ ks. slice_get ks i) none) ∙ there in cc)

-- nobody stands at the place
nobody_there : (tree : Tree) (o i k : ℕ) → slice_get (children_of tree o) i ≡ None → (is_child tree k o && place_among tree o k == i) ≡ false
nobody_there tree o i k none = by_tests (is_child tree k o) refl (place_among tree o k == i) refl
  where
    by_tests : (b : Bool) → is_child tree k o ≡ b → (e : Bool) → (place_among tree o k == i) ≡ e → (b && e) ≡ false
    by_tests false own e is = refl
    by_tests true own false is = refl
    by_tests true own true is = absurd (let bad : None ≡ Some k = sym none ∙ ap (λ i. slice_get (children_of tree o) i) (sym (eqb-true (place_among tree o k) i is)) ∙ child_at tree o k own in cc)

pub requester_as : (p : Protocol) (tree : Tree) (f : Firing) (outs : Outs) (kind : Kind) (by : By) → IsTree tree → kind_of tree f.object.0 ≡ Some kind → Asks by → outs.to ≡ to_requester (Some by) → (is_leaf kind ≡ false → is_down_response p outs.message ≡ true) → GivesAs p tree f outs (asker_of tree f.object.0 by) answer
requester_as p tree f outs kind Processor lawful is asks goes response = nowhere_as p tree f outs processor (inl refl) (λ k lane which. ap (λ to. reaches tree f to k lane) goes ∙ processor_reached tree f k lane which)
requester_as p tree f outs kind (Kid i) lawful is asks goes response = by_child (slice_get (children_of tree f.object.0) i) refl
  where
    reached : (lane : Lane) (k : ℕ) → slice_get (children_of tree f.object.0) i ≡ None → (lane ≡ UpRequests) ⊎ ((lane ≡ UpResponses) ⊎ (lane ≡ Down)) → reaches tree f (to.Kid i) k lane ≡ false
    reached UpRequests k none which = refl
    reached UpResponses k none which = refl
    reached Down k none which = nobody_there tree f.object.0 i k none
    reached _ k none (inl is) = cc
    reached _ k none (inr (inl is)) = cc
    reached _ k none (inr (inr is)) = cc

    by_child : (c : Option ℕ) → slice_get (children_of tree f.object.0) i ≡ c → GivesAs p tree f outs (asker_of tree f.object.0 (Kid i)) answer
    by_child None at = nowhere_as p tree f outs (asker_of tree f.object.0 (Kid i)) (inl (ap (λ c. option_map_or child c processor) at)) (λ k lane which. ap (λ to. reaches tree f to k lane) goes ∙ reached lane k at which)
    by_child (Some c) at =
        let message = response (parents_no_leaf tree f.object.0 i c kind lawful is at) in
        subst (λ a. GivesAs p tree f outs a answer) (sym (ap (λ c. option_map_or child c processor) at))
        (answer_down_as p tree f outs i c (to.Kid i) goes (λ k. refl) (λ k. refl) (λ k. refl) at message (response_no_request p outs.message.id message))
requester_as p tree f outs kind Parent lawful is asks goes response = absurd asks
requester_as p tree f outs kind Own lawful is asks goes response = absurd asks
