-- A rule that can fire: what its test says, part by part.
use Rattle.std.proofs.Common.{◌≡◌, refl, ap, sym, ◌∙◌, subst, ℕ, zero, suc, ◌+◌, Bool, true, false, cond, List, [], ◌∷◌, length, arith, add-zero, zero-add, Option, Some, None}
use Rattle.std.specs.Prelude.{◌==◌, filter, slice_get, is_some}
use Rattle.std.specs.List.{list_all, enumerate_from}
use Rattle.std.specs.Option.{option_map_or}
use Rattle.std.proofs.lemmas.Bool.{eqb-true}
use Rattle.hem_base.specs.Sets.{has_bit}
use Rattle.hem_base.specs.declared.ids.Message.{Message}
use Rattle.hem_base.specs.declared.ids.MsgId.{MsgId}
use Rattle.hem_base.specs.declared.ids.Kind.{Kind}
use Rattle.hem_base.specs.declared.ids.Kind.TheVariants.{Root, Mid, Leaf}
use Rattle.hem_syntax.specs.declared.rule.Rule.{Rule}
use Rattle.hem_syntax.specs.declared.rule.Take.{Take}
use Rattle.hem_syntax.specs.declared.rule.Hold.{Hold}
use Rattle.hem_syntax.specs.declared.rule.Hold.TheVariants as hold
use Rattle.hem_object.specs.declared.state.By.{By}
use Rattle.hem_object.specs.declared.state.By.TheVariants.{Processor, Kid, Parent, Own}
use Rattle.hem_object.specs.declared.state.Lock.{Lock}
use Rattle.hem_syntax.specs.Protocol.{Protocol, has_class, is_down_req, is_down_rsp}
use Rattle.hem_object.specs.Local.{Local}
use Rattle.hem_object.specs.Guard.{holds}
use Rattle.hem_template.specs.declared.row.Taking.{Taking}
use Rattle.hem_template.specs.declared.row.Taking.TheVariants.{NothingTaken, FromRequester, ParentRequest, ParentResponse, FromKids}
use Rattle.hem_object.specs.Changes.{assign_names}
use Rattle.hem_fire.specs.Heads.{Heads, has_id, awaited_of, takes_there}
use Rattle.hem_fire.specs.View.{asker, view_of}
use Rattle.hem_fire.specs.Sends.{send_names}
use Rattle.hem_fire.specs.Locks.{need_holds, lock_names, request_in_hand}
use Rattle.hem_fire.specs.OneFire.{me_fits, can_fire}
use Rattle.hem_rows.specs.Rows.{IsTaking}
use Rattle.hem_rows.specs.Acts.{IsThere, IsNeeded, IsNamed, AreHeads, is_down_request, is_down_response}
use Rattle.hem_rows.proofs.Choices.{both, is_nothing}

-- the parts of what makes a rule possible
pub record CanFire (p : Protocol) (kind : Kind) (rule : Rule) (me : Option ℕ) (local : Local) (heads : Heads) : Type 0 where
  pub fits : me_fits kind rule.take me (length local.dir) ≡ true
  pub takes : takes_there rule.take local heads ≡ true
  pub up : need_holds rule.need.up local.up ≡ true
  pub down : need_holds rule.need.down local.down ≡ true
  pub sets : list_all (assign_names local (view_of rule.take me local heads)) rule.sets ≡ true
  pub lock : lock_names rule.lock (view_of rule.take me local heads) (request_in_hand p rule.take rule.send local (view_of rule.take me local heads) heads) ≡ true
  pub guard : holds rule.guard local (view_of rule.take me local heads) ≡ true
  pub send : send_names kind rule.send local (view_of rule.take me local heads) ≡ true

pub can_parts : (p : Protocol) (kind : Kind) (rule : Rule) (me : Option ℕ) (local : Local) (heads : Heads) → can_fire p kind rule me local heads ≡ true → CanFire p kind rule me local heads
can_parts p kind rule me local heads can =
    let a = both _ _ can in
    let b = both _ _ a.0 in
    let c = both _ _ b.0 in
    let d = both _ _ c.0 in
    let e = both _ _ d.0 in
    let f = both _ _ e.0 in
    let g = both _ _ f.0 in
    record { fits = g.0; takes = g.1; up = f.1; down = e.1; sets = d.1; lock = c.1; guard = b.1; send = a.1 }

-- a lock that is held for a requester
held_for_requester : (lock : Option Lock) → is_some (asker lock) ≡ true → (l : Lock) × (lock ≡ Some l) × (asker lock ≡ Some l.by)
held_for_requester None held = cc
held_for_requester (Some lock) held = by_holder lock.by refl held
  where
    by_holder : (by : By) → lock.by ≡ by → is_some (elim by as (λ b. Option By) [ Processor ↦ Some Processor | Kid c ↦ Some (Kid c) | _ ↦ None ]) ≡ true → (l : Lock) × (Some lock ≡ Some l) × (asker (Some lock) ≡ Some l.by)
    by_holder Processor is held = (lock, refl, rw is refl)
    by_holder (Kid c) is held = (lock, refl, rw is refl)
    by_holder Parent is held = cc
    by_holder Own is held = cc

-- a lock that is as the rule needs it
pub needed : (need : Hold) (lock : Option Lock) → need_holds need lock ≡ true → IsNeeded need lock
needed hold.Any lock holds = tt
needed hold.Free lock holds = is_nothing lock holds
needed hold.Child lock holds = held_for_requester lock holds
needed hold.Parent None holds = cc
needed hold.Parent (Some lock) holds = (lock, refl, by_holder lock.by holds)
  where
    by_holder : (by : By) → (elim by as (λ b. Bool) [ Parent ↦ true | _ ↦ false ]) ≡ true → by ≡ Parent
    by_holder Parent is = refl
    by_holder Processor is = cc
    by_holder (Kid c) is = cc
    by_holder Own is = cc
needed hold.Own None holds = cc
needed hold.Own (Some lock) holds = (lock, refl, by_holder lock.by holds)
  where
    by_holder : (by : By) → (elim by as (λ b. Bool) [ Own ↦ true | _ ↦ false ]) ≡ true → by ≡ Own
    by_holder Own is = refl
    by_holder Processor is = cc
    by_holder (Kid c) is = cc
    by_holder Parent is = cc

-- a child that a firing names
a_child : (me : Option ℕ) (test : ℕ → Bool) → option_map_or test me false ≡ true → (c : ℕ) × (me ≡ Some c)
a_child None test is = cc
a_child (Some c) test is = (c, refl)

-- which child a firing names
pub named_by : (p : Protocol) (kind : Kind) (taking : Taking) (t : Take) (me : Option ℕ) (children : ℕ) → IsTaking p taking t → me_fits kind t me children ≡ true → IsNamed kind taking me
named_by p Leaf taking t me children is fits = is_nothing me fits
named_by p Root FromRequester t me children is fits = a_child me _ (rw is.1 at fits)
named_by p Root NothingTaken t me children is fits = is_nothing me (rw is at fits)
named_by p Root ParentRequest t me children is fits = is_nothing me (rw is.1 at fits)
named_by p Root ParentResponse t me children is fits = is_nothing me (rw is.1 at fits)
named_by p Root FromKids t me children is fits = is_nothing me (rw is.1 at fits)
named_by p Mid FromRequester t me children is fits = a_child me _ (rw is.1 at fits)
named_by p Mid NothingTaken t me children is fits = is_nothing me (rw is at fits)
named_by p Mid ParentRequest t me children is fits = is_nothing me (rw is.1 at fits)
named_by p Mid ParentResponse t me children is fits = is_nothing me (rw is.1 at fits)
named_by p Mid FromKids t me children is fits = is_nothing me (rw is.1 at fits)

-- a message with an id is there
a_message : (head : Option Message) (id : MsgId) → has_id head id ≡ true → IsThere head
a_message None id has = cc
a_message (Some m) id has = (m, refl)

-- and it has the class of the id
of_class : (p : Protocol) (head : Option Message) (id : MsgId) (test : Message → Bool) (t : Bool) → ((m : Message) → (m.id.0 == id.0) ≡ true → test m ≡ t) → has_id head id ≡ true → (m : Message) × (head ≡ Some m) × (test m ≡ t)
of_class p None id test t same has = cc
of_class p (Some m) id test t same has = (m, refl, same m has)

same_id : (a b : MsgId) → a.0 ≡ b.0 → b ≡ a
same_id a b same = ap (λ (n : ℕ). let i : MsgId = record { 0 = n } in i) (sym same)

-- a message whose id is of a class
of_class_of : (p : Protocol) (m : Message) (id : MsgId) → (m.id.0 == id.0) ≡ true → id ≡ m.id
of_class_of p m id same = same_id m.id id (eqb-true m.id.0 id.0 same)

-- the heads of some children have the id that each must have
awaited_has : (set i : ℕ) (id : MsgId) (heads : List (Option Message)) (k : ℕ) (head : Option Message) → list_all (λ x. has_id x.1 id) (filter (λ x. has_bit set x.0) (enumerate_from i heads)) ≡ true → has_bit set (i + k) ≡ true → slice_get heads k ≡ Some head → has_id head id ≡ true
awaited_has set i id [] k head all has at = cc
awaited_has set i id (x ∷ heads) zero head all has at =
    let bit : has_bit set i ≡ true = rw add-zero at has in
    let it : x ≡ head = cc in
    subst (λ x. has_id x id ≡ true) it (both (has_id x id) _ (rw bit at all)).0
awaited_has set i id (x ∷ heads) (suc k) head all has at =
    let e : i + suc k ≡ (i + 1) + k = omega arith in
    awaited_has set (i + 1) id heads k head (rest (has_bit set i) all) (rw e at has) at
  where
    rest : (b : Bool) → list_all (λ x. has_id x.1 id) (cond b ((i, x) ∷ filter (λ x. has_bit set x.0) (enumerate_from (i + 1) heads)) (filter (λ x. has_bit set x.0) (enumerate_from (i + 1) heads))) ≡ true → list_all (λ x. has_id x.1 id) (filter (λ x. has_bit set x.0) (enumerate_from (i + 1) heads)) ≡ true
    rest true all = (both (has_id x id) _ all).1
    rest false all = all

-- the heads that a rule takes are there
pub heads_there : (p : Protocol) (taking : Taking) (t : Take) (local : Local) (heads : Heads) → IsTaking p taking t → takes_there t local heads ≡ true → AreHeads p taking local heads
heads_there p NothingTaken t local heads is there = tt
heads_there p FromRequester t local heads is there = a_message heads.request is.0 (rw is.1 at there)
heads_there p ParentRequest t local heads is there = of_class p heads.parent is.0 (is_down_request p) true (λ m same. ap (λ id. has_class p id is_down_req) (sym (of_class_of p m is.0 same)) ∙ is.2) (rw is.1 at there)
heads_there p ParentResponse t local heads is there = of_class p heads.parent is.0 (is_down_response p) true (λ m same. ap (λ id. has_class p id is_down_rsp) (sym (of_class_of p m is.0 same)) ∙ is.2) (rw is.1 at there)
heads_there p FromKids t local heads is there =
    λ k head bit at. a_message head is.0 (awaited_has (awaited_of local).0 0 is.0 heads.kids k head (both _ _ (rw is.1 at there)).1 (rw zero-add bit) at)
