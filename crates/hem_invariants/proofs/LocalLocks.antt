-- The lock that a firing takes: its origin is possible, its request declared, and those whom it awaits are children.
use Rattle.std.proofs.Common.{◌≡◌, refl, ap, subst, ℕ, ◌^◌, ◌<◌, true, false, length, arith, ltb-true, Option, Some, None, ◌⊎◌, inl, inr}
use Rattle.std.specs.Prelude.{nat_lt, not, ◌&&◌, option_map}
use Rattle.std.specs.Option.{option_map_or}
use Rattle.hem_base.specs.Sets.{bits_where}
use Rattle.hem_base.specs.declared.ids.Kind.{Kind}
use Rattle.hem_base.specs.declared.ids.Kind.TheVariants.{Root, Mid, Leaf}
use Rattle.hem_base.specs.declared.ids.KidSet.{KidSet}
use Rattle.hem_base.specs.declared.ids.Message.{Message}
use Rattle.hem_base.specs.declared.ids.MsgId.{MsgId}
use Rattle.hem_syntax.specs.declared.rule.Take.{Take}
use Rattle.hem_syntax.specs.declared.rule.Take.TheVariants as take
use Rattle.hem_syntax.specs.declared.rule.Side.{Side}
use Rattle.hem_syntax.specs.declared.rule.Side.TheVariants as side
use Rattle.hem_syntax.specs.declared.rule.Origin.{Origin}
use Rattle.hem_syntax.specs.declared.rule.Origin.TheVariants as origin
use Rattle.hem_syntax.specs.declared.rule.SendTo.{SendTo}
use Rattle.hem_syntax.specs.declared.rule.SendTo.TheVariants as send
use Rattle.hem_syntax.specs.Protocol.{Protocol, part, class_of, is_request}
use Rattle.hem_syntax.specs.Lawful.{has_set, has_message, has_send, counts_of}
use Rattle.hem_object.specs.declared.state.By.{By}
use Rattle.hem_object.specs.declared.state.By.TheVariants.{Processor, Kid, Parent, Own}
use Rattle.hem_object.specs.declared.state.Lock.{Lock}
use Rattle.hem_object.specs.declared.state.View.{View}
use Rattle.hem_object.specs.Local.{Local, nobody, IsOrigin, IsLock, IsWellFormed}
use Rattle.hem_object.specs.Guard.{value_of, is_requester}
use Rattle.hem_object.specs.Targets.{kid_is_in, targets_of}
use Rattle.hem_object.specs.Changes.{locked}
use Rattle.hem_object.proofs.Targets.{bits_where-lt}
use Rattle.hem_fire.specs.Heads.{Heads}
use Rattle.hem_fire.specs.View.{request_of, asker, kid_asker, requester, view_of}
use Rattle.hem_fire.specs.Sends.{message_of}
use Rattle.hem_fire.specs.Locks.{if_request, first_of, request_in_hand, lock_by, awaited_by, lock_taken}
use Rattle.hem_fire.specs.OneFire.{me_fits}
use Rattle.hem_invariants.specs.Declared.{IsDeclared, HeadsDeclared}
use Rattle.hem_invariants.proofs.Choices.{both, chosen, if_mapped}

-- the holder of a lock that asks is its origin
pub asker-by : (lock : Option Lock) (by : By) → asker lock ≡ Some by → (l : Lock) × (lock ≡ Some l) × (l.by ≡ by)
asker-by None by is = cc
asker-by (Some lock) by is = (lock, refl, one lock.by lock.request lock.awaited is)
  where
    one : (b : By) (request : Message) (awaited : KidSet) → asker (Some (record { by = b; request = request; awaited = awaited })) ≡ Some by → b ≡ by
    one Processor request awaited is = cc
    one (Kid c) request awaited is = cc
    one Parent request awaited is = cc
    one Own request awaited is = cc

-- so is that of one which a child asks for
pub kid_asker-by : (lock : Option Lock) (by : By) → kid_asker lock ≡ Some by → (l : Lock) × (lock ≡ Some l) × (l.by ≡ by)
kid_asker-by None by is = cc
kid_asker-by (Some lock) by is = (lock, refl, one lock.by lock.request lock.awaited is)
  where
    one : (b : By) (request : Message) (awaited : KidSet) → kid_asker (Some (record { by = b; request = request; awaited = awaited })) ≡ Some by → b ≡ by
    one Processor request awaited is = cc
    one (Kid c) request awaited is = cc
    one Parent request awaited is = cc
    one Own request awaited is = cc

-- for whom a firing works that takes from a child or the processor
me-origin : (kind : Kind) (id : MsgId) (me : Option ℕ) (size children : ℕ) → size ≡ children → me_fits kind (take.Me id) me size ≡ true → IsOrigin kind children (requester me)
me-origin Leaf id None size children same fits = tt
me-origin Leaf id (Some c) size children same fits = cc
me-origin Root id None size children same fits = cc
me-origin Root id (Some c) size children same fits = let less = ltb-true c size fits in omega arith
me-origin Mid id None size children same fits = cc
me-origin Mid id (Some c) size children same fits = let less = ltb-true c size fits in omega arith

-- the parent is a possible origin
parent-origin : (kind : Kind) (children : ℕ) → IsOrigin kind children Parent
parent-origin Leaf children = tt
parent-origin Root children = tt
parent-origin Mid children = tt

-- so is the object itself
own-origin : (kind : Kind) (children : ℕ) → IsOrigin kind children Own
own-origin Leaf children = tt
own-origin Root children = tt
own-origin Mid children = tt

-- no children are children
none-below : (n : ℕ) → 0 < 2 ^ n
none-below n = omega (arith, bits_where-lt (λ k. false) n)

-- those whom a lock awaits are children
awaited-below : (to : Side) (children : ℕ) (targets : KidSet) → targets.0 < 2 ^ children → (awaited_by to targets).0 < 2 ^ children
awaited-below side.Up children targets below = none-below children
awaited-below side.Down children targets below = below

-- an uplock awaits nobody
up-awaits-nobody : (to : Side) (targets : KidSet) → to ≡ side.Up → awaited_by to targets ≡ nobody
up-awaits-nobody side.Up targets is = refl
up-awaits-nobody side.Down targets is = cc

-- a request is the message itself
if_request-is : (p : Protocol) (head : Option Message) (m : Message) → if_request p head ≡ Some m → head ≡ Some m
if_request-is p None m is = cc
if_request-is p (Some x) m is = ap Some (chosen (option_map_or is_request (class_of p x.id) false) x m is).1

-- the first that is there is one of both
first_of-is : (a b : Option Message) (m : Message) → first_of a b ≡ Some m → (a ≡ Some m) ⊎ (b ≡ Some m)
first_of-is None b m is = inr is
first_of-is (Some x) b m is = inl is

-- a message of that id is declared where the id is
of_id : (p : Protocol) (id : MsgId) (value : Option ℕ) (m : Message) → nat_lt id.0 (length p.messages) ≡ true → option_map (λ x. (let made : Message = record { id = id; value = x } in made)) value ≡ Some m → IsDeclared p m
of_id p id None m has is = cc
of_id p id (Some x) m has is =
    let same : (let made : Message = record { id = id; value = x } in made) ≡ m = cc in
    subst (IsDeclared p) same (ltb-true id.0 (length p.messages) has)

-- what a rule sends is declared
pub message-declared : (p : Protocol) (kind : Kind) (to : SendTo) (local : Local) (view : View) (m : Message) → has_send (counts_of p (part p kind)) to ≡ true → message_of to local view ≡ Some m → IsDeclared p m
message-declared p kind send.Nothing local view m has is = cc
message-declared p kind (send.Me id v) local view m has is = of_id p id (value_of v local view) m has is
message-declared p kind (send.Parent id v) local view m has is = of_id p id (value_of v local view) m has is
message-declared p kind (send.Kids set id v) local view m has is = of_id p id (value_of v local view) m (both (has_set (counts_of p (part p kind)) set) (has_message (counts_of p (part p kind)) id) has).1 is
message-declared p kind (send.Others set id v) local view m has is = of_id p id (value_of v local view) m (both (has_set (counts_of p (part p kind)) set) (has_message (counts_of p (part p kind)) id) has).1 is

module _ (p : Protocol) (kind : Kind) (children : ℕ) (local : Local) (formed : IsWellFormed p kind children local) where
  -- the requester of a firing is an origin that a lock may have
  pub requester-origin : (t : Take) (me : Option ℕ) (heads : Heads) (by : By) → me_fits kind t me (length local.dir) ≡ true → (view_of t me local heads).requester ≡ Some by → IsOrigin kind children by
  requester-origin (take.Me id) me heads by fits is =
      let same : requester me ≡ by = (let both_are : Some (requester me) ≡ Some by = is in cc) in
      subst (IsOrigin kind children) same (me-origin kind id me (length local.dir) children formed.dir_count fits)
  requester-origin (take.Parent id) me heads by fits is =
      let it = asker-by local.up by is in
      subst (IsOrigin kind children) it.2 ((formed.up it.0 it.1).0.origin)
  requester-origin (take.Kids id) me heads by fits is =
      let it = kid_asker-by local.down by is in
      subst (IsOrigin kind children) it.2 ((formed.down it.0 it.1).origin)
  requester-origin take.Nothing me heads by fits is = cc

  -- the request that the uplock keeps is declared
  kept-up : (m : Message) → request_of local.up ≡ Some m → IsDeclared p m
  kept-up m is =
      let it = if_mapped (λ (l : Lock). l.request) local.up m is in
      subst (IsDeclared p) it.2 (formed.up it.0 it.1).0.declared_id

  -- and so is that of the downlock
  kept-down : (m : Message) → request_of local.down ≡ Some m → IsDeclared p m
  kept-down m is =
      let it = if_mapped (λ (l : Lock). l.request) local.down m is in
      subst (IsDeclared p) it.2 (formed.down it.0 it.1).declared_id

  -- the children that a firing sends to are children
  pub targets-below : (to : SendTo) (view : View) → (targets_of to local view).0 < 2 ^ children
  targets-below send.Nothing view = none-below children
  targets-below (send.Me id v) view = none-below children
  targets-below (send.Parent id v) view = none-below children
  targets-below (send.Kids set id v) view = subst (λ n. bits_where (kid_is_in local set) (length local.dir) < 2 ^ n) formed.dir_count (bits_where-lt (kid_is_in local set) (length local.dir))
  targets-below (send.Others set id v) view = subst (λ n. bits_where (λ k. kid_is_in local set k && not (is_requester view k)) (length local.dir) < 2 ^ n) formed.dir_count (bits_where-lt (λ k. kid_is_in local set k && not (is_requester view k)) (length local.dir))

  -- the request that a new lock keeps is declared
  pub request-declared : (t : Take) (to : SendTo) (me : Option ℕ) (heads : Heads) (m : Message) → HeadsDeclared p heads → has_send (counts_of p (part p kind)) to ≡ true → request_in_hand p t to local (view_of t me local heads) heads ≡ Some m → IsDeclared p m
  request-declared (take.Me id) to me heads m declared has is = declared.request m (if_request-is p heads.request m is)
  request-declared (take.Parent id) to me heads m declared has is = either (first_of-is (if_request p heads.parent) (request_of local.up) m is)
    where
      either : (if_request p heads.parent ≡ Some m) ⊎ (request_of local.up ≡ Some m) → IsDeclared p m
      either (inl head) = declared.parent m (if_request-is p heads.parent m head)
      either (inr kept) = kept-up m kept
  request-declared (take.Kids id) to me heads m declared has is = kept-down m is
  request-declared take.Nothing to me heads m declared has is = message-declared p kind to local (view_of take.Nothing me local heads) m has is

  -- a local state with a lock that may be held
  locked-formed : (to : Side) (lock : Lock) (left : Local) → IsLock p kind children lock → (to ≡ side.Up → lock.awaited ≡ nobody) → IsWellFormed p kind children left → IsWellFormed p kind children (locked to lock left)
  locked-formed side.Up lock left is none kept =
      record { field_count = kept.field_count; dir_count = kept.dir_count; fields = kept.fields; dir = kept.dir; up = λ other same. let it : lock ≡ other = cc in subst (λ l. IsLock p kind children l × (l.awaited ≡ nobody)) it (is, none refl); down = kept.down }
  locked-formed side.Down lock left is none kept =
      record { field_count = kept.field_count; dir_count = kept.dir_count; fields = kept.fields; dir = kept.dir; up = kept.up; down = λ other same. let it : lock ≡ other = cc in subst (IsLock p kind children) it is }

  -- so is the local state with the lock that a firing takes
  pub lock_taken-formed : (lock : Option (Side × Origin)) (view : View) (request : Option Message) (targets : KidSet) (left : Local) → ((by : By) → view.requester ≡ Some by → IsOrigin kind children by) → ((m : Message) → request ≡ Some m → IsDeclared p m) → targets.0 < 2 ^ children → IsWellFormed p kind children left → IsWellFormed p kind children (option_map_or (λ l. locked l.0 l.1 left) (lock_taken lock view request targets) left)
  lock_taken-formed None view request targets left origins declared below kept = kept
  lock_taken-formed (Some lock) view None targets left origins declared below kept = kept
  lock_taken-formed (Some lock) view (Some request) targets left origins declared below kept = held (lock_by lock.1 view) (lock_by-origin lock.1)
    where
      lock_by-origin : (by : Origin) (holder : By) → lock_by by view ≡ Some holder → IsOrigin kind children holder
      lock_by-origin origin.Child holder is = origins holder is
      lock_by-origin origin.Parent holder is = subst (IsOrigin kind children) (let same : Parent ≡ holder = cc in same) (parent-origin kind children)
      lock_by-origin origin.Own holder is = subst (IsOrigin kind children) (let same : Own ≡ holder = cc in same) (own-origin kind children)

      held : (by : Option By) → ((holder : By) → by ≡ Some holder → IsOrigin kind children holder) → IsWellFormed p kind children (option_map_or (λ (l : Side × Lock). locked l.0 l.1 left) (option_map (λ by. (lock.0, record { by = by; request = request; awaited = awaited_by lock.0 targets })) by) left)
      held None of = kept
      held (Some by) of = locked-formed lock.0 (record { by = by; request = request; awaited = awaited_by lock.0 targets }) left (record { declared_id = declared request refl; origin = of by refl; awaited = awaited-below lock.0 children targets below }) (up-awaits-nobody lock.0 targets) kept
