-- The actions of a rule at an object.
use Rattle.std.specs.Prelude.{ℕ, nat_lt, cond, List, [], ◌∷◌, ◌++◌, map, filter, Option, None, Some, slice_index_or, unwrap_or}
use Rattle.std.specs.List.{flat_map}
use Rattle.std.specs.Option.{option_map_or}
use Rattle.hem_base.specs.declared.ids.Kind.{Kind}
use Rattle.hem_base.specs.declared.ids.Kind.TheVariants.{Leaf}
use Rattle.hem_base.specs.declared.ids.MsgId.{MsgId}
use Rattle.hem_syntax.specs.declared.rule.Rule.{Rule}
use Rattle.hem_syntax.specs.declared.rule.Take.{Take}
use Rattle.hem_syntax.specs.declared.rule.Take.TheVariants as take
use Rattle.hem_syntax.specs.declared.rule.Side.{Side}
use Rattle.hem_syntax.specs.declared.rule.Side.TheVariants.{Up, Down}
use Rattle.hem_syntax.specs.declared.rule.Origin.{Origin}
use Rattle.hem_syntax.specs.declared.rule.Origin.TheVariants as origin
use Rattle.hem_syntax.specs.declared.rule.Value.{Value}
use Rattle.hem_syntax.specs.declared.rule.Value.TheVariants as value
use Rattle.hem_syntax.specs.declared.rule.Assign.{Assign}
use Rattle.hem_syntax.specs.declared.rule.Assign.TheVariants as assign
use Rattle.hem_syntax.specs.declared.rule.SendTo.{SendTo}
use Rattle.hem_syntax.specs.declared.rule.SendTo.TheVariants as send
use Rattle.hem_syntax.specs.Protocol.{Protocol, is_request}
use Rattle.hem_syntax.specs.Protocol.{has_class, is_up_rsp}
use Rattle.hem_template.specs.Template.{value_sent}
use Rattle.hem_system.specs.declared.lane.Lane.TheVariants as lane
use Rattle.hem_module.specs.Module.{equals, number, read, head_value, deq, put, enq}
use Rattle.hem_emit.specs.Names as name
use Rattle.hem_emit.specs.Names.{Reg, Queue}
use Rattle.hem_emit.specs.Place.{Test, Amount, Deed, Action, Place, kids_at, others_at, is_named, Asker, fixed, holder, asker_of, origin_at, kid_origin}
use Rattle.hem_emit.specs.Clauses.{entry_in, held_for, not_held_for, requests_of, parent_queue, responses_of}

-- a deed that is done whatever the state is
abbrev pub always : Deed → Action
always deed = record { tests = []; deed = deed }

-- a deed that is done where these tests hold
abbrev pub where_holds : List Test → Deed → Action
where_holds tests deed = record { tests = tests; deed = deed }

-- a child is awaited
abbrev pub is_awaited : ℕ × ℕ → Test
is_awaited k = equals (name.awaits k.1) 1

-- a child is not awaited
abbrev pub not_awaited : ℕ × ℕ → Test
not_awaited k = equals (name.awaits k.1) 0

-- a child is the least that is awaited
abbrev pub is_first_awaited : Place → ℕ × ℕ → List Test
is_first_awaited at k = is_awaited k ∷ map not_awaited (filter (λ b. nat_lt b.0 k.0) (kids_at at))

-- the amounts that a value may mean, each with the tests under which it does
abbrev pub amounts_of : Place → Option ℕ → Take → Value → List (List Test × Amount)
amounts_of at me t value.Val = ([], read (name.val at.object)) ∷ []
amounts_of at me (take.Me id) value.Msg = ([], head_value (requests_of at me)) ∷ []
amounts_of at me (take.Parent id) value.Msg = ([], head_value (parent_queue at)) ∷ []
amounts_of at me (take.Parent id) value.Kept = ([], read (name.lock Up name.kept at.object)) ∷ []
amounts_of at me (take.Kids id) value.Kept = ([], read (name.lock Down name.kept at.object)) ∷ []
amounts_of at me t value.Rs = map (λ k. (is_first_awaited at k, head_value (responses_of k))) (kids_at at)
amounts_of at me t _ = ([], number 0) ∷ []

-- a deed with a value, under some tests: once for each amount that the value may mean
abbrev pub with_value : Place → Option ℕ → Take → Value → List Test → (Amount → Deed) → List Action
with_value at me t v tests deed = map (λ a. where_holds (tests ++ a.0) (deed a.1)) (amounts_of at me t v)

-- the heads that a rule takes
abbrev pub take_actions : Place → Option ℕ → Take → List Action
take_actions at me (take.Me id) = always (deq (requests_of at me)) ∷ []
take_actions at me (take.Parent id) = always (deq (parent_queue at)) ∷ []
take_actions at me (take.Kids id) = map (λ k. where_holds (is_awaited k ∷ []) (deq (responses_of k))) (kids_at at)
take_actions at me take.Nothing = []

-- a set of a field or of the value
abbrev pub set_own : Place → Option ℕ → Take → Assign → List Action
set_own at me t (assign.Field i s) = always (put (name.field i at.object) (number s.0)) ∷ []
set_own at me t (assign.Val v) = with_value at me t v [] (put (name.val at.object))
set_own at me t _ = []

-- a set of the awaited children's entries
abbrev pub set_targets : Place → Assign → List Action
set_targets at (assign.Targets s) = map (λ k. where_holds (is_awaited k ∷ []) (put (name.entry k.1) (number s.0))) (kids_at at)
set_targets at _ = []

-- a set of the requester's entry
abbrev pub set_me : Place → Asker → Assign → List Action
set_me at (fixed me) (assign.Me s) = map (λ k. always (put (name.entry k.1) (number s.0))) (filter (λ k. is_named me k.0) (kids_at at))
set_me at (holder side) (assign.Me s) = map (λ k. where_holds (held_for at side k ∷ []) (put (name.entry k.1) (number s.0))) (kids_at at)
set_me at who _ = []

-- the sets of a rule: fields and value in text order, then targets, then me
abbrev pub set_actions : Place → Option ℕ → Rule → List Action
set_actions at me rule =
    flat_map (set_own at me rule.take) rule.sets
    ++ flat_map (set_targets at) rule.sets
    ++ flat_map (set_me at (asker_of rule.take me)) rule.sets

-- a lock is freed: its three registers, and at the downlock those of the awaited children
abbrev pub free_lock : Place → Side → List Action
free_lock at side =
    always (put (origin_at at side) (number 0))
    ∷ always (put (name.lock side name.asked at.object) (number 0))
    ∷ always (put (name.lock side name.kept at.object) (number 0))
    ∷ []

abbrev pub free_actions : Place → Option Side → List Action
free_actions at None = []
free_actions at (Some Up) = free_lock at Up
free_actions at (Some Down) = free_lock at Down ++ map (λ k. always (put (name.awaits k.1) (number 0))) (kids_at at)

-- the id that a rule sends
abbrev pub id_sent : SendTo → Option MsgId
id_sent send.Nothing = None
id_sent (send.Me id v) = Some id
id_sent (send.Parent id v) = Some id
id_sent (send.Kids set id v) = Some id
id_sent (send.Others set id v) = Some id

-- the origin of a lock that a rule takes
abbrev pub origin_amount : Place → Asker → Origin → Amount
origin_amount at who origin.Own = number 1
origin_amount at who origin.Parent = number 2
origin_amount at (fixed None) origin.Child = number 3
origin_amount at (fixed (Some k)) origin.Child = number (kid_origin (slice_index_or at.kids k 0))
origin_amount at (holder side) origin.Child = read (origin_at at side)

-- the id of the request that a lock of this rule keeps: of what is taken or sent, or of what the uplock kept
abbrev pub id_in_hand : Protocol → Place → Take → SendTo → Amount
id_in_hand p at (take.Me id) to = number id.0
id_in_hand p at (take.Parent id) to = cond (has_class p id is_request) (number id.0) (read (name.lock Up name.asked at.object))
id_in_hand p at (take.Kids id) to = read (name.lock Down name.asked at.object)
id_in_hand p at take.Nothing to = number (option_map_or (λ id. id.0) (id_sent to) 0)

-- its value
abbrev pub value_in_hand : Protocol → Take → SendTo → Value
value_in_hand p (take.Me id) to = value.Msg
value_in_hand p (take.Parent id) to = cond (has_class p id is_request) value.Msg value.Kept
value_in_hand p (take.Kids id) to = value.Kept
value_in_hand p take.Nothing to = unwrap_or (value_sent to) value.Zero

-- the children that may be sent to, each with the tests under which it is: once for each status of the set
abbrev pub targets_at : Place → Asker → SendTo → List ((ℕ × ℕ) × List Test)
targets_at at who (send.Kids set id v) = flat_map (λ k. map (λ test. (k, test ∷ [])) (entry_in at set k)) (kids_at at)
targets_at at (fixed me) (send.Others set id v) = flat_map (λ k. map (λ test. (k, test ∷ [])) (entry_in at set k)) (others_at at me)
targets_at at (holder side) (send.Others set id v) =
    flat_map (λ k. map (λ test. (k, not_held_for at side k ∷ test ∷ [])) (entry_in at set k)) (kids_at at)
targets_at at who _ = []

-- the children that a lock awaits: at the downlock those that are sent to
abbrev pub await_actions : Place → Asker → SendTo → Side → List Action
await_actions at who to Up = []
await_actions at who to Down = map (λ x. where_holds x.1 (put (name.awaits x.0.1) (number 1))) (targets_at at who to)

-- the lock that a rule takes
abbrev pub lock_actions : Protocol → Place → Option ℕ → Rule → Option (Side × Origin) → List Action
lock_actions p at me rule None = []
lock_actions p at me rule (Some l) =
    let who = asker_of rule.take me in
    always (put (origin_at at l.0) (origin_amount at who l.1))
    ∷ always (put (name.lock l.0 name.asked at.object) (id_in_hand p at rule.take rule.send))
    ∷ with_value at me rule.take (value_in_hand p rule.take rule.send) [] (put (name.lock l.0 name.kept at.object))
    ++ await_actions at who rule.send l.0

-- the queue of an object's messages to a child
abbrev pub child_queue : ℕ × ℕ → Queue
child_queue k = record { object = k.1; lane = lane.Down }

-- the queues that may be the requester's, each with the tests under which it is
abbrev pub requester_queues : Kind → Place → Asker → List (List Test × Queue)
requester_queues Leaf at who = ([], record { object = at.object; lane = lane.Answers }) ∷ []
requester_queues _ at (fixed me) = map (λ k. ([], child_queue k)) (filter (λ k. is_named me k.0) (kids_at at))
requester_queues _ at (holder side) = map (λ k. (held_for at side k ∷ [], child_queue k)) (kids_at at)

-- the queue of an object's messages of an id to its parent
abbrev pub parent_lane : Protocol → Place → MsgId → Queue
parent_lane p at id = record { object = at.object; lane = cond (has_class p id is_up_rsp) lane.UpResponses lane.UpRequests }

-- what a rule sends
abbrev pub send_actions : Protocol → Place → Option ℕ → Take → SendTo → List Action
send_actions p at me t send.Nothing = []
send_actions p at me t (send.Me id v) =
    flat_map (λ w. with_value at me t v w.0 (enq w.1 id.0)) (requester_queues at.kind at (asker_of t me))
send_actions p at me t (send.Parent id v) = with_value at me t v [] (enq (parent_lane p at id) id.0)
send_actions p at me t (send.Kids set id v) =
    flat_map (λ x. with_value at me t v x.1 (enq (child_queue x.0) id.0)) (targets_at at (asker_of t me) (send.Kids set id v))
send_actions p at me t (send.Others set id v) =
    flat_map (λ x. with_value at me t v x.1 (enq (child_queue x.0) id.0)) (targets_at at (asker_of t me) (send.Others set id v))

-- the actions of a rule: what it takes, sets, frees, locks and sends
abbrev pub actions_of : Protocol → Place → Option ℕ → Rule → List Action
actions_of p at me rule =
    take_actions at me rule.take
    ++ set_actions at me rule
    ++ free_actions at rule.free
    ++ lock_actions p at me rule rule.lock
    ++ send_actions p at me rule.take rule.send
