-- What an object knows on a line, and the firing that it chooses.
use Rattle.std.specs.Prelude.{ℕ, suc, max, nat_lt, Bool, true, false, not, ◌&&◌, ◌||◌, cond, List, [], ◌∷◌, length, map, Option, None, Some, slice_get, option_map, option_and_then}
use Rattle.std.specs.List.{list_all, enumerate_from}
use Rattle.std.specs.Option.{option_map_or, option_or}
use Rattle.hem_base.specs.Sets.{has_bit}
use Rattle.hem_base.specs.declared.ids.Kind.{Kind}
use Rattle.hem_base.specs.declared.ids.KidSet.{KidSet}
use Rattle.hem_base.specs.declared.ids.Message.{Message}
use Rattle.hem_base.specs.declared.ids.Carried.{Carried}
use Rattle.hem_syntax.specs.Protocol.{Protocol, part}
use Rattle.hem_syntax.specs.declared.rule.Rule.{Rule}
use Rattle.hem_syntax.specs.declared.rule.Take.{Take}
use Rattle.hem_object.specs.Local.{Local}
use Rattle.hem_fire.specs.declared.outs.To.{To}
use Rattle.hem_fire.specs.declared.outs.To.TheVariants as to
use Rattle.hem_fire.specs.declared.outs.Outs.{Outs}
use Rattle.hem_fire.specs.declared.plan.Plan.{Plan}
use Rattle.hem_fire.specs.Heads.{Heads}
use Rattle.hem_fire.specs.Plans.{plan_of}
use Rattle.hem_tree.specs.Tree.{below}
use Rattle.hem_system.specs.State.{map_each}
use Rattle.hem_system.specs.Ended.{takes_nothing}
use Rattle.hem_abstract.specs.First.{first_with}
use Rattle.hem_ends.specs.declared.kids.KidLook.{KidLook}
use Rattle.hem_ends.specs.Ends.{Look}

-- what an object chooses by on a line: its processor's first request, what it knows of its edges, whether its self firings are spent, and its last stamp
pub record Sight : Type 0 where
  pub asked : Option Message
  pub look : Look
  pub spent : Bool
  pub last : ℕ

-- a firing that may be made: its rule, the place of the child that it names, its plan and its stamp
pub record Choice : Type 0 where
  pub rule : Rule
  pub me : Option ℕ
  pub plan : Plan
  pub stamp : ℕ

-- the greatest stamp that a firing may have
abbrev pub greatest_stamp : ℕ
greatest_stamp = 4611686018427387904

-- the message of what was carried, and its stamp, 0 where there is none
abbrev pub message_in : Option Carried → Option Message
message_in carried = option_map (λ c. c.message) carried

abbrev pub stamp_in : Option Carried → ℕ
stamp_in carried = option_map_or (λ c. c.stamp) carried 0

-- the first request of the named child
abbrev pub request_of : Look → Option ℕ → Option Carried
request_of look me = option_and_then (λ place. option_and_then (λ kid. kid.request) (slice_get look.kids place)) me

-- the heads of the lists of a firing that names this child, or else the processor
abbrev pub request_head : Sight → Option ℕ → Option Message
request_head sight None = sight.asked
request_head sight (Some place) = message_in (request_of sight.look (Some place))

abbrev pub heads_of : Sight → Option ℕ → Heads
heads_of sight me =
    record {
      request = request_head sight me;
      parent = message_in sight.look.parent;
      kids = map (λ kid. message_in kid.response) sight.look.kids;
    }

-- a slot is reserved wherever a message goes
abbrev pub may_send : Look → To → Bool
may_send look to.Nobody = true
may_send look to.Answer = true
may_send look to.UpRequest = look.up_request
may_send look to.UpResponse = look.up_response
may_send look (to.Kid place) = option_map_or (λ kid. kid.is_open) (slice_get look.kids place) false
may_send look (to.Kids set) = list_all (λ k. not (has_bit set.0 k.0) || k.1.is_open) (enumerate_from 0 look.kids)

-- the greatest of numbers, 0 of none
abbrev pub greatest : List ℕ → ℕ
greatest [] = 0
greatest (n ∷ ns) = max n (greatest ns)

-- of each child the stamp of its first response, where it is in the set, and else 0
abbrev pub response_stamps : KidSet → List KidLook → List ℕ
response_stamps set kids = map_each (λ k kid. cond (has_bit set.0 k) (stamp_in kid.response) 0) 0 kids

-- the stamps of the messages that a firing takes
abbrev pub stamps_taken : Look → Option ℕ → Outs → List ℕ
stamps_taken look me outs =
    cond outs.taken_request (stamp_in (request_of look me)) 0
    ∷ cond outs.taken_parent (stamp_in look.parent) 0
    ∷ response_stamps outs.taken_kids look.kids

-- the stamp of a firing: 1 plus the greatest of the last stamp and of those of the messages that it takes
abbrev pub stamp_after : ℕ → Look → Option ℕ → Outs → ℕ
stamp_after last look me outs = suc (max last (greatest (stamps_taken look me outs)))

-- the firing by a plan, where a slot is reserved wherever it sends and its stamp isn't past the greatest
abbrev pub choice_by : Sight → Rule → Option ℕ → Plan → Option Choice
choice_by sight rule me plan =
    let stamp = stamp_after sight.last sight.look me plan.outs in
    cond (may_send sight.look plan.outs.to && not (nat_lt greatest_stamp stamp)) (Some (record { rule = rule; me = me; plan = plan; stamp = stamp })) None

-- a rule takes nothing, and all self firings are made
abbrev pub is_spent : Sight → Take → Bool
is_spent sight take = sight.spent && takes_nothing take

-- the firing of a rule that names this child, where it may be made
abbrev pub choice_with : Protocol → Kind → Local → Sight → Rule → Option ℕ → Option Choice
choice_with p kind local sight rule me =
    cond (is_spent sight rule.take) None (option_and_then (choice_by sight rule me) (plan_of p kind rule me local (heads_of sight me)))

-- the first firing of a rule that may be made and names a child
abbrev pub choice_below : Protocol → Kind → Local → Sight → Rule → Option Choice
choice_below p kind local sight rule = first_with (λ place. choice_with p kind local sight rule (Some place)) (below (length sight.look.kids))

-- the first firing of a rule that may be made: with no child named, or else with the first child
abbrev pub choice_of : Protocol → Kind → Local → Sight → Rule → Option Choice
choice_of p kind local sight rule = option_or (choice_with p kind local sight rule None) (choice_below p kind local sight rule)

-- the first firing that may be made, in the order of the rules and then of the children
abbrev pub chosen : Protocol → Kind → Local → Sight → Option Choice
chosen p kind local sight = first_with (choice_of p kind local sight) (part p kind).rules
