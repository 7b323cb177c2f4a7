-- The heads of an object's input lists, and which of them a rule takes.
use Rattle.std.specs.Prelude.{ℕ, ◌==◌, nat_lt, Bool, true, false, ◌&&◌, List, length, Option, filter}
use Rattle.std.specs.List.{list_all, enumerate_from}
use Rattle.std.specs.Option.{option_map_or}
use Rattle.hem_base.specs.Sets.{has_bit}
use Rattle.hem_base.specs.declared.ids.KidSet.{KidSet}
use Rattle.hem_base.specs.declared.ids.MsgId.{MsgId}
use Rattle.hem_base.specs.declared.ids.Message.{Message}
use Rattle.hem_syntax.specs.declared.rule.Take.{Take}
use Rattle.hem_syntax.specs.declared.rule.Take.TheVariants as take
use Rattle.hem_object.specs.Local.{Local, nobody}

-- the heads of an object's input lists: the requester's requests, the parent's messages, each child's responses
pub record Heads : Type 0 where
  pub request : Option Message
  pub parent : Option Message
  pub kids : List (Option Message)

-- whether a message is there and has the id
abbrev pub has_id : Option Message → MsgId → Bool
has_id m id = option_map_or (λ m. m.id.0 == id.0) m false

-- the children that the downlock awaits
abbrev pub awaited_of : Local → KidSet
awaited_of local = option_map_or (λ lock. lock.awaited) local.down nobody

-- of these children each one's place and the head of its responses
abbrev pub heads_at : KidSet → Heads → List (ℕ × Option Message)
heads_at kids heads = filter (λ k. has_bit kids.0 k.0) (enumerate_from 0 heads.kids)

-- the awaited children: each one's place and the head of its responses
abbrev pub awaited_heads : Local → Heads → List (ℕ × Option Message)
awaited_heads local heads = heads_at (awaited_of local) heads

-- the messages that the rule takes are there
abbrev pub takes_there : Take → Local → Heads → Bool
takes_there (take.Me id) local heads = has_id heads.request id
takes_there (take.Parent id) local heads = has_id heads.parent id
takes_there (take.Kids id) local heads =
    let awaited = awaited_heads local heads in nat_lt 0 (length awaited) && list_all (λ k. has_id k.1 id) awaited
takes_there take.Nothing local heads = true
