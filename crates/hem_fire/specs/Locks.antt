-- What a rule asks of a lock, and the lock that a firing takes.
use Rattle.std.specs.Prelude.{Bool, true, false, ◌&&◌, cond, Option, None, Some, option_map, is_some, is_none}
use Rattle.std.specs.Option.{option_map_or}
use Rattle.hem_base.specs.declared.ids.KidSet.{KidSet}
use Rattle.hem_base.specs.declared.ids.Message.{Message}
use Rattle.hem_syntax.specs.declared.rule.Take.{Take}
use Rattle.hem_syntax.specs.declared.rule.Hold.{Hold}
use Rattle.hem_syntax.specs.declared.rule.Side.{Side}
use Rattle.hem_syntax.specs.declared.rule.Origin.{Origin}
use Rattle.hem_syntax.specs.declared.rule.SendTo.{SendTo}
use Rattle.hem_syntax.specs.declared.rule.Take.TheVariants as take
use Rattle.hem_syntax.specs.declared.rule.Hold.TheVariants as hold
use Rattle.hem_syntax.specs.declared.rule.Origin.TheVariants as origin
use Rattle.hem_syntax.specs.declared.rule.Side.TheVariants.{Up, Down}
use Rattle.hem_object.specs.declared.state.By.{By}
use Rattle.hem_object.specs.declared.state.Lock.{Lock}
use Rattle.hem_object.specs.declared.state.View.{View}
use Rattle.hem_object.specs.declared.state.By.TheVariants.{Parent, Own}
use Rattle.hem_syntax.specs.Protocol.{Protocol, class_of, is_request}
use Rattle.hem_object.specs.Local.{Local, nobody}
use Rattle.hem_fire.specs.Heads.{Heads}
use Rattle.hem_fire.specs.View.{asker}
use Rattle.hem_fire.specs.Sends.{message_of}

-- a lock is as the rule needs it
abbrev pub need_holds : Hold → Option Lock → Bool
need_holds hold.Any lock = true
need_holds hold.Free lock = is_none lock
need_holds hold.Child lock = is_some (asker lock)
need_holds hold.Parent None = false
need_holds hold.Parent (Some lock) = elim lock.by [ Parent ↦ true | _ ↦ false ]
need_holds hold.Own None = false
need_holds hold.Own (Some lock) = elim lock.by [ Own ↦ true | _ ↦ false ]

-- a request, or nothing
abbrev pub if_request : Protocol → Option Message → Option Message
if_request p None = None
if_request p (Some m) = cond (option_map_or is_request (class_of p m.id) false) (Some m) None

-- the first that is there
abbrev pub first_of : Option Message → Option Message → Option Message
first_of None other = other
first_of (Some m) other = Some m

-- the request that a lock of this firing keeps
abbrev pub request_in_hand : Protocol → Take → SendTo → Local → View → Heads → Option Message
request_in_hand p (take.Me id) to local view heads = if_request p heads.request
request_in_hand p (take.Parent id) to local view heads = first_of (if_request p heads.parent) view.kept
request_in_hand p (take.Kids id) to local view heads = view.kept
request_in_hand p take.Nothing to local view heads = message_of to local view

-- the holder of a new lock
abbrev pub lock_by : Origin → View → Option By
lock_by origin.Child view = view.requester
lock_by origin.Parent view = Some Parent
lock_by origin.Own view = Some Own

-- everything that the lock names exists
abbrev pub lock_names : Option (Side × Origin) → View → Option Message → Bool
lock_names None view request = true
lock_names (Some lock) view request = is_some (lock_by lock.1 view) && is_some request

-- the children that a new lock awaits: the targets of the send, and nobody above
abbrev pub awaited_by : Side → KidSet → KidSet
awaited_by Up targets = nobody
awaited_by Down targets = targets

-- the lock that the firing takes
abbrev pub lock_taken : Option (Side × Origin) → View → Option Message → KidSet → Option (Side × Lock)
lock_taken None view request targets = None
lock_taken (Some lock) view None targets = None
lock_taken (Some lock) view (Some request) targets =
    option_map (λ by. (lock.0, record { by = by; request = request; awaited = awaited_by lock.0 targets })) (lock_by lock.1 view)
