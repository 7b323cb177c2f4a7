-- What a rule names in a firing.
use Rattle.std.specs.Prelude.{ℕ, Option, None, Some, slice_get, option_map, option_and_then}
use Rattle.hem_base.specs.declared.ids.Message.{Message}
use Rattle.hem_syntax.specs.declared.rule.Take.{Take}
use Rattle.hem_syntax.specs.declared.rule.Take.TheVariants as take
use Rattle.hem_object.specs.declared.state.By.{By}
use Rattle.hem_object.specs.declared.state.Lock.{Lock}
use Rattle.hem_object.specs.declared.state.View.{View}
use Rattle.hem_object.specs.declared.state.By.TheVariants.{Processor, Kid}
use Rattle.hem_object.specs.Local.{Local, nobody}
use Rattle.hem_fire.specs.Heads.{Heads, awaited_of, awaited_heads}

-- the value of a message, where there is one
abbrev pub value_in : Option Message → Option ℕ
value_in m = option_map (λ m. m.value) m

-- the request that a lock keeps
abbrev pub request_of : Option Lock → Option Message
request_of lock = option_map (λ lock. lock.request) lock

-- the holder of a lock, where that is a child or the processor
abbrev pub asker : Option Lock → Option By
asker None = None
asker (Some lock) = elim lock.by [ Processor ↦ Some Processor | Kid c ↦ Some (Kid c) | _ ↦ None ]

-- the holder of a lock, where that is a child
abbrev pub kid_asker : Option Lock → Option By
kid_asker None = None
kid_asker (Some lock) = elim lock.by [ Kid c ↦ Some (Kid c) | _ ↦ None ]

-- for whom a rule works that takes from a child, or on a leaf from the processor
abbrev pub requester : Option ℕ → By
requester None = Processor
requester (Some c) = Kid c

-- what the rule names in a firing
abbrev pub view_of : Take → Option ℕ → Local → Heads → View
view_of (take.Me id) me local heads =
    record { requester = Some (requester me); msg = value_in heads.request; rs = None; kept = None; awaited = nobody }
view_of (take.Parent id) me local heads =
    record { requester = asker local.up; msg = value_in heads.parent; rs = None; kept = request_of local.up; awaited = nobody }
view_of (take.Kids id) me local heads =
    record {
      requester = kid_asker local.down;
      msg = None;
      rs = option_and_then (λ k. value_in k.1) (slice_get (awaited_heads local heads) 0);
      kept = request_of local.down;
      awaited = awaited_of local;
    }
view_of take.Nothing me local heads =
    record { requester = None; msg = None; rs = None; kept = None; awaited = nobody }
