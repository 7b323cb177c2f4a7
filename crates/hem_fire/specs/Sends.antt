-- What a firing sends, and to whom.
use Rattle.std.specs.Prelude.{◌==◌, Bool, true, false, not, ◌&&◌, Option, None, Some, option_map, is_some}
use Rattle.hem_base.specs.declared.ids.Message.{Message}
use Rattle.hem_base.specs.declared.ids.Kind.{Kind}
use Rattle.hem_base.specs.declared.ids.Kind.TheVariants.{Root}
use Rattle.hem_syntax.specs.declared.rule.Class.TheVariants.{UpRsp}
use Rattle.hem_syntax.specs.declared.rule.SendTo.{SendTo}
use Rattle.hem_syntax.specs.declared.rule.SendTo.TheVariants as send
use Rattle.hem_object.specs.declared.state.By.{By}
use Rattle.hem_object.specs.declared.state.View.{View}
use Rattle.hem_object.specs.declared.state.By.TheVariants.{Processor, Kid}
use Rattle.hem_fire.specs.declared.outs.To.{To}
use Rattle.hem_fire.specs.declared.outs.To.TheVariants as to
use Rattle.hem_syntax.specs.Protocol.{Protocol, class_of}
use Rattle.hem_object.specs.Local.{Local}
use Rattle.hem_object.specs.Guard.{value_of, has_requester}
use Rattle.hem_object.specs.Targets.{targets_of}

-- the message that the rule sends, where its value exists
abbrev pub message_of : SendTo → Local → View → Option Message
message_of send.Nothing local view = None
message_of (send.Me id v) local view = option_map (λ x. record { id = id; value = x }) (value_of v local view)
message_of (send.Parent id v) local view = option_map (λ x. record { id = id; value = x }) (value_of v local view)
message_of (send.Kids set id v) local view = option_map (λ x. record { id = id; value = x }) (value_of v local view)
message_of (send.Others set id v) local view = option_map (λ x. record { id = id; value = x }) (value_of v local view)

-- the message of a firing that sends nothing
abbrev pub no_message : Message
no_message = record { id = record { 0 = 0 }; value = 0 }

-- an object of the kind has a parent
abbrev pub has_parent : Kind → Bool
has_parent Root = false
has_parent _ = true

-- everything that the send names exists, and it reaches somebody
abbrev pub send_names : Kind → SendTo → Local → View → Bool
send_names kind send.Nothing local view = true
send_names kind (send.Me id v) local view = has_requester view && is_some (value_of v local view)
send_names kind (send.Parent id v) local view = has_parent kind && is_some (value_of v local view)
send_names kind (send.Kids set id v) local view = is_some (value_of v local view) && not ((targets_of (send.Kids set id v) local view).0 == 0)
send_names kind (send.Others set id v) local view = has_requester view && is_some (value_of v local view) && not ((targets_of (send.Others set id v) local view).0 == 0)

-- where an answer to the requester goes
abbrev pub to_requester : Option By → To
to_requester None = to.Nobody
to_requester (Some by) = elim by [ Processor ↦ to.Answer | Kid c ↦ to.Kid c | _ ↦ to.Nobody ]

-- where the firing sends
abbrev pub goes_to : Protocol → SendTo → Local → View → To
goes_to p send.Nothing local view = to.Nobody
goes_to p (send.Me id v) local view = to_requester view.requester
goes_to p (send.Parent id v) local view =
    elim (class_of p id) [ None ↦ to.UpRequest | Some c ↦ elim c [ UpRsp ↦ to.UpResponse | _ ↦ to.UpRequest ] ]
goes_to p (send.Kids set id v) local view = to.Kids (targets_of (send.Kids set id v) local view)
goes_to p (send.Others set id v) local view = to.Kids (targets_of (send.Others set id v) local view)
