-- What may happen at an object while a request that it sent up waits, in abstract states, and whether that takes the request's guard or value away.
use Rattle.std.specs.Prelude.{◌==◌, ◌≡◌, Bool, true, false, not, ◌&&◌, ◌||◌, List, [], ◌∷◌, Option, None, Some, slice_set, Ok}
use Rattle.std.specs.List.{list_any}
use Rattle.std.specs.Option.{option_map_or}
use Rattle.hem_base.specs.Sets.{bits_where}
use Rattle.hem_base.specs.declared.ids.StatusSet.{StatusSet}
use Rattle.hem_base.specs.declared.ids.MsgId.{MsgId}
use Rattle.hem_base.specs.declared.ids.RuleId.{RuleId}
use Rattle.hem_base.specs.declared.ids.Kind.{Kind}
use Rattle.hem_syntax.specs.declared.rule.Rule.{Rule}
use Rattle.hem_template.specs.declared.template_name.TemplateName.TheVariants.{ImmUp, RqDownDown, RsUpUp}
use Rattle.hem_syntax.specs.declared.rule.Take.TheVariants as take
use Rattle.hem_syntax.specs.declared.rule.Value.TheVariants as value
use Rattle.hem_syntax.specs.declared.rule.Assign.{Assign}
use Rattle.hem_syntax.specs.declared.rule.Assign.TheVariants as assign
use Rattle.hem_syntax.specs.declared.rule.SendTo.{SendTo}
use Rattle.hem_syntax.specs.declared.rule.SendTo.TheVariants as send
use Rattle.hem_syntax.specs.Protocol.{Protocol, rule_named}
use Rattle.hem_object.specs.Guard.{has}
use Rattle.hem_template.specs.Template.{template_of, value_sent}
use Rattle.hem_abstract.specs.Abstract.{Abstract, status, all_statuses, guard_at}

-- an abstract state after one set, with a set of target statuses
abbrev pub after_one : StatusSet → Assign → Abstract → Abstract
after_one targets (assign.Field i s) at = record at { fields = slice_set at.fields i s }
after_one targets (assign.Targets s) at =
    record at { kids = record { 0 = bits_where (λ x. (has at.kids (status x) && not (has targets (status x))) || x == s.0) 8 } }
after_one targets _ at = at

-- an abstract state after the sets of a rule, with a set of target statuses
abbrev pub after : Abstract → List Assign → StatusSet → Abstract
after at [] targets = at
after at (a ∷ sets) targets = after (after_one targets a at) sets targets

-- what may happen below while a request waits: one rule, or a rule and then another
pub data Partner : Type 0 where
  alone : Rule → Partner
  pair : Rule → Rule → Partner

-- the statuses of the children that a rule sends to
abbrev pub target_statuses : SendTo → StatusSet
target_statuses (send.Kids set id v) = set
target_statuses (send.Others set id v) = set
target_statuses _ = record { 0 = 0 }

-- the id that a rule takes from its parent
abbrev pub taken_from_parent : Rule → Option MsgId
taken_from_parent rule = elim rule.take [ take.Parent id ↦ Some id | _ ↦ None ]

-- whether a set sets the value to another one
abbrev pub is_new_val : Assign → Bool
is_new_val (assign.Val v) = elim v [ value.Val ↦ false | _ ↦ true ]
is_new_val _ = false

-- whether the rule sets the value to another one
abbrev pub sets_val : Rule → Bool
sets_val rule = list_any is_new_val rule.sets

-- whether the rule sends its value
abbrev pub sends_val : Rule → Bool
sends_val rule = option_map_or (λ v. elim v [ value.Val ↦ true | _ ↦ false ]) (value_sent rule.send) false

-- whether a partner can happen in an abstract state
abbrev pub happens : Partner → Abstract → Bool
happens (alone d) at = guard_at d.guard at None
happens (pair q r) at =
    guard_at q.guard at None
    && list_any (λ s. has (target_statuses q.send) s && has at.kids s) all_statuses
    && guard_at r.guard at (taken_from_parent q)

-- the abstract state after a partner
abbrev pub after_partner : Partner → Abstract → Abstract
after_partner (alone d) at = after at d.sets (record { 0 = 0 })
after_partner (pair q r) at = after at r.sets (target_statuses q.send)

-- whether a partner sets the value to another one
abbrev pub changes_val : Partner → Bool
changes_val (alone d) = sets_val d
changes_val (pair q r) = sets_val r

-- whether a partner takes a waiting request's guard or value away in an abstract state
abbrev pub breaks : Rule → Partner → Abstract → Bool
breaks u d at =
    guard_at u.guard at None
    && happens d at
    && (not (guard_at u.guard (after_partner d at) None) || (sends_val u && changes_val d))

-- a partner of a kind: its rules are the kind's, of these templates
abbrev pub IsPartner : Protocol → Kind → Partner → Type 0
IsPartner p kind (alone d) = (name : RuleId) × (rule_named p kind name ≡ Some d) × (template_of p kind d ≡ Ok ImmUp)
IsPartner p kind (pair q r) =
    (first : RuleId)
    × (second : RuleId)
    × (rule_named p kind first ≡ Some q)
    × (rule_named p kind second ≡ Some r)
    × (template_of p kind q ≡ Ok RqDownDown)
    × (template_of p kind r ≡ Ok RsUpUp)
