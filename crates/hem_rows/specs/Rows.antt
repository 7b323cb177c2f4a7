-- What a rule of a template is made of.
use Rattle.std.specs.Prelude.{◌≡◌, true, false, [], Some, Ok}
use Rattle.hem_base.specs.declared.ids.MsgId.{MsgId}
use Rattle.hem_base.specs.declared.ids.Kind.{Kind}
use Rattle.hem_base.specs.declared.ids.RuleId.{RuleId}
use Rattle.hem_base.specs.declared.ids.StatusSet.{StatusSet}
use Rattle.hem_syntax.specs.declared.rule.Rule.{Rule}
use Rattle.hem_syntax.specs.declared.rule.Take.{Take}
use Rattle.hem_syntax.specs.declared.rule.Take.TheVariants as take
use Rattle.hem_syntax.specs.declared.rule.Value.{Value}
use Rattle.hem_syntax.specs.declared.rule.SendTo.{SendTo}
use Rattle.hem_syntax.specs.declared.rule.SendTo.TheVariants as send
use Rattle.hem_template.specs.declared.template_name.TemplateName.{TemplateName}
use Rattle.hem_syntax.specs.Protocol.{Protocol, has_class, is_down_req, is_down_rsp, is_up_req, is_up_rsp, rule_named}
use Rattle.hem_template.specs.Template.{template_of, row_of, level_fits, class_fits, scope_fits, names_fit}
use Rattle.hem_template.specs.declared.row.Taking.{Taking}
use Rattle.hem_template.specs.declared.row.Sending.{Sending}
use Rattle.hem_template.specs.declared.row.Taking.TheVariants.{NothingTaken, FromRequester, ParentRequest, ParentResponse, FromKids}
use Rattle.hem_template.specs.declared.row.Sending.TheVariants.{NothingSent, ToRequester, RequestUp, ResponseUp, ToOthers, ToKids}

-- a rule takes what a row takes
abbrev pub IsTaking : Protocol → Taking → Take → Type 0
IsTaking p NothingTaken t = t ≡ take.Nothing
IsTaking p FromRequester t = (id : MsgId) × (t ≡ take.Me id)
IsTaking p ParentRequest t = (id : MsgId) × (t ≡ take.Parent id) × (has_class p id is_down_req ≡ true)
IsTaking p ParentResponse t = (id : MsgId) × (t ≡ take.Parent id) × (has_class p id is_down_rsp ≡ true)
IsTaking p FromKids t = (id : MsgId) × (t ≡ take.Kids id)

-- a rule sends what a row sends
abbrev pub IsSending : Protocol → Sending → SendTo → Type 0
IsSending p NothingSent s = s ≡ send.Nothing
IsSending p ToRequester s = (id : MsgId) × (v : Value) × (s ≡ send.Me id v)
IsSending p RequestUp s = (id : MsgId) × (v : Value) × (s ≡ send.Parent id v) × (has_class p id is_up_req ≡ true)
IsSending p ResponseUp s = (id : MsgId) × (v : Value) × (s ≡ send.Parent id v) × (has_class p id is_up_rsp ≡ true)
IsSending p ToOthers s = (set : StatusSet) × (id : MsgId) × (v : Value) × (s ≡ send.Others set id v)
IsSending p ToKids s = (set : StatusSet) × (id : MsgId) × (v : Value) × (s ≡ send.Kids set id v)

-- a rule of a kind is made as the row of its template says
pub record IsOfRow (p : Protocol) (kind : Kind) (rule : Rule) (t : TemplateName) : Type 0 where
  pub taking : IsTaking p (row_of t).taking rule.take
  pub up : rule.need.up ≡ (row_of t).up
  pub down : rule.need.down ≡ (row_of t).down
  pub free : rule.free ≡ (row_of t).frees
  pub lock : rule.lock ≡ (row_of t).locks
  pub sending : IsSending p (row_of t).sending rule.send
  pub silent : (row_of t).may_set ≡ false → rule.sets ≡ []
  pub scope : scope_fits rule t ≡ true
  pub names : names_fit p kind rule (row_of t) ≡ true
  pub level : level_fits kind rule ≡ true
  pub class : class_fits p kind rule ≡ true

-- each rule that a firing can name has a template
pub record AllHaveTemplates (p : Protocol) : Type 0 where
  pub each : (kind : Kind) (name : RuleId) (rule : Rule) → rule_named p kind name ≡ Some rule → (t : TemplateName) × (template_of p kind rule ≡ Ok t)
