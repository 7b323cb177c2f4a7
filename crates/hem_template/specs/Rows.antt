-- Parts of the definitions of templates.
use Rattle.hem_base.specs.declared.ids.MsgId.{MsgId}
use Rattle.hem_base.specs.declared.ids.Kind.{Kind}
use Rattle.hem_base.specs.declared.ids.Kind.TheVariants.{Leaf}
use Rattle.hem_syntax.specs.Protocol.{Protocol}
use Rattle.std.specs.Prelude.{Bool, true}
use Rattle.hem_syntax.specs.declared.rule.Assign.{Assign}
use Rattle.hem_syntax.specs.declared.rule.Assign.TheVariants as assign
use Rattle.hem_template.specs.Template.{value_fits}
use Rattle.hem_template.specs.declared.row.Row.{Row}
use Rattle.hem_syntax.specs.Protocol.{has_class, is_ext_req, is_ext_rsp, is_up_req, is_down_rsp}

-- whether what is taken from the requester has the class of the kind
abbrev pub request_fits : Protocol → Kind → MsgId → Bool
request_fits p Leaf id = has_class p id is_ext_req
request_fits p _ id = has_class p id is_up_req

-- whether what is sent to the requester has the class of the kind
abbrev pub answer_fits : Protocol → Kind → MsgId → Bool
answer_fits p Leaf id = has_class p id is_ext_rsp
answer_fits p _ id = has_class p id is_down_rsp

-- whether the value that is set, if one is, may stand in a rule of this row
abbrev pub set_value_fits : Row → Assign → Bool
set_value_fits row (assign.Val v) = value_fits row v
set_value_fits row _ = true
