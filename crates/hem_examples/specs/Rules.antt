-- Short words for the parts of rules.
use Rattle.std.specs.Prelude.{ℕ, List, Option}
use Rattle.hem_base.specs.declared.ids.Status8.{Status8}
use Rattle.hem_base.specs.declared.ids.StatusSet.{StatusSet}
use Rattle.hem_base.specs.declared.ids.MsgId.{MsgId}
use Rattle.hem_base.specs.declared.ids.RuleId.{RuleId}
use Rattle.hem_syntax.specs.declared.rule.Rule.{Rule}
use Rattle.hem_syntax.specs.declared.rule.Take.{Take}
use Rattle.hem_syntax.specs.declared.rule.Hold.{Hold}
use Rattle.hem_syntax.specs.declared.rule.Atom.{Atom}
use Rattle.hem_syntax.specs.declared.rule.Assign.{Assign}
use Rattle.hem_syntax.specs.declared.rule.Side.{Side}
use Rattle.hem_syntax.specs.declared.rule.Origin.{Origin}
use Rattle.hem_syntax.specs.declared.rule.SendTo.{SendTo}

-- the rule name, the message id and the status at a place in the order of declaration
abbrev pub name : ℕ → RuleId
name n = record { 0 = n }

abbrev pub id : ℕ → MsgId
id n = record { 0 = n }

abbrev pub status : ℕ → Status8
status n = record { 0 = n }

-- a set of statuses, by its bits
abbrev pub set : ℕ → StatusSet
set n = record { 0 = n }

-- a rule: its name, what it takes, both needs, conditions, sets, the lock that it frees, the lock that it takes, what it sends
abbrev pub rule : RuleId → Take → Hold → Hold → List Atom → List Assign → Option Side → Option (Side × Origin) → SendTo → Rule
rule n t up down guard sets free lock send =
    record { name = n; take = t; need = record { up = up; down = down }; guard = guard; sets = sets; free = free; lock = lock; send = send }
