-- A breach of stability by the names of its rules, as it is told.
use Rattle.std.specs.Prelude.{Option, None, Some}
use Rattle.hem_base.specs.declared.ids.RuleId.{RuleId}
use Rattle.hem_abstract.specs.declared.breach.Breach.{Breach as Told}
use Rattle.hem_abstract.specs.Partners.{Partner, alone, pair}
use Rattle.hem_abstract.specs.Stable.{Breach}

-- the name of a partner's rule, or of the first of its two
abbrev pub first_name : Partner → RuleId
first_name (alone d) = d.name
first_name (pair q r) = q.name

-- the name of the second rule of a pair
abbrev pub second_name : Partner → Option RuleId
second_name (alone d) = None
second_name (pair q r) = Some r.name

-- a breach of the rule of that name, by names
abbrev pub named : RuleId → Breach → Told
named up breach = record { up = up; down = first_name breach.partner; second = second_name breach.partner; at = breach.at }
