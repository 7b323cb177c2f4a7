-- The text of a refused protocol.
use Rattle.std.specs.Prelude.{◌==◌, List, [], ◌++◌, cond, length, filter, Option, None, Some, codes}
use Rattle.std.specs.List.{join_by}
use Rattle.hem_base.specs.declared.ids.Status8.{Status8}
use Rattle.hem_base.specs.declared.ids.StatusSet.{StatusSet}
use Rattle.hem_base.specs.declared.ids.RuleId.{RuleId}
use Rattle.hem_base.specs.declared.ids.Kind.{Kind}
use Rattle.hem_base.specs.declared.ids.Kind.TheVariants.{Leaf}
use Rattle.hem_syntax.specs.Protocol.{Protocol, Text}
use Rattle.hem_object.specs.Guard.{has}
use Rattle.hem_template.specs.declared.clause.Clause.{Clause}
use Rattle.hem_template.specs.declared.clause.Clause.TheVariants.{Level, Class, Shape, Locks, Silent, Scope, Names, Stable}
use Rattle.hem_abstract.specs.Abstract.{Abstract, all_statuses}
use Rattle.hem_abstract.specs.declared.breach.Breach.{Breach}
use Rattle.hem_check.specs.declared.refusal.Refusal.{Refusal}
use Rattle.hem_report.specs.Texts.{text_of_each, status_text, rule_text}
use Rattle.hem_report.specs.LocalText.{field_text}
use Rattle.hem_report.specs.AcceptedText.{kind_rule_text}

-- the word for a clause
abbrev pub clause_text : Clause → Text
clause_text Level = codes "level"
clause_text Class = codes "class"
clause_text Shape = codes "shape"
clause_text Locks = codes "locks"
clause_text Silent = codes "silent"
clause_text Scope = codes "scope"
clause_text Names = codes "names"
clause_text Stable = codes "stable"

-- the statuses of a set, in order of declaration
abbrev pub statuses_in : StatusSet → List Status8
statuses_in set = filter (has set) all_statuses

-- the statuses of a set, as those of children
abbrev pub occurring_text : Protocol → StatusSet → Text
occurring_text p kids = codes " kids=" ++ join_by (status_text p) (codes ",") (statuses_in kids)

-- a dash, where there are no fields
abbrev pub dash_text : List Status8 → Text
dash_text fields = cond (length fields == 0) (codes " -") []

-- the statuses that occur among the children: a leaf has none, and of one that has no fields either a dash is told
abbrev pub kids_text : Protocol → Kind → Abstract → Text
kids_text p Leaf at = dash_text at.fields
kids_text p _ at = occurring_text p at.kids

-- an abstract state of a kind, with a space before each part
abbrev pub abstract_text : Protocol → Kind → Abstract → Text
abstract_text p kind at = text_of_each (field_text p kind) 0 at.fields ++ kids_text p kind at

-- the second rule of a partner that is a pair
abbrev pub second_text : Protocol → Option RuleId → Text
second_text p None = []
second_text p (Some back) = codes " then " ++ rule_text p back

-- a partner, and the least state in which it takes the guard or the value of the waiting request away
abbrev pub breach_text : Protocol → Kind → Option Breach → Text
breach_text p kind None = []
breach_text p kind (Some b) = codes " with " ++ rule_text p b.down ++ second_text p b.second ++ codes " at" ++ abstract_text p kind b.at

-- the text of a refusal: the first rule that breaks the discipline, the first clause that it breaks, and how
abbrev pub refusal_text : Refusal → Text
refusal_text r =
    codes "refused " ++ kind_rule_text r.back r.kind r.rule ++ codes " " ++ clause_text r.clause ++ breach_text r.back r.kind r.breach ++ codes "\n"
