-- Guards and changes in abstract states, of the fields and of the children apart.
use Rattle.std.specs.Prelude.{◌==◌, Bool, true, false, not, ◌&&◌, ◌||◌, List, [], ◌∷◌, Option, None, slice_get, slice_set}
use Rattle.std.specs.List.{list_all, list_any}
use Rattle.std.specs.Option.{option_map_or}
use Rattle.hem_base.specs.Sets.{bits_where}
use Rattle.hem_base.specs.declared.ids.Status8.{Status8}
use Rattle.hem_base.specs.declared.ids.StatusSet.{StatusSet}
use Rattle.hem_base.specs.declared.ids.MsgId.{MsgId}
use Rattle.hem_syntax.specs.declared.rule.Assign.{Assign}
use Rattle.hem_syntax.specs.declared.rule.Assign.TheVariants as assign
use Rattle.hem_syntax.specs.declared.rule.Atom.{Atom}
use Rattle.hem_syntax.specs.declared.rule.Atom.TheVariants as atom
use Rattle.hem_object.specs.Guard.{has, is_in}
use Rattle.hem_abstract.specs.Abstract.{status, all_statuses}
use Rattle.hem_abstract.specs.Partners.{Partner, alone, pair, target_statuses, taken_from_parent}

-- whether the statuses of the children are all in a set
abbrev pub all_kids_in : StatusSet → StatusSet → Bool
all_kids_in kids set = list_all (λ s. not (has kids s) || has set s) all_statuses

-- whether some status of the children is in a set
abbrev pub some_kid_in : StatusSet → StatusSet → Bool
some_kid_in kids set = list_any (λ s. has kids s && has set s) all_statuses

-- what a condition asks of the children
abbrev pub kids_meet : StatusSet → Atom → Bool
kids_meet kids (atom.KidsAll set) = all_kids_in kids set
kids_meet kids (atom.KidsAny set) = some_kid_in kids set
kids_meet kids _ = true

-- what a condition asks of the fields, for an asked id
abbrev pub fields_meet : List Status8 → Option MsgId → Atom → Bool
fields_meet fields asked (atom.Field i set) = is_in set (slice_get fields i)
fields_meet fields asked (atom.Asked id) = option_map_or (λ a. a.0 == id.0) asked false
fields_meet fields asked (atom.KidsAll set) = true
fields_meet fields asked (atom.KidsAny set) = true
fields_meet fields asked _ = false

-- what a guard asks of the children
abbrev pub kids_hold : List Atom → StatusSet → Bool
kids_hold guard kids = list_all (kids_meet kids) guard

-- what a guard asks of the fields
abbrev pub fields_hold : List Atom → Option MsgId → List Status8 → Bool
fields_hold guard asked fields = list_all (fields_meet fields asked) guard

-- the fields after a set
abbrev pub field_after : Assign → List Status8 → List Status8
field_after (assign.Field i s) fields = slice_set fields i s
field_after _ fields = fields

-- the fields after a rule's sets
abbrev pub fields_after : List Assign → List Status8 → List Status8
fields_after [] fields = fields
fields_after (a ∷ sets) fields = fields_after sets (field_after a fields)

-- the statuses of the children after those of the targets went over into one
abbrev pub moved : StatusSet → StatusSet → Status8 → StatusSet
moved kids targets s = record { 0 = bits_where (λ x. (has kids (status x) && not (has targets (status x))) || x == s.0) 8 }

-- the statuses of the children after a set
abbrev pub kid_after : StatusSet → Assign → StatusSet → StatusSet
kid_after targets (assign.Targets s) kids = moved kids targets s
kid_after targets _ kids = kids

-- the statuses of the children after a rule's sets
abbrev pub kids_after : StatusSet → List Assign → StatusSet → StatusSet
kids_after targets [] kids = kids
kids_after targets (a ∷ sets) kids = kids_after targets sets (kid_after targets a kids)

-- what a partner does, by its parts: the guards of its first and second rule with the id that the second is asked, whether a target must occur, and the sets with the statuses of the targets
pub record Turn : Type 0 where
  pub first : List Atom
  pub second : List Atom
  pub asked : Option MsgId
  pub passes_on : Bool
  pub targets : StatusSet
  pub sets : List Assign

-- what a partner does
abbrev pub turn_of : Partner → Turn
turn_of (alone d) = record { first = d.guard; second = []; asked = None; passes_on = false; targets = record { 0 = 0 }; sets = d.sets }
turn_of (pair q r) =
    record { first = q.guard; second = r.guard; asked = taken_from_parent q; passes_on = true; targets = target_statuses q.send; sets = r.sets }

-- whether a waiting request with this guard and a turn can both be, as far as the children say
abbrev pub kids_clash : List Atom → Turn → StatusSet → Bool
kids_clash up turn kids =
    kids_hold up kids && kids_hold turn.first kids && (not turn.passes_on || some_kid_in turn.targets kids) && kids_hold turn.second kids

-- whether the request's guard holds after the turn, as far as the children say
abbrev pub kids_stay : List Atom → Turn → StatusSet → Bool
kids_stay up turn kids = kids_hold up (kids_after turn.targets turn.sets kids)

-- whether both can be, and where a loss is sought, the request's guard is lost then
abbrev pub kids_lose : List Atom → Turn → Bool → StatusSet → Bool
kids_lose up turn losing kids = kids_clash up turn kids && not (losing && kids_stay up turn kids)
