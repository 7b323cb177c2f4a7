-- Lists of fields that pass conditions, field by field.
use Rattle.std.specs.Prelude.{ℕ, Bool, true, false, not, ◌&&◌, cond, List, [], ◌∷◌, Option, None, Some, slice_get, slice_set, replicate}
use Rattle.std.specs.List.{list_all, zip}
use Rattle.std.specs.Option.{option_map_or}
use Rattle.std.specs.Prelude.{bit_and, ◌==◌}
use Rattle.hem_base.specs.declared.ids.Status8.{Status8}
use Rattle.hem_base.specs.declared.ids.StatusSet.{StatusSet}
use Rattle.hem_base.specs.declared.ids.MsgId.{MsgId}
use Rattle.hem_syntax.specs.declared.rule.Assign.{Assign}
use Rattle.hem_syntax.specs.declared.rule.Assign.TheVariants as assign
use Rattle.hem_syntax.specs.declared.rule.Atom.{Atom}
use Rattle.hem_syntax.specs.declared.rule.Atom.TheVariants as atom
use Rattle.hem_object.specs.Guard.{has}

-- lists of fields: none, or those of which each field has a status of its set; a field without a set may have any
pub record FieldSets : Type 0 where
  pub sets : List (Option StatusSet)
  pub empty : Bool

-- whether a field may have a status
abbrev pub passes : Option StatusSet → Status8 → Bool
passes set s = option_map_or (λ set. has set s) set true

-- whether each field may have its status
abbrev pub all_pass : List (Option StatusSet) → List Status8 → Bool
all_pass sets fields = list_all (λ p. passes p.0 p.1) (zip sets fields)

-- whether a list of fields is one of these
abbrev pub allows : FieldSets → List Status8 → Bool
allows those fields = not those.empty && all_pass those.sets fields

-- all lists of so many fields
abbrev pub any_fields : ℕ → FieldSets
any_fields n = record { sets = replicate n None; empty = false }

-- no list
abbrev pub none_of : FieldSets → FieldSets
none_of those = record those { empty = true }

-- the statuses of both
abbrev pub narrowed : Option StatusSet → StatusSet → StatusSet
narrowed None set = set
narrowed (Some old) set = record { 0 = bit_and old.0 set.0 }

-- those of which a field has a status of the set
abbrev pub kept_in : ℕ → StatusSet → FieldSets → FieldSets
kept_in i set those =
    elim (slice_get those.sets i) [ Some old ↦ record those { sets = slice_set those.sets i (Some (narrowed old set)) } | None ↦ none_of those ]

-- those that pass a condition
abbrev pub kept_by : Option MsgId → Atom → FieldSets → FieldSets
kept_by asked (atom.Field i set) those = kept_in i set those
kept_by asked (atom.Asked id) those = cond (option_map_or (λ a. a.0 == id.0) asked false) those (none_of those)
kept_by asked (atom.KidsAll set) those = those
kept_by asked (atom.KidsAny set) those = those
kept_by asked _ those = none_of those

-- those that pass a guard
abbrev pub kept_by_all : Option MsgId → List Atom → FieldSets → FieldSets
kept_by_all asked [] those = those
kept_by_all asked (a ∷ guard) those = kept_by_all asked guard (kept_by asked a those)

-- those that are among these once a field is set
abbrev pub led_by_field : ℕ → Status8 → FieldSets → FieldSets
led_by_field i s those =
    elim (slice_get those.sets i) [ Some old ↦ cond (passes old s) (record those { sets = slice_set those.sets i None }) (none_of those) | None ↦ those ]

-- those that are among these after a set
abbrev pub led_by : Assign → FieldSets → FieldSets
led_by (assign.Field i s) those = led_by_field i s those
led_by _ those = those

-- those that are among these after a rule's sets
abbrev pub led_by_all : List Assign → FieldSets → FieldSets
led_by_all [] those = those
led_by_all (a ∷ sets) those = led_by a (led_by_all sets those)
