-- Abstract states: what a guard that names no requester can see of a local state.
use Rattle.std.specs.Prelude.{ℕ, ◌==◌, Bool, false, not, ◌&&◌, ◌||◌, ◌<◌, List, [], ◌∷◌, map, Option, slice_get}
use Rattle.std.specs.List.{list_all, list_any}
use Rattle.std.specs.Option.{option_map_or}
use Rattle.hem_base.specs.Sets.{bits_where}
use Rattle.hem_base.specs.declared.ids.Status8.{Status8}
use Rattle.hem_base.specs.declared.ids.StatusSet.{StatusSet}
use Rattle.hem_base.specs.declared.ids.MsgId.{MsgId}
use Rattle.hem_syntax.specs.declared.rule.Atom.{Atom}
use Rattle.hem_syntax.specs.declared.rule.Atom.TheVariants as atom
use Rattle.hem_object.specs.Guard.{has, is_in}
use Rattle.hem_object.specs.Local.{Local}
use Rattle.hem_tree.specs.Tree.{below}

-- an abstract state of a kind: a status for each field, and the statuses that occur among the children
pub record Abstract : Type 0 where
  pub fields : List Status8
  pub kids : StatusSet

-- the status of that number
abbrev pub status : ℕ → Status8
status n = record { 0 = n }

-- the statuses that a set may have
abbrev pub all_statuses : List Status8
all_statuses = map status (below 8)

-- whether a condition holds in an abstract state, for an asked id
abbrev pub atom_at : Abstract → Option MsgId → Atom → Bool
atom_at at asked (atom.Field i set) = is_in set (slice_get at.fields i)
atom_at at asked (atom.KidsAll set) = list_all (λ s. not (has at.kids s) || has set s) all_statuses
atom_at at asked (atom.KidsAny set) = list_any (λ s. has at.kids s && has set s) all_statuses
atom_at at asked (atom.Asked id) = option_map_or (λ a. a.0 == id.0) asked false
atom_at at asked _ = false

-- whether a guard holds in an abstract state, for an asked id
abbrev pub guard_at : List Atom → Abstract → Option MsgId → Bool
guard_at guard at asked = list_all (atom_at at asked) guard

-- whether a status occurs among the children
abbrev pub occurs : List Status8 → ℕ → Bool
occurs dir s = list_any (λ d. d.0 == s) dir

-- the abstract state of a local state: its fields, and the statuses that occur among the children
abbrev pub abstract_of : Local → Abstract
abstract_of local = record { fields = local.fields; kids = record { 0 = bits_where (occurs local.dir) 8 } }

-- the statuses are numbers below m
abbrev pub AreBelow : ℕ → List Status8 → Type 0
AreBelow m [] = Unit {0}
AreBelow m (d ∷ dir) = (d.0 < m) × AreBelow m dir

-- the statuses are numbers below 8
abbrev pub AreSmall : List Status8 → Type 0
AreSmall dir = AreBelow 8 dir
