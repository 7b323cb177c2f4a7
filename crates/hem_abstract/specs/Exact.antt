-- What abstract states are exact for.
use Rattle.std.specs.Prelude.{ℕ, ◌+◌, ◌≡◌, Bool, true, false, List, [], ◌∷◌, None}
use Rattle.std.specs.List.{list_any}
use Rattle.hem_base.specs.Sets.{has_bit}
use Rattle.hem_base.specs.declared.ids.Status8.{Status8}
use Rattle.hem_base.specs.declared.ids.StatusSet.{StatusSet}
use Rattle.hem_syntax.specs.declared.rule.Assign.{Assign}
use Rattle.hem_syntax.specs.declared.rule.Assign.TheVariants as assign
use Rattle.hem_syntax.specs.declared.rule.Rule.{Rule}
use Rattle.hem_object.specs.declared.state.View.{View}
use Rattle.hem_object.specs.Local.{Local}
use Rattle.hem_object.specs.Guard.{has}
use Rattle.hem_abstract.specs.Abstract.{abstract_of, guard_at}
use Rattle.hem_abstract.specs.Partners.{sends_val}

-- whether a set is of the requester's entry
abbrev pub is_me : Assign → Bool
is_me (assign.Me s) = true
is_me _ = false

-- whether a set is of the targets' entries
abbrev pub is_targets : Assign → Bool
is_targets (assign.Targets s) = true
is_targets _ = false

-- the awaited children are those whose status is a target
abbrev pub AreAwaited : (ℕ → Bool) → StatusSet → ℕ → List Status8 → Type 0
AreAwaited awaited targets k [] = Unit {0}
AreAwaited awaited targets k (d ∷ dir) = (awaited k ≡ has targets d) × AreAwaited awaited targets (k + 1) dir

-- where a set is of the targets, those awaited are the children with a target status, and there is one
abbrev pub KnowsTargets : View → StatusSet → List Assign → List Status8 → Type 0
KnowsTargets view targets sets dir = list_any is_targets sets ≡ true → AreAwaited (has_bit view.awaited.0) targets 0 dir × (list_any (has targets) dir ≡ true)

-- a waiting request still stands after a change: its guard holds in the abstract state, and the value that it sent is the object's
pub record StillStands (u : Rule) (before after : Local) : Type 0 where
  pub guard : guard_at u.guard (abstract_of after) None ≡ true
  pub value : sends_val u ≡ true → after.val ≡ before.val
