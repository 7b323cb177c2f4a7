-- A firing keeps the number of the children's statuses.
use Rattle.std.proofs.Common.{◌≡◌, refl, ap, ◌∙◌, ℕ, suc, ◌+◌, Bool, List, [], ◌∷◌, length, Option, Some, None}
use Rattle.std.specs.Option.{option_map_or}
use Rattle.hem_base.specs.declared.ids.Status8.{Status8}
use Rattle.hem_base.specs.declared.ids.Kind.{Kind}
use Rattle.hem_syntax.specs.declared.rule.Rule.{Rule}
use Rattle.hem_syntax.specs.declared.rule.Side.{Side}
use Rattle.hem_syntax.specs.declared.rule.Side.TheVariants as side
use Rattle.hem_syntax.specs.declared.rule.Assign.{Assign}
use Rattle.hem_syntax.specs.declared.rule.Assign.TheVariants as assign
use Rattle.hem_object.specs.declared.state.Lock.{Lock}
use Rattle.hem_object.specs.declared.state.View.{View}
use Rattle.hem_syntax.specs.Protocol.{Protocol}
use Rattle.hem_object.specs.Local.{Local}
use Rattle.hem_object.specs.Targets.{targets_of}
use Rattle.hem_object.specs.Changes.{set_at, assign_own, assign_targets, assign_me, in_turn, assigned, freed, locked}
use Rattle.hem_fire.specs.View.{view_of}
use Rattle.hem_fire.specs.Locks.{lock_taken, request_in_hand}
use Rattle.hem_fire.specs.OneFire.{Heads, local_after}

set_at-length : (s : Status8) (test : ℕ → Bool) (k : ℕ) (dir : List Status8) → length (set_at s test k dir) ≡ length dir
set_at-length s test k [] = refl
set_at-length s test k (d ∷ dir) = ap suc (set_at-length s test (k + 1) dir)

-- how many statuses a local state has of children
abbrev kids : Local → ℕ
kids local = length local.dir

own-length : (before : Local) (view : View) (a : Assign) (local : Local) → kids (assign_own before view a local) ≡ kids local
own-length before view (assign.Field i s) local = refl
own-length before view (assign.Val v) local = refl
own-length before view (assign.Me s) local = refl
own-length before view (assign.Targets s) local = refl

targets-length : (view : View) (a : Assign) (local : Local) → kids (assign_targets view a local) ≡ kids local
targets-length view (assign.Field i s) local = refl
targets-length view (assign.Val v) local = refl
targets-length view (assign.Me s) local = refl
targets-length view (assign.Targets s) local = set_at-length s _ 0 local.dir

me-length : (view : View) (a : Assign) (local : Local) → kids (assign_me view a local) ≡ kids local
me-length view (assign.Field i s) local = refl
me-length view (assign.Val v) local = refl
me-length view (assign.Me s) local = set_at-length s _ 0 local.dir
me-length view (assign.Targets s) local = refl

turns-length : (change : Assign → Local → Local) (sets : List Assign) (local : Local) → ((a : Assign) (l : Local) → kids (change a l) ≡ kids l) → kids (in_turn change sets local) ≡ kids local
turns-length change [] local keeps = refl
turns-length change (a ∷ sets) local keeps = turns-length change sets (change a local) keeps ∙ keeps a local

assigned-length : (sets : List Assign) (view : View) (local : Local) → kids (assigned sets view local) ≡ kids local
assigned-length sets view local =
    turns-length (assign_me view) sets _ (me-length view)
    ∙ turns-length (assign_targets view) sets _ (targets-length view)
    ∙ turns-length (assign_own local view) sets local (own-length local view)

freed-length : (free : Option Side) (local : Local) → kids (freed free local) ≡ kids local
freed-length None local = refl
freed-length (Some side.Up) local = refl
freed-length (Some side.Down) local = refl

locked-length : (taken : Option (Side × Lock)) (local : Local) → kids (option_map_or (λ l. locked l.0 l.1 local) taken local) ≡ kids local
locked-length None local = refl
locked-length (Some l) local = one l.0 l.1
  where
    one : (s : Side) (lock : Lock) → kids (locked s lock local) ≡ kids local
    one side.Up lock = refl
    one side.Down lock = refl

pub local_after-length : (p : Protocol) (kind : Kind) (rule : Rule) (me : Option ℕ) (local : Local) (heads : Heads) → length (local_after p kind rule me local heads).dir ≡ length local.dir
local_after-length p kind rule me local heads =
    let view = view_of rule.take me local heads in
    locked-length (lock_taken rule.lock view (request_in_hand p rule.take rule.send local view heads) (targets_of rule.send local view)) (freed rule.free (assigned rule.sets view local))
    ∙ freed-length rule.free (assigned rule.sets view local)
    ∙ assigned-length rule.sets view local
