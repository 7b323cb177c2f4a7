-- The two locks after a firing.
use Rattle.std.proofs.Common.{◌≡◌, refl, ap, sym, ◌∙◌, subst, ℕ, suc, ◌+◌, length, Bool, true, false, ◌&&◌, List, [], ◌∷◌, Option, Some, None}
use Rattle.std.specs.Prelude.{option_map, is_some}
use Rattle.std.specs.Option.{option_map_or}
use Rattle.hem_base.specs.Sets.{has_bit}
use Rattle.hem_base.specs.declared.ids.Status8.{Status8}
use Rattle.hem_base.specs.declared.ids.KidSet.{KidSet}
use Rattle.hem_base.specs.declared.ids.Message.{Message}
use Rattle.hem_syntax.specs.declared.rule.Side.{Side}
use Rattle.hem_syntax.specs.declared.rule.Side.TheVariants.{Up, Down}
use Rattle.hem_syntax.specs.declared.rule.Origin.{Origin}
use Rattle.hem_syntax.specs.declared.rule.Origin.TheVariants as origin
use Rattle.hem_syntax.specs.declared.rule.Assign.{Assign}
use Rattle.hem_syntax.specs.declared.rule.Assign.TheVariants as assign
use Rattle.hem_object.specs.declared.state.By.{By}
use Rattle.hem_object.specs.declared.state.Lock.{Lock}
use Rattle.hem_object.specs.declared.state.View.{View}
use Rattle.hem_object.specs.Local.{Local, nobody}
use Rattle.hem_object.specs.Guard.{is_requester}
use Rattle.hem_object.specs.Changes.{set_at, assign_own, assign_targets, assign_me, in_turn, assigned, freed, locked}
use Rattle.hem_fire.specs.Locks.{lock_by, lock_names, lock_taken, awaited_by}
use Rattle.hem_rows.specs.Acts.{IsHolder, up_left, down_left, UpAfter, DownAfter}
use Rattle.hem_rows.proofs.Choices.{both}

-- both locks
abbrev locks : Local → Option Lock × Option Lock
locks local = (local.up, local.down)

-- what each change leaves, all changes in turn leave
in_turn-leaves : {X : Type 0} (part : Local → X) (change : Assign → Local → Local) → ((a : Assign) (local : Local) → part (change a local) ≡ part local) → (sets : List Assign) (local : Local) → part (in_turn change sets local) ≡ part local
in_turn-leaves part change same [] local = refl
in_turn-leaves part change same (a ∷ sets) local = in_turn-leaves part change same sets (change a local) ∙ same a local

own-locks : (before : Local) (view : View) (a : Assign) (local : Local) → locks (assign_own before view a local) ≡ locks local
own-locks before view (assign.Field i s) local = refl
own-locks before view (assign.Val v) local = refl
own-locks before view (assign.Me s) local = refl
own-locks before view (assign.Targets s) local = refl

targets-locks : (view : View) (a : Assign) (local : Local) → locks (assign_targets view a local) ≡ locks local
targets-locks view (assign.Field i s) local = refl
targets-locks view (assign.Val v) local = refl
targets-locks view (assign.Me s) local = refl
targets-locks view (assign.Targets s) local = refl

me-locks : (view : View) (a : Assign) (local : Local) → locks (assign_me view a local) ≡ locks local
me-locks view (assign.Field i s) local = refl
me-locks view (assign.Val v) local = refl
me-locks view (assign.Me s) local = refl
me-locks view (assign.Targets s) local = refl

-- sets leave both locks
assigned-locks : (sets : List Assign) (view : View) (local : Local) → locks (assigned sets view local) ≡ locks local
assigned-locks sets view local =
    let one = in_turn (assign_own local view) sets local in
    let two = in_turn (assign_targets view) sets one in
    in_turn-leaves locks (assign_me view) (me-locks view) sets two
    ∙ in_turn-leaves locks (assign_targets view) (targets-locks view) sets one
    ∙ in_turn-leaves locks (assign_own local view) (own-locks local view) sets local

-- and the number of entries in the directory
set_at-length : (s : Status8) (test : ℕ → Bool) (k : ℕ) (dir : List Status8) → length (set_at s test k dir) ≡ length dir
set_at-length s test k [] = refl
set_at-length s test k (entry ∷ dir) = ap suc (set_at-length s test (k + 1) dir)

abbrev children : Local → ℕ
children local = length local.dir

own-children : (before : Local) (view : View) (a : Assign) (local : Local) → children (assign_own before view a local) ≡ children local
own-children before view (assign.Field i s) local = refl
own-children before view (assign.Val v) local = refl
own-children before view (assign.Me s) local = refl
own-children before view (assign.Targets s) local = refl

targets-children : (view : View) (a : Assign) (local : Local) → children (assign_targets view a local) ≡ children local
targets-children view (assign.Field i s) local = refl
targets-children view (assign.Val v) local = refl
targets-children view (assign.Me s) local = refl
targets-children view (assign.Targets s) local = set_at-length s (has_bit view.awaited.0) 0 local.dir

me-children : (view : View) (a : Assign) (local : Local) → children (assign_me view a local) ≡ children local
me-children view (assign.Field i s) local = refl
me-children view (assign.Val v) local = refl
me-children view (assign.Me s) local = set_at-length s (is_requester view) 0 local.dir
me-children view (assign.Targets s) local = refl

assigned-children : (sets : List Assign) (view : View) (local : Local) → children (assigned sets view local) ≡ children local
assigned-children sets view local =
    let one = in_turn (assign_own local view) sets local in
    let two = in_turn (assign_targets view) sets one in
    in_turn-leaves children (assign_me view) (me-children view) sets two
    ∙ in_turn-leaves children (assign_targets view) (targets-children view) sets one
    ∙ in_turn-leaves children (assign_own local view) (own-children local view) sets local

freed-children : (frees : Option Side) (local : Local) → children (freed frees local) ≡ children local
freed-children None local = refl
freed-children (Some Up) local = refl
freed-children (Some Down) local = refl

locked-children : (lock : Option (Side × Lock)) (local : Local) → children (option_map_or (λ l. locked l.0 l.1 local) lock local) ≡ children local
locked-children None local = refl
locked-children (Some lock) local = by_side lock.0
  where
    by_side : (side : Side) → children (locked side lock.1 local) ≡ children local
    by_side Up = refl
    by_side Down = refl

freed-up : (frees : Option Side) (local : Local) → (freed frees local).up ≡ up_left frees local.up
freed-up None local = refl
freed-up (Some Up) local = refl
freed-up (Some Down) local = refl

freed-down : (frees : Option Side) (local : Local) → (freed frees local).down ≡ down_left frees local.down
freed-down None local = refl
freed-down (Some Up) local = refl
freed-down (Some Down) local = refl

-- the holder of a new lock
holder : (o : Origin) (view : View) (by : By) → lock_by o view ≡ Some by → IsHolder o view.requester by
holder origin.Child view by is = is
holder origin.Parent view by is = cc
holder origin.Own view by is = cc

-- the local state that a firing leaves when it takes a lock
abbrev after_lock : Option Side → Option (Side × Origin) → View → Option Message → KidSet → Local → Local
after_lock frees lock view request targets local =
    option_map_or (λ l. locked l.0 l.1 (freed frees local)) (lock_taken lock view request targets) (freed frees local)

abbrev with_holder : Option Side → Side → Option By → Message → KidSet → Local → Local
with_holder frees side by request targets local =
    option_map_or (λ (l : Side × Lock). locked l.0 l.1 (freed frees local)) (option_map {U = Side × Lock} (λ (by : By). (side, (let l : Lock = record { by = by; request = request; awaited = awaited_by side targets } in l))) by) (freed frees local)

up_taken : (frees : Option Side) (side : Side) (o : Origin) (view : View) (request : Message) (targets : KidSet) (local : Local) (by : By) → lock_by o view ≡ Some by → UpAfter frees (Some (side, o)) view.requester local.up (with_holder frees side (Some by) request targets local).up
up_taken frees Up o view request targets local by is = record { lock = record { by = by; request = request; awaited = nobody }; held = refl; holder = holder o view by is; awaits = refl }
up_taken frees Down o view request targets local by is = freed-up frees local

down_taken : (frees : Option Side) (side : Side) (o : Origin) (view : View) (request : Message) (targets : KidSet) (local : Local) (by : By) → lock_by o view ≡ Some by → DownAfter frees (Some (side, o)) view.requester targets local.down (with_holder frees side (Some by) request targets local).down
down_taken frees Up o view request targets local by is = freed-down frees local
down_taken frees Down o view request targets local by is = record { lock = record { by = by; request = request; awaited = targets }; held = refl; holder = holder o view by is; awaits = refl }

-- a lock whose names are there is taken
record Locks (frees : Option Side) (lock : Option (Side × Origin)) (view : View) (targets : KidSet) (local after : Local) : Type 0 where
  up : UpAfter frees lock view.requester local.up after.up
  down : DownAfter frees lock view.requester targets local.down after.down

locks_by : (frees : Option Side) (side : Side) (o : Origin) (view : View) (request : Option Message) (targets : KidSet) (local : Local) (by : Option By) → lock_by o view ≡ by → (is_some by && is_some request) ≡ true → Locks frees (Some (side, o)) view targets local (after_lock frees (Some (side, o)) view request targets local)
locks_by frees side o view None targets local by is names = absurd (let none = (both (is_some by) false names).1 in cc)
locks_by frees side o view (Some request) targets local None is names = cc
locks_by frees side o view (Some request) targets local (Some by) is names =
    subst (λ (x : Option By). Locks frees (Some (side, o)) view targets local (with_holder frees side x request targets local)) (sym is)
    (record { up = up_taken frees side o view request targets local by is; down = down_taken frees side o view request targets local by is })

locks_of : (frees : Option Side) (lock : Option (Side × Origin)) (view : View) (request : Option Message) (targets : KidSet) (local : Local) → lock_names lock view request ≡ true → Locks frees lock view targets local (after_lock frees lock view request targets local)
locks_of frees None view request targets local names = record { up = freed-up frees local; down = freed-down frees local }
locks_of frees (Some lock) view request targets local names = locks_by frees lock.0 lock.1 view request targets local (lock_by lock.1 view) refl names

-- both locks after sets, a lock that is freed and a lock that is taken
pub up_after : (frees : Option Side) (lock : Option (Side × Origin)) (sets : List Assign) (view : View) (request : Option Message) (targets : KidSet) (local : Local) → lock_names lock view request ≡ true → UpAfter frees lock view.requester local.up (after_lock frees lock view request targets (assigned sets view local)).up
up_after frees lock sets view request targets local names =
    subst (λ (old : Option Lock). UpAfter frees lock view.requester old (after_lock frees lock view request targets (assigned sets view local)).up) (ap (λ x. x.0) (assigned-locks sets view local)) (locks_of frees lock view request targets (assigned sets view local) names).up

pub down_after : (frees : Option Side) (lock : Option (Side × Origin)) (sets : List Assign) (view : View) (request : Option Message) (targets : KidSet) (local : Local) → lock_names lock view request ≡ true → DownAfter frees lock view.requester targets local.down (after_lock frees lock view request targets (assigned sets view local)).down
down_after frees lock sets view request targets local names =
    subst (λ (old : Option Lock). DownAfter frees lock view.requester targets old (after_lock frees lock view request targets (assigned sets view local)).down) (ap (λ x. x.1) (assigned-locks sets view local)) (locks_of frees lock view request targets (assigned sets view local) names).down

pub children_after : (frees : Option Side) (lock : Option (Side × Origin)) (sets : List Assign) (view : View) (request : Option Message) (targets : KidSet) (local : Local) → children (after_lock frees lock view request targets (assigned sets view local)) ≡ children local
children_after frees lock sets view request targets local =
    locked-children (lock_taken lock view request targets) (freed frees (assigned sets view local))
    ∙ freed-children frees (assigned sets view local)
    ∙ assigned-children sets view local
