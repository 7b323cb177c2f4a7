-- What one object, and then a line, becomes while a firing is made.
use Rattle.std.specs.Prelude.{ℕ, ◌≡◌, Bool, true, List, Option, Some, None, cond, IsTrue, slice_get, slice_set, Result, Err, IfOk, OnErr, ◌↔◌}
use Rattle.std.specs.List.{list_all}
use Rattle.hem_base.specs.Sets.{has_bit}
use Rattle.hem_base.specs.declared.ids.Firing.{Firing}
use Rattle.hem_base.specs.declared.ids.KidSet.{KidSet}
use Rattle.hem_base.specs.declared.ids.Message.{Message}
use Rattle.hem_syntax.specs.declared.rule.Rule.{Rule}
use Rattle.hem_syntax.specs.declared.rule.Take.{Take}
use Rattle.hem_syntax.specs.declared.rule.Take.TheVariants as take
use Rattle.hem_syntax.specs.Protocol.{Protocol}
use Rattle.hem_object.specs.Local.{Local, nobody}
use Rattle.hem_object.specs.Changes.{assign_names}
use Rattle.hem_fire.specs.declared.outs.To.{To}
use Rattle.hem_fire.specs.declared.outs.Outs.{Outs}
use Rattle.hem_fire.specs.declared.plan.Plan.{Plan}
use Rattle.hem_fire.specs.Heads.{awaited_of}
use Rattle.hem_fire.specs.OneFire.{Heads}
use Rattle.hem_fire.specs.Plans.{left_by}
use Rattle.hem_tree.specs.Tree.{Tree}
use Rattle.hem_system.specs.declared.cell.Cell.{Cell as Kept}
use Rattle.hem_system.specs.declared.lists.Stand.{Stand}
use Rattle.hem_system.specs.declared.fault.StepFault.{StepFault}
use Rattle.hem_system.specs.declared.fault.StepFault.TheVariants.{NotEnabled}
use Rattle.hem_system.specs.State.{Line, Effect, map_each, effect_of, local_at, line_after}
use Rattle.hem_system.specs.Events.{Event, event_of}
use Rattle.hem_system.specs.Cells.{seen, line_of}
use Rattle.hem_system.specs.Lists.{changed_at, reaches_at, HasRoom}

-- the children of whose responses a rule takes the head
abbrev pub kids_taken : Take → Local → KidSet
kids_taken (take.Kids id) local = awaited_of local
kids_taken _ local = nobody

-- of the heads of some lists those at the places in the set
abbrev pub heads_in : KidSet → List (Option Message) → List (Option Message)
heads_in kids heads = map_each (λ k head. cond (has_bit kids.0 k) head None) 0 heads

-- the head of the requester's requests, where a rule takes it
abbrev pub request_taken : Take → Option Message → Option Message
request_taken (take.Me id) head = head
request_taken _ head = None

-- the head of the parent's messages, where a rule takes it
abbrev pub parent_taken : Take → Option Message → Option Message
parent_taken (take.Parent id) head = head
parent_taken _ head = None

-- of the heads those that a rule takes
abbrev pub heads_taken : Take → Local → Heads → Heads
heads_taken t local heads =
    record {
      request = request_taken t heads.request;
      parent = parent_taken t heads.parent;
      kids = heads_in (kids_taken t local) heads.kids;
    }

-- a firing that is possible on a line, by the rule that it names, its plan and the heads that it takes
pub record IsEnabled (p : Protocol) (tree : Tree) (line : Line) (f : Firing) (rule : Rule) (plan : Plan) (took : Heads) : Type 0 where
  pub local : Local
  pub there : local_at line f.object.0 ≡ Some local
  pub names : IsTrue (list_all (assign_names local plan.view) rule.sets)
  pub effect : effect_of p tree line f ≡ Some (record { after = left_by plan rule local; took = took; outs = plan.outs })

-- one object is as it was, but for room
pub record IsRoomMade (to : To) (at : Stand) (k : ℕ) (old new : List Kept) (done : Bool) : Type 0 where
  pub cell : Kept
  pub next : Kept
  pub there : slice_get old k ≡ Some cell
  pub same : seen next ≡ seen cell
  pub after : new ≡ slice_set old k next
  pub room : done ≡ true → HasRoom (reaches_at to at) next

-- the lists of one object are those after the firing
pub record IsChanged (f : Firing) (outs : Outs) (at : Stand) (k : ℕ) (old new : List Kept) : Type 0 where
  pub cell : Kept
  pub next : Kept
  pub there : slice_get old k ≡ Some cell
  pub changed : seen next ≡ changed_at f outs at (seen cell)
  pub after : new ≡ slice_set old k next

-- the local state of one object is that after the firing
pub record IsFired (rule : Rule) (plan : Plan) (k : ℕ) (old new : List Kept) : Type 0 where
  pub cell : Kept
  pub there : slice_get old k ≡ Some cell
  pub after : new ≡ slice_set old k (record cell { local = left_by plan rule cell.local })

-- the firing is possible on the old line, is this event, and leads to the new line
pub record LineFires (p : Protocol) (tree : Tree) (old : Line) (f : Firing) (event : Event) (new : Line) : Type 0 where
  pub effect : Effect
  pub possible : effect_of p tree old f ≡ Some effect
  pub event_is : event ≡ event_of f effect
  pub leads : new ≡ line_after tree f effect old

-- a firing was made on one of several lines, or was not, and then nothing looks changed
pub record IsStepped (p : Protocol) (tree : Tree) (f : Firing) (l : ℕ) (old new : List (List Kept)) (result : Result Event StepFault) : Type 0 where
  pub cells : List Kept
  pub next : List Kept
  pub there : slice_get old l ≡ Some cells
  pub after : new ≡ slice_set old l next
  pub ok : IfOk result (λ event. LineFires p tree (line_of cells) f event (line_of next))
  pub refused : (result ≡ Err NotEnabled) ↔ (effect_of p tree (line_of cells) f ≡ None)
  pub err : OnErr result (line_of next ≡ line_of cells)
