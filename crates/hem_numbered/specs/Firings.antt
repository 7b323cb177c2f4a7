-- A firing of a rule that has a template, on a line whose messages and locks have numbers.
use Rattle.std.specs.Prelude.{ℕ, Bool, ◌≡◌, ◌≢◌, true, false, List, Option, None, Some, slice_get, ◌⊎◌}
use Rattle.hem_base.specs.declared.ids.Kind.{Kind}
use Rattle.hem_base.specs.declared.ids.Firing.{Firing}
use Rattle.hem_syntax.specs.declared.rule.Rule.{Rule}
use Rattle.hem_template.specs.declared.template_name.TemplateName.{TemplateName}
use Rattle.hem_object.specs.declared.state.Lock.{Lock}
use Rattle.hem_syntax.specs.Protocol.{Protocol}
use Rattle.hem_object.specs.Local.{Local}
use Rattle.hem_template.specs.Template.{row_of}
use Rattle.hem_tree.specs.Tree.{Tree, kind_of, IsTree}
use Rattle.hem_fire.specs.declared.outs.Outs.{Outs}
use Rattle.hem_fire.specs.OneFire.{OneFire}
use Rattle.hem_system.specs.declared.lane.Lane.{Lane}
use Rattle.hem_system.specs.declared.lane.Lane.TheVariants.{UpRequests, UpResponses, Down, Requests}
use Rattle.hem_system.specs.State.{Line, local_at, list_at, list_after, takes, is_own_child, place_of_me, heads_of}
use Rattle.hem_rows.specs.Rows.{IsOfRow}
use Rattle.hem_rows.specs.Acts.{Acts}
use Rattle.hem_numbered.specs.Numbers.{Numbers}
use Rattle.hem_numbered.specs.Bounds.{AreBounded}

-- a firing leads from one line to another: it changes its own object's local state, and each list by the two tests
pub record Leads (tree : Tree) (f : Firing) (outs : Outs) (before after : Local) (old new : Line) : Type 0 where
  pub lists : (k : ℕ) (lane : Lane) → list_at new k lane ≡ list_after tree f outs k lane (list_at old k lane)
  pub here : local_at old f.object.0 ≡ Some before
  pub now : local_at new f.object.0 ≡ Some after
  pub others : (k : ℕ) → k ≢ f.object.0 → local_at new k ≡ local_at old k

-- a firing's number: a new one where it takes nothing that a firing sent, else that of what it takes; of several answers, that of one of them
pub record HasNumber (tree : Tree) (f : Firing) (outs : Outs) (lists : ℕ → Lane → List ℕ) (is_new : ℕ → Bool) (n : ℕ) : Type 0 where
  pub child_request : (k : ℕ) → takes tree f outs k UpRequests ≡ true → slice_get (lists k UpRequests) 0 ≡ Some n
  pub parent_message : (k : ℕ) → takes tree f outs k Down ≡ true → slice_get (lists k Down) 0 ≡ Some n
  pub child_answer : (k : ℕ) → takes tree f outs k UpResponses ≡ true → (first : ℕ) × (takes tree f outs first UpResponses ≡ true) × (slice_get (lists first UpResponses) 0 ≡ Some n)
  pub start : ((k : ℕ) (lane : Lane) → lane ≢ Requests → takes tree f outs k lane ≡ false) → is_new n ≡ true

-- a rule of this template fires on a line within the bounds
pub record IsFiring (p : Protocol) (tree : Tree) (f : Firing) (t : TemplateName) (kind : Kind) (rule : Rule) (before after : Local) (outs : Outs) (old new : Line) : Type 0 where
  pub lawful : IsTree tree
  pub kind_is : kind_of tree f.object.0 ≡ Some kind
  pub own : is_own_child tree f.object.0 f.me ≡ true
  pub row : IsOfRow p kind rule t
  pub fires : OneFire p kind rule (place_of_me tree f.object.0 f.me) before (heads_of tree old f.object.0 f.me) after outs
  pub acts : Acts p kind (row_of t) (place_of_me tree f.object.0 f.me) before (heads_of tree old f.object.0 f.me) after outs
  pub leads : Leads tree f outs before after old new
  pub bounded : AreBounded p tree old

-- a firing changes a lock in one way at most: it leaves it, takes a free one, or frees it
abbrev pub ChangesOnce : Option Lock → Option Lock → Type 0
ChangesOnce before after = (after ≡ before) ⊎ ((before ≡ None) ⊎ (after ≡ None))

-- a firing's number is that of all that it takes, and of each lock that it frees
pub record IsNumbered (tree : Tree) (f : Firing) (outs : Outs) (before after : Local) (numbers : Numbers) (n : ℕ) : Type 0 where
  pub takes : (k : ℕ) (lane : Lane) → lane ≢ Requests → takes tree f outs k lane ≡ true → slice_get (numbers.lists k lane) 0 ≡ Some n
  pub up : ChangesOnce before.up after.up
  pub down : ChangesOnce before.down after.down
  pub frees_up : (lock : Lock) → before.up ≡ Some lock → after.up ≡ None → numbers.up f.object.0 ≡ n
  pub frees_down : (lock : Lock) → before.down ≡ Some lock → after.down ≡ None → numbers.down f.object.0 ≡ n
