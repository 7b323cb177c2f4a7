-- Which positions a firing can change, and the positions at which a firing may be ready.
use Rattle.std.specs.Prelude.{ℕ, ◌≡◌, ◌==◌, ◌<◌, ◌/◌, Bool, true, false, ◌&&◌, ◌||◌, List, length, None}
use Rattle.hem_base.specs.Sets.{has_bit}
use Rattle.hem_base.specs.declared.ids.Firing.{Firing}
use Rattle.hem_syntax.specs.Protocol.{Protocol}
use Rattle.hem_fire.specs.declared.outs.To.{To}
use Rattle.hem_fire.specs.declared.outs.To.TheVariants as to
use Rattle.hem_tree.specs.Tree.{Tree, is_child}
use Rattle.hem_system.specs.declared.lane.Lane.TheVariants.{Down}
use Rattle.hem_system.specs.State.{State, reaches}
use Rattle.hem_walk.specs.Walk.{positions, position, ready_at, IsThere}
use Rattle.hem_walk.specs.Marks.{is_in}

-- a firing sends to the parent
abbrev pub is_up : To → Bool
is_up to.UpRequest = true
is_up to.UpResponse = true
is_up _ = false

-- a message goes to the child at that place
abbrev pub reaches_place : To → ℕ → Bool
reaches_place (to.Kid c) k = k == c
reaches_place (to.Kids set) k = has_bit set.0 k
reaches_place _ k = false

-- an object on a line is that of the firing, or its parent where it sends up, or a child to which it sends
abbrev pub is_near : Tree → Firing → To → ℕ → ℕ → Bool
is_near tree f t l o = l == f.line.0 && (o == f.object.0 || is_up t && is_child tree f.object.0 o || reaches tree f t o Down)

-- these positions are in the set, and all that were in it before
pub record IsMarkedNear (tree : Tree) (s : State) (f : Firing) (t : To) (old new : List ℕ) : Type 0 where
  pub near : (l o : ℕ) → IsThere tree s l o → is_near tree f t l o ≡ true → is_in new (position tree l o) ≡ true
  pub kept : (n : ℕ) → is_in old n ≡ true → is_in new n ≡ true
  pub size : length new ≡ length old

-- each position with a ready firing is in the set
pub record IsMarked (p : Protocol) (tree : Tree) (k : ℕ) (h : List Firing) (s : State) (marks : List ℕ) : Type 0 where
  pub size : positions tree s / 64 < length marks
  pub others : (l o : ℕ) → IsThere tree s l o → is_in marks (position tree l o) ≡ false → ready_at p tree k h s l o ≡ None
