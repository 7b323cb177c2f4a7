-- What a firing changes, and what it leaves as it was.
use Rattle.std.specs.Prelude.{ℕ, ◌≡◌, ◌≢◌, true, false, List, [], ◌∷◌, ◌++◌, drop, Option, Some, slice_get, option_map, IsSome}
use Rattle.std.specs.Option.{option_map_or}
use Rattle.hem_base.specs.declared.ids.Message.{Message}
use Rattle.hem_base.specs.declared.ids.Firing.{Firing}
use Rattle.hem_syntax.specs.Protocol.{Protocol}
use Rattle.hem_object.specs.Local.{Local}
use Rattle.hem_tree.specs.Tree.{Tree}
use Rattle.hem_system.specs.declared.lane.Lane.{Lane}
use Rattle.hem_system.specs.State.{State, Line, Effect, cell_at, list_of, effect_of, takes, reaches}

-- a list of an object on a line; where there is no such object it is empty
abbrev pub list_in : State → ℕ → ℕ → Lane → List Message
list_in s l k lane = option_map_or (λ cell. list_of cell lane) (cell_at s l k) []

-- what an object on a line keeps
abbrev pub local_in : State → ℕ → ℕ → Option Local
local_in s l k = option_map (λ cell. cell.local) (cell_at s l k)

-- a firing changes its own object's local state, takes heads, and appends its message; all else stays
pub record ChangesItsOwn (p : Protocol) (tree : Tree) (old : State) (f : Firing) (new : State) : Type 0 where
  pub line : Line
  pub effect : Effect
  pub there : slice_get old f.line.0 ≡ Some line
  pub possible : effect_of p tree line f ≡ Some effect
  pub other_lines : (l : ℕ) → l ≢ f.line.0 → slice_get new l ≡ slice_get old l
  pub other_locals : (k : ℕ) → k ≢ f.object.0 → local_in new f.line.0 k ≡ local_in old f.line.0 k
  pub own_local : local_in new f.line.0 f.object.0 ≡ Some effect.after
  pub other_lists : (k : ℕ) (lane : Lane) → takes tree f effect.outs k lane ≡ false → reaches tree f effect.outs.to k lane ≡ false → list_in new f.line.0 k lane ≡ list_in old f.line.0 k lane
  pub taken : (k : ℕ) (lane : Lane) → takes tree f effect.outs k lane ≡ true → reaches tree f effect.outs.to k lane ≡ false → list_in new f.line.0 k lane ≡ drop 1 (list_in old f.line.0 k lane)
  pub sent : (k : ℕ) (lane : Lane) → IsSome (cell_at old f.line.0 k) → takes tree f effect.outs k lane ≡ false → reaches tree f effect.outs.to k lane ≡ true → list_in new f.line.0 k lane ≡ list_in old f.line.0 k lane ++ effect.outs.message ∷ []
  pub both : (k : ℕ) (lane : Lane) → IsSome (cell_at old f.line.0 k) → takes tree f effect.outs k lane ≡ true → reaches tree f effect.outs.to k lane ≡ true → list_in new f.line.0 k lane ≡ drop 1 (list_in old f.line.0 k lane) ++ effect.outs.message ∷ []
