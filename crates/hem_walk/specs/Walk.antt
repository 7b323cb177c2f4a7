-- The walk: the one history that a single thread makes from a seed.
use Rattle.std.specs.Prelude.{ℕ, ◌≡◌, ◌+◌, ◌*◌, ◌-◌, ◌%◌, ◌<◌, nat_le, Bool, ◌&&◌, not, if◌then◌else◌, List, [], ◌∷◌, length, map, find, take, Option, None, Some, slice_get, is_some}
use Rattle.std.specs.List.{flat_map}
use Rattle.std.specs.Option.{option_map_or}
use Rattle.hem_base.specs.declared.ids.ObjectId.{ObjectId}
use Rattle.hem_base.specs.declared.ids.Firing.{Firing}
use Rattle.hem_syntax.specs.declared.rule.Rule.{Rule}
use Rattle.hem_syntax.specs.Protocol.{Protocol, part}
use Rattle.hem_tree.specs.Tree.{Tree, kind_of, children_of}
use Rattle.hem_work.specs.Work.{Work}
use Rattle.hem_system.specs.State.{State, Runs, start, fire}
use Rattle.hem_system.specs.Ended.{is_self, self_firings}
use Rattle.hem_work.specs.Generator.{draw_after}

-- the firing of a rule by an object on a line, with the child that it names
abbrev pub firing_of : ℕ → ℕ → Rule → Option ObjectId → Firing
firing_of l o rule me = record { line = record { 0 = l }; object = record { 0 = o }; rule = rule.name; me = me }

-- a child, as a firing names it
abbrev pub named : ℕ → Option ObjectId
named k = Some (record { 0 = k })

-- the firings of a rule: without a child, and then with each child, the least first
abbrev pub firings_of_rule : Tree → ℕ → ℕ → Rule → List Firing
firings_of_rule tree l o rule = map (firing_of l o rule) (None ∷ map named (children_of tree o))

-- the rules of an object, in text order
abbrev pub rules_of : Protocol → Tree → ℕ → List Rule
rules_of p tree o = option_map_or (λ kind. (part p kind).rules) (kind_of tree o) []

-- the firings of an object on a line, rule by rule in text order
abbrev pub firings_at : Protocol → Tree → ℕ → ℕ → List Firing
firings_at p tree l o = flat_map (firings_of_rule tree l o) (rules_of p tree o)

-- a self firing is spent where its object has made k of them on its line; no other firing is ever spent
abbrev pub is_spent : Protocol → Tree → ℕ → List Firing → Firing → Bool
is_spent p tree k h f = is_self p tree f && nat_le k (self_firings p tree h f.line.0 f.object.0)

-- after the history h a firing is possible in the state and not spent
abbrev pub is_ready : Protocol → Tree → ℕ → List Firing → State → Firing → Bool
is_ready p tree k h s f = is_some (fire p tree s f) && not (is_spent p tree k h f)

-- the first ready firing of an object on a line
abbrev pub ready_at : Protocol → Tree → ℕ → List Firing → State → ℕ → ℕ → Option Firing
ready_at p tree k h s l o = find (is_ready p tree k h s) (firings_at p tree l o)

-- how many positions there are: one for each line and object
abbrev pub positions : Tree → State → ℕ
positions tree s = length s * length tree

-- the position of an object on a line
abbrev pub position : Tree → ℕ → ℕ → ℕ
position tree l o = l * length tree + o

-- how far it is from one of n positions on to another one, where the first comes after the last
abbrev pub distance : ℕ → ℕ → ℕ → ℕ
distance n from at = if nat_le from at then at - from else at + n - from

-- an object on a line
pub record IsThere (tree : Tree) (s : State) (l o : ℕ) : Type 0 where
  pub line : l < length s
  pub object : o < length tree

-- the firing is the first ready one at the first position from that one on where one is ready
pub record IsTurn (p : Protocol) (tree : Tree) (k : ℕ) (h : List Firing) (s : State) (from : ℕ) (f : Firing) : Type 0 where
  pub there : IsThere tree s f.line.0 f.object.0
  pub ready : ready_at p tree k h s f.line.0 f.object.0 ≡ Some f
  pub first :
      (l o : ℕ) → IsThere tree s l o
      → distance (positions tree s) from (position tree l o) < distance (positions tree s) from (position tree f.line.0 f.object.0)
      → ready_at p tree k h s l o ≡ None

-- no firing is ready at any position
pub record IsOver (p : Protocol) (tree : Tree) (k : ℕ) (h : List Firing) (s : State) : Type 0 where
  pub none : (l o : ℕ) → IsThere tree s l o → ready_at p tree k h s l o ≡ None

-- each firing is that of its turn: in the state to which those before it lead, and from the position that its draw gives
pub record AreTurns (p : Protocol) (tree : Tree) (work : Work) (seed : ℕ) (h : List Firing) : Type 0 where
  pub each :
      (i : ℕ) (f : Firing) (now : State) → slice_get h i ≡ Some f → Runs p tree (start p tree work) (take i h) now
      → IsTurn p tree work.self_count (take i h) now (draw_after seed i % positions tree now) f

-- the walk from a seed: turns from the start to a state in which no firing is ready
pub record IsWalk (p : Protocol) (tree : Tree) (work : Work) (seed : ℕ) (h : List Firing) (s : State) : Type 0 where
  pub runs : Runs p tree (start p tree work) h s
  pub turns : AreTurns p tree work seed h
  pub over : IsOver p tree work.self_count h s
