-- What one transaction has done so far: it rises to its highest object, and then stays in the subtree of that object.
use Rattle.std.specs.Prelude.{ℕ, ◌≡◌, ◌≢◌, Bool, true, false, List, [], ◌∷◌, ◌++◌, Some, ◌⊎◌}
use Rattle.hem_template.specs.declared.template_name.TemplateName.{TemplateName}
use Rattle.hem_tree.specs.Tree.{Tree, parent_of}
use Rattle.hem_trace.specs.Blocks.{Each}
use Rattle.hem_shape.specs.Subtree.{InSubtree}
use Rattle.hem_shape.specs.Progress.{Progress, IsBlank}
use Rattle.hem_shape.specs.Move.{Move}
use Rattle.hem_shape.specs.Shape.{is_asking_up}

-- a firing that was made: its object, and whether it sent a request up and waits for the answer
pub record Made : Type 0 where
  pub object : ℕ
  pub upward : Bool

-- each is made at the parent of the object of the one before it, the first after m
abbrev pub ClimbsFrom : Tree → Made → List Made → Type 0
ClimbsFrom tree m [] = Unit {0}
ClimbsFrom tree m (n ∷ made) = (parent_of tree m.object ≡ Some n.object) × ClimbsFrom tree n made

-- each is made at the parent of the object of the one before it
abbrev pub IsClimb : Tree → List Made → Type 0
IsClimb tree [] = Unit {0}
IsClimb tree (m ∷ made) = ClimbsFrom tree m made

-- all that has been fired hangs together under w: it is in the subtree of w, and each object but w has a parent that has fired
pub record IsRooted (tree : Tree) (fired : ℕ → List TemplateName) (w : ℕ) : Type 0 where
  pub within : (k : ℕ) → fired k ≢ [] → InSubtree tree k w
  pub parents : (k : ℕ) → fired k ≢ [] → k ≢ w → (high : ℕ) × (parent_of tree k ≡ Some high) × (fired high ≢ [])

-- only requests upward so far, one object after another, and the message of the last is under way
pub record Rises (tree : Tree) (at : Progress) (made : List Made) : Type 0 where
  pub before : List Made
  pub last : Made
  pub parts : made ≡ before ++ last ∷ []
  pub asks : at.asks_up last.object ≡ true
  pub upward : Each (λ m. m.upward ≡ true) made
  pub fired : Each (λ m. at.fired m.object ≢ []) made
  pub climb : IsClimb tree made
  pub rooted : IsRooted tree at.fired last.object

-- the anchor among what was made: before it only requests upward, one object after another up to the anchor's; after it no request upward, and all in the subtree of that object
pub record Turns (tree : Tree) (made : List Made) : Type 0 where
  pub up : List Made
  pub anchor : Made
  pub rest : List Made
  pub parts : made ≡ up ++ anchor ∷ rest
  pub turns : anchor.upward ≡ false
  pub before : Each (λ m. (m.upward ≡ true) × InSubtree tree m.object anchor.object × (m.object ≢ anchor.object)) up
  pub after : Each (λ m. (m.upward ≡ false) × InSubtree tree m.object anchor.object) rest
  pub climb : IsClimb tree (up ++ anchor ∷ [])

-- the anchor was fired, and nothing of the transaction is outside of the subtree of its object
pub record Falls (tree : Tree) (at : Progress) (made : List Made) : Type 0 where
  pub form : Turns tree made
  pub no_asks : (k : ℕ) → at.asks_up k ≡ false
  pub rooted : IsRooted tree at.fired form.anchor.object
  pub some : at.fired form.anchor.object ≢ []

-- what a transaction makes: only requests upward, one object after another, or such up to its anchor and then none
abbrev pub HasForm : Tree → List Made → Type 0
HasForm tree made = (Each (λ m. m.upward ≡ true) made × IsClimb tree made) ⊎ Turns tree made

-- a transaction hasn't begun
pub record IsUnbegun (at : Progress) (made : List Made) : Type 0 where
  pub blank : IsBlank at
  pub none : made ≡ []

-- what a transaction that stands so has done so far
abbrev pub HasPhases : Tree → Progress → List Made → Type 0
HasPhases tree at made = IsUnbegun at made ⊎ (Rises tree at made ⊎ Falls tree at made)

-- a move as one that was made
abbrev pub made_by : Move → TemplateName → Made
made_by m t = record { object = m.object; upward = is_asking_up t }
