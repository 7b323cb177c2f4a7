-- The shape of one transaction, which each of its firings keeps.
use Rattle.std.specs.Prelude.{ℕ, ◌≡◌, ◌≢◌, Bool, true, false, List, [], ◌∷◌, Option, Some, ◌⊎◌}
use Rattle.std.specs.List.{list_all}
use Rattle.hem_template.specs.declared.template_name.TemplateName.{TemplateName}
use Rattle.hem_template.specs.declared.template_name.TemplateName.TheVariants.{RqUp, RqUpSelf, RqUpDown, RqDownSelf, RqDownDown, RsDownRqDown}
use Rattle.hem_tree.specs.Tree.{Tree, parent_of, is_child}
use Rattle.hem_shape.specs.Subtree.{InSubtree}
use Rattle.hem_shape.specs.Progress.{Asker, child, processor, parent, itself, Progress}

-- the transaction holds a lock
pub record IsHeld (lock : Option Asker) : Type 0 where
  pub asker : Asker
  pub held : lock ≡ Some asker

-- the transaction holds the downlock of an object's parent
pub record IsHeldAbove (tree : Tree) (down : ℕ → Option Asker) (o : ℕ) : Type 0 where
  pub high : ℕ
  pub above : parent_of tree o ≡ Some high
  pub lock : IsHeld (down high)

-- whether a template sends a request up and waits for the answer
abbrev pub is_asking_up : TemplateName → Bool
is_asking_up RqUp = true
is_asking_up RqUpSelf = true
is_asking_up _ = false

-- what has been fired where the uplock is held
abbrev pub asked_up_for : Asker → List TemplateName
asked_up_for itself = RqUpSelf ∷ []
asked_up_for _ = RqUp ∷ []

-- what may have been fired where the downlock is held
abbrev pub AskedDownFor : Asker → List TemplateName → Type 0
AskedDownFor (child c) fired = (fired ≡ RqUpDown ∷ []) ⊎ (fired ≡ RqUp ∷ RsDownRqDown ∷ [])
AskedDownFor processor fired = (fired ≡ RqUpDown ∷ []) ⊎ (fired ≡ RqUp ∷ RsDownRqDown ∷ [])
AskedDownFor parent fired = fired ≡ RqDownDown ∷ []
AskedDownFor itself fired = fired ≡ RqDownSelf ∷ []

-- below o, itself left out, only the subtree of the child that asked has seen firings
abbrev pub IsUntouchedBut : Tree → (ℕ → List TemplateName) → ℕ → Asker → Type 0
IsUntouchedBut tree fired o asker = (k : ℕ) → InSubtree tree k o → k ≢ o → fired k ≢ [] → (c : ℕ) × (asker ≡ child c) × InSubtree tree k c

-- a transaction on its way up: its one message is the request of c, and it has only sent upward, in the subtree of c
pub record IsRising (tree : Tree) (at : Progress) (c : ℕ) : Type 0 where
  pub only : (k : ℕ) → at.asks_up k ≡ true → k ≡ c
  pub no_answers_up : (k : ℕ) → at.answers_up k ≡ false
  pub no_asks_down : (k : ℕ) → at.asks_down k ≡ false
  pub no_answers_down : (k : ℕ) → at.answers_down k ≡ false
  pub within : (k : ℕ) → at.fired k ≢ [] → InSubtree tree k c
  pub upward : (k : ℕ) → list_all is_asking_up (at.fired k) ≡ true

-- an object that waits for its parent
pub record WaitsAbove (tree : Tree) (fired : ℕ → List TemplateName) (o : ℕ) (asker : Asker) : Type 0 where
  pub asked : fired o ≡ asked_up_for asker
  pub child_asked : (c : ℕ) → asker ≡ child c → is_child tree c o ≡ true
  pub untouched : IsUntouchedBut tree fired o asker

-- what is on the way to or from a parent belongs to the child's uplock
pub record BelongsBelow (at : Progress) : Type 0 where
  pub asks_up : (k : ℕ) → at.asks_up k ≡ true → IsHeld (at.up k)
  pub answers_down : (k : ℕ) → at.answers_down k ≡ true → IsHeld (at.up k)
  pub up : (o k : ℕ) → at.up o ≡ Some (child k) → IsHeld (at.up k)
  pub down : (o k : ℕ) → at.down o ≡ Some (child k) → IsHeld (at.up k)

-- what is on the way to or from a child belongs to the parent's downlock
pub record BelongsAbove (tree : Tree) (at : Progress) : Type 0 where
  pub asks_down : (k : ℕ) → at.asks_down k ≡ true → IsHeldAbove tree at.down k
  pub answers_up : (k : ℕ) → at.answers_up k ≡ true → IsHeldAbove tree at.down k
  pub down : (k : ℕ) → at.down k ≡ Some parent → IsHeldAbove tree at.down k

-- the shape of a transaction
pub record HasShape (tree : Tree) (at : Progress) : Type 0 where
  pub below : BelongsBelow at
  pub above : BelongsAbove tree at
  pub rising : (c : ℕ) → at.asks_up c ≡ true → IsRising tree at c
  pub waits : (o : ℕ) (asker : Asker) → at.up o ≡ Some asker → WaitsAbove tree at.fired o asker
  pub untouched : (o k : ℕ) → at.asks_down o ≡ true → InSubtree tree k o → at.fired k ≡ []
  pub asked : (o : ℕ) (asker : Asker) → at.down o ≡ Some asker → AskedDownFor asker (at.fired o)
