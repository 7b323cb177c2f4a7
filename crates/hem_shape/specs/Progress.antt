-- Where one transaction stands on a line.
use Rattle.std.specs.Prelude.{ℕ, ◌==◌, ◌≡◌, Bool, false, cond, List, [], Option, None}
use Rattle.hem_template.specs.declared.template_name.TemplateName.{TemplateName}

-- for whom an object works: a child that asked it, its processor, its parent that asked it, or itself
pub data Asker : Type 0 where
  child : ℕ → Asker
  processor : Asker
  parent : Asker
  itself : Asker

-- where a transaction stands: of each object, whether the lists of the edge to its parent hold a message of the transaction, for whom each lock is held where the transaction holds it, and the templates that the transaction has fired there, in order
pub record Progress : Type 0 where
  pub asks_up : ℕ → Bool
  pub answers_up : ℕ → Bool
  pub asks_down : ℕ → Bool
  pub answers_down : ℕ → Bool
  pub up : ℕ → Option Asker
  pub down : ℕ → Option Asker
  pub fired : ℕ → List TemplateName

-- a value for each object, with another one at one object
abbrev pub set_at : {A : Type 0} → ℕ → A → (ℕ → A) → ℕ → A
set_at o v f k = cond (k == o) v (f k)

-- the transaction has not begun
pub record IsBlank (at : Progress) : Type 0 where
  pub asks_up : (k : ℕ) → at.asks_up k ≡ false
  pub answers_up : (k : ℕ) → at.answers_up k ≡ false
  pub asks_down : (k : ℕ) → at.asks_down k ≡ false
  pub answers_down : (k : ℕ) → at.answers_down k ≡ false
  pub up : (k : ℕ) → at.up k ≡ None
  pub down : (k : ℕ) → at.down k ≡ None
  pub fired : (k : ℕ) → at.fired k ≡ []
