-- A part of a document: the tokens with which it begins, and what they say.
use Rattle.std.specs.Prelude.{◌≡◌, ℕ, List, drop}
use Rattle.hem_text.specs.declared.text.Cause.{Cause}
use Rattle.hem_text.specs.Lexemes.{Lexeme}
use Rattle.hem_text.specs.Grammars.{Grammar, State, Reads, IsFault}

-- the first n tokens alone are a document, it says e alone, and there is no fault
pub record ReadsOnly {E T I : Type 0} (g : Grammar E T I) (s : State E T I) (ts : List Lexeme) (n : ℕ) (e : E) : Type 0 where
  pub once : (m : ℕ) (f : E) → Reads g s ts m f → (m ≡ n) × (f ≡ e)
  pub faultless : (k : ℕ) (cause : Cause) → IsFault g s ts k cause → ⊥

-- the tokens ts begin with a part of the grammar that says e, the rest are those after it, and they begin with no other part
pub record IsPart {E T I : Type 0} (g : Grammar E T I) (s : State E T I) (ts rest : List Lexeme) (e : E) : Type 0 where
  pub count : ℕ
  pub reads : Reads g s ts count e
  pub others : rest ≡ drop count ts
  pub only : ReadsOnly g s ts count e
