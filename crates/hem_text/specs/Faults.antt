-- The first fault of tokens that begin with no part of a grammar.
use Rattle.std.specs.Prelude.{◌≡◌, ℕ, List, Option, Some, None, slice_get}
use Rattle.hem_text.specs.declared.text.Place.{Place}
use Rattle.hem_text.specs.declared.text.Cause.{Cause}
use Rattle.hem_text.specs.Lexemes.{Lexeme}
use Rattle.hem_text.specs.Grammars.{Grammar, State, Reads, IsFault}
use Rattle.hem_text.specs.declared.reader.TextError.{TextError}
use Rattle.hem_text.specs.declared.machine.Refusal.{Refusal}
use Rattle.hem_text.specs.declared.machine.Refusal.TheVariants as refusal
use Rattle.hem_text.specs.declared.reader.TextError.TheVariants.{Text, OutOfMemory}

-- the place of a token, or of the end
abbrev pub place_in : Place → Option Lexeme → Place
place_in end None = end
place_in end (Some t) = t.place

-- the place of the token at k, or of the end
abbrev pub place_at : List Lexeme → Place → ℕ → Place
place_at ts end k = place_in end (slice_get ts k)

-- no document stands at the front
abbrev pub ReadsNothing : {E T I : Type 0} → Grammar E T I → State E T I → List Lexeme → Type 0
ReadsNothing {E} g s ts = (n : ℕ) (e : E) → Reads g s ts n e → ⊥

-- the fault at k is the only one
abbrev pub FaultsOnly : {E T I : Type 0} → Grammar E T I → State E T I → List Lexeme → ℕ → Cause → Type 0
FaultsOnly g s ts k cause = (j : ℕ) (other : Cause) → IsFault g s ts j other → (j ≡ k) × (other ≡ cause)

-- a refusal is the one fault of the tokens, at its place, and no document stands there, unless memory ran out
abbrev pub IsFirstFault : {E T I : Type 0} → Grammar E T I → State E T I → List Lexeme → Place → TextError → Type 0
IsFirstFault g s ts end OutOfMemory = Unit {0}
IsFirstFault g s ts end (Text f) =
    (k : ℕ)
    × IsFault g s ts k f.cause
    × (f.place ≡ place_at ts end k)
    × ReadsNothing g s ts
    × FaultsOnly g s ts k f.cause

-- the answer to a token that wasn't read, at its place
abbrev pub refused_at : Place → Refusal → TextError
refused_at place (refusal.Fault c) = Text (record { place = place; cause = c })
refused_at place refusal.OutOfMemory = OutOfMemory
