-- The fault of the parts is one of the document, and what no first token says.
use Rattle.std.proofs.Common.{◌≡◌, refl, subst, ℕ, List, [], ◌∷◌, None, inl}
use Rattle.std.specs.Prelude.{slice_get}
use Rattle.hem_text.specs.declared.text.Place.{Place}
use Rattle.hem_text.specs.declared.reader.TextFault.{TextFault}
use Rattle.hem_text.specs.declared.reader.TextError.{TextError}
use Rattle.hem_text.specs.declared.reader.TextError.TheVariants.{Text, OutOfMemory}
use Rattle.hem_text.specs.Lexemes.{Lexeme}
use Rattle.hem_text.specs.Tokens.{tokens_of, end_place}
use Rattle.hem_text.specs.Unread.{Unread, unread_of}
use Rattle.hem_document.specs.Fronts.{OfFault}
use Rattle.hem_document.specs.Documents.{IsPartsFault}

-- a fault that is also another
pub of_fault : (P Q : TextFault → Type 0) (e : TextError) → ((f : TextFault) → P f → Q f) → OfFault P e → OfFault Q e
of_fault P Q (Text f) leads holds = leads f holds
of_fault P Q OutOfMemory leads holds = tt

-- a fault of the parts is one of the document
pub in_parts : {D : Type 0} (R : List Lexeme → List Lexeme → D → Type 0) (F : List Lexeme → Place → TextFault → Type 0) (bytes : List ℕ) (u : Unread) (e : TextError)
    → u ≡ unread_of bytes → OfFault (F u.tokens u.end) e → OfFault (IsPartsFault R F bytes) e
in_parts R F bytes u e whole fault =
    let P : Unread → Type 0 = λ v. OfFault (F v.tokens v.end) e in
    of_fault (F (tokens_of bytes) (end_place bytes)) (IsPartsFault R F bytes) e (λ f here. inl here) (subst P whole fault)

-- no first token, no token
pub none_left : (ts : List Lexeme) → slice_get ts 0 ≡ None → ts ≡ []
none_left [] h = refl
none_left (t ∷ ts) h = absurd cc
