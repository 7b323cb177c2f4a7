-- Documents of a grammar, token by token: which tokens begin one, which are one, and the first fault and its cause.
use Rattle.std.specs.Prelude.{◌≡◌, ◌≢◌, ℕ, ◌+◌, ◌<◌, ◌≤◌, Bool, true, false, ◌&&◌, List, [], ◌∷◌, ◌++◌, map, length, take, find, Option, Some, None, is_some, option_and_then, slice_get, if◌then◌else◌}
use Rattle.std.specs.List.{list_any, list_all}
use Rattle.hem_text.specs.Lexemes.{Lexeme}
use Rattle.hem_text.specs.Spelling.{is_name}
use Rattle.hem_text.specs.declared.symbol.Symbol.{Symbol}
use Rattle.hem_text.specs.declared.symbol.Symbol.TheVariants.{One, Item, Maybe, Many}
use Rattle.hem_text.specs.declared.symbol.Stands.{Stands}
use Rattle.hem_text.specs.declared.symbol.Stands.TheVariants.{Reserved, Used, Other}
use Rattle.hem_text.specs.declared.text.Cause.{Cause}
use Rattle.hem_text.specs.declared.text.Cause.TheVariants.{Unknown, Repeated, Expected, TooMany}

-- a grammar: E is what has been read so far, T the tokens by what they mean, I the items
pub record Grammar (E T I : Type 0) : Type 0 where
  -- the tokens with which an item may begin
  pub firsts : I → List T
  -- what must follow a token, before what was still to come
  pub follows : T → List (Symbol T I)
  -- whether a token is a reserved word, a used name or something else
  pub stands : T → Stands
  -- whether a token is spelled so, and declared if it is a used name
  pub spells : E → T → Lexeme → Bool
  -- whether it keeps the limits
  pub is_within : E → T → Lexeme → Bool
  -- whether it repeats nothing that must not be repeated
  pub is_fresh : E → T → Lexeme → Bool
  -- what has been read once it is read
  pub after : E → T → Lexeme → E

-- what has been read, and what is still to come, the next first
pub record State (E T I : Type 0) : Type 0 where
  pub env : E
  pub stack : List (Symbol T I)

-- the state with this read and this to come
abbrev pub state : {E T I : Type 0} → E → List (Symbol T I) → State E T I
state e s = record { env = e; stack = s }

-- a token that may come, and what is to come after it
pub record Way (T I : Type 0) : Type 0 where
  pub terminal : T
  pub stack : List (Symbol T I)

-- the way of a token that stands before this rest
abbrev pub way_into : {E T I : Type 0} → Grammar E T I → List (Symbol T I) → T → Way T I
way_into g rest x = record { terminal = x; stack = g.follows x ++ rest }

-- the tokens with which a symbol may begin
abbrev pub heads : {E T I : Type 0} → Grammar E T I → Symbol T I → List T
heads g (One x) = x ∷ []
heads g (Item i) = g.firsts i
heads g (Maybe i) = g.firsts i
heads g (Many i) = g.firsts i

-- whether the symbol may be left out
abbrev pub can_pass : {T I : Type 0} → Symbol T I → Bool
can_pass (One x) = false
can_pass (Item i) = false
can_pass (Maybe i) = true
can_pass (Many i) = true

-- whether the symbol may come again
abbrev pub comes_again : {T I : Type 0} → Symbol T I → Bool
comes_again (One x) = false
comes_again (Item i) = false
comes_again (Maybe i) = false
comes_again (Many i) = true

-- what is to come once a token of the symbol is read
abbrev pub past : {T I : Type 0} → Symbol T I → List (Symbol T I) → List (Symbol T I)
past s rest = if comes_again s then s ∷ rest else rest

-- all tokens that may come, and what is to come after each
abbrev pub ways : {E T I : Type 0} → Grammar E T I → List (Symbol T I) → List (Way T I)
ways g [] = []
ways g (s ∷ rest) = map (way_into g (past s rest)) (heads g s) ++ (if can_pass s then ways g rest else [])

-- whether a token is spelled as the way's
abbrev pub takes : {E T I : Type 0} → Grammar E T I → E → Lexeme → Way T I → Bool
takes g e t w = g.spells e w.terminal t

-- the way that a token takes: its spelling decides
abbrev pub way_at : {E T I : Type 0} → Grammar E T I → State E T I → Lexeme → Option (Way T I)
way_at g s t = find (takes g s.env t) (ways g s.stack)

-- the three languages: with all rules, without the limits, and without the rules on repetition too
pub data Rules : Type 0 where
  full : Rules
  unlimited : Rules
  repeating : Rules

-- whether these rules let a token say this
abbrev pub allows : {E T I : Type 0} → Rules → Grammar E T I → E → T → Lexeme → Bool
allows full g e x t = g.is_fresh e x t && g.is_within e x t
allows unlimited g e x t = g.is_fresh e x t
allows repeating g e x t = true

-- the state after a token that takes this way, where the rules allow it
abbrev pub goes : {E T I : Type 0} → Rules → Grammar E T I → E → Lexeme → Way T I → Option (State E T I)
goes r g e t w = if allows r g e w.terminal t then Some (state (g.after e w.terminal t) w.stack) else None

-- the state after a token, where it may come
abbrev pub next : {E T I : Type 0} → Rules → Grammar E T I → State E T I → Lexeme → Option (State E T I)
next r g s t = option_and_then (goes r g s.env t) (way_at g s t)

-- the state after these tokens, where each may come
abbrev pub run : {E T I : Type 0} → Rules → Grammar E T I → State E T I → List Lexeme → Option (State E T I)
run r g s [] = Some s
run r g s (t ∷ ts) = option_and_then (λ u. run r g u ts) (next r g s t)

-- the tokens begin a document
abbrev pub begins : {E T I : Type 0} → Rules → Grammar E T I → State E T I → List Lexeme → Bool
begins r g s ts = is_some (run r g s ts)

-- all tokens that may stand next
abbrev pub standing : {E T I : Type 0} → Grammar E T I → List (Symbol T I) → List T
standing g [] = []
standing g (s ∷ rest) = heads g s ++ (if can_pass s then standing g rest else [])

-- a used name
abbrev pub is_used : Stands → Bool
is_used Reserved = false
is_used Used = true
is_used Other = false

-- a reserved word or a used name
abbrev pub is_plain : Stands → Bool
is_plain Reserved = true
is_plain Used = true
is_plain Other = false

-- used names may stand next, and beside them only reserved words
abbrev pub names_only : {E T I : Type 0} → Grammar E T I → List (Symbol T I) → Bool
names_only g stack = list_any (λ x. is_used (g.stands x)) (standing g stack) && list_all (λ x. is_plain (g.stands x)) (standing g stack)

-- why a token can't stand that is spelled as nothing that may stand
abbrev pub lost_cause : {E T I : Type 0} → Grammar E T I → List (Symbol T I) → Lexeme → Cause
lost_cause g stack t = if is_name t && names_only g stack then Unknown else Expected

-- why a token, or the end, can't stand at this state, by the tokens through it
abbrev pub cause_at : {E T I : Type 0} → Grammar E T I → State E T I → List Lexeme → State E T I → Option Lexeme → Cause
cause_at g s through at None = Expected
cause_at g s through at (Some t) =
    if begins unlimited g s through then TooMany
    else if begins repeating g s through then Repeated
    else lost_cause g at.stack t

-- why the token at place k, or the end, can't stand after those before it, which lead to the state at
abbrev pub cause_of : {E T I : Type 0} → Grammar E T I → State E T I → List Lexeme → ℕ → State E T I → Cause
cause_of g s ts k at = cause_at g s (take (k + 1) ts) at (slice_get ts k)

-- the first n tokens are a document, and e is what it says
pub record Reads {E T I : Type 0} (g : Grammar E T I) (s : State E T I) (ts : List Lexeme) (n : ℕ) (e : E) : Type 0 where
  pub within : n ≤ length ts
  pub runs : run full g s (take n ts) ≡ Some (state e [])

-- the token at place k, or the end, is the first at which no document goes on, and the cause is this
pub record IsFault {E T I : Type 0} (g : Grammar E T I) (s : State E T I) (ts : List Lexeme) (k : ℕ) (cause : Cause) : Type 0 where
  pub at : State E T I
  pub before : run full g s (take k ts) ≡ Some at
  pub unended : at.stack ≢ []
  pub within : k ≤ length ts
  pub here : k < length ts → begins full g s (take (k + 1) ts) ≡ false
  pub why : cause ≡ cause_of g s ts k at
