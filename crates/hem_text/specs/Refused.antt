-- Why one token can't be read, from the state before it alone.
use Rattle.std.specs.Prelude.{◌≡◌, Option, None, Some, if◌then◌else◌}
use Rattle.hem_text.specs.declared.text.Cause.{Cause}
use Rattle.hem_text.specs.declared.text.Cause.TheVariants.{TooMany, Repeated}
use Rattle.hem_text.specs.Lexemes.{Lexeme}
use Rattle.hem_text.specs.Grammars.{Grammar, State, Way, next, full, way_at, lost_cause}
use Rattle.hem_text.specs.declared.machine.Refusal.{Refusal}
use Rattle.hem_text.specs.declared.machine.Refusal.TheVariants.{Fault, OutOfMemory}

-- why a token can't take this way, or has none
abbrev pub local_cause_at : {E T I : Type 0} → Grammar E T I → State E T I → Lexeme → Option (Way T I) → Cause
local_cause_at g s t None = lost_cause g s.stack t
local_cause_at g s t (Some w) = if g.is_fresh s.env w.terminal t then TooMany else Repeated

-- why a token can't be read
abbrev pub local_cause : {E T I : Type 0} → Grammar E T I → State E T I → Lexeme → Cause
local_cause g s t = local_cause_at g s t (way_at g s t)

-- a token can't be read and this is the cause, unless memory ran out
abbrev pub IsRefused : {E T I : Type 0} → Grammar E T I → State E T I → Lexeme → Refusal → Type 0
IsRefused g s t OutOfMemory = Unit {0}
IsRefused g s t (Fault cause) = (next full g s t ≡ None) × (cause ≡ local_cause g s t)
