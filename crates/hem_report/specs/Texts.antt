-- Texts of names, messages and firings, as bytes.
use Rattle.std.specs.Prelude.{ℕ, ◌+◌, List, [], ◌∷◌, ◌++◌, Option, None, Some, slice_get, unwrap_or, codes, decimal}
use Rattle.std.specs.Option.{option_map_or}
use Rattle.hem_base.specs.declared.ids.Status8.{Status8}
use Rattle.hem_base.specs.declared.ids.RuleId.{RuleId}
use Rattle.hem_base.specs.declared.ids.MsgId.{MsgId}
use Rattle.hem_base.specs.declared.ids.LineId.{LineId}
use Rattle.hem_base.specs.declared.ids.ObjectId.{ObjectId}
use Rattle.hem_base.specs.declared.ids.Message.{Message}
use Rattle.hem_base.specs.declared.ids.Firing.{Firing}
use Rattle.hem_syntax.specs.Protocol.{Protocol, Text}

-- a text of place and element, for each element, one after another, the first at place k
abbrev pub text_of_each : {A : Type 0} → (ℕ → A → Text) → ℕ → List A → Text
text_of_each f k [] = []
text_of_each f k (x ∷ xs) = f k x ++ text_of_each f (k + 1) xs

-- the name of a status
abbrev pub status_text : Protocol → Status8 → Text
status_text p s = unwrap_or (slice_get p.statuses s.0) []

-- the name of a rule
abbrev pub rule_text : Protocol → RuleId → Text
rule_text p rule = unwrap_or (slice_get p.rule_names rule.0) []

-- the name of a message id
abbrev pub id_text : Protocol → MsgId → Text
id_text p id = option_map_or (λ m. m.0) (slice_get p.messages id.0) []

-- a message: its id and its value
abbrev pub message_text : Protocol → Message → Text
message_text p m = id_text p m.id ++ codes ":" ++ decimal m.value

-- the child that a firing names
abbrev pub from_text : Option ObjectId → Text
from_text None = []
from_text (Some child) = codes " from " ++ decimal child.0

-- a line and an object, each with a space after it
abbrev pub place_text : LineId → ObjectId → Text
place_text line object = decimal line.0 ++ codes " " ++ decimal object.0 ++ codes " "

-- a firing: line, object, rule, and the child that it names
abbrev pub firing_text : Protocol → Firing → Text
firing_text p f = place_text f.line f.object ++ rule_text p f.rule ++ from_text f.me ++ codes "\n"

-- that the firing at place k isn't possible
abbrev pub illegal_text : ℕ → Text
illegal_text k = codes "illegal " ++ decimal k ++ codes "\n"
