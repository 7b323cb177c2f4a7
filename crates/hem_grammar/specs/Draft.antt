-- What the tokens of a written-out protocol say: how each is spelled, the limits, the rules on repetition, and the protocol.
use Rattle.std.specs.Prelude.{ℕ, ◌==◌, ◌&&◌, ◌||◌, Bool, true, false, not, List, [], ◌∷◌, ◌++◌, length, Option, Some, None, unwrap_or, option_map, nat_lt, nat_le, bit_or, codes, if◌then◌else◌}
use Rattle.std.specs.List.{list_any}
use Rattle.hem_text.specs.Lexemes.{Lexeme}
use Rattle.hem_base.specs.declared.words.Reserved.{Reserved}
use Rattle.hem_base.specs.declared.words.Reserved.TheVariants as word
use Rattle.hem_base.specs.declared.words.Sign.{Sign}
use Rattle.hem_base.specs.declared.words.Sign.TheVariants as sign
use Rattle.hem_base.specs.declared.ids.Status8.{Status8}
use Rattle.hem_base.specs.declared.ids.StatusSet.{StatusSet}
use Rattle.hem_base.specs.declared.ids.MsgId.{MsgId}
use Rattle.hem_base.specs.declared.ids.RuleId.{RuleId}
use Rattle.hem_text.specs.Grammars.{Grammar}
use Rattle.hem_base.specs.Sets.{has_bit}
use Rattle.hem_text.specs.Spelling.{is_word, is_the_word, is_the_sign, is_zero, is_name}
use Rattle.hem_syntax.specs.declared.rule.Class.{Class}
use Rattle.hem_syntax.specs.declared.rule.Class.TheVariants as class
use Rattle.hem_syntax.specs.declared.rule.Hold.{Hold}
use Rattle.hem_syntax.specs.declared.rule.Hold.TheVariants as hold
use Rattle.hem_syntax.specs.declared.rule.Side.{Side}
use Rattle.hem_syntax.specs.declared.rule.Side.TheVariants as side
use Rattle.hem_syntax.specs.declared.rule.Origin.{Origin}
use Rattle.hem_syntax.specs.declared.rule.Origin.TheVariants as origin
use Rattle.hem_syntax.specs.declared.rule.Value.{Value}
use Rattle.hem_syntax.specs.declared.rule.Value.TheVariants as value
use Rattle.hem_syntax.specs.declared.rule.Take.{Take}
use Rattle.hem_syntax.specs.declared.rule.Take.TheVariants as take
use Rattle.hem_syntax.specs.declared.rule.Atom.{Atom}
use Rattle.hem_syntax.specs.declared.rule.Atom.TheVariants as condition
use Rattle.hem_syntax.specs.declared.rule.Assign.{Assign}
use Rattle.hem_syntax.specs.declared.rule.Assign.TheVariants as setting
use Rattle.hem_syntax.specs.declared.rule.SendTo.{SendTo}
use Rattle.hem_syntax.specs.declared.rule.SendTo.TheVariants as sending
use Rattle.hem_syntax.specs.declared.rule.Rule.{Rule}
use Rattle.hem_grammar.specs.declared.terminals.Terminal.{Terminal}
use Rattle.hem_grammar.specs.declared.terminals.Terminal.TheVariants as the
use Rattle.hem_grammar.specs.declared.terminals.Part.{Part}
use Rattle.hem_grammar.specs.declared.terminals.Part.TheVariants as part
use Rattle.hem_grammar.specs.declared.terminals.RulePart.{RulePart}
use Rattle.hem_grammar.specs.declared.terminals.RulePart.TheVariants as rule
use Rattle.hem_grammar.specs.declared.terminals.AtomPart.{AtomPart}
use Rattle.hem_grammar.specs.declared.terminals.AtomPart.TheVariants as atom
use Rattle.hem_grammar.specs.declared.terminals.AssignPart.{AssignPart}
use Rattle.hem_grammar.specs.declared.terminals.AssignPart.TheVariants as assign
use Rattle.hem_grammar.specs.declared.terminals.SendPart.{SendPart}
use Rattle.hem_grammar.specs.declared.terminals.SendPart.TheVariants as send
use Rattle.hem_grammar.specs.declared.terminals.Item.{Item}
use Rattle.hem_syntax.specs.Protocol.{Text, KindPart, Protocol, empty_part}
use Rattle.hem_grammar.specs.Grammar.{firsts, follows, stands}
pub use Rattle.hem_syntax.specs.Names.{place_in, is_in, place_among, is_among, last_or, set_last, with_last}

-- what has been read of a protocol: its name and declarations, the finished root and mid, the kind that is being read, and its rule that is being read
pub record Read : Type 0 where
  pub name : Text
  pub statuses : List Text
  pub messages : List (Text × Class)
  pub rule_names : List Text
  pub root : KindPart
  pub mid : KindPart
  pub fields : List (Text × Status8)
  pub dir : Option Status8
  pub rules : List Rule
  pub rule : Rule

-- a name has 1 to 32 bytes
abbrev pub is_short : Text → Bool
is_short text = nat_le 1 (length text) && nat_le (length text) 32

-- the status of that name
abbrev pub status : Read → Text → Status8
status e text = record { 0 = unwrap_or (place_in e.statuses text) 0 }

-- the message id of that name
abbrev pub message : Read → Text → MsgId
message e text = record { 0 = unwrap_or (place_among e.messages text) 0 }

-- the place of the field of that name, in the kind that is being read
abbrev pub field : Read → Text → ℕ
field e text = unwrap_or (place_among e.fields text) 0

-- the id of a rule's name: its place, or the next one where no rule has it yet
abbrev pub rule_id : Read → Text → RuleId
rule_id e text = record { 0 = unwrap_or (place_in e.rule_names text) (length e.rule_names) }

-- how a class is spelled
abbrev pub class_word : Class → Reserved
class_word class.ExtReq = word.ExtReq
class_word class.ExtRsp = word.ExtRsp
class_word class.UpReq = word.UpReq
class_word class.UpRsp = word.UpRsp
class_word class.DownReq = word.DownReq
class_word class.DownRsp = word.DownRsp

-- how a need is spelled
abbrev pub hold_word : Hold → Reserved
hold_word hold.Any = word.Any
hold_word hold.Free = word.Free
hold_word hold.Child = word.Child
hold_word hold.Parent = word.Parent
hold_word hold.Own = word.Own

-- how a side is spelled
abbrev pub side_word : Side → Reserved
side_word side.Up = word.Up
side_word side.Down = word.Down

-- how an origin is spelled
abbrev pub origin_word : Origin → Reserved
origin_word origin.Child = word.Child
origin_word origin.Parent = word.Parent
origin_word origin.Own = word.Own

-- how a value is spelled
abbrev pub spells_value : Value → Lexeme → Bool
spells_value value.Val t = is_the_word word.Val t
spells_value value.Msg t = is_the_word word.Msg t
spells_value value.Kept t = is_the_word word.Kept t
spells_value value.Rs t = is_the_word word.Rs t
spells_value value.Zero t = is_zero t

-- whether a token is a declared status
abbrev pub is_status : Read → Lexeme → Bool
is_status e t = is_word t && is_in e.statuses t.text

-- whether a token is a declared message
abbrev pub is_message : Read → Lexeme → Bool
is_message e t = is_word t && is_among e.messages t.text

-- whether a token is a field of the kind that is being read
abbrev pub is_field : Read → Lexeme → Bool
is_field e t = is_word t && is_among e.fields t.text

-- spelling

-- how the tokens of declarations are spelled
abbrev pub part_spells : Read → Part → Lexeme → Bool
part_spells e part.Name t = is_name t
part_spells e part.NewStatus t = is_name t
part_spells e part.Message t = is_the_word word.Message t
part_spells e part.NewMessage t = is_name t
part_spells e (part.Class c) t = is_the_word (class_word c) t
part_spells e part.Field t = is_the_word word.Field t
part_spells e part.NewField t = is_name t
part_spells e part.FieldStart t = is_status e t
part_spells e part.DirStart t = is_status e t
part_spells e part.EndRoot t = is_the_word word.End t
part_spells e part.EndMid t = is_the_word word.End t

-- how the tokens of rules are spelled
abbrev pub rule_spells : Read → RulePart → Lexeme → Bool
rule_spells e rule.Rule t = is_the_word word.Rule t
rule_spells e rule.NewRule t = is_name t
rule_spells e rule.TakeMe t = is_the_word word.Me t
rule_spells e rule.TakeParent t = is_the_word word.Parent t
rule_spells e rule.TakeKids t = is_the_word word.Kids t
rule_spells e rule.TakeNone t = is_the_word word.None t
rule_spells e rule.TakeMessage t = is_message e t
rule_spells e (rule.Up h) t = is_the_word (hold_word h) t
rule_spells e (rule.Down h) t = is_the_word (hold_word h) t
rule_spells e rule.Free t = is_the_word word.Free t
rule_spells e (rule.FreeSide s) t = is_the_word (side_word s) t
rule_spells e rule.Lock t = is_the_word word.Lock t
rule_spells e (rule.LockSide s) t = is_the_word (side_word s) t
rule_spells e (rule.LockOrigin o) t = is_the_word (origin_word o) t
rule_spells e rule.EndRule t = is_the_word word.End t

-- how the tokens of guards are spelled
abbrev pub atom_spells : Read → AtomPart → Lexeme → Bool
atom_spells e atom.When t = is_the_word word.When t
atom_spells e atom.Comma t = is_the_sign sign.Comma t
atom_spells e atom.Field t = is_field e t
atom_spells e atom.Me t = is_the_word word.Me t
atom_spells e atom.Kids t = is_the_word word.Kids t
atom_spells e atom.Others t = is_the_word word.Others t
atom_spells e atom.Asked t = is_the_word word.Asked t
atom_spells e atom.KidsAll t = is_the_word word.All t
atom_spells e atom.KidsAny t = is_the_word word.Any t
atom_spells e atom.OthersAll t = is_the_word word.All t
atom_spells e atom.OthersAny t = is_the_word word.Any t
atom_spells e atom.Status t = is_status e t
atom_spells e atom.More t = is_status e t
atom_spells e atom.Message t = is_message e t

-- how the tokens of sets are spelled
abbrev pub assign_spells : Read → AssignPart → Lexeme → Bool
assign_spells e assign.Set t = is_the_word word.Set t
assign_spells e assign.Comma t = is_the_sign sign.Comma t
assign_spells e assign.Field t = is_field e t
assign_spells e assign.Val t = is_the_word word.Val t
assign_spells e assign.Me t = is_the_word word.Me t
assign_spells e assign.Targets t = is_the_word word.Targets t
assign_spells e assign.Status t = is_status e t
assign_spells e (assign.Value v) t = spells_value v t

-- how the tokens of sends are spelled
abbrev pub send_spells : Read → SendPart → Lexeme → Bool
send_spells e send.Send t = is_the_word word.Send t
send_spells e send.Me t = is_the_word word.Me t
send_spells e send.Parent t = is_the_word word.Parent t
send_spells e send.Kids t = is_the_word word.Kids t
send_spells e send.Others t = is_the_word word.Others t
send_spells e send.Status t = is_status e t
send_spells e send.More t = is_status e t
send_spells e send.Message t = is_message e t
send_spells e (send.Value v) t = spells_value v t

-- how a token is spelled; a used name is declared
abbrev pub spells : Read → Terminal → Lexeme → Bool
spells e (the.Word w) t = is_the_word w t
spells e (the.Sign s) t = is_the_sign s t
spells e (the.Part x) t = part_spells e x t
spells e (the.Rule x) t = rule_spells e x t
spells e (the.Atom x) t = atom_spells e x t
spells e (the.Assign x) t = assign_spells e x t
spells e (the.Send x) t = send_spells e x t

-- limits

-- 32 bytes of a new name, 4 statuses, 64 messages, 3 fields; an item's limit holds at its first token
abbrev pub part_within : Read → Part → Text → Bool
part_within e part.Name text = is_short text
part_within e part.NewStatus text = is_short text && nat_lt (length e.statuses) 4
part_within e part.Message text = nat_lt (length e.messages) 64
part_within e part.NewMessage text = is_short text && nat_lt (length e.messages) 64
part_within e part.Field text = nat_lt (length e.fields) 3
part_within e part.NewField text = is_short text && nat_lt (length e.fields) 3
part_within e _ text = true

-- 64 rules of a kind
abbrev pub rule_within : Read → RulePart → Text → Bool
rule_within e rule.Rule text = nat_lt (length e.rules) 64
rule_within e rule.NewRule text = is_short text
rule_within e _ text = true

-- 16 atoms of a guard
abbrev pub atom_within : Read → AtomPart → Bool
atom_within e atom.Field = nat_lt (length e.rule.guard) 16
atom_within e atom.Me = nat_lt (length e.rule.guard) 16
atom_within e atom.Kids = nat_lt (length e.rule.guard) 16
atom_within e atom.Others = nat_lt (length e.rule.guard) 16
atom_within e atom.Asked = nat_lt (length e.rule.guard) 16
atom_within e _ = true

-- 8 sets of a rule
abbrev pub assign_within : Read → AssignPart → Bool
assign_within e assign.Field = nat_lt (length e.rule.sets) 8
assign_within e assign.Val = nat_lt (length e.rule.sets) 8
assign_within e assign.Me = nat_lt (length e.rule.sets) 8
assign_within e assign.Targets = nat_lt (length e.rule.sets) 8
assign_within e _ = true

-- whether a token keeps the limits
abbrev pub is_within : Read → Terminal → Text → Bool
is_within e (the.Word w) text = true
is_within e (the.Sign s) text = true
is_within e (the.Part x) text = part_within e x text
is_within e (the.Rule x) text = rule_within e x text
is_within e (the.Atom x) text = atom_within e x
is_within e (the.Assign x) text = assign_within e x
is_within e (the.Send x) text = true

-- repetition

-- the set of statuses of an atom
abbrev pub atom_set : Atom → StatusSet
atom_set (condition.Field i set) = set
atom_set (condition.Me set) = set
atom_set (condition.KidsAll set) = set
atom_set (condition.KidsAny set) = set
atom_set (condition.OthersAll set) = set
atom_set (condition.OthersAny set) = set
atom_set (condition.Asked id) = record { 0 = 0 }

-- the set of statuses of a send
abbrev pub send_set : SendTo → StatusSet
send_set (sending.Kids set id v) = set
send_set (sending.Others set id v) = set
send_set _ = record { 0 = 0 }

-- whether a set writes that field
abbrev pub sets_field : ℕ → Assign → Bool
sets_field i (setting.Field j s) = i == j
sets_field i _ = false

-- whether a set writes the value
abbrev pub sets_val : Assign → Bool
sets_val (setting.Val v) = true
sets_val _ = false

-- whether a set writes the requester's entry
abbrev pub sets_me : Assign → Bool
sets_me (setting.Me s) = true
sets_me _ = false

-- whether a set writes the targets' entries
abbrev pub sets_targets : Assign → Bool
sets_targets (setting.Targets s) = true
sets_targets _ = false

-- an atom of no fields and statuses
abbrev pub no_atom : Atom
no_atom = condition.Asked (record { 0 = 0 })

-- statuses and messages share one name space, and fields are named apart in each kind
abbrev pub part_fresh : Read → Part → Text → Bool
part_fresh e part.NewStatus text = not (is_in e.statuses text || is_among e.messages text)
part_fresh e part.NewMessage text = not (is_in e.statuses text || is_among e.messages text)
part_fresh e part.NewField text = not (is_among e.fields text)
part_fresh e _ text = true

-- rules are named apart in each kind
abbrev pub rule_fresh : Read → RulePart → Text → Bool
rule_fresh e rule.NewRule text = not (list_any (λ x. x.name.0 == (rule_id e text).0) e.rules)
rule_fresh e _ text = true

-- a set names a status once
abbrev pub atom_fresh : Read → AtomPart → Text → Bool
atom_fresh e atom.More text = not (has_bit (atom_set (last_or no_atom e.rule.guard)).0 (status e text).0)
atom_fresh e _ text = true

-- a rule sets each place once
abbrev pub assign_fresh : Read → AssignPart → Text → Bool
assign_fresh e assign.Field text = not (list_any (sets_field (field e text)) e.rule.sets)
assign_fresh e assign.Val text = not (list_any sets_val e.rule.sets)
assign_fresh e assign.Me text = not (list_any sets_me e.rule.sets)
assign_fresh e assign.Targets text = not (list_any sets_targets e.rule.sets)
assign_fresh e _ text = true

-- a set names a status once
abbrev pub send_fresh : Read → SendPart → Text → Bool
send_fresh e send.More text = not (has_bit (send_set e.rule.send).0 (status e text).0)
send_fresh e _ text = true

-- whether a token repeats nothing that must not be repeated
abbrev pub is_fresh : Read → Terminal → Text → Bool
is_fresh e (the.Word w) text = true
is_fresh e (the.Sign s) text = true
is_fresh e (the.Part x) text = part_fresh e x text
is_fresh e (the.Rule x) text = rule_fresh e x text
is_fresh e (the.Atom x) text = atom_fresh e x text
is_fresh e (the.Assign x) text = assign_fresh e x text
is_fresh e (the.Send x) text = send_fresh e x text

-- what is said

-- the number whose one bit is that of the status
abbrev pub bit : Status8 → ℕ
bit s = if s.0 == 0 then 1 else if s.0 == 1 then 2 else if s.0 == 2 then 4 else if s.0 == 3 then 8 else 0

-- the set with the status
abbrev pub with_status : StatusSet → Status8 → StatusSet
with_status set s = record { 0 = bit_or set.0 (bit s) }

-- no status
abbrev pub no_status : StatusSet
no_status = record { 0 = 0 }

-- the message id 0, which stands until the id is read
abbrev pub no_message : MsgId
no_message = record { 0 = 0 }

-- the status 0, which stands until the status is read
abbrev pub first_status : Status8
first_status = record { 0 = 0 }

-- the kind that is being read
abbrev pub kind_read : Read → KindPart
kind_read e = record { fields = e.fields; dir = e.dir; rules = e.rules }

-- a rule of which nothing is read
abbrev pub no_rule : Rule
no_rule = record {
  name = record { 0 = 0 };
  take = take.Nothing;
  need = record { up = hold.Any; down = hold.Any };
  guard = [];
  sets = [];
  free = None;
  lock = None;
  send = sending.Nothing;
}

-- what a rule takes, with the id
abbrev pub take_with : Take → MsgId → Take
take_with (take.Me x) id = take.Me id
take_with (take.Parent x) id = take.Parent id
take_with (take.Kids x) id = take.Kids id
take_with take.Nothing id = take.Nothing

-- an atom, with a status more
abbrev pub atom_with : Atom → Status8 → Atom
atom_with (condition.Field i set) s = condition.Field i (with_status set s)
atom_with (condition.Me set) s = condition.Me (with_status set s)
atom_with (condition.KidsAll set) s = condition.KidsAll (with_status set s)
atom_with (condition.KidsAny set) s = condition.KidsAny (with_status set s)
atom_with (condition.OthersAll set) s = condition.OthersAll (with_status set s)
atom_with (condition.OthersAny set) s = condition.OthersAny (with_status set s)
atom_with (condition.Asked id) s = condition.Asked id

-- a set, with the status
abbrev pub assign_with : Assign → Status8 → Assign
assign_with (setting.Field i x) s = setting.Field i s
assign_with (setting.Val v) s = setting.Val v
assign_with (setting.Me x) s = setting.Me s
assign_with (setting.Targets x) s = setting.Targets s

-- a send, with a status more
abbrev pub send_with_status : SendTo → Status8 → SendTo
send_with_status (sending.Kids set id v) s = sending.Kids (with_status set s) id v
send_with_status (sending.Others set id v) s = sending.Others (with_status set s) id v
send_with_status x s = x

-- a send, with the id
abbrev pub send_with_message : SendTo → MsgId → SendTo
send_with_message sending.Nothing id = sending.Nothing
send_with_message (sending.Me x v) id = sending.Me id v
send_with_message (sending.Parent x v) id = sending.Parent id v
send_with_message (sending.Kids set x v) id = sending.Kids set id v
send_with_message (sending.Others set x v) id = sending.Others set id v

-- a send, with the value
abbrev pub send_with_value : SendTo → Value → SendTo
send_with_value sending.Nothing v = sending.Nothing
send_with_value (sending.Me id x) v = sending.Me id v
send_with_value (sending.Parent id x) v = sending.Parent id v
send_with_value (sending.Kids set id x) v = sending.Kids set id v
send_with_value (sending.Others set id x) v = sending.Others set id v

-- the messages, the last one with its class
abbrev pub with_class : List (Text × Class) → Class → List (Text × Class)
with_class messages c = with_last messages c

-- the fields, the last one with its initial status
abbrev pub with_start : List (Text × Status8) → Status8 → List (Text × Status8)
with_start fields s = with_last fields s

-- the guard with an atom more
abbrev pub and_atom : Rule → Atom → Rule
and_atom x a = record x { guard = x.guard ++ a ∷ [] }

-- the rule with a set more
abbrev pub and_assign : Rule → Assign → Rule
and_assign x a = record x { sets = x.sets ++ a ∷ [] }

-- what a token of a declaration says
abbrev pub part_after : Read → Part → Text → Read
part_after e part.Name text = record e { name = text }
part_after e part.NewStatus text = record e { statuses = e.statuses ++ text ∷ [] }
part_after e part.NewMessage text = record e { messages = e.messages ++ (text, class.ExtReq) ∷ [] }
part_after e (part.Class c) text = record e { messages = with_class e.messages c }
part_after e part.NewField text = record e { fields = e.fields ++ (text, first_status) ∷ [] }
part_after e part.FieldStart text = record e { fields = with_start e.fields (status e text) }
part_after e part.DirStart text = record e { dir = Some (status e text) }
part_after e part.EndRoot text = record e { root = kind_read e; fields = []; dir = None; rules = [] }
part_after e part.EndMid text = record e { mid = kind_read e; fields = []; dir = None; rules = [] }
part_after e _ text = e

-- the rule names with this one
abbrev pub with_rule_name : List Text → Text → List Text
with_rule_name names text = if is_in names text then names else names ++ text ∷ []

-- what a token of a rule says of it
abbrev pub rule_said : Read → RulePart → Text → Rule
rule_said e rule.NewRule text = record e.rule { name = rule_id e text }
rule_said e rule.TakeMe text = record e.rule { take = take.Me no_message }
rule_said e rule.TakeParent text = record e.rule { take = take.Parent no_message }
rule_said e rule.TakeKids text = record e.rule { take = take.Kids no_message }
rule_said e rule.TakeNone text = record e.rule { take = take.Nothing }
rule_said e rule.TakeMessage text = record e.rule { take = take_with e.rule.take (message e text) }
rule_said e (rule.Up h) text = record e.rule { need = record { up = h; down = e.rule.need.down } }
rule_said e (rule.Down h) text = record e.rule { need = record { up = e.rule.need.up; down = h } }
rule_said e (rule.FreeSide s) text = record e.rule { free = Some s }
rule_said e (rule.LockSide s) text = record e.rule { lock = Some (s, origin.Own) }
rule_said e (rule.LockOrigin o) text = record e.rule { lock = option_map (λ l. (l.0, o)) e.rule.lock }
rule_said e rule.Rule text = e.rule
rule_said e rule.Free text = e.rule
rule_said e rule.Lock text = e.rule
rule_said e rule.EndRule text = no_rule

-- what a token of a rule says
abbrev pub rule_after : Read → RulePart → Text → Read
rule_after e rule.NewRule text = record e { rule_names = with_rule_name e.rule_names text; rule = rule_said e rule.NewRule text }
rule_after e rule.EndRule text = record e { rules = e.rules ++ e.rule ∷ []; rule = no_rule }
rule_after e x text = record e { rule = rule_said e x text }

-- what a token of a guard says
abbrev pub atom_said : Read → AtomPart → Text → Rule
atom_said e atom.Field text = and_atom e.rule (condition.Field (field e text) no_status)
atom_said e atom.Me text = and_atom e.rule (condition.Me no_status)
atom_said e atom.Asked text = and_atom e.rule (condition.Asked no_message)
atom_said e atom.KidsAll text = and_atom e.rule (condition.KidsAll no_status)
atom_said e atom.KidsAny text = and_atom e.rule (condition.KidsAny no_status)
atom_said e atom.OthersAll text = and_atom e.rule (condition.OthersAll no_status)
atom_said e atom.OthersAny text = and_atom e.rule (condition.OthersAny no_status)
atom_said e atom.Status text = record e.rule { guard = set_last e.rule.guard (atom_with (last_or no_atom e.rule.guard) (status e text)) }
atom_said e atom.More text = record e.rule { guard = set_last e.rule.guard (atom_with (last_or no_atom e.rule.guard) (status e text)) }
atom_said e atom.Message text = record e.rule { guard = set_last e.rule.guard (condition.Asked (message e text)) }
atom_said e atom.When text = e.rule
atom_said e atom.Comma text = e.rule
atom_said e atom.Kids text = e.rule
atom_said e atom.Others text = e.rule

-- what a token of the sets says
abbrev pub assign_said : Read → AssignPart → Text → Rule
assign_said e assign.Field text = and_assign e.rule (setting.Field (field e text) first_status)
assign_said e assign.Val text = and_assign e.rule (setting.Val value.Zero)
assign_said e assign.Me text = and_assign e.rule (setting.Me first_status)
assign_said e assign.Targets text = and_assign e.rule (setting.Targets first_status)
assign_said e assign.Status text = record e.rule { sets = set_last e.rule.sets (assign_with (last_or (setting.Val value.Zero) e.rule.sets) (status e text)) }
assign_said e (assign.Value v) text = record e.rule { sets = set_last e.rule.sets (setting.Val v) }
assign_said e assign.Set text = e.rule
assign_said e assign.Comma text = e.rule

-- what a token of the send says
abbrev pub send_said : Read → SendPart → Text → SendTo
send_said e send.Send text = e.rule.send
send_said e send.Me text = sending.Me no_message value.Zero
send_said e send.Parent text = sending.Parent no_message value.Zero
send_said e send.Kids text = sending.Kids no_status no_message value.Zero
send_said e send.Others text = sending.Others no_status no_message value.Zero
send_said e send.Status text = send_with_status e.rule.send (status e text)
send_said e send.More text = send_with_status e.rule.send (status e text)
send_said e send.Message text = send_with_message e.rule.send (message e text)
send_said e (send.Value v) text = send_with_value e.rule.send v

-- what has been read after a token
abbrev pub after : Read → Terminal → Text → Read
after e (the.Word w) text = e
after e (the.Sign s) text = e
after e (the.Part x) text = part_after e x text
after e (the.Rule x) text = rule_after e x text
after e (the.Atom x) text = record e { rule = atom_said e x text }
after e (the.Assign x) text = record e { rule = assign_said e x text }
after e (the.Send x) text = record e { rule = record e.rule { send = send_said e x text } }

-- the grammar of a protocol that is written out
abbrev pub grammar : Grammar Read Terminal Item
grammar = record {
  firsts = firsts;
  follows = follows;
  stands = stands;
  spells = spells;
  is_within = λ e x t. is_within e x t.text;
  is_fresh = λ e x t. is_fresh e x t.text;
  after = λ e x t. after e x t.text;
}

-- nothing read yet; the name stands until one is read
abbrev pub nothing : Read
nothing = record {
  name = codes "protocol";
  statuses = [];
  messages = [];
  rule_names = [];
  root = empty_part;
  mid = empty_part;
  fields = [];
  dir = None;
  rules = [];
  rule = no_rule;
}

-- the protocol that has been read, once the leaves' part has
abbrev pub protocol_of : Read → Protocol
protocol_of e = record {
  name = e.name;
  statuses = e.statuses;
  messages = e.messages;
  rule_names = e.rule_names;
  root = e.root;
  mid = e.mid;
  leaf = kind_read e;
}
