-- The canonical text of a protocol: its lines, their words, and how the words are joined.
use Rattle.std.specs.Prelude.{ℕ, ◌+◌, if◌then◌else◌, List, [], ◌∷◌, ◌++◌, map, flat_map, Option, None, Some, slice_get, unwrap_or, codes}
use Rattle.std.specs.Option.{option_map_or}
use Rattle.hem_base.specs.Sets.{has_bit}
use Rattle.hem_base.specs.Words.{word_bytes, sign_bytes}
use Rattle.hem_text.specs.declared.text.TokenKind.{TokenKind}
use Rattle.hem_text.specs.declared.text.TokenKind.TheVariants as token
use Rattle.hem_base.specs.declared.words.Reserved.{Reserved}
use Rattle.hem_base.specs.declared.words.Reserved.TheVariants as word
use Rattle.hem_base.specs.declared.words.Sign.{Sign}
use Rattle.hem_base.specs.declared.words.Sign.TheVariants as sign
use Rattle.hem_base.specs.declared.ids.Status8.{Status8}
use Rattle.hem_base.specs.declared.ids.StatusSet.{StatusSet}
use Rattle.hem_base.specs.declared.ids.MsgId.{MsgId}
use Rattle.hem_base.specs.declared.ids.RuleId.{RuleId}
use Rattle.hem_syntax.specs.declared.rule.Class.{Class}
use Rattle.hem_syntax.specs.declared.rule.Side.{Side}
use Rattle.hem_syntax.specs.declared.rule.Origin.{Origin}
use Rattle.hem_syntax.specs.declared.rule.Value.{Value}
use Rattle.hem_syntax.specs.declared.rule.Value.TheVariants as value
use Rattle.hem_syntax.specs.declared.rule.Need.{Need}
use Rattle.hem_syntax.specs.declared.rule.Take.{Take}
use Rattle.hem_syntax.specs.declared.rule.Take.TheVariants as take
use Rattle.hem_syntax.specs.declared.rule.Atom.{Atom}
use Rattle.hem_syntax.specs.declared.rule.Atom.TheVariants as atom
use Rattle.hem_syntax.specs.declared.rule.Assign.{Assign}
use Rattle.hem_syntax.specs.declared.rule.Assign.TheVariants as assign
use Rattle.hem_syntax.specs.declared.rule.SendTo.{SendTo}
use Rattle.hem_syntax.specs.declared.rule.SendTo.TheVariants as send
use Rattle.hem_syntax.specs.declared.rule.Rule.{Rule}
use Rattle.hem_syntax.specs.Protocol.{Text, KindPart, Protocol}
use Rattle.hem_grammar.specs.Draft.{class_word, hold_word, side_word, origin_word}

-- a word of a line: a reserved word, a name, a sign, or the number 0
pub data Word : Type 0 where
  plain : Reserved → Word
  named : Text → Word
  signed : Sign → Word
  nought : Word

-- the kind of token that a word is
abbrev pub word_kind : Word → TokenKind
word_kind (plain w) = token.Word
word_kind (named n) = token.Word
word_kind (signed s) = token.Sign
word_kind nought = token.Number

-- how a word is spelled
abbrev pub spelling : Word → Text
spelling (plain w) = word_bytes w
spelling (named n) = n
spelling (signed s) = sign_bytes s
spelling nought = codes "0"

-- what stands between a word and the one before it: nothing before a comma, and one space before any other
abbrev pub gap : Word → Text
gap (signed sign.Comma) = []
gap _ = codes " "

-- words that stand after another one of their line
abbrev pub words_text : List Word → Text
words_text ws = flat_map (λ w. gap w ++ spelling w) ws

-- a line: its first word, the others, and a line feed
pub record Line : Type 0 where
  pub first : Word
  pub others : List Word

-- the line of these words
abbrev pub line : Word → List Word → Line
line w ws = record { first = w; others = ws }

-- the text of a line
abbrev pub line_text : Line → Text
line_text l = spelling l.first ++ words_text l.others ++ codes "\n"

-- the text of lines
abbrev pub lines_text : List Line → Text
lines_text ls = flat_map line_text ls

-- the name of a status
abbrev pub status_name : Protocol → Status8 → Text
status_name p s = unwrap_or (slice_get p.statuses s.0) []

-- the name of a message id
abbrev pub message_name : Protocol → MsgId → Text
message_name p id = option_map_or (λ m. m.0) (slice_get p.messages id.0) []

-- the name of a rule
abbrev pub rule_name : Protocol → RuleId → Text
rule_name p id = unwrap_or (slice_get p.rule_names id.0) []

-- the name of a field of a kind
abbrev pub field_name : KindPart → ℕ → Text
field_name k i = option_map_or (λ f. f.0) (slice_get k.fields i) []

-- those of the names, the first of which is at place i, whose places are in the set
abbrev pub names_in : StatusSet → ℕ → List Text → List Word
names_in set i [] = []
names_in set i (n ∷ ns) = (if has_bit set.0 i then named n ∷ [] else []) ++ names_in set (i + 1) ns

-- the statuses of a set, in order of declaration
abbrev pub set_words : Protocol → StatusSet → List Word
set_words p set = names_in set 0 p.statuses

-- the words of each element, the first led by this word, and each other one by a comma
abbrev pub led : {A : Type 0} → Word → (A → List Word) → List A → List Word
led w f [] = []
led w f (x ∷ xs) = w ∷ f x ++ led (signed sign.Comma) f xs

-- a value
abbrev pub value_word : Value → Word
value_word value.Val = plain word.Val
value_word value.Msg = plain word.Msg
value_word value.Kept = plain word.Kept
value_word value.Rs = plain word.Rs
value_word value.Zero = nought

-- what a rule takes
abbrev pub take_words : Protocol → Take → List Word
take_words p (take.Me id) = plain word.Me ∷ named (message_name p id) ∷ []
take_words p (take.Parent id) = plain word.Parent ∷ named (message_name p id) ∷ []
take_words p (take.Kids id) = plain word.Kids ∷ named (message_name p id) ∷ []
take_words p take.Nothing = plain word.None ∷ []

-- what a rule needs of the locks
abbrev pub need_words : Need → List Word
need_words n = plain word.Up ∷ plain (hold_word n.up) ∷ plain word.Down ∷ plain (hold_word n.down) ∷ []

-- a condition
abbrev pub atom_words : Protocol → KindPart → Atom → List Word
atom_words p k (atom.Field i set) = named (field_name k i) ∷ plain word.In ∷ set_words p set
atom_words p k (atom.Me set) = plain word.Me ∷ plain word.In ∷ set_words p set
atom_words p k (atom.KidsAll set) = plain word.Kids ∷ plain word.All ∷ set_words p set
atom_words p k (atom.KidsAny set) = plain word.Kids ∷ plain word.Any ∷ set_words p set
atom_words p k (atom.OthersAll set) = plain word.Others ∷ plain word.All ∷ set_words p set
atom_words p k (atom.OthersAny set) = plain word.Others ∷ plain word.Any ∷ set_words p set
atom_words p k (atom.Asked id) = plain word.Asked ∷ named (message_name p id) ∷ []

-- a set of a rule
abbrev pub assign_words : Protocol → KindPart → Assign → List Word
assign_words p k (assign.Field i s) = named (field_name k i) ∷ signed sign.Assign ∷ named (status_name p s) ∷ []
assign_words p k (assign.Val v) = plain word.Val ∷ signed sign.Assign ∷ value_word v ∷ []
assign_words p k (assign.Me s) = plain word.Me ∷ signed sign.Assign ∷ named (status_name p s) ∷ []
assign_words p k (assign.Targets s) = plain word.Targets ∷ signed sign.Assign ∷ named (status_name p s) ∷ []

-- the lock that a rule frees
abbrev pub free_words : Option Side → List Word
free_words None = []
free_words (Some s) = plain word.Free ∷ plain (side_word s) ∷ []

-- the lock that a rule takes, and for whom
abbrev pub lock_words : Option (Side × Origin) → List Word
lock_words None = []
lock_words (Some l) = plain word.Lock ∷ plain (side_word l.0) ∷ plain (origin_word l.1) ∷ []

-- a message with its value
abbrev pub message_words : Protocol → MsgId → Value → List Word
message_words p id v = named (message_name p id) ∷ value_word v ∷ []

-- what a rule sends
abbrev pub send_words : Protocol → SendTo → List Word
send_words p send.Nothing = []
send_words p (send.Me id v) = plain word.Send ∷ plain word.Me ∷ message_words p id v
send_words p (send.Parent id v) = plain word.Send ∷ plain word.Parent ∷ message_words p id v
send_words p (send.Kids set id v) = plain word.Send ∷ plain word.Kids ∷ plain word.In ∷ set_words p set ++ message_words p id v
send_words p (send.Others set id v) = plain word.Send ∷ plain word.Others ∷ plain word.In ∷ set_words p set ++ message_words p id v

-- what a rule asks, does and sends, after its name
abbrev pub rule_words : Protocol → KindPart → Rule → List Word
rule_words p k r =
    (plain word.Take ∷ take_words p r.take)
    ++ (plain word.Need ∷ need_words r.need)
    ++ led (plain word.When) (atom_words p k) r.guard
    ++ led (plain word.Set) (assign_words p k) r.sets
    ++ free_words r.free
    ++ lock_words r.lock
    ++ send_words p r.send
    ++ (plain word.End ∷ [])

-- the line of a rule
abbrev pub rule_line : Protocol → KindPart → Rule → Line
rule_line p k r = line (plain word.Rule) (named (rule_name p r.name) ∷ rule_words p k r)

-- the line of a field, with its status at the start
abbrev pub field_line : Protocol → (Text × Status8) → Line
field_line p f = line (plain word.Field) (named f.0 ∷ plain word.Init ∷ named (status_name p f.1) ∷ [])

-- the line of a directory, where there is one
abbrev pub dir_lines : Protocol → Option Status8 → List Line
dir_lines p None = []
dir_lines p (Some s) = line (plain word.Dir) (plain word.Init ∷ named (status_name p s) ∷ []) ∷ []

-- the line of an end
abbrev pub end_line : Line
end_line = line (plain word.End) []

-- the lines of a kind
abbrev pub kind_lines : Protocol → Reserved → KindPart → List Line
kind_lines p w k =
    (line (plain word.Kind) (plain w ∷ []) ∷ map (field_line p) k.fields)
    ++ dir_lines p k.dir
    ++ map (rule_line p k) k.rules
    ++ (end_line ∷ [])

-- the line of a message and its class
abbrev pub message_line : (Text × Class) → Line
message_line m = line (plain word.Message) (named m.0 ∷ plain (class_word m.1) ∷ [])

-- the lines of the name, the statuses and the messages
abbrev pub declaration_lines : Protocol → List Line
declaration_lines p =
    line (plain word.Protocol) (named p.name ∷ [])
    ∷ line (plain word.Status) (map (λ s. named s) p.statuses)
    ∷ map message_line p.messages

-- the lines of a protocol
abbrev pub protocol_lines : Protocol → List Line
protocol_lines p =
    declaration_lines p
    ++ kind_lines p word.Root p.root
    ++ kind_lines p word.Mid p.mid
    ++ kind_lines p word.Leaf p.leaf
    ++ (end_line ∷ [])

-- the canonical text of a protocol
abbrev pub protocol_text : Protocol → Text
protocol_text p = lines_text (protocol_lines p)
