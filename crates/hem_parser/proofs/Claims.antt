-- What holds of what has been read of a protocol, by how far the reading is.
use Rattle.std.proofs.Common.{◌≡◌, ℕ, ◌+◌, ◌<◌, ◌≤◌, ◌==◌, nat_lt, Bool, true, false, List, [], ◌∷◌, ◌++◌, length, map, Option, Some, None, if◌then◌else◌}
use Rattle.std.specs.List.{list_any, list_all}
use Rattle.std.specs.Option.{option_map_or}
use Rattle.hem_base.specs.declared.ids.Kind.{Kind}
use Rattle.hem_base.specs.declared.ids.Kind.TheVariants.{Root, Mid, Leaf}
use Rattle.hem_base.specs.declared.ids.Status8.{Status8}
use Rattle.hem_base.specs.declared.ids.MsgId.{MsgId}
use Rattle.hem_base.specs.declared.ids.RuleId.{RuleId}
use Rattle.hem_syntax.specs.declared.rule.Class.{Class}
use Rattle.hem_syntax.specs.declared.rule.Take.{Take}
use Rattle.hem_syntax.specs.declared.rule.Atom.{Atom}
use Rattle.hem_syntax.specs.declared.rule.Assign.{Assign}
use Rattle.hem_syntax.specs.declared.rule.Assign.TheVariants.{Val}
use Rattle.hem_syntax.specs.declared.rule.Value.TheVariants.{Zero}
use Rattle.hem_syntax.specs.declared.rule.SendTo.{SendTo}
use Rattle.hem_syntax.specs.declared.rule.Rule.{Rule}
use Rattle.hem_syntax.specs.Protocol.{Text, KindPart, empty_part}
use Rattle.hem_syntax.specs.Lawful.{Counts, is_declarable, are_distinct, has_status, has_message, has_take, has_atom, has_assign, has_send, set_once, is_rule, named_once, names_after}
use Rattle.hem_grammar.specs.Draft.{Read, nothing, no_rule, atom_with, send_with_status, send_with_message}

-- how many there are
abbrev pub counted : ℕ → ℕ → ℕ → Counts
counted s m f = record { statuses = s; messages = m; fields = f }

-- the names of the statuses and the messages
abbrev pub all_names : List Text → List (Text × Class) → List Text
all_names statuses messages = statuses ++ map (λ m. m.0) messages

-- names that may be declared, each once
pub record Names (names : List Text) : Type 0 where
  pub declarable : list_all is_declarable names ≡ true
  pub once : are_distinct names ≡ true

-- no kind is begun
pub record Unbegun (ns : List Text) (r m : KindPart) (fs : List (Text × Status8)) (d : Option Status8) (rs : List Rule) (x : Rule) : Type 0 where
  pub rule_names : ns ≡ []
  pub root : r ≡ empty_part
  pub mid : m ≡ empty_part
  pub fields : fs ≡ []
  pub dir : d ≡ None
  pub rules : rs ≡ []
  pub rule : x ≡ no_rule

-- the name and so many statuses at least are read, and no message
pub record Stating (n : ℕ) (title : Text) (ss : List Text) (ms : List (Text × Class)) : Type 0 where
  pub name : is_declarable title ≡ true
  pub some : n ≤ length ss
  pub few : length ss ≤ 4
  pub names : Names ss
  pub messages : ms ≡ []

-- name, statuses and messages
pub record Declared (title : Text) (ss : List Text) (ms : List (Text × Class)) : Type 0 where
  pub name : is_declarable title ≡ true
  pub some : 2 ≤ length ss
  pub few : length ss ≤ 4
  pub few_messages : length ms ≤ 64
  pub names : Names (all_names ss ms)

-- fields and rules of a kind, over so many statuses and messages
pub record Kind_of (s m : ℕ) (fs : List (Text × Status8)) (rs : List Rule) : Type 0 where
  pub few_fields : length fs ≤ 3
  pub names : Names (map (λ f. f.0) fs)
  pub starts : list_all (λ f. nat_lt f.1.0 s) fs ≡ true
  pub few_rules : length rs ≤ 64
  pub rules : list_all (is_rule (counted s m (length fs))) rs ≡ true
  pub rules_once : named_once rs ≡ true

-- a directory whose entries have a declared status at the start
abbrev pub HasDir : ℕ → Option Status8 → Type 0
HasDir s dir = option_map_or (λ x. nat_lt x.0 s) dir false ≡ true

-- a directory is read, or none
abbrev pub IsDir : Bool → ℕ → Option Status8 → Type 0
IsDir true s dir = HasDir s dir
IsDir false s dir = dir ≡ None

-- the kinds that are finished
abbrev pub Finished : Kind → ℕ → KindPart → KindPart → Type 0
Finished Root s root mid = (root ≡ empty_part) × (mid ≡ empty_part)
Finished Mid s root mid = HasDir s root.dir × (mid ≡ empty_part)
Finished Leaf s root mid = HasDir s root.dir × HasDir s mid.dir

-- all but the order of the rules' names and the rule that is being read
pub record Around (κ : Kind) (b : Bool) (title : Text) (ss : List Text) (ms : List (Text × Class)) (ns : List Text) (r m : KindPart) (fs : List (Text × Status8)) (d : Option Status8) (rs : List Rule) : Type 0 where
  pub declared : Declared title ss ms
  pub rule_names : Names ns
  pub root : Kind_of (length ss) (length ms) r.fields r.rules
  pub mid : Kind_of (length ss) (length ms) m.fields m.rules
  pub now : Kind_of (length ss) (length ms) fs rs
  pub finished : Finished κ (length ss) r m
  pub dir : IsDir b (length ss) d

-- no rule is being read
pub record Between (ns : List Text) (earlier : List Rule) (x : Rule) : Type 0 where
  pub order : names_after 0 earlier ≡ Some (length ns)
  pub rule : x ≡ no_rule

-- how many names there are after a rule
abbrev pub name_after : ℕ → RuleId → Option ℕ
name_after n id = if nat_lt id.0 n then Some n else if id.0 == n then Some (n + 1) else None

-- a rule is being read, and its name is known
pub record Begun (ns : List Text) (earlier rs : List Rule) (id : RuleId) : Type 0 where
  pub count : ℕ
  pub before : names_after 0 earlier ≡ Some count
  pub order : name_after count id ≡ Some (length ns)
  pub few : length rs < 64
  pub fresh : list_any (λ x. x.name.0 == id.0) rs ≡ false

-- what is still to be read of a rule's last part
pub data Hole : Type 0 where
  whole : Hole
  taking : Hole
  speaking : Hole
  asking : Hole
  testing : Hole
  valuing : Hole
  choosing : Hole
  sending : Hole

-- what a rule takes; where its message is to come, nothing is known
abbrev pub TakeSo : Hole → Counts → Take → Type 0
TakeSo taking n take = Unit {0}
TakeSo _ n take = has_take n take ≡ true

-- atoms that are whole
pub record Guard (n : Counts) (guard : List Atom) : Type 0 where
  pub few : length guard ≤ 16
  pub all : list_all (has_atom n) guard ≡ true

-- all atoms but the last are whole
pub record Open (n : Counts) (guard : List Atom) : Type 0 where
  pub before : List Atom
  pub last : Atom
  pub is : guard ≡ before ++ last ∷ []
  pub few : length before < 16
  pub all : list_all (has_atom n) before ≡ true

-- the last atom is whole with any status
pub record Tested (n : Counts) (last : Atom) : Type 0 where
  pub with_any : (s : Status8) → has_status n s ≡ true → has_atom n (atom_with last s) ≡ true

-- the last atom wants its message or its first status, or one is to come
abbrev pub GuardSo : Hole → Counts → List Atom → Type 0
GuardSo speaking n guard = Guard n guard × (length guard < 16)
GuardSo asking n guard = Open n guard
GuardSo testing n guard = (o : Open n guard) × Tested n o.last
GuardSo _ n guard = Guard n guard

-- sets of a rule that are whole
pub record Sets (n : Counts) (sets : List Assign) : Type 0 where
  pub few : length sets ≤ 8
  pub all : list_all (has_assign n) sets ≡ true
  pub once : set_once sets ≡ true

-- the last set is one of the value
pub record Valued (sets : List Assign) : Type 0 where
  pub before : List Assign
  pub is : sets ≡ before ++ Val Zero ∷ []

-- the last set wants its value
abbrev pub SetsSo : Hole → Counts → List Assign → Type 0
SetsSo valuing n sets = Sets n sets × Valued sets
SetsSo _ n sets = Sets n sets

-- the send is whole with any message, or with any status and message
abbrev pub SendSo : Hole → Counts → SendTo → Type 0
SendSo choosing n send = (s : Status8) (id : MsgId) → has_status n s ≡ true → has_message n id ≡ true → has_send n (send_with_message (send_with_status send s) id) ≡ true
SendSo sending n send = (id : MsgId) → has_message n id ≡ true → has_send n (send_with_message send id) ≡ true
SendSo _ n send = has_send n send ≡ true

-- a rule but for what is to come
pub record RuleSo (q : Hole) (n : Counts) (t : Take) (g : List Atom) (xs : List Assign) (x : SendTo) : Type 0 where
  pub take : TakeSo q n t
  pub guard : GuardSo q n g
  pub sets : SetsSo q n xs
  pub send : SendSo q n x

-- how far the reading is
pub data Claim : Type 0 where
  unread : Claim
  stating : ℕ → Claim
  declaring : Claim
  opening : Kind → Claim
  between : Kind → Bool → Claim
  opened : Kind → Bool → Claim
  inside : Kind → Bool → Hole → Claim

abbrev pub AroundOf : Kind → Bool → Read → Type 0
AroundOf κ d e = Around κ d e.name e.statuses e.messages e.rule_names e.root e.mid e.fields e.dir e.rules

abbrev pub BetweenOf : Read → Type 0
BetweenOf e = Between e.rule_names (e.root.rules ++ e.mid.rules ++ e.rules) e.rule

abbrev pub BegunOf : Read → Type 0
BegunOf e = Begun e.rule_names (e.root.rules ++ e.mid.rules ++ e.rules) e.rules e.rule.name

abbrev pub counts : Read → Counts
counts e = counted (length e.statuses) (length e.messages) (length e.fields)

-- what then holds
abbrev pub Holds : Claim → Read → Type 0
Holds unread e = e ≡ nothing
Holds (stating n) e = Stating n e.name e.statuses e.messages × Unbegun e.rule_names e.root e.mid e.fields e.dir e.rules e.rule
Holds declaring e = Declared e.name e.statuses e.messages × Unbegun e.rule_names e.root e.mid e.fields e.dir e.rules e.rule
Holds (opening κ) e = AroundOf κ false e × BetweenOf e × (e.rules ≡ [])
Holds (between κ d) e = AroundOf κ d e × BetweenOf e
Holds (opened κ d) e = AroundOf κ d e × BetweenOf e × (length e.rules < 64)
Holds (inside κ d q) e = AroundOf κ d e × BegunOf e × RuleSo q (counts e) e.rule.take e.rule.guard e.rule.sets e.rule.send
