-- What every protocol keeps: its names are declared, its limits are kept, and nothing is repeated that must not be.
use Rattle.std.specs.Prelude.{ℕ, ◌≡◌, ◌≤◌, ◌+◌, ◌^◌, ◌==◌, ◌&&◌, Bool, true, false, not, nat_lt, nat_le, List, [], ◌∷◌, ◌++◌, map, length, Option, None, Some, IsTrue, if◌then◌else◌}
use Rattle.std.specs.List.{list_any, list_all}
use Rattle.std.specs.Option.{option_map_or}
use Rattle.std.specs.Str.{bytes_eq}
use Rattle.hem_base.specs.Words.{is_reserved, is_word_text}
use Rattle.hem_base.specs.declared.ids.Status8.{Status8}
use Rattle.hem_base.specs.declared.ids.StatusSet.{StatusSet}
use Rattle.hem_base.specs.declared.ids.MsgId.{MsgId}
use Rattle.hem_syntax.specs.declared.rule.Take.{Take}
use Rattle.hem_syntax.specs.declared.rule.Take.TheVariants as take
use Rattle.hem_syntax.specs.declared.rule.Atom.{Atom}
use Rattle.hem_syntax.specs.declared.rule.Atom.TheVariants as atom
use Rattle.hem_syntax.specs.declared.rule.Assign.{Assign}
use Rattle.hem_syntax.specs.declared.rule.Assign.TheVariants as assign
use Rattle.hem_syntax.specs.declared.rule.SendTo.{SendTo}
use Rattle.hem_syntax.specs.declared.rule.SendTo.TheVariants as send
use Rattle.hem_syntax.specs.declared.rule.Rule.{Rule}
use Rattle.hem_syntax.specs.Protocol.{Text, KindPart, Protocol}

-- a name that may be declared: a word of 1 to 32 bytes that isn't reserved
abbrev pub is_declarable : Text → Bool
is_declarable text = nat_le 1 (length text) && nat_le (length text) 32 && is_word_text text && not (is_reserved text)

-- no name stands twice
abbrev pub are_distinct : List Text → Bool
are_distinct [] = true
are_distinct (n ∷ ns) = not (list_any (bytes_eq n) ns) && are_distinct ns

-- how many statuses, messages and fields of the kind there are
pub record Counts : Type 0 where
  pub statuses : ℕ
  pub messages : ℕ
  pub fields : ℕ

-- a status is declared
abbrev pub has_status : Counts → Status8 → Bool
has_status n s = nat_lt s.0 n.statuses

-- a message is declared
abbrev pub has_message : Counts → MsgId → Bool
has_message n id = nat_lt id.0 n.messages

-- a field of the kind is declared
abbrev pub has_field : Counts → ℕ → Bool
has_field n i = nat_lt i n.fields

-- a set names a status at least, and only declared ones
abbrev pub has_set : Counts → StatusSet → Bool
has_set n set = not (set.0 == 0) && nat_lt set.0 (2 ^ n.statuses)

-- what a take names is declared
abbrev pub has_take : Counts → Take → Bool
has_take n (take.Me id) = has_message n id
has_take n (take.Parent id) = has_message n id
has_take n (take.Kids id) = has_message n id
has_take n take.Nothing = true

-- what a condition names is declared
abbrev pub has_atom : Counts → Atom → Bool
has_atom n (atom.Field i set) = has_field n i && has_set n set
has_atom n (atom.Me set) = has_set n set
has_atom n (atom.KidsAll set) = has_set n set
has_atom n (atom.KidsAny set) = has_set n set
has_atom n (atom.OthersAll set) = has_set n set
has_atom n (atom.OthersAny set) = has_set n set
has_atom n (atom.Asked id) = has_message n id

-- what a set of a rule names is declared
abbrev pub has_assign : Counts → Assign → Bool
has_assign n (assign.Field i s) = has_field n i && has_status n s
has_assign n (assign.Val v) = true
has_assign n (assign.Me s) = has_status n s
has_assign n (assign.Targets s) = has_status n s

-- what a send names is declared
abbrev pub has_send : Counts → SendTo → Bool
has_send n send.Nothing = true
has_send n (send.Me id v) = has_message n id
has_send n (send.Parent id v) = has_message n id
has_send n (send.Kids set id v) = has_set n set && has_message n id
has_send n (send.Others set id v) = has_set n set && has_message n id

-- whether two sets of a rule write one place
abbrev pub write_alike : Assign → Assign → Bool
write_alike (assign.Field i s) (assign.Field j t) = i == j
write_alike (assign.Val v) (assign.Val w) = true
write_alike (assign.Me s) (assign.Me t) = true
write_alike (assign.Targets s) (assign.Targets t) = true
write_alike _ _ = false

-- no place is set twice
abbrev pub set_once : List Assign → Bool
set_once [] = true
set_once (x ∷ xs) = not (list_any (write_alike x) xs) && set_once xs

-- a rule of a kind: what it names is declared, it has at most 16 conditions and 8 sets, and it sets no place twice
abbrev pub is_rule : Counts → Rule → Bool
is_rule n r =
    has_take n r.take
    && (nat_le (length r.guard) 16 && list_all (has_atom n) r.guard)
    && (nat_le (length r.sets) 8 && list_all (has_assign n) r.sets && set_once r.sets)
    && has_send n r.send

-- no two rules have one name
abbrev pub named_once : List Rule → Bool
named_once [] = true
named_once (r ∷ rs) = not (list_any (λ other. r.name.0 == other.name.0) rs) && named_once rs

-- how many names there are after these rules, of which each has one of the names before it or the next one
abbrev pub names_after : ℕ → List Rule → Option ℕ
names_after n [] = Some n
names_after n (r ∷ rs) =
    if nat_lt r.name.0 n then names_after n rs
    else if r.name.0 == n then names_after (n + 1) rs
    else None

-- the counts of a kind
abbrev pub counts_of : Protocol → KindPart → Counts
counts_of p k = record { statuses = length p.statuses; messages = length p.messages; fields = length k.fields }

-- what a protocol says of a kind: at most 3 fields and 64 rules, each named once, each field with a declared status at the start
pub record IsPart (p : Protocol) (k : KindPart) : Type 0 where
  pub few_fields : length k.fields ≤ 3
  pub field_names : IsTrue (list_all is_declarable (map (λ f. f.0) k.fields))
  pub fields_once : IsTrue (are_distinct (map (λ f. f.0) k.fields))
  pub starts : IsTrue (list_all (λ f. has_status (counts_of p k) f.1) k.fields)
  pub few_rules : length k.rules ≤ 64
  pub rules : IsTrue (list_all (is_rule (counts_of p k)) k.rules)
  pub rules_once : IsTrue (named_once k.rules)

-- a directory whose entries have a declared status at the start
abbrev pub has_dir : Protocol → KindPart → Bool
has_dir p k = option_map_or (has_status (counts_of p k)) k.dir false

-- a protocol that can be written: 2 to 4 statuses and at most 64 messages, all named apart; root and mid with a directory, the leaf without; rule names in the order in which the rules have them first
pub record IsProtocol (p : Protocol) : Type 0 where
  pub name : IsTrue (is_declarable p.name)
  pub some_statuses : 2 ≤ length p.statuses
  pub few_statuses : length p.statuses ≤ 4
  pub few_messages : length p.messages ≤ 64
  pub names : IsTrue (list_all is_declarable (p.statuses ++ map (λ m. m.0) p.messages))
  pub names_once : IsTrue (are_distinct (p.statuses ++ map (λ m. m.0) p.messages))
  pub rule_names : IsTrue (list_all is_declarable p.rule_names)
  pub rule_names_once : IsTrue (are_distinct p.rule_names)
  pub rule_names_in_order : names_after 0 (p.root.rules ++ p.mid.rules ++ p.leaf.rules) ≡ Some (length p.rule_names)
  pub root : IsPart p p.root
  pub mid : IsPart p p.mid
  pub leaf : IsPart p p.leaf
  pub root_dir : IsTrue (has_dir p p.root)
  pub mid_dir : IsTrue (has_dir p p.mid)
  pub leaf_dir : p.leaf.dir ≡ None
