-- What has been read around a rule, and what its names stand for.
use Rattle.std.proofs.Common.{◌≡◌, ℕ, ◌<◌, ◌≤◌, true, false, ◌&&◌, List, ◌∷◌, map, length, refl, sym, ap, ◌∙◌, Option, None, nat_lt, ltb-true}
use Rattle.std.specs.Prelude.{unwrap_or}
use Rattle.std.specs.List.{list_all}
use Rattle.hem_base.specs.declared.ids.Status8.{Status8}
use Rattle.hem_base.specs.declared.ids.MsgId.{MsgId}
use Rattle.hem_base.specs.declared.words.Reserved.{Reserved}
use Rattle.hem_base.specs.declared.words.Reserved.TheVariants as word
use Rattle.hem_base.specs.Words.{is_reserved, word_bytes}
use Rattle.hem_syntax.specs.declared.rule.Rule.{Rule}
use Rattle.hem_syntax.specs.Protocol.{Text, Protocol, KindPart}
use Rattle.hem_syntax.specs.Lawful.{is_declarable, are_distinct}
use Rattle.hem_grammar.specs.Draft.{Read, grammar, is_in, is_among, place_among}
use Rattle.hem_text.specs.declared.symbol.Symbol.{Symbol}
use Rattle.hem_text.specs.Grammars.{state, heads, can_pass}
use Rattle.hem_text.specs.Spelling.{is_word}
use Rattle.hem_grammar.specs.declared.terminals.Terminal.{Terminal}
use Rattle.hem_grammar.specs.declared.terminals.Item.{Item}
use Rattle.hem_print.specs.Canonical.{Word, plain, spelling, status_name, message_name, field_name}
use Rattle.hem_print.proofs.Naming.{name_at, place_of_name, name_known, not_word, among_is, place_among_is, pair_name, length_names}
use Rattle.hem_print.proofs.Steps.{lex, go, picks, skip}
use Rattle.hem_print.proofs.SetRuns.{status_in}

-- what has been read beside the declarations, the fields and the rule that is being read
pub record Around : Type 0 where
  pub names : List Text
  pub root : KindPart
  pub mid : KindPart
  pub dir : Option Status8
  pub rules : List Rule

-- what has been read of a protocol whose declarations and fields of a kind are read
abbrev pub env : Protocol → KindPart → Around → Rule → Read
env p k c x = record {
  name = p.name;
  statuses = p.statuses;
  messages = p.messages;
  rule_names = c.names;
  root = c.root;
  mid = c.mid;
  fields = k.fields;
  dir = c.dir;
  rules = c.rules;
  rule = x;
}

-- the names of a protocol and a kind are told apart
pub record AreNamed (p : Protocol) (k : KindPart) : Type 0 where
  pub statuses : are_distinct p.statuses ≡ true
  pub messages : are_distinct (map (λ m. m.0) p.messages) ≡ true
  pub fields : are_distinct (map (λ f. f.0) k.fields) ≡ true
  pub status_words : list_all is_declarable p.statuses ≡ true
  pub message_words : list_all is_declarable (map (λ m. m.0) p.messages) ≡ true
  pub field_words : list_all is_declarable (map (λ f. f.0) k.fields) ≡ true
  pub some : 2 ≤ length p.statuses
  pub few : length p.statuses ≤ 4
  pub apart : (n : Text) → is_in (map (λ m. m.0) p.messages) n ≡ true → is_in p.statuses n ≡ false

pub status_known : (p : Protocol) (s : Status8) → nat_lt s.0 (length p.statuses) ≡ true → is_in p.statuses (status_name p s) ≡ true
status_known p s lt = name_known p.statuses s.0 (ltb-true _ _ lt)

pub status_is : (p : Protocol) (s : Status8) → are_distinct p.statuses ≡ true → nat_lt s.0 (length p.statuses) ≡ true → status_in p.statuses (status_name p s) ≡ s
status_is p s once lt = ap (λ o. record { 0 = unwrap_or o 0 }) (place_of_name p.statuses s.0 once (ltb-true _ _ lt))

among_known : {A : Type 0} (names : List (Text × A)) (i : ℕ) → nat_lt i (length names) ≡ true → is_among names (name_at (map (λ n. n.0) names) i) ≡ true
among_known names i lt =
    let within : i < length (map (λ n. n.0) names) = rw (length_names names) (ltb-true _ _ lt) in
    among_is names _ ∙ name_known (map (λ n. n.0) names) i within

place_known : {A : Type 0} (names : List (Text × A)) (i : ℕ) → are_distinct (map (λ n. n.0) names) ≡ true → nat_lt i (length names) ≡ true → unwrap_or (place_among names (name_at (map (λ n. n.0) names) i)) 0 ≡ i
place_known names i once lt =
    let within : i < length (map (λ n. n.0) names) = rw (length_names names) (ltb-true _ _ lt) in
    ap (λ o. unwrap_or o 0) (place_among_is names _ ∙ place_of_name (map (λ n. n.0) names) i once within)

pub message_known : (p : Protocol) (id : MsgId) → nat_lt id.0 (length p.messages) ≡ true → is_among p.messages (message_name p id) ≡ true
message_known p id lt = ap (is_among p.messages) (pair_name p.messages id.0) ∙ among_known p.messages id.0 lt

pub message_is : (p : Protocol) (k : KindPart) (id : MsgId) → AreNamed p k → nat_lt id.0 (length p.messages) ≡ true → unwrap_or (place_among p.messages (message_name p id)) 0 ≡ id.0
message_is p k id names lt = ap (λ n. unwrap_or (place_among p.messages n) 0) (pair_name p.messages id.0) ∙ place_known p.messages id.0 names.messages lt

pub field_known : (k : KindPart) (i : ℕ) → nat_lt i (length k.fields) ≡ true → is_among k.fields (field_name k i) ≡ true
field_known k i lt = ap (is_among k.fields) (pair_name k.fields i) ∙ among_known k.fields i lt

pub field_is : (p : Protocol) (k : KindPart) (i : ℕ) → AreNamed p k → nat_lt i (length k.fields) ≡ true → unwrap_or (place_among k.fields (field_name k i)) 0 ≡ i
field_is p k i names lt = ap (λ n. unwrap_or (place_among k.fields n) 0) (pair_name k.fields i) ∙ place_known k.fields i names.fields lt

-- a reserved word is no field
pub no_field : (p : Protocol) (k : KindPart) (text : Text) → AreNamed p k → is_reserved text ≡ true → is_among k.fields text ≡ false
no_field p k text names r = among_is k.fields text ∙ not_word (map (λ f. f.0) k.fields) text names.field_words r

-- a reserved word is no status
pub no_status_word : (p : Protocol) (k : KindPart) (text : Text) → AreNamed p k → is_reserved text ≡ true → is_in p.statuses text ≡ false
no_status_word p k text names r = not_word p.statuses text names.status_words r

-- a message is no status
pub message_no_status : (p : Protocol) (k : KindPart) (id : MsgId) → AreNamed p k → nat_lt id.0 (length p.messages) ≡ true → is_in p.statuses (message_name p id) ≡ false
message_no_status p k id names lt = names.apart (message_name p id) (sym (among_is p.messages (message_name p id)) ∙ message_known p id lt)

-- words of which the first is no status
pub record IsPastSet (p : Protocol) (ws : List Word) : Type 0 where
  pub word : Word
  pub others : List Word
  pub is : ws ≡ word ∷ others
  pub stops : (is_word (lex word) && is_in p.statuses (spelling word)) ≡ false

-- where a rule may go on after its guard
pub data Part : Type 0 where
  sets : Part
  frees : Part
  locks : Part
  sends : Part
  ends : Part

abbrev pub part_word : Part → Reserved
part_word sets = word.Set
part_word frees = word.Free
part_word locks = word.Lock
part_word sends = word.Send
part_word ends = word.End

abbrev pub order : Part → ℕ
order sets = 1
order frees = 2
order locks = 3
order sends = 4
order ends = 5

-- the words of a rule from one of these parts on, none of them before this one
pub record GoesOn (from : ℕ) (ws : List Word) : Type 0 where
  pub part : Part
  pub others : List Word
  pub is : ws ≡ plain (part_word part) ∷ others
  pub late : from ≤ order part

pub part_reserved : (part : Part) → is_reserved (word_bytes (part_word part)) ≡ true
part_reserved sets = refl
part_reserved _ = refl

pub past_set : (p : Protocol) (k : KindPart) (from : ℕ) (ws : List Word) → AreNamed p k → GoesOn from ws → IsPastSet p ws
past_set p k from ws names on = record {
  word = plain (part_word on.part);
  others = on.others;
  is = on.is;
  stops = no_status_word p k (word_bytes (part_word on.part)) names (part_reserved on.part);
}

-- a symbol that may be left out, and that no part from here on begins
pub pass_over : (e : Read) (x : Symbol Terminal Item) (rest : List (Symbol Terminal Item)) (from : ℕ) (tail : List Word) → GoesOn from tail → can_pass x ≡ true →
    ((part : Part) → from ≤ order part → picks e (plain (part_word part)) (heads grammar x) ≡ None) → go (state e (x ∷ rest)) tail ≡ go (state e rest) tail
pass_over e x rest from tail on passes none =
    ap (λ ws. go (state e (x ∷ rest)) ws) on.is
    ∙ skip e (plain (part_word on.part)) on.others x rest passes (none on.part on.late)
    ∙ ap (λ ws. go (state e rest) ws) (sym on.is)
