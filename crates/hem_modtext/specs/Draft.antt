-- What the tokens of modules say: how each is spelled, the limits, the rules on repetition, and the modules.
use Rattle.std.specs.Prelude.{ℕ, ◌==◌, ◌&&◌, ◌||◌, Bool, true, false, not, List, [], ◌∷◌, ◌++◌, length, Option, Some, None, option_map, unwrap_or, nat_le}
use Rattle.std.specs.List.{list_any}
use Rattle.std.specs.Str.{bytes_eq}
use Rattle.hem_base.specs.declared.words.Reserved.TheVariants as word
use Rattle.hem_base.specs.declared.words.Sign.TheVariants as sign
use Rattle.hem_text.specs.Lexemes.{Lexeme}
use Rattle.hem_text.specs.Grammars.{Grammar}
use Rattle.hem_text.specs.Numbers.{number_of}
use Rattle.hem_text.specs.Spelling.{is_word, is_number, is_the_word, is_the_sign, is_name}
use Rattle.hem_syntax.specs.Names.{place_in, is_in, place_among, is_among, last_or, set_last, with_last}
use Rattle.hem_module.specs.declared.rules.ModAtom.{ModAtom}
use Rattle.hem_module.specs.declared.rules.ModAtom.TheVariants as atom
use Rattle.hem_module.specs.declared.rules.ModClause.{ModClause}
use Rattle.hem_module.specs.declared.rules.ModValue.{ModValue}
use Rattle.hem_module.specs.declared.rules.ModValue.TheVariants as number
use Rattle.hem_module.specs.declared.rules.Act.{Act}
use Rattle.hem_module.specs.declared.rules.Act.TheVariants as act
use Rattle.hem_module.specs.declared.rules.Action.{Action}
use Rattle.hem_module.specs.declared.rules.ModRule.{ModRule}
use Rattle.hem_module.specs.Modules.{Modules}
use Rattle.hem_module.specs.Lawful.{same_child}
use Rattle.hem_modtext.specs.declared.tokens.Terminal.{Terminal}
use Rattle.hem_modtext.specs.declared.tokens.Terminal.TheVariants as the
use Rattle.hem_modtext.specs.declared.tokens.TestRole.{TestRole}
use Rattle.hem_modtext.specs.declared.tokens.TestRole.TheVariants as test
use Rattle.hem_modtext.specs.declared.tokens.ValuePart.{ValuePart}
use Rattle.hem_modtext.specs.declared.tokens.ValuePart.TheVariants as value
use Rattle.hem_modtext.specs.declared.tokens.Item.{Item}
use Rattle.hem_modtext.specs.declared.key.RuleKey.{RuleKey}
use Rattle.hem_modtext.specs.Grammar.{firsts, follows, stands}
use Rattle.hem_modtext.specs.Limits.{most_id, most_number, most_bytes}

abbrev Text : Type 0
Text = List ℕ

-- what has been read of modules: the finished registers, queues and rules, by what each rule is told apart, and the parts of the rule that is being read
pub record Read : Type 0 where
  pub name : Text
  pub regs : List (Text × ℕ)
  pub queues : List Text
  pub rules : List ModRule
  pub keys : List RuleKey
  pub object : ℕ
  pub rule_name : Text
  pub from : Option ℕ
  pub spontaneous : Bool
  pub clauses : List ModClause
  pub actions : List Action
  pub cond : List ModAtom
  pub atom : Option ModAtom
  pub act : Option Act

-- whether a name is that of a register or of a queue
abbrev pub is_declared : Read → Text → Bool
is_declared e text = is_among e.regs text || is_in e.queues text

-- the register and the queue of that name
abbrev pub register_of : Read → Text → ℕ
register_of e text = unwrap_or (place_among e.regs text) 0

abbrev pub queue_of : Read → Text → ℕ
queue_of e text = unwrap_or (place_in e.queues text) 0

-- whether a token is a register, and a queue
abbrev pub is_register : Read → Lexeme → Bool
is_register e t = is_word t && is_among e.regs t.text

abbrev pub is_queue : Read → Lexeme → Bool
is_queue e t = is_word t && is_in e.queues t.text

-- by what the rule that is being read is told apart, with this child
abbrev pub key_with : Read → Option ℕ → RuleKey
key_with e child = record { object = e.object; name = e.rule_name; from = child }

-- whether two rules have the same object, name and child
abbrev pub same_key : RuleKey → RuleKey → Bool
same_key a b = a.object == b.object && bytes_eq a.name b.name && same_child a.from b.from

-- whether a rule of this object, name and child stands already
abbrev pub stands_already : Read → RuleKey → Bool
stands_already e key = list_any (same_key key) e.keys

-- whether the rule that is being read stands already
abbrev pub is_twice : Read → Bool
is_twice e = stands_already e (key_with e e.from)

-- whether the rule that is being read doesn't stand already with this child
abbrev pub is_new_child : Read → Lexeme → Bool
is_new_child e t = not (nat_le (number_of t.text) most_id && stands_already e (key_with e (Some (number_of t.text))))

-- a name has 1 to 32 bytes
abbrev pub is_short : Text → Bool
is_short text = nat_le 1 (length text) && nat_le (length text) most_bytes

-- how the tokens of a value are spelled
abbrev pub value_spells : Read → ValuePart → Lexeme → Bool
value_spells e value.Number t = is_number t
value_spells e value.Register t = is_register e t
value_spells e value.Word t = is_the_word word.Value t
value_spells e value.Queue t = is_queue e t

-- how a token is spelled
abbrev pub spells : Read → Terminal → Lexeme → Bool
spells e the.Modules t = is_the_word word.Modules t
spells e the.Name t = is_name t
spells e the.Register t = is_the_word word.Reg t
spells e the.NewRegister t = is_name t
spells e the.Start t = is_number t
spells e the.Queue t = is_the_word word.Queue t
spells e the.NewQueue t = is_name t
spells e the.Rule t = is_the_word word.Rule t
spells e the.Object t = is_number t
spells e the.RuleName t = is_name t
spells e the.From t = is_the_word word.From t
spells e the.Child t = is_number t
spells e the.Twice t = is_twice e
spells e the.Spontaneous t = is_the_word word.Spontaneous t
spells e the.When t = is_the_word word.When t
spells e the.Do t = is_the_word word.Do t
spells e the.Comma t = is_the_sign sign.Comma t
spells e the.NextAction t = is_the_sign sign.Comma t
spells e the.Never t = is_the_word word.Never t
spells e the.Or t = is_the_sign sign.Or t
spells e (the.TestRegister role) t = is_register e t
spells e the.Is t = is_the_sign sign.Equals t
spells e the.Differs t = is_the_sign sign.Differs t
spells e (the.TestNumber role) t = is_number t
spells e (the.Head role) t = is_the_word word.Head t
spells e the.HeadQueue t = is_queue e t
spells e the.Equals t = is_the_sign sign.Equals t
spells e (the.HeadId role) t = is_number t
spells e the.If t = is_the_word word.If t
spells e the.And t = is_the_word word.And t
spells e the.Dequeue t = is_the_word word.Deq t
spells e the.LosingQueue t = is_queue e t
spells e the.WrittenRegister t = is_register e t
spells e the.Assign t = is_the_sign sign.Assign t
spells e the.Enqueue t = is_the_word word.Enq t
spells e the.GainingQueue t = is_queue e t
spells e the.SentId t = is_number t
spells e (the.Value part) t = value_spells e part t
spells e the.EndRule t = is_the_word word.End t
spells e the.End t = is_the_word word.End t

-- the limits: on numbers, and on the bytes of a name
abbrev pub is_within : Read → Terminal → Lexeme → Bool
is_within e the.Name t = is_short t.text
is_within e the.NewRegister t = is_short t.text
is_within e the.Start t = nat_le (number_of t.text) most_number
is_within e the.NewQueue t = is_short t.text
is_within e the.Object t = nat_le (number_of t.text) most_id
is_within e the.RuleName t = is_short t.text
is_within e the.Child t = nat_le (number_of t.text) most_id
is_within e (the.TestNumber role) t = nat_le (number_of t.text) most_number
is_within e (the.HeadId role) t = nat_le (number_of t.text) most_id
is_within e the.SentId t = nat_le (number_of t.text) most_id
is_within e (the.Value value.Number) t = nat_le (number_of t.text) most_number
is_within e _ t = true

-- registers and queues are declared once, and no two rules have the same object, name and child. It shows at the child, or, where none is named, at the token after the name
abbrev pub is_fresh : Read → Terminal → Lexeme → Bool
is_fresh e the.NewRegister t = not (is_declared e t.text)
is_fresh e the.NewQueue t = not (is_declared e t.text)
is_fresh e the.Child t = is_new_child e t
is_fresh e the.Twice t = not (is_twice e)
is_fresh e the.EndRule t = not (is_twice e)
is_fresh e _ t = true

-- the test with this number, and with this id
abbrev pub with_number : ModAtom → ℕ → ModAtom
with_number (atom.Is r v) n = atom.Is r n
with_number (atom.Not r v) n = atom.Not r n
with_number a n = a

abbrev pub with_id : ModAtom → ℕ → ModAtom
with_id (atom.Head q id) n = atom.Head q (record { 0 = n })
with_id a n = a

-- the test that the register differs
abbrev pub as_differing : ModAtom → ModAtom
as_differing (atom.Is r v) = atom.Not r v
as_differing a = a

-- the act that sends this id, and with this value
abbrev pub with_sent_id : Act → ℕ → Act
with_sent_id (act.Enq q id v) n = act.Enq q (record { 0 = n }) v
with_sent_id a n = a

abbrev pub with_value : Act → ModValue → Act
with_value (act.Set r w) v = act.Set r v
with_value (act.Enq q id w) v = act.Enq q id v
with_value a v = a

-- the clauses, of which the last, if any, has one test more
abbrev pub with_further : List ModClause → ModAtom → List ModClause
with_further clauses a = set_last clauses (record { atoms = (last_or (record { atoms = [] }) clauses).atoms ++ a ∷ [] })

-- a test that is finished, where it is used
abbrev pub add_test : Read → TestRole → ModAtom → Read
add_test e test.First a = record e { clauses = e.clauses ++ record { atoms = a ∷ [] } ∷ []; atom = None }
add_test e test.Further a = record e { clauses = with_further e.clauses a; atom = None }
add_test e test.Condition a = record e { cond = e.cond ++ a ∷ []; atom = None }

-- the test that is being read is finished, if one is
abbrev pub finish_test : Read → TestRole → Option ModAtom → Read
finish_test e role None = e
finish_test e role (Some a) = add_test e role a

-- an action that is finished, if one is
abbrev pub finish_action : Read → Option Act → Read
finish_action e None = e
finish_action e (Some a) = record e { actions = e.actions ++ record { cond = e.cond; act = a } ∷ []; cond = []; act = None }

-- the rule that is being read
abbrev pub rule_read : Read → ModRule
rule_read e = record { object = e.object; name = e.rule_name; from = e.from; spontaneous = e.spontaneous; clauses = e.clauses; actions = e.actions }

-- the rule that is being read is finished
abbrev pub finish_rule : Read → Read
finish_rule e =
    record e {
      rules = e.rules ++ rule_read e ∷ [];
      keys = e.keys ++ key_with e e.from ∷ [];
      from = None;
      spontaneous = false;
      clauses = [];
      actions = [];
    }

-- what the tokens of a value say
abbrev pub after_value : Read → ValuePart → Lexeme → Read
after_value e value.Number t = finish_action e (option_map (λ a. with_value a (number.Number (number_of t.text))) e.act)
after_value e value.Register t = finish_action e (option_map (λ a. with_value a (number.Reg (register_of e t.text))) e.act)
after_value e value.Word t = e
after_value e value.Queue t = finish_action e (option_map (λ a. with_value a (number.Front (queue_of e t.text))) e.act)

-- what a token says
abbrev pub after : Read → Terminal → Lexeme → Read
after e the.Name t = record e { name = t.text }
after e the.NewRegister t = record e { regs = e.regs ++ (t.text, 0) ∷ [] }
after e the.Start t = record e { regs = with_last e.regs (number_of t.text) }
after e the.NewQueue t = record e { queues = e.queues ++ t.text ∷ [] }
after e the.Object t = record e { object = number_of t.text }
after e the.RuleName t = record e { rule_name = t.text }
after e the.Child t = record e { from = Some (number_of t.text) }
after e the.Spontaneous t = record e { spontaneous = true }
after e the.Never t = record e { clauses = e.clauses ++ record { atoms = [] } ∷ [] }
after e (the.TestRegister role) t = record e { atom = Some (atom.Is (register_of e t.text) 0) }
after e the.Differs t = record e { atom = option_map as_differing e.atom }
after e (the.TestNumber role) t = finish_test e role (option_map (λ a. with_number a (number_of t.text)) e.atom)
after e the.HeadQueue t = record e { atom = Some (atom.Head (queue_of e t.text) (record { 0 = 0 })) }
after e (the.HeadId role) t = finish_test e role (option_map (λ a. with_id a (number_of t.text)) e.atom)
after e the.LosingQueue t = finish_action e (Some (act.Deq (queue_of e t.text)))
after e the.WrittenRegister t = record e { act = Some (act.Set (register_of e t.text) (number.Number 0)) }
after e the.GainingQueue t = record e { act = Some (act.Enq (queue_of e t.text) (record { 0 = 0 }) (number.Number 0)) }
after e the.SentId t = record e { act = option_map (λ a. with_sent_id a (number_of t.text)) e.act }
after e (the.Value part) t = after_value e part t
after e the.EndRule t = finish_rule e
after e _ t = e

-- the grammar of modules
abbrev pub grammar : Grammar Read Terminal Item
grammar =
    record {
      firsts = firsts;
      follows = follows;
      stands = stands;
      spells = spells;
      is_within = is_within;
      is_fresh = is_fresh;
      after = after;
    }

-- nothing is read yet; the names are not read before they are given
abbrev pub nothing : Read
nothing =
    record {
      name = 109 ∷ [];
      regs = [];
      queues = [];
      rules = [];
      keys = [];
      object = 0;
      rule_name = 109 ∷ [];
      from = None;
      spontaneous = false;
      clauses = [];
      actions = [];
      cond = [];
      atom = None;
      act = None;
    }

-- the modules that were read
abbrev pub modules_of : Read → Modules
modules_of e = record { name = e.name; regs = e.regs; queues = e.queues; rules = e.rules }
