-- The grammar of modules goes over the line of a rule.
use Rattle.std.proofs.Common.{◌≡◌, refl, ap, ◌∙◌, ℕ, Bool, true, false, cond, ◌&&◌, not, List, [], ◌∷◌, ◌++◌, Option, Some, None, zero, suc}
use Rattle.std.specs.Prelude.{fold, codes, decimal, nat_le}
use Rattle.std.specs.List.{list_all, list_any}
use Rattle.hem_text.specs.declared.text.TokenKind.TheVariants as kind
use Rattle.hem_text.specs.declared.text.Place.{Place}
use Rattle.hem_text.specs.declared.symbol.Symbol.TheVariants as symbol
use Rattle.hem_text.specs.Tokens.{advance}
use Rattle.hem_text.specs.Grammars.{full, State, state, next}
use Rattle.hem_syntax.specs.Protocol.{Text}
use Rattle.hem_module.specs.declared.rules.ModAtom.{ModAtom}
use Rattle.hem_module.specs.declared.rules.ModClause.{ModClause}
use Rattle.hem_module.specs.declared.rules.Action.{Action}
use Rattle.hem_module.specs.declared.rules.ModRule.{ModRule}
use Rattle.hem_module.specs.Modules.{Modules}
use Rattle.hem_module.specs.Lawful.{IsModules, counts_of, has_clause, has_action}
use Rattle.hem_modtext.specs.declared.tokens.Terminal.{Terminal}
use Rattle.hem_modtext.specs.declared.tokens.Terminal.TheVariants as the
use Rattle.hem_modtext.specs.declared.tokens.Item.{Item}
use Rattle.hem_modtext.specs.declared.tokens.Item.TheVariants as item
use Rattle.hem_modtext.specs.declared.key.RuleKey.{RuleKey}
use Rattle.hem_modtext.specs.Limits.{most_id}
use Rattle.hem_modtext.specs.Draft.{Read, grammar, same_key}
use Rattle.hem_modprint.specs.ModulesText.{clauses_text, actions_text, child_text, spontaneous_text, rule_text}
use Rattle.hem_modprint.specs.ReadsBack.{fits_child, fits_clause, fits_action}
use Rattle.hem_modprint.proofs.Known.{IsPlainName}
use Rattle.hem_modprint.proofs.Leads.{Leads, nothing, then, space, feed, word, number, at, is_apart}
use Rattle.hem_modprint.proofs.TestRuns.{Stack, env, if_within, id_is, id_small}
use Rattle.hem_modprint.proofs.ClauseRuns.{or_stack, last_tests, after_clauses, clauses_read}
use Rattle.hem_modprint.proofs.ActionRuns.{after_actions, actions_read}

-- what is to come before a rule: so many of registers and queues can't come any more
abbrev pub outer : Stack
outer = symbol.Many item.Rule ∷ symbol.One the.End ∷ []

abbrev pub top : ℕ → Stack
top zero = symbol.Many item.Register ∷ symbol.Many item.Queue ∷ outer
top (suc zero) = symbol.Many item.Queue ∷ outer
top (suc (suc k)) = outer

-- what is to come in a rule: before its end, its actions, its clauses, its word, and after its name
abbrev to_end : Stack
to_end = symbol.One the.EndRule ∷ outer

abbrev to_actions : Stack
to_actions = symbol.Maybe item.Actions ∷ to_end

abbrev to_clauses : Stack
to_clauses = symbol.Maybe item.Clauses ∷ to_actions

abbrev to_word : Stack
to_word = symbol.Maybe item.Twice ∷ symbol.Maybe item.Spontaneous ∷ to_clauses

abbrev to_child : Stack
to_child = symbol.Maybe item.Child ∷ to_word

-- what is to come after the child, and after the word
abbrev after_child : Option ℕ → Stack
after_child None = to_child
after_child (Some c) = to_word

abbrev after_word : Option ℕ → Bool → Stack
after_word from true = to_clauses
after_word from false = after_child from

-- a rule of these parts
abbrev pub rule : ℕ → Text → Option ℕ → Bool → List ModClause → List Action → ModRule
rule o n from spontaneous clauses actions = record { object = o; name = n; from = from; spontaneous = spontaneous; clauses = clauses; actions = actions }

module _ (m : Modules) (good : IsModules m) (rules : List ModRule) (keys : List RuleKey) where
  abbrev read : ModRule → Read
  read x = env m rules keys x [] None None

  abbrev key : ℕ → Text → Option ℕ → RuleKey
  key o n from = record { object = o; name = n; from = from }

  -- the word of a rule, its object, its name and its child

  rule_next : (x : ModRule) (k : ℕ) (place : Place) → next full grammar (state (read x) (top k)) (at kind.Word (codes "rule") place) ≡ Some (state (read x) (symbol.One the.Object ∷ symbol.One the.RuleName ∷ to_child))
  rule_next x zero place = refl
  rule_next x (suc zero) place = refl
  rule_next x (suc (suc k)) place = refl

  object_next : (x : ModRule) (o : ℕ) (rest : Stack) (place : Place) → nat_le o most_id ≡ true → next full grammar (state (read x) (symbol.One the.Object ∷ rest)) (at kind.Number (decimal o) place) ≡ Some (state (read (record x { object = o })) rest)
  object_next x o rest place small = ap (λ k. if_small k) (id_is o small) ∙ if_within o most_id _ _ small
    where
      if_small : ℕ → Option (State Read Terminal Item)
      if_small k = cond (nat_le k most_id) (Some (state (read (record x { object = k })) rest)) None

  name_next : (x : ModRule) (n : Text) (rest : Stack) (place : Place) → IsPlainName n → next full grammar (state (read x) (symbol.One the.RuleName ∷ rest)) (at kind.Word n place) ≡ Some (state (read (record x { name = n })) rest)
  name_next x n rest place plain = rw (plain.word, plain.free, plain.some, plain.few) refl

  child_next : (o : ℕ) (n : Text) (c : ℕ) (place : Place) → nat_le c most_id ≡ true → list_any (same_key (key o n (Some c))) keys ≡ false
      → next full grammar (state (read (rule o n None false [] [])) (symbol.One the.Child ∷ to_word)) (at kind.Number (decimal c) place) ≡ Some (state (read (rule o n (Some c) false [] [])) to_word)
  child_next o n c place small fresh = ap (λ k. if_new k) (id_is c small) ∙ rw (small, fresh) refl
    where
      if_new : ℕ → Option (State Read Terminal Item)
      if_new k = cond (not (nat_le k most_id && list_any (same_key (key o n (Some k))) keys) && nat_le k most_id) (Some (state (read (rule o n (Some k) false [] [])) to_word)) None

  -- a rule that doesn't stand yet goes on with its word, its clauses, its actions or its end

  word_next : (o : ℕ) (n : Text) (from : Option ℕ) (place : Place) → list_any (same_key (key o n from)) keys ≡ false
      → next full grammar (state (read (rule o n from false [] [])) (after_child from)) (at kind.Word (codes "spontaneous") place) ≡ Some (state (read (rule o n from true [] [])) to_clauses)
  word_next o n None place fresh = rw fresh refl
  word_next o n (Some c) place fresh = rw fresh refl

  when_next : (o : ℕ) (n : Text) (from : Option ℕ) (b : Bool) (place : Place) → list_any (same_key (key o n from)) keys ≡ false
      → next full grammar (state (read (rule o n from b [] [])) (after_word from b)) (at kind.Word (codes "when") place) ≡ Some (state (read (rule o n from b [] [])) (symbol.Item item.Clause ∷ symbol.Many item.NextClause ∷ to_actions))
  when_next o n from true place fresh = refl
  when_next o n None false place fresh = rw fresh refl
  when_next o n (Some c) false place fresh = rw fresh refl

  or_do : (x : ModRule) (ts : List ModAtom) (place : Place) → next full grammar (state (read x) (or_stack ts (symbol.Many item.NextClause ∷ to_actions))) (at kind.Word (codes "do") place) ≡ Some (state (read x) (symbol.Item item.Action ∷ symbol.Many item.NextAction ∷ to_end))
  or_do x [] place = refl
  or_do x (a ∷ ts) place = refl

  do_next : (o : ℕ) (n : Text) (from : Option ℕ) (b : Bool) (cs : List ModClause) (place : Place) → list_any (same_key (key o n from)) keys ≡ false
      → next full grammar (state (read (rule o n from b cs [])) (after_clauses m good rules keys (after_word from b) cs to_actions)) (at kind.Word (codes "do") place) ≡ Some (state (read (rule o n from b cs [])) (symbol.Item item.Action ∷ symbol.Many item.NextAction ∷ to_end))
  do_next o n from true [] place fresh = refl
  do_next o n None false [] place fresh = rw fresh refl
  do_next o n (Some c) false [] place fresh = rw fresh refl
  do_next o n from b (c ∷ cs) place fresh = or_do (rule o n from b (c ∷ cs) []) (last_tests c.atoms cs) place

  -- the rule is finished
  abbrev finished : ModRule → Read
  finished x = env m (rules ++ x ∷ []) (keys ++ key x.object x.name x.from ∷ []) (rule x.object x.name None false [] []) [] None None

  or_end : (x : ModRule) (ts : List ModAtom) (place : Place) → list_any (same_key (key x.object x.name x.from)) keys ≡ false
      → next full grammar (state (read x) (or_stack ts (symbol.Many item.NextClause ∷ to_actions))) (at kind.Word (codes "end") place) ≡ Some (state (finished x) outer)
  or_end x [] place fresh = rw fresh refl
  or_end x (a ∷ ts) place fresh = rw fresh refl

  end_next : (o : ℕ) (n : Text) (from : Option ℕ) (b : Bool) (cs : List ModClause) (acts : List Action) (place : Place) → list_any (same_key (key o n from)) keys ≡ false
      → next full grammar (state (read (rule o n from b cs acts)) (after_actions m good rules keys (after_clauses m good rules keys (after_word from b) cs to_actions) acts to_end)) (at kind.Word (codes "end") place) ≡ Some (state (finished (rule o n from b cs acts)) outer)
  end_next o n from true [] [] place fresh = rw fresh refl
  end_next o n None false [] [] place fresh = rw fresh (rw fresh refl)
  end_next o n (Some c) false [] [] place fresh = rw fresh (rw fresh refl)
  end_next o n from b (c ∷ cs) [] place fresh = or_end (rule o n from b (c ∷ cs) []) (last_tests c.atoms cs) place fresh
  end_next o n from b cs (a ∷ acts) place fresh = rw fresh refl

  -- the parts of a rule after its name don't go on with the name

  apart_actions : (acts : List Action) (tail : Text) → is_apart (actions_text m acts ++ (codes " end\n" ++ tail)) ≡ true
  apart_actions [] tail = refl
  apart_actions (a ∷ acts) tail = refl

  apart_clauses : (cs : List ModClause) (acts : List Action) (tail : Text) → is_apart (clauses_text m cs ++ (actions_text m acts ++ (codes " end\n" ++ tail))) ≡ true
  apart_clauses [] acts tail = apart_actions acts tail
  apart_clauses (c ∷ cs) acts tail = refl

  apart_word : (b : Bool) (cs : List ModClause) (acts : List Action) (tail : Text) → is_apart (spontaneous_text b ++ (clauses_text m cs ++ (actions_text m acts ++ (codes " end\n" ++ tail)))) ≡ true
  apart_word true cs acts tail = refl
  apart_word false cs acts tail = apart_clauses cs acts tail

  apart_child : (from : Option ℕ) (b : Bool) (cs : List ModClause) (acts : List Action) (tail : Text) → is_apart (child_text from ++ (spontaneous_text b ++ (clauses_text m cs ++ (actions_text m acts ++ (codes " end\n" ++ tail))))) ≡ true
  apart_child (Some c) b cs acts tail = refl
  apart_child None b cs acts tail = apart_word b cs acts tail

  child_read : (o : ℕ) (n : Text) (from : Option ℕ) (place : Place) (tail : Text) → fits_child from ≡ true → list_any (same_key (key o n from)) keys ≡ false → is_apart tail ≡ true
      → Leads grammar place (child_text from) tail (state (read (rule o n None false [] [])) to_child) (state (read (rule o n from false [] [])) (after_child from))
  child_read o n None place tail small fresh apart = nothing grammar place tail _
  child_read o n (Some c) place tail small fresh apart =
      then grammar place (codes " from ") (decimal c) tail _ _ _
      (record { tokens = at kind.Word (codes "from") (advance place 32) ∷ []; lexed = refl; runs = refl })
      (number grammar (fold advance place (codes " from ")) c tail _ _ (id_small c small) apart (child_next o n c (fold advance place (codes " from ")) small fresh))

  word_read : (o : ℕ) (n : Text) (from : Option ℕ) (b : Bool) (place : Place) (tail : Text) → list_any (same_key (key o n from)) keys ≡ false → is_apart tail ≡ true
      → Leads grammar place (spontaneous_text b) tail (state (read (rule o n from false [] [])) (after_child from)) (state (read (rule o n from b [] [])) (after_word from b))
  word_read o n from false place tail fresh apart = nothing grammar place tail _
  word_read o n from true place tail fresh apart =
      then grammar place (codes " ") (codes "spontaneous") tail _ _ _
      (space grammar place (codes "spontaneous" ++ tail) _)
      (word grammar (fold advance place (codes " ")) (codes "spontaneous") tail _ _ refl apart (word_next o n from (fold advance place (codes " ")) fresh))

  -- a rule that can be printed: its name and numbers, what it names, and that it doesn't stand yet
  pub record IsPrintable (o : ℕ) (n : Text) (from : Option ℕ) (cs : List ModClause) (acts : List Action) : Type 0 where
    pub plain : IsPlainName n
    pub object : nat_le o most_id ≡ true
    pub child : fits_child from ≡ true
    pub clauses : list_all (has_clause (counts_of m)) cs ≡ true
    pub actions : list_all (has_action (counts_of m)) acts ≡ true
    pub clauses_fit : list_all fits_clause cs ≡ true
    pub actions_fit : list_all fits_action acts ≡ true
    pub fresh : list_any (same_key (key o n from)) keys ≡ false

  module _ (k : ℕ) (x : Text) (o0 o : ℕ) (n : Text) (from : Option ℕ) (b : Bool) (cs : List ModClause) (acts : List Action) (place : Place) (tail : Text) (is : IsPrintable o n from cs acts) where
    abbrev tail_end : Text
    tail_end = codes " end\n" ++ tail

    abbrev tail_actions : Text
    tail_actions = actions_text m acts ++ tail_end

    abbrev tail_clauses : Text
    tail_clauses = clauses_text m cs ++ tail_actions

    abbrev tail_word : Text
    tail_word = spontaneous_text b ++ tail_clauses

    abbrev tail_child : Text
    tail_child = child_text from ++ tail_word

    abbrev to_1 : Text
    to_1 = codes "rule " ++ decimal o ++ codes " "

    abbrev to_2 : Text
    to_2 = to_1 ++ n

    abbrev to_3 : Text
    to_3 = to_2 ++ child_text from

    abbrev to_4 : Text
    to_4 = to_3 ++ spontaneous_text b

    abbrev to_5 : Text
    to_5 = to_4 ++ clauses_text m cs

    abbrev to_6 : Text
    to_6 = to_5 ++ actions_text m acts

    numbered : Leads grammar place to_1 (n ++ tail_child) (state (read (rule o0 x None false [] [])) (top k)) (state (read (rule o x None false [] [])) (symbol.One the.RuleName ∷ to_child))
    numbered =
        then grammar place (codes "rule " ++ decimal o) (codes " ") (n ++ tail_child) _ _ _
        (then grammar place (codes "rule ") (decimal o) (codes " " ++ (n ++ tail_child)) _ _ _
        (then grammar place (codes "rule") (codes " ") (decimal o ++ (codes " " ++ (n ++ tail_child))) _ _ _
        (word grammar place (codes "rule") (codes " " ++ (decimal o ++ (codes " " ++ (n ++ tail_child)))) _ _ refl refl (rule_next (rule o0 x None false [] []) k place))
        (space grammar _ (decimal o ++ (codes " " ++ (n ++ tail_child))) _))
        (number grammar (fold advance place (codes "rule ")) o (codes " " ++ (n ++ tail_child)) _ _ (id_small o is.object) refl (object_next (rule o0 x None false [] []) o (symbol.One the.RuleName ∷ to_child) (fold advance place (codes "rule ")) is.object)))
        (space grammar _ (n ++ tail_child) _)

    ended : Leads grammar (fold advance place to_6) (codes " end\n") tail (state (read (rule o n from b cs acts)) (after_actions m good rules keys (after_clauses m good rules keys (after_word from b) cs to_actions) acts to_end)) (state (finished (rule o n from b cs acts)) outer)
    ended =
        then grammar (fold advance place to_6) (codes " end") (codes "\n") tail _ _ _
        (then grammar (fold advance place to_6) (codes " ") (codes "end") (codes "\n" ++ tail) _ _ _
        (space grammar (fold advance place to_6) (codes "end" ++ (codes "\n" ++ tail)) _)
        (word grammar (fold advance (fold advance place to_6) (codes " ")) (codes "end") (codes "\n" ++ tail) _ _ refl refl (end_next o n from b cs acts (fold advance (fold advance place to_6) (codes " ")) is.fresh)))
        (feed grammar _ tail _)

    -- the line of a rule leads to the rule
    pub rule_read : Leads grammar place (rule_text m (rule o n from b cs acts)) tail (state (read (rule o0 x None false [] [])) (top k)) (state (finished (rule o n from b cs acts)) (top 2))
    rule_read =
        then grammar place to_6 (codes " end\n") tail _ _ _
        (then grammar place to_5 (actions_text m acts) tail_end _ _ _
        (then grammar place to_4 (clauses_text m cs) tail_actions _ _ _
        (then grammar place to_3 (spontaneous_text b) tail_clauses _ _ _
        (then grammar place to_2 (child_text from) tail_word _ _ _
        (then grammar place to_1 n tail_child _ _ _
        numbered
        (word grammar (fold advance place to_1) n tail_child _ _ is.plain.word (apart_child from b cs acts tail) (name_next (rule o x None false [] []) n to_child (fold advance place to_1) is.plain)))
        (child_read o n from (fold advance place to_2) tail_word is.child is.fresh (apart_word b cs acts tail)))
        (word_read o n from b (fold advance place to_3) tail_clauses is.fresh (apart_clauses cs acts tail)))
        (clauses_read m good rules keys (rule o n from b [] []) (after_word from b) cs to_actions (fold advance place to_4) tail_actions is.clauses is.clauses_fit (apart_actions acts tail) (λ p. when_next o n from b p is.fresh)))
        (actions_read m good rules keys (rule o n from b cs []) (after_clauses m good rules keys (after_word from b) cs to_actions) acts to_end (fold advance place to_5) tail_end is.actions is.actions_fit refl (λ p. do_next o n from b cs p is.fresh)))
        ended
