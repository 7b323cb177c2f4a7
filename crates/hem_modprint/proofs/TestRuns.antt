-- The grammar of modules goes over the text of a test.
use Rattle.std.proofs.Common.{◌≡◌, refl, ap, ◌∙◌, ℕ, ◌<◌, ◌^◌, true, cond, List, [], ◌∷◌, ◌++◌, Option, Some, None, arith, leb-true}
use Rattle.std.specs.Prelude.{fold, codes, decimal, nat_le}
use Rattle.hem_text.specs.declared.text.TokenKind.TheVariants as kind
use Rattle.hem_text.specs.declared.text.Place.{Place}
use Rattle.hem_text.specs.declared.symbol.Symbol.{Symbol}
use Rattle.hem_text.specs.declared.symbol.Symbol.TheVariants as symbol
use Rattle.hem_text.specs.Numbers.{number_of}
use Rattle.hem_text.specs.Tokens.{advance}
use Rattle.hem_text.specs.Grammars.{full, State, state, next}
use Rattle.hem_syntax.specs.Protocol.{Text}
use Rattle.hem_module.specs.declared.rules.ModAtom.{ModAtom}
use Rattle.hem_module.specs.declared.rules.ModAtom.TheVariants as atom
use Rattle.hem_module.specs.declared.rules.Act.{Act}
use Rattle.hem_module.specs.declared.rules.ModRule.{ModRule}
use Rattle.hem_module.specs.Modules.{Modules}
use Rattle.hem_module.specs.Lawful.{IsModules, counts_of, has_atom}
use Rattle.hem_modtext.specs.declared.tokens.Terminal.{Terminal}
use Rattle.hem_modtext.specs.declared.tokens.Terminal.TheVariants as the
use Rattle.hem_modtext.specs.declared.tokens.TestRole.{TestRole}
use Rattle.hem_modtext.specs.declared.tokens.TestRole.TheVariants as test
use Rattle.hem_modtext.specs.declared.tokens.Item.{Item}
use Rattle.hem_modtext.specs.declared.tokens.Item.TheVariants as item
use Rattle.hem_modtext.specs.declared.key.RuleKey.{RuleKey}
use Rattle.hem_modtext.specs.Limits.{most_id, most_number}
use Rattle.hem_modtext.specs.Grammar.{after_test, test_follows, head_follows}
use Rattle.hem_modtext.specs.Draft.{Read, grammar, add_test, with_number, with_id}
use Rattle.hem_modprint.specs.ModulesText.{register_name, queue_name, test_text}
use Rattle.hem_modprint.specs.ReadsBack.{fits_test}
use Rattle.hem_modprint.proofs.Known.{KnownRegister, KnownQueue, register_known, queue_known, no_register, not_the}
use Rattle.hem_modprint.proofs.Leads.{Leads, then, space, word, number, number_back, at, is_apart}

-- a number within its bound
pub if_within : {A : Type 0} (n most : ℕ) (x y : A) → nat_le n most ≡ true → cond (nat_le n most) x y ≡ x
if_within n most x y h = rw h refl

pub number_is : (n : ℕ) → nat_le n most_number ≡ true → number_of (decimal n) ≡ n
number_is n h = let le = leb-true n most_number h in number_back n (omega (arith, le))

pub id_is : (n : ℕ) → nat_le n most_id ≡ true → number_of (decimal n) ≡ n
id_is n h = let le = leb-true n most_id h in number_back n (omega (arith, le))

pub number_small : (n : ℕ) → nat_le n most_number ≡ true → n < 2 ^ 64
number_small n h = let le = leb-true n most_number h in omega (arith, le)

pub id_small : (n : ℕ) → nat_le n most_id ≡ true → n < 2 ^ 64
id_small n h = let le = leb-true n most_id h in omega (arith, le)

abbrev pub Stack : Type 0
Stack = List (Symbol Terminal Item)

-- what has been read of modules up to a part of a rule: the rules before it and their keys, the rule so far, a condition, a test and an act
abbrev pub env : Modules → List ModRule → List RuleKey → ModRule → List ModAtom → Option ModAtom → Option Act → Read
env m rules keys x tests test act = record {
  name = m.name;
  regs = m.regs;
  queues = m.queues;
  rules = rules;
  keys = keys;
  object = x.object;
  rule_name = x.name;
  from = x.from;
  spontaneous = x.spontaneous;
  clauses = x.clauses;
  actions = x.actions;
  cond = tests;
  atom = test;
  act = act;
}

-- what is to come before a test
abbrev pub before_test : TestRole → Stack → Stack
before_test test.First rest = symbol.Item item.Clause ∷ rest
before_test test.Further rest = symbol.Item (item.Test test.Further) ∷ rest
before_test test.Condition rest = symbol.Item (item.Test test.Condition) ∷ rest

module _ (m : Modules) (good : IsModules m) (rules : List ModRule) (keys : List RuleKey) where
  -- a test that is read adds the same to what was read before it, whatever test stood there
  added : (role : TestRole) (x : ModRule) (tests : List ModAtom) (half : Option ModAtom) (a : ModAtom) → add_test (env m rules keys x tests half None) role a ≡ add_test (env m rules keys x tests None None) role a
  added test.First x tests half a = refl
  added test.Further x tests half a = refl
  added test.Condition x tests half a = refl

  register_next : (role : TestRole) (x : ModRule) (tests : List ModAtom) (rest : Stack) (t : Text) (r : ℕ) (place : Place) → KnownRegister m.regs t r
      → next full grammar (state (env m rules keys x tests None None) (before_test role rest)) (at kind.Word t place) ≡ Some (state (env m rules keys x tests (Some (atom.Is r 0)) None) (test_follows role ++ rest))
  register_next test.First x tests rest t r place known = rw (not_the (codes "never") t refl known.plain.free, known.among, known.place) refl
  register_next test.Further x tests rest t r place known = rw (known.among, known.place) refl
  register_next test.Condition x tests rest t r place known = rw (known.among, known.place) refl

  head_next : (role : TestRole) (x : ModRule) (tests : List ModAtom) (rest : Stack) (place : Place)
      → next full grammar (state (env m rules keys x tests None None) (before_test role rest)) (at kind.Word (codes "head") place) ≡ Some (state (env m rules keys x tests None None) (head_follows role ++ rest))
  head_next test.First x tests rest place = rw (no_register m good (codes "head") refl) refl
  head_next test.Further x tests rest place = rw (no_register m good (codes "head") refl) refl
  head_next test.Condition x tests rest place = rw (no_register m good (codes "head") refl) refl

  queue_next : (x : ModRule) (tests : List ModAtom) (rest : Stack) (t : Text) (q : ℕ) (place : Place) → KnownQueue m.queues t q
      → next full grammar (state (env m rules keys x tests None None) (symbol.One the.HeadQueue ∷ rest)) (at kind.Word t place) ≡ Some (state (env m rules keys x tests (Some (atom.Head q (record { 0 = 0 }))) None) rest)
  queue_next x tests rest t q place known = rw (known.within, known.place) refl

  number_next : (role : TestRole) (x : ModRule) (tests : List ModAtom) (half : ModAtom) (rest : Stack) (n : ℕ) (place : Place) → nat_le n most_number ≡ true
      → next full grammar (state (env m rules keys x tests (Some half) None) (symbol.One (the.TestNumber role) ∷ rest)) (at kind.Number (decimal n) place)
      ≡ Some (state (add_test (env m rules keys x tests None None) role (with_number half n)) rest)
  number_next role x tests half rest n place small =
      ap (λ k. if_small k) (number_is n small)
      ∙ if_within n most_number _ _ small
      ∙ ap (λ e. Some (state e rest)) (added role x tests (Some half) (with_number half n))
    where
      if_small : ℕ → Option (State Read Terminal Item)
      if_small k = cond (nat_le k most_number) (Some (state (add_test (env m rules keys x tests (Some half) None) role (with_number half k)) rest)) None

  id_next : (role : TestRole) (x : ModRule) (tests : List ModAtom) (half : ModAtom) (rest : Stack) (n : ℕ) (place : Place) → nat_le n most_id ≡ true
      → next full grammar (state (env m rules keys x tests (Some half) None) (symbol.One (the.HeadId role) ∷ rest)) (at kind.Number (decimal n) place)
      ≡ Some (state (add_test (env m rules keys x tests None None) role (with_id half n)) rest)
  id_next role x tests half rest n place small =
      ap (λ k. if_small k) (id_is n small)
      ∙ if_within n most_id _ _ small
      ∙ ap (λ e. Some (state e rest)) (added role x tests (Some half) (with_id half n))
    where
      if_small : ℕ → Option (State Read Terminal Item)
      if_small k = cond (nat_le k most_id) (Some (state (add_test (env m rules keys x tests (Some half) None) role (with_id half k)) rest)) None

  -- a test leads to what it says
  pub test_read : (role : TestRole) (x : ModRule) (tests : List ModAtom) (rest : Stack) (a : ModAtom) (place : Place) (tail : Text) → has_atom (counts_of m) a ≡ true → fits_test a ≡ true → is_apart tail ≡ true
      → Leads grammar place (test_text m a) tail (state (env m rules keys x tests None None) (before_test role rest)) (state (add_test (env m rules keys x tests None None) role a) (after_test role ++ rest))
  test_read role x tests rest (atom.Is r n) place tail there small apart =
      let known = register_known m good r there in
      then grammar place (register_name m r ++ codes " = ") (decimal n) tail _ _ _
      (then grammar place (register_name m r) (codes " = ") (decimal n ++ tail) _ _ _
      (word grammar place (register_name m r) (codes " = " ++ (decimal n ++ tail)) _ _ known.plain.word refl (register_next role x tests rest (register_name m r) r place known))
      (record { tokens = at kind.Sign (codes "=") (advance (fold advance place (register_name m r)) 32) ∷ []; lexed = refl; runs = refl }))
      (number grammar _ n tail _ _ (number_small n small) apart (number_next role x tests (atom.Is r 0) (after_test role ++ rest) n (fold advance place (register_name m r ++ codes " = ")) small))
  test_read role x tests rest (atom.Not r n) place tail there small apart =
      let known = register_known m good r there in
      then grammar place (register_name m r ++ codes " != ") (decimal n) tail _ _ _
      (then grammar place (register_name m r) (codes " != ") (decimal n ++ tail) _ _ _
      (word grammar place (register_name m r) (codes " != " ++ (decimal n ++ tail)) _ _ known.plain.word refl (register_next role x tests rest (register_name m r) r place known))
      (record { tokens = at kind.Sign (codes "!=") (advance (fold advance place (register_name m r)) 32) ∷ []; lexed = refl; runs = refl }))
      (number grammar _ n tail _ _ (number_small n small) apart (number_next role x tests (atom.Not r 0) (after_test role ++ rest) n (fold advance place (register_name m r ++ codes " != ")) small))
  test_read role x tests rest (atom.Head q id) place tail there small apart =
      let known = queue_known m good q there in
      then grammar place (codes "head " ++ queue_name m q ++ codes " = ") (decimal id.0) tail _ _ _
      (then grammar place (codes "head " ++ queue_name m q) (codes " = ") (decimal id.0 ++ tail) _ _ _
      (then grammar place (codes "head ") (queue_name m q) (codes " = " ++ (decimal id.0 ++ tail)) _ _ _
      (then grammar place (codes "head") (codes " ") (queue_name m q ++ (codes " = " ++ (decimal id.0 ++ tail))) _ _ _
      (word grammar place (codes "head") (codes " " ++ (queue_name m q ++ (codes " = " ++ (decimal id.0 ++ tail)))) _ _ refl refl (head_next role x tests rest place))
      (space grammar _ (queue_name m q ++ (codes " = " ++ (decimal id.0 ++ tail))) _))
      (word grammar _ (queue_name m q) (codes " = " ++ (decimal id.0 ++ tail)) _ _ known.plain.word refl (queue_next x tests (symbol.One the.Equals ∷ symbol.One (the.HeadId role) ∷ (after_test role ++ rest)) (queue_name m q) q _ known)))
      (record { tokens = at kind.Sign (codes "=") (advance (fold advance place (codes "head " ++ queue_name m q)) 32) ∷ []; lexed = refl; runs = refl }))
      (number grammar _ id.0 tail _ _ (id_small id.0 small) apart (id_next role x tests (atom.Head q (record { 0 = 0 })) (after_test role ++ rest) id.0 (fold advance place (codes "head " ++ queue_name m q ++ codes " = ")) small))
