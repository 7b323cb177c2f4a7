-- The grammar of modules goes over the clauses of a rule.
use Rattle.std.proofs.Common.{◌≡◌, refl, sym, ap, ◌∙◌, subst, true, List, [], ◌∷◌, ◌++◌, Some, None, append_assoc, append-nil}
use Rattle.std.specs.Prelude.{fold, codes, flat_map}
use Rattle.std.specs.List.{list_all}
use Rattle.hem_text.specs.declared.text.TokenKind.TheVariants as kind
use Rattle.hem_text.specs.declared.text.Place.{Place}
use Rattle.hem_text.specs.declared.symbol.Symbol.TheVariants as symbol
use Rattle.hem_text.specs.Tokens.{advance}
use Rattle.hem_text.specs.Grammars.{full, state, next}
use Rattle.hem_syntax.specs.Protocol.{Text}
use Rattle.hem_syntax.specs.Names.{set_last}
use Rattle.hem_print.proofs.Naming.{and_left, and_right, last_snoc, set_last_snoc}
use Rattle.hem_module.specs.declared.rules.ModAtom.{ModAtom}
use Rattle.hem_module.specs.declared.rules.ModClause.{ModClause}
use Rattle.hem_module.specs.declared.rules.ModRule.{ModRule}
use Rattle.hem_module.specs.Modules.{Modules}
use Rattle.hem_module.specs.Lawful.{IsModules, counts_of, has_atom, has_clause}
use Rattle.hem_modtext.specs.declared.tokens.TestRole.TheVariants as test
use Rattle.hem_modtext.specs.declared.tokens.Item.TheVariants as item
use Rattle.hem_modtext.specs.declared.key.RuleKey.{RuleKey}
use Rattle.hem_modtext.specs.Draft.{Read, grammar, with_further}
use Rattle.hem_modprint.specs.ModulesText.{test_text, tests_text, clauses_text}
use Rattle.hem_modprint.specs.ReadsBack.{fits_test, fits_clause}
use Rattle.hem_modprint.proofs.Leads.{Leads, nothing, then, space, word, comma, at, is_apart}
use Rattle.hem_modprint.proofs.TestRuns.{Stack, env, test_read}

-- a further test of the last clause
further_is : (cs : List ModClause) (done : List ModAtom) (a : ModAtom) → with_further (cs ++ record { atoms = done } ∷ []) a ≡ cs ++ record { atoms = done ++ a ∷ [] } ∷ []
further_is cs done a =
    ap (λ (l : ModClause). set_last (cs ++ record { atoms = done } ∷ []) (record { atoms = l.atoms ++ a ∷ [] })) (last_snoc (record { atoms = [] }) cs (record { atoms = done }))
    ∙ set_last_snoc cs (record { atoms = done }) (record { atoms = done ++ a ∷ [] })

-- what is to come after a clause of these tests, and the tests of the last of more clauses
abbrev pub or_stack : List ModAtom → Stack → Stack
or_stack [] rest = rest
or_stack (a ∷ ts) rest = symbol.Many item.Or ∷ rest

abbrev pub last_tests : List ModAtom → List ModClause → List ModAtom
last_tests ts [] = ts
last_tests ts (c ∷ cs) = last_tests c.atoms cs

module _ (m : Modules) (good : IsModules m) (rules : List ModRule) (keys : List RuleKey) where
  abbrev or_text : ModAtom → Text
  or_text a = codes " | " ++ test_text m a

  -- the rule so far, with these clauses
  abbrev with : ModRule → List ModClause → Read
  with x cs = env m rules keys (record x { clauses = cs }) [] None None

  apart_ors : (ts : List ModAtom) (tail : Text) → is_apart tail ≡ true → is_apart (flat_map or_text ts ++ tail) ≡ true
  apart_ors [] tail apart = apart
  apart_ors (a ∷ ts) tail apart = refl

  or_read : (x : ModRule) (cs : List ModClause) (done : List ModAtom) (a : ModAtom) (rest : Stack) (place : Place) (tail : Text) → has_atom (counts_of m) a ≡ true → fits_test a ≡ true → is_apart tail ≡ true
      → Leads grammar place (or_text a) tail (state (with x (cs ++ record { atoms = done } ∷ [])) (symbol.Many item.Or ∷ rest)) (state (with x (cs ++ record { atoms = done ++ a ∷ [] } ∷ [])) (symbol.Many item.Or ∷ rest))
  or_read x cs done a rest place tail there small apart =
      then grammar place (codes " | ") (test_text m a) tail _ _ _
      (record { tokens = at kind.Sign (codes "|") (advance place 32) ∷ []; lexed = refl; runs = refl })
      (subst (λ (l : List ModClause). Leads grammar (fold advance place (codes " | ")) (test_text m a) tail (state (with x (cs ++ record { atoms = done } ∷ [])) (symbol.Item (item.Test test.Further) ∷ symbol.Many item.Or ∷ rest)) (state (with x l) (symbol.Many item.Or ∷ rest)))
      (further_is cs done a)
      (test_read m good rules keys test.Further (record x { clauses = cs ++ record { atoms = done } ∷ [] }) [] (symbol.Many item.Or ∷ rest) a (fold advance place (codes " | ")) tail there small apart))

  ors_read : (x : ModRule) (cs : List ModClause) (done ts : List ModAtom) (rest : Stack) (place : Place) (tail : Text) → list_all (has_atom (counts_of m)) ts ≡ true → list_all fits_test ts ≡ true → is_apart tail ≡ true
      → Leads grammar place (flat_map or_text ts) tail (state (with x (cs ++ record { atoms = done } ∷ [])) (symbol.Many item.Or ∷ rest)) (state (with x (cs ++ record { atoms = done ++ ts } ∷ [])) (symbol.Many item.Or ∷ rest))
  ors_read x cs done [] rest place tail there small apart =
      subst (λ (l : List ModAtom). Leads grammar place [] tail (state (with x (cs ++ record { atoms = done } ∷ [])) (symbol.Many item.Or ∷ rest)) (state (with x (cs ++ record { atoms = l } ∷ [])) (symbol.Many item.Or ∷ rest)))
      (sym (append-nil done)) (nothing grammar place tail _)
  ors_read x cs done (a ∷ ts) rest place tail there small apart =
      subst (λ (l : List ModAtom). Leads grammar place (flat_map or_text (a ∷ ts)) tail (state (with x (cs ++ record { atoms = done } ∷ [])) (symbol.Many item.Or ∷ rest)) (state (with x (cs ++ record { atoms = l } ∷ [])) (symbol.Many item.Or ∷ rest)))
      (append_assoc done (a ∷ []) ts)
      (then grammar place (or_text a) (flat_map or_text ts) tail _ _ _
      (or_read x cs done a rest place (flat_map or_text ts ++ tail) (and_left _ _ there) (and_left _ _ small) (apart_ors ts tail apart))
      (ors_read x cs (done ++ a ∷ []) ts rest (fold advance place (or_text a)) tail (and_right _ _ there) (and_right _ _ small) apart))

  clause_read : (x : ModRule) (cs : List ModClause) (ts : List ModAtom) (rest : Stack) (place : Place) (tail : Text) → list_all (has_atom (counts_of m)) ts ≡ true → list_all fits_test ts ≡ true → is_apart tail ≡ true
      → Leads grammar place (tests_text m ts) tail (state (with x cs) (symbol.Item item.Clause ∷ rest)) (state (with x (cs ++ record { atoms = ts } ∷ [])) (or_stack ts rest))
  clause_read x cs [] rest place tail there small apart =
      then grammar place (codes " ") (codes "never") tail _ _ _
      (space grammar place (codes "never" ++ tail) _)
      (word grammar (fold advance place (codes " ")) (codes "never") tail _ _ refl apart refl)
  clause_read x cs (a ∷ ts) rest place tail there small apart =
      then grammar place (codes " " ++ test_text m a) (flat_map or_text ts) tail _ _ _
      (then grammar place (codes " ") (test_text m a) (flat_map or_text ts ++ tail) _ _ _
      (space grammar place (test_text m a ++ (flat_map or_text ts ++ tail)) _)
      (test_read m good rules keys test.First (record x { clauses = cs }) [] rest a (fold advance place (codes " ")) (flat_map or_text ts ++ tail) (and_left _ _ there) (and_left _ _ small) (apart_ors ts tail apart)))
      (ors_read x cs (a ∷ []) ts rest (fold advance place (codes " " ++ test_text m a)) tail (and_right _ _ there) (and_right _ _ small) apart)

  abbrev comma_text : ModClause → Text
  comma_text c = codes "," ++ tests_text m c.atoms

  apart_commas : (cs : List ModClause) (tail : Text) → is_apart tail ≡ true → is_apart (flat_map comma_text cs ++ tail) ≡ true
  apart_commas [] tail apart = apart
  apart_commas (c ∷ cs) tail apart = refl

  comma_next : (x : ModRule) (cs : List ModClause) (ts : List ModAtom) (rest : Stack) (place : Place)
      → next full grammar (state (with x cs) (or_stack ts (symbol.Many item.NextClause ∷ rest))) (at kind.Sign (codes ",") place) ≡ Some (state (with x cs) (symbol.Item item.Clause ∷ symbol.Many item.NextClause ∷ rest))
  comma_next x cs [] rest place = refl
  comma_next x cs (a ∷ ts) rest place = refl

  more_read : (x : ModRule) (done : List ModClause) (ts : List ModAtom) (cs : List ModClause) (rest : Stack) (place : Place) (tail : Text) → list_all (has_clause (counts_of m)) cs ≡ true → list_all fits_clause cs ≡ true → is_apart tail ≡ true
      → Leads grammar place (flat_map comma_text cs) tail (state (with x done) (or_stack ts (symbol.Many item.NextClause ∷ rest))) (state (with x (done ++ cs)) (or_stack (last_tests ts cs) (symbol.Many item.NextClause ∷ rest)))
  more_read x done ts [] rest place tail there small apart =
      subst (λ (l : List ModClause). Leads grammar place [] tail (state (with x done) (or_stack ts (symbol.Many item.NextClause ∷ rest))) (state (with x l) (or_stack ts (symbol.Many item.NextClause ∷ rest))))
      (sym (append-nil done)) (nothing grammar place tail _)
  more_read x done ts (c ∷ cs) rest place tail there small apart =
      subst (λ (l : List ModClause). Leads grammar place (flat_map comma_text (c ∷ cs)) tail (state (with x done) (or_stack ts (symbol.Many item.NextClause ∷ rest))) (state (with x l) (or_stack (last_tests c.atoms cs) (symbol.Many item.NextClause ∷ rest))))
      (append_assoc done (c ∷ []) cs)
      (then grammar place (comma_text c) (flat_map comma_text cs) tail _ _ _
      (then grammar place (codes ",") (tests_text m c.atoms) (flat_map comma_text cs ++ tail) _ _ _
      (comma grammar place (tests_text m c.atoms ++ (flat_map comma_text cs ++ tail)) _ _ (comma_next x done ts rest place))
      (clause_read x done c.atoms (symbol.Many item.NextClause ∷ rest) (fold advance place (codes ",")) (flat_map comma_text cs ++ tail) (and_left _ _ there) (and_left _ _ small) (apart_commas cs tail apart)))
      (more_read x (done ++ c ∷ []) c.atoms cs rest (fold advance place (comma_text c)) tail (and_right _ _ there) (and_right _ _ small) apart))

  -- what is to come after the clauses, where this came before them
  abbrev pub after_clauses : Stack → List ModClause → Stack → Stack
  after_clauses before [] rest = before
  after_clauses before (c ∷ cs) rest = or_stack (last_tests c.atoms cs) (symbol.Many item.NextClause ∷ rest)

  apart_tests : (ts : List ModAtom) (tail : Text) → is_apart (tests_text m ts ++ tail) ≡ true
  apart_tests [] tail = refl
  apart_tests (a ∷ ts) tail = refl

  -- the clauses of a rule lead to what they say
  pub clauses_read : (x : ModRule) (before : Stack) (cs : List ModClause) (rest : Stack) (place : Place) (tail : Text) → list_all (has_clause (counts_of m)) cs ≡ true → list_all fits_clause cs ≡ true → is_apart tail ≡ true
      → ((at_place : Place) → next full grammar (state (with x []) before) (at kind.Word (codes "when") at_place) ≡ Some (state (with x []) (symbol.Item item.Clause ∷ symbol.Many item.NextClause ∷ rest)))
      → Leads grammar place (clauses_text m cs) tail (state (with x []) before) (state (with x cs) (after_clauses before cs rest))
  clauses_read x before [] rest place tail there small apart when = nothing grammar place tail _
  clauses_read x before (c ∷ cs) rest place tail there small apart when =
      then grammar place (codes " when" ++ tests_text m c.atoms) (flat_map comma_text cs) tail _ _ _
      (then grammar place (codes " when") (tests_text m c.atoms) (flat_map comma_text cs ++ tail) _ _ _
      (then grammar place (codes " ") (codes "when") (tests_text m c.atoms ++ (flat_map comma_text cs ++ tail)) _ _ _
      (space grammar place (codes "when" ++ (tests_text m c.atoms ++ (flat_map comma_text cs ++ tail))) _)
      (word grammar (fold advance place (codes " ")) (codes "when") (tests_text m c.atoms ++ (flat_map comma_text cs ++ tail)) _ _ refl (apart_tests c.atoms (flat_map comma_text cs ++ tail)) (when (fold advance place (codes " ")))))
      (clause_read x [] c.atoms (symbol.Many item.NextClause ∷ rest) (fold advance place (codes " when")) (flat_map comma_text cs ++ tail) (and_left _ _ there) (and_left _ _ small) (apart_commas cs tail apart)))
      (more_read x (c ∷ []) c.atoms cs rest (fold advance place (codes " when" ++ tests_text m c.atoms)) tail (and_right _ _ there) (and_right _ _ small) apart)
