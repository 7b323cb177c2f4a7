-- The rules of a kind read back.
use Rattle.std.proofs.Common.{◌≡◌, ℕ, ◌+◌, ◌<◌, ◌≤◌, true, false, not, ◌&&◌, ◌==◌, List, [], ◌∷◌, ◌++◌, map, length, take, refl, sym, ap, ◌∙◌, arith, Some, append_assoc, append-nil, nat_lt, nat_le}
use Rattle.std.specs.Prelude.{unwrap_or}
use Rattle.std.specs.List.{list_all, list_any}
use Rattle.hem_base.specs.declared.words.Reserved.TheVariants as word
use Rattle.hem_text.specs.declared.symbol.Symbol.{Symbol}
use Rattle.hem_text.specs.declared.symbol.Symbol.TheVariants.{Many}
use Rattle.hem_text.specs.Grammars.{state}
use Rattle.hem_base.specs.Words.{is_reserved, is_word_text}
use Rattle.hem_syntax.specs.declared.rule.Rule.{Rule}
use Rattle.hem_grammar.specs.declared.terminals.Terminal.{Terminal}
use Rattle.hem_grammar.specs.declared.terminals.Terminal.TheVariants as the
use Rattle.hem_grammar.specs.declared.terminals.RulePart.TheVariants as rule
use Rattle.hem_grammar.specs.declared.terminals.Item.{Item}
use Rattle.hem_grammar.specs.declared.terminals.Item.TheVariants as item
use Rattle.hem_grammar.specs.Grammar.{r}
use Rattle.hem_syntax.specs.Protocol.{Text, Protocol, KindPart}
use Rattle.hem_syntax.specs.Lawful.{is_declarable, are_distinct, counts_of, is_rule, named_once, names_after}
use Rattle.hem_grammar.specs.Draft.{no_rule, is_short, with_rule_name, place_in}
use Rattle.hem_print.specs.Canonical.{Word, plain, named, rule_words, rule_name, rule_line}
use Rattle.hem_print.proofs.Steps.{go, pick, skip}
use Rattle.hem_print.proofs.Naming.{and_left, and_right, room, room_after, not_false, cond_true, all_at, get_some, name_at}
use Rattle.hem_print.proofs.Around.{Around, env, AreNamed}
use Rattle.hem_print.proofs.RuleNames.{NameStep, name_step, names_grow, named_before}
use Rattle.hem_print.proofs.RuleRuns.{words_of, body, only_named, body_run, parts_of}

-- a name that may be declared is spelled as a name, and is short
pub record IsNewName (n : Text) : Type 0 where
  pub spelled : (is_word_text n && not (is_reserved n)) ≡ true
  pub short : is_short n ≡ true

pub new_name : (n : Text) → is_declarable n ≡ true → IsNewName n
new_name n h =
    let a = nat_le 1 (length n) in
    let b = nat_le (length n) 32 in
    let c = is_word_text n in
    let d = not (is_reserved n) in
    let front : (a && b && c) ≡ true = and_left (a && b && c) d h in
    record { spelled = rw (and_right (a && b) c front, and_right (a && b && c) d h) refl; short = and_left (a && b) c front }

pub declarable_at : (names : List Text) (i : ℕ) → list_all is_declarable names ≡ true → i < length names → IsNewName (name_at names i)
declarable_at names i h lt = let at = get_some names i lt in rw at.1 (new_name at.0 (all_at is_declarable names i at.0 at.1 h))

module _ (p : Protocol) (k : KindPart) (names : AreNamed p k) (rule_words_ok : list_all is_declarable p.rule_names ≡ true) (rules_once : are_distinct p.rule_names ≡ true) (rest : List (Symbol Terminal Item)) where
  -- the head of a rule
  head_run : (c : Around) (m next : ℕ) → c.names ≡ take m p.rule_names → (y : Rule) → y.name.0 < length p.rule_names → NameStep p.rule_names m y.name.0 next → nat_lt (length c.rules) 64 ≡ true → list_any (λ x. x.name.0 == y.name.0) c.rules ≡ false → (tail : List Word) →
      go (state (env p k c no_rule) (Many item.Rules ∷ rest)) (plain word.Rule ∷ named (rule_name p y.name) ∷ tail)
      ≡ go (state (env p k (record c { names = take next p.rule_names }) (only_named y.name)) (body ++ Many item.Rules ∷ rest)) tail
  head_run c m next is y lt step few fresh tail =
      let n = rule_name p y.name in
      let good = declarable_at p.rule_names y.name.0 rule_words_ok lt in
      let id : unwrap_or (place_in c.names n) (length c.names) ≡ y.name.0 = ap (λ (l : List Text). unwrap_or (place_in l n) (length l)) is ∙ step.id in
      let read : with_rule_name c.names n ≡ take next p.rule_names = ap (λ (l : List Text). with_rule_name l n) is ∙ step.read in
      pick (env p k c no_rule) (plain word.Rule) (named n ∷ tail) (Many item.Rules) rest (the.Rule rule.Rule) refl refl few
      ∙ pick (env p k c no_rule) (named n) tail (r rule.NewRule) (body ++ Many item.Rules ∷ rest) (the.Rule rule.NewRule) (cond_true _ _ _ good.spelled)
      (ap (λ (j : ℕ). not (list_any (λ x. x.name.0 == j) c.rules)) id ∙ not_false _ fresh) good.short
      ∙ ap (λ (j : ℕ). go (state (env p k (record c { names = with_rule_name c.names n }) (only_named (record { 0 = j }))) (body ++ Many item.Rules ∷ rest)) tail) id
      ∙ ap (λ (l : List Text). go (state (env p k (record c { names = l }) (only_named y.name)) (body ++ Many item.Rules ∷ rest)) tail) read

  -- the rules of a kind, and the word that ends it
  pub rules_run : (ws : List Word) (c : Around) (m : ℕ) → c.names ≡ take m p.rule_names → (rs : List Rule) → list_all (is_rule (counts_of p k)) rs ≡ true → named_once (c.rules ++ rs) ≡ true → length c.rules + length rs ≤ 64 → (m' : ℕ) → names_after m rs ≡ Some m' → m' ≤ length p.rule_names →
      go (state (env p k c no_rule) (Many item.Rules ∷ rest)) (words_of (map (rule_line p k) rs) ++ plain word.End ∷ ws)
      ≡ go (state (env p k (record c { names = take m' p.rule_names; rules = c.rules ++ rs }) no_rule) rest) (plain word.End ∷ ws)
  rules_run ws c m is [] good once few m' after le =
      let same : m ≡ m' = cc in
      skip (env p k c no_rule) (plain word.End) ws (Many item.Rules) rest refl refl
      ∙ ap (λ (l : List Text). go (state (env p k (record c { names = l }) no_rule) rest) (plain word.End ∷ ws)) (is ∙ ap (λ (n : ℕ). take n p.rule_names) same)
      ∙ ap (λ (l : List Rule). go (state (env p k (record c { names = take m' p.rule_names; rules = l }) no_rule) rest) (plain word.End ∷ ws)) (sym (append-nil c.rules))
  rules_run ws c m is (y ∷ ys) good once few m' after le =
      let step = name_step p.rule_names rules_once m y ys m' after le in
      let next = step.0 in
      let c1 : Around = record c { names = take next p.rule_names } in
      let tail = words_of (map (rule_line p k) ys) ++ plain word.End ∷ ws in
      ap (λ v. go (state (env p k c no_rule) (Many item.Rules ∷ rest)) (plain word.Rule ∷ named (rule_name p y.name) ∷ v)) (append_assoc (rule_words p k y) (words_of (map (rule_line p k) ys)) (plain word.End ∷ ws))
      ∙ head_run c m next is y (omega (arith, step.1.lower, names_grow next ys m' step.2)) step.1 (room 64 (length c.rules) (length ys) few) (named_before c.rules y ys once) (rule_words p k y ++ tail)
      ∙ body_run p k c1 names (Many item.Rules ∷ rest) y (parts_of p k y (and_left (is_rule (counts_of p k) y) _ good)) tail
      ∙ rules_run ws (record c1 { rules = c.rules ++ y ∷ [] }) next refl ys (and_right (is_rule (counts_of p k) y) _ good) (ap named_once (append_assoc c.rules (y ∷ []) ys) ∙ once) (room_after 64 c.rules y (length ys) few) m' step.2 le
      ∙ ap (λ (l : List Rule). go (state (env p k (record c { names = take m' p.rule_names; rules = l }) no_rule) rest) (plain word.End ∷ ws)) (append_assoc c.rules (y ∷ []) ys)
