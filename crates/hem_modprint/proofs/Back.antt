-- The canonical text of modules reads as these modules.
use Rattle.std.proofs.Common.{◌≡◌, refl, sym, ap, ◌∙◌, subst, arith, ℕ, zero, suc, ◌==◌, Bool, true, false, cond, not, ◌&&◌, List, [], ◌∷◌, ◌++◌, map, Option, Some, None, append_assoc, append-nil}
use Rattle.std.specs.Prelude.{fold, codes, decimal, nat_le, flat_map}
use Rattle.std.specs.List.{list_all, list_any}
use Rattle.std.specs.Str.{bytes_eq}
use Rattle.std.specs.Cmp.Lexicographic.{nat_list_eq_equiv}
use Rattle.hem_text.specs.declared.text.TokenKind.TheVariants as kind
use Rattle.hem_text.specs.declared.text.Place.{Place}
use Rattle.hem_text.specs.declared.symbol.Symbol.TheVariants as symbol
use Rattle.hem_text.specs.Tokens.{advance}
use Rattle.hem_text.specs.Grammars.{full, State, state, next}
use Rattle.hem_syntax.specs.Protocol.{Text}
use Rattle.hem_syntax.specs.Names.{is_among, is_in, set_last, with_last}
use Rattle.hem_syntax.specs.Lawful.{is_declarable, are_distinct}
use Rattle.hem_print.proofs.Naming.{and_left, and_right, not_true, or_left, or_right, or_both, last_snoc, set_last_snoc, among_is}
use Rattle.hem_module.specs.declared.rules.ModRule.{ModRule}
use Rattle.hem_module.specs.Modules.{Modules}
use Rattle.hem_module.specs.Lawful.{IsModules, counts_of, has_clause, has_action, has_rule, same_child, same_rule, are_apart}
use Rattle.hem_modtext.specs.declared.key.RuleKey.{RuleKey}
use Rattle.hem_modtext.specs.declared.tokens.Terminal.{Terminal}
use Rattle.hem_modtext.specs.declared.tokens.Terminal.TheVariants as the
use Rattle.hem_modtext.specs.declared.tokens.Item.{Item}
use Rattle.hem_modtext.specs.Limits.{most_number}
use Rattle.hem_modtext.specs.Grammar.{start}
use Rattle.hem_modtext.specs.Draft.{Read, grammar, same_key, nothing as nothing_read}
use Rattle.hem_modtext.specs.Sound.{key_of}
use Rattle.hem_modtext.proofs.Small.{map_more}
use Rattle.hem_modprint.specs.ModulesText.{register_text, queue_text, rule_text, modules_text}
use Rattle.hem_modprint.specs.ReadsBack.{fits, fits_rule, fits_id, fits_child, fits_clause, fits_action, HasNumbers, ReadsBack}
use Rattle.hem_modprint.proofs.Words.{registers_declarable, queues_declarable}
use Rattle.hem_modprint.proofs.Known.{IsPlainName, plain_name, distinct_parts}
use Rattle.hem_modprint.proofs.Leads.{Leads, nothing, then, space, feed, word, number, at, part}
use Rattle.hem_modprint.proofs.TestRuns.{Stack, env, if_within, number_is, number_small}
use Rattle.hem_modprint.proofs.RuleRuns.{top, rule, IsPrintable, rule_read}

-- rules told apart have keys told apart

turned : (a b : ℕ) → (a == b) ≡ (b == a)
turned a b = grind arith

children_turned : (f g : Option ℕ) → same_child f g ≡ same_child g f
children_turned None None = refl
children_turned None (Some b) = refl
children_turned (Some a) None = refl
children_turned (Some a) (Some b) = turned a b

rules_turned : (r d : ModRule) → same_key (key_of r) (key_of d) ≡ same_rule d r
rules_turned r d = λ i. turned r.object d.object i && nat_list_eq_equiv.symm r.name d.name i && children_turned r.from d.from i

none_at : {A : Type 0} (p : A → Bool) (xs : List A) (y : A) (ys : List A) → list_any p (xs ++ y ∷ ys) ≡ false → p y ≡ false
none_at p [] y ys none = or_left (p y) (list_any p ys) none
none_at p (x ∷ xs) y ys none = none_at p xs y ys (or_right (p x) (list_any p (xs ++ y ∷ ys)) none)

fresh_rule : (done : List ModRule) (r : ModRule) (more : List ModRule) → are_apart same_rule (done ++ r ∷ more) ≡ true → list_any (same_key (key_of r)) (map key_of done) ≡ false
fresh_rule [] r more apart = refl
fresh_rule (d ∷ ds) r more apart =
    let none = not_true (list_any (same_rule d) (ds ++ r ∷ more)) (and_left (not (list_any (same_rule d) (ds ++ r ∷ more))) (are_apart same_rule (ds ++ r ∷ more)) apart) in
    or_both (same_key (key_of r) (key_of d)) (list_any (same_key (key_of r)) (map key_of ds))
    (rules_turned r d ∙ none_at (same_rule d) ds r more none)
    (fresh_rule ds r more (and_right (not (list_any (same_rule d) (ds ++ r ∷ more))) (are_apart same_rule (ds ++ r ∷ more)) apart))

-- a name of names told apart isn't among those before it
fresh_name : (done : List Text) (t : Text) (more : List Text) → are_distinct (done ++ t ∷ more) ≡ true → is_in done t ≡ false
fresh_name [] t more once = refl
fresh_name (d ∷ ds) t more once =
    let none = not_true (list_any (bytes_eq d) (ds ++ t ∷ more)) (and_left (not (list_any (bytes_eq d) (ds ++ t ∷ more))) (are_distinct (ds ++ t ∷ more)) once) in
    or_both (bytes_eq d t) (is_in ds t)
    (none_at (bytes_eq d) ds t more none)
    (fresh_name ds t more (and_right (not (list_any (bytes_eq d) (ds ++ t ∷ more))) (are_distinct (ds ++ t ∷ more)) once))

neither : (t : Text) (xs ys : List Text) → is_in (xs ++ ys) t ≡ false → (is_in xs t ≡ false) × (is_in ys t ≡ false)
neither t [] ys none = (refl, none)
neither t (x ∷ xs) ys none =
    let rest = neither t xs ys (or_right (bytes_eq x t) (is_in (xs ++ ys) t) none) in
    (or_both (bytes_eq x t) (is_in xs t) (or_left (bytes_eq x t) (is_in (xs ++ ys) t) none) rest.0, rest.1)

-- the rules

module _ (m : Modules) (good : IsModules m) where
  record RulesRead (keys : List RuleKey) (k o : ℕ) (n : Text) (done more : List ModRule) (place : Place) (tail : Text) : Type 0 where
    keys_after : List RuleKey
    top_after : ℕ
    object_after : ℕ
    name_after : Text
    leads : Leads grammar place (flat_map (rule_text m) more) tail (state (env m done keys (rule o n None false [] []) [] None None) (top k)) (state (env m (done ++ more) keys_after (rule object_after name_after None false [] []) [] None None) (top top_after))

  rules_read : (done more : List ModRule) (keys : List RuleKey) (k o : ℕ) (n : Text) (place : Place) (tail : Text) → keys ≡ map key_of done → are_apart same_rule (done ++ more) ≡ true
      → list_all (λ (r : ModRule). is_declarable r.name) more ≡ true → list_all (has_rule (counts_of m)) more ≡ true → list_all fits_rule more ≡ true → RulesRead keys k o n done more place tail
  rules_read done [] keys k o n place tail are apart names there small = record {
    keys_after = keys;
    top_after = k;
    object_after = o;
    name_after = n;
    leads =
        subst (λ (l : List ModRule). Leads grammar place [] tail (state (env m done keys (rule o n None false [] []) [] None None) (top k)) (state (env m l keys (rule o n None false [] []) [] None None) (top k)))
        (sym (append-nil done)) (nothing grammar place tail _);
  }
  rules_read done (r ∷ more) keys k o n place tail are apart names there small =
      let fit = and_left (fits_rule r) (list_all fits_rule more) small in
      let three = and_left (fits_id r.object && fits_child r.from && list_all fits_clause r.clauses) (list_all fits_action r.actions) fit in
      let two = and_left (fits_id r.object && fits_child r.from) (list_all fits_clause r.clauses) three in
      let here = and_left (has_rule (counts_of m) r) (list_all (has_rule (counts_of m)) more) there in
      let printable : IsPrintable m good done keys r.object r.name r.from r.clauses r.actions =
      record {
        plain = plain_name r.name (and_left (is_declarable r.name) (list_all (λ (r : ModRule). is_declarable r.name) more) names);
        object = and_left (fits_id r.object) (fits_child r.from) two;
        child = and_right (fits_id r.object) (fits_child r.from) two;
        clauses = and_left (list_all (has_clause (counts_of m)) r.clauses) (list_all (has_action (counts_of m)) r.actions) here;
        actions = and_right (list_all (has_clause (counts_of m)) r.clauses) (list_all (has_action (counts_of m)) r.actions) here;
        clauses_fit = and_right (fits_id r.object && fits_child r.from) (list_all fits_clause r.clauses) three;
        actions_fit = and_right (fits_id r.object && fits_child r.from && list_all fits_clause r.clauses) (list_all fits_action r.actions) fit;
        fresh = ap (list_any (same_key (key_of r))) are ∙ fresh_rule done r more apart;
      } in
      let first = rule_read m good done keys k n o r.object r.name r.from r.spontaneous r.clauses r.actions place (flat_map (rule_text m) more ++ tail) printable in
      let rest = rules_read (done ++ r ∷ []) more (keys ++ key_of r ∷ []) 2 r.object r.name (fold advance place (rule_text m r)) tail
      (ap (λ (l : List RuleKey). l ++ key_of r ∷ []) are ∙ sym (map_more key_of done r))
      (subst (λ (l : List ModRule). are_apart same_rule l ≡ true) (sym (append_assoc done (r ∷ []) more)) apart)
      (and_right (is_declarable r.name) (list_all (λ (r : ModRule). is_declarable r.name) more) names)
      (and_right (has_rule (counts_of m) r) (list_all (has_rule (counts_of m)) more) there)
      (and_right (fits_rule r) (list_all fits_rule more) small) in
      record {
        keys_after = rest.keys_after;
        top_after = rest.top_after;
        object_after = rest.object_after;
        name_after = rest.name_after;
        leads =
            subst (λ (l : List ModRule). Leads grammar place (flat_map (rule_text m) (r ∷ more)) tail (state (env m done keys (rule o n None false [] []) [] None None) (top k)) (state (env m l rest.keys_after (rule rest.object_after rest.name_after None false [] []) [] None None) (top rest.top_after)))
            (append_assoc done (r ∷ []) more)
            (then grammar place (rule_text m r) (flat_map (rule_text m) more) tail _ _ _ first rest.leads);
      }

-- the name, the registers and the queues

-- what has been read before the first rule
abbrev head : Text → List (Text × ℕ) → List Text → Read
head name regs queues = env (record { name = name; regs = regs; queues = queues; rules = [] }) [] [] (rule 0 (109 ∷ []) None false [] []) [] None None

module _ (name : Text) where
  new_next : (done : List (Text × ℕ)) (t : Text) (rest : Stack) (place : Place) → IsPlainName t → is_among done t ≡ false
      → next full grammar (state (head name done []) (symbol.One the.NewRegister ∷ rest)) (at kind.Word t place) ≡ Some (state (head name (done ++ (t, 0) ∷ []) []) rest)
  new_next done t rest place plain fresh = rw (plain.word, plain.free, fresh, plain.some, plain.few) refl

  start_next : (done : List (Text × ℕ)) (t : Text) (n : ℕ) (rest : Stack) (place : Place) → nat_le n most_number ≡ true
      → next full grammar (state (head name (done ++ (t, 0) ∷ []) []) (symbol.One the.Start ∷ rest)) (at kind.Number (decimal n) place) ≡ Some (state (head name (done ++ (t, n) ∷ []) []) rest)
  start_next done t n rest place small =
      ap (λ k. if_small k) (number_is n small)
      ∙ if_within n most_number _ _ small
      ∙ ap (λ (r : Text × ℕ). Some (state (head name (set_last (done ++ (t, 0) ∷ []) (r.0, n)) []) rest)) (last_snoc ([], n) done (t, 0))
      ∙ ap (λ (l : List (Text × ℕ)). Some (state (head name l []) rest)) (set_last_snoc done (t, 0) (t, n))
    where
      if_small : ℕ → Option (State Read Terminal Item)
      if_small k = cond (nat_le k most_number) (Some (state (head name (with_last (done ++ (t, 0) ∷ []) k) []) rest)) None

  register_read : (done : List (Text × ℕ)) (t : Text) (n : ℕ) (place : Place) (tail : Text) → IsPlainName t → is_among done t ≡ false → nat_le n most_number ≡ true
      → Leads grammar place (register_text (t, n)) tail (state (head name done []) (top 0)) (state (head name (done ++ (t, n) ∷ []) []) (top 0))
  register_read done t n place tail plain fresh small =
      let after_name : Text = codes " " ++ (decimal n ++ (codes "\n" ++ tail)) in
      then grammar place (codes "reg " ++ t ++ codes " " ++ decimal n) (codes "\n") tail _ _ _
      (then grammar place (codes "reg " ++ t ++ codes " ") (decimal n) (codes "\n" ++ tail) _ _ _
      (then grammar place (codes "reg " ++ t) (codes " ") (decimal n ++ (codes "\n" ++ tail)) _ _ _
      (then grammar place (codes "reg ") t after_name _ _ _
      (record { tokens = at kind.Word (codes "reg") place ∷ []; lexed = refl; runs = refl })
      (word grammar (fold advance place (codes "reg ")) t after_name _ _ plain.word refl (new_next done t (symbol.One the.Start ∷ top 0) (fold advance place (codes "reg ")) plain fresh)))
      (space grammar _ (decimal n ++ (codes "\n" ++ tail)) _))
      (number grammar (fold advance place (codes "reg " ++ t ++ codes " ")) n (codes "\n" ++ tail) _ _ (number_small n small) refl (start_next done t n (top 0) (fold advance place (codes "reg " ++ t ++ codes " ")) small)))
      (feed grammar _ tail _)

  registers_read : (done more : List (Text × ℕ)) (place : Place) (tail : Text) → are_distinct (map (λ (r : Text × ℕ). r.0) done ++ map (λ (r : Text × ℕ). r.0) more) ≡ true
      → list_all is_declarable (map (λ (r : Text × ℕ). r.0) more) ≡ true → list_all (λ (r : Text × ℕ). fits r.1) more ≡ true
      → Leads grammar place (flat_map register_text more) tail (state (head name done []) (top 0)) (state (head name (done ++ more) []) (top 0))
  registers_read done [] place tail once words small =
      subst (λ (l : List (Text × ℕ)). Leads grammar place [] tail (state (head name done []) (top 0)) (state (head name l []) (top 0)))
      (sym (append-nil done)) (nothing grammar place tail _)
  registers_read done (r ∷ more) place tail once words small =
      subst (λ (l : List (Text × ℕ)). Leads grammar place (flat_map register_text (r ∷ more)) tail (state (head name done []) (top 0)) (state (head name l []) (top 0)))
      (append_assoc done (r ∷ []) more)
      (then grammar place (register_text r) (flat_map register_text more) tail _ _ _
      (register_read done r.0 r.1 place (flat_map register_text more ++ tail)
      (plain_name r.0 (and_left (is_declarable r.0) _ words))
      (among_is done r.0 ∙ fresh_name (map (λ (r : Text × ℕ). r.0) done) r.0 (map (λ (r : Text × ℕ). r.0) more) once)
      (and_left (fits r.1) _ small))
      (registers_read (done ++ r ∷ []) more (fold advance place (register_text r)) tail
      (subst (λ (l : List Text). are_distinct l ≡ true)
      (sym (append_assoc (map (λ (r : Text × ℕ). r.0) done) (r.0 ∷ []) (map (λ (r : Text × ℕ). r.0) more)) ∙ ap (λ (l : List Text). l ++ map (λ (r : Text × ℕ). r.0) more) (sym (map_more (λ (r : Text × ℕ). r.0) done r)))
      once)
      (and_right (is_declarable r.0) _ words)
      (and_right (fits r.1) _ small)))

  module _ (regs : List (Text × ℕ)) where
    -- what is to come before a queue, and after one
    abbrev level : Bool → ℕ
    level false = 0
    level true = 1

    queue_word_next : (queues : List Text) (b : Bool) (place : Place) → next full grammar (state (head name regs queues) (top (level b))) (at kind.Word (codes "queue") place) ≡ Some (state (head name regs queues) (symbol.One the.NewQueue ∷ top 1))
    queue_word_next queues true place = refl
    queue_word_next queues false place = refl

    new_queue_next : (done : List Text) (t : Text) (rest : Stack) (place : Place) → IsPlainName t → is_among regs t ≡ false → is_in done t ≡ false
        → next full grammar (state (head name regs done) (symbol.One the.NewQueue ∷ rest)) (at kind.Word t place) ≡ Some (state (head name regs (done ++ t ∷ [])) rest)
    new_queue_next done t rest place plain no_register fresh = rw (plain.word, plain.free, no_register, fresh, plain.some, plain.few) refl

    queue_read : (done : List Text) (b : Bool) (t : Text) (place : Place) (tail : Text) → IsPlainName t → is_among regs t ≡ false → is_in done t ≡ false
        → Leads grammar place (queue_text t) tail (state (head name regs done) (top (level b))) (state (head name regs (done ++ t ∷ [])) (top 1))
    queue_read done b t place tail plain no_register fresh =
        then grammar place (codes "queue " ++ t) (codes "\n") tail _ _ _
        (then grammar place (codes "queue ") t (codes "\n" ++ tail) _ _ _
        (then grammar place (codes "queue") (codes " ") (t ++ (codes "\n" ++ tail)) _ _ _
        (word grammar place (codes "queue") (codes " " ++ (t ++ (codes "\n" ++ tail))) _ _ refl refl (queue_word_next done b place))
        (space grammar _ (t ++ (codes "\n" ++ tail)) _))
        (word grammar (fold advance place (codes "queue ")) t (codes "\n" ++ tail) _ _ plain.word refl (new_queue_next done t (top 1) (fold advance place (codes "queue ")) plain no_register fresh)))
        (feed grammar _ tail _)

    record QueuesRead (b : Bool) (done more : List Text) (place : Place) (tail : Text) : Type 0 where
      level_after : Bool
      leads : Leads grammar place (flat_map queue_text more) tail (state (head name regs done) (top (level b))) (state (head name regs (done ++ more)) (top (level level_after)))

    abbrev names : List Text
    names = map (λ (r : Text × ℕ). r.0) regs

    queues_read : (b : Bool) (done more : List Text) (place : Place) (tail : Text) → are_distinct ((names ++ done) ++ more) ≡ true → list_all is_declarable more ≡ true → QueuesRead b done more place tail
    queues_read b done [] place tail once words = record {
      level_after = b;
      leads =
          subst (λ (l : List Text). Leads grammar place [] tail (state (head name regs done) (top (level b))) (state (head name regs l) (top (level b))))
          (sym (append-nil done)) (nothing grammar place tail _);
    }
    queues_read b done (t ∷ more) place tail once words =
        let apart = neither t names done (fresh_name (names ++ done) t more once) in
        let first = queue_read done b t place (flat_map queue_text more ++ tail) (plain_name t (and_left (is_declarable t) _ words)) (among_is regs t ∙ apart.0) apart.1 in
        let rest = queues_read true (done ++ t ∷ []) more (fold advance place (queue_text t)) tail
        (subst (λ (l : List Text). are_distinct l ≡ true)
        (sym (append_assoc (names ++ done) (t ∷ []) more) ∙ ap (λ (l : List Text). l ++ more) (append_assoc names done (t ∷ [])))
        once)
        (and_right (is_declarable t) _ words) in
        record {
          level_after = rest.level_after;
          leads =
              subst (λ (l : List Text). Leads grammar place (flat_map queue_text (t ∷ more)) tail (state (head name regs done) (top (level b))) (state (head name regs l) (top (level rest.level_after))))
              (append_assoc done (t ∷ []) more)
              (then grammar place (queue_text t) (flat_map queue_text more) tail _ _ _ first rest.leads);
        }

-- the end of the modules
end_next : (e : Read) (k : ℕ) (place : Place) → next full grammar (state e (top k)) (at kind.Word (codes "end") place) ≡ Some (state e [])
end_next e zero place = refl
end_next e (suc zero) place = refl
end_next e (suc (suc k)) place = refl

name_next : (n : Text) (rest : Stack) (place : Place) → IsPlainName n → next full grammar (state nothing_read (symbol.One the.Name ∷ rest)) (at kind.Word n place) ≡ Some (state (head n [] []) rest)
name_next n rest place plain = rw (plain.word, plain.free, plain.some, plain.few) refl

module _ (m : Modules) (good : IsModules m) (small : HasNumbers m) (place : Place) (tail : Text) where
  abbrev to_registers : Text
  to_registers = codes "modules " ++ m.name ++ codes "\n"

  abbrev to_queues : Text
  to_queues = to_registers ++ flat_map register_text m.regs

  abbrev to_rules : Text
  to_rules = to_queues ++ flat_map queue_text m.queues

  abbrev to_end : Text
  to_end = to_rules ++ flat_map (rule_text m) m.rules

  abbrev tail_end : Text
  tail_end = codes "end\n" ++ tail

  abbrev tail_rules : Text
  tail_rules = flat_map (rule_text m) m.rules ++ tail_end

  abbrev tail_queues : Text
  tail_queues = flat_map queue_text m.queues ++ tail_rules

  abbrev tail_registers : Text
  tail_registers = flat_map register_text m.regs ++ tail_queues

  named : Leads grammar place to_registers tail_registers (state nothing_read start) (state (head m.name [] []) (top 0))
  named =
      let plain = plain_name m.name good.name in
      then grammar place (codes "modules " ++ m.name) (codes "\n") tail_registers _ _ _
      (then grammar place (codes "modules ") m.name (codes "\n" ++ tail_registers) _ _ _
      (record { tokens = at kind.Word (codes "modules") place ∷ []; lexed = refl; runs = refl })
      (word grammar (fold advance place (codes "modules ")) m.name (codes "\n" ++ tail_registers) _ _ plain.word refl (name_next m.name (top 0) (fold advance place (codes "modules ")) plain)))
      (feed grammar _ tail_registers _)

  registers : Leads grammar (fold advance place to_registers) (flat_map register_text m.regs) tail_queues (state (head m.name [] []) (top 0)) (state (head m.name m.regs []) (top 0))
  registers = registers_read m.name [] m.regs (fold advance place to_registers) tail_queues (distinct_parts (map (λ (r : Text × ℕ). r.0) m.regs) m.queues good.names_apart).0 (registers_declarable m good) small.registers

  queues : QueuesRead m.name m.regs false [] m.queues (fold advance place to_queues) tail_rules
  queues =
      queues_read m.name m.regs false [] m.queues (fold advance place to_queues) tail_rules
      (subst (λ (l : List Text). are_distinct (l ++ m.queues) ≡ true) (sym (append-nil (map (λ (r : Text × ℕ). r.0) m.regs))) good.names_apart)
      (queues_declarable m good)

  all_rules : RulesRead m good [] (level m.name m.regs queues.level_after) 0 (109 ∷ []) [] m.rules (fold advance place to_rules) tail_end
  all_rules = rules_read m good [] m.rules [] (level m.name m.regs queues.level_after) 0 (109 ∷ []) (fold advance place to_rules) tail_end refl good.rules_apart good.rule_names good.there small.rules

  abbrev last : Read
  last = env m m.rules all_rules.keys_after (rule all_rules.object_after all_rules.name_after None false [] []) [] None None

  ended : Leads grammar (fold advance place to_end) (codes "end\n") tail (state last (top all_rules.top_after)) (state last [])
  ended =
      then grammar (fold advance place to_end) (codes "end") (codes "\n") tail _ _ _
      (word grammar (fold advance place to_end) (codes "end") (codes "\n" ++ tail) _ _ refl refl (end_next last all_rules.top_after (fold advance place to_end)))
      (feed grammar _ tail _)

  whole : Leads grammar place (modules_text m) tail (state nothing_read start) (state last [])
  whole =
      then grammar place to_end (codes "end\n") tail _ _ _
      (then grammar place to_rules (flat_map (rule_text m) m.rules) tail_end _ _ _
      (then grammar place to_queues (flat_map queue_text m.queues) tail_rules _ _ _
      (then grammar place to_registers (flat_map register_text m.regs) tail_queues _ _ _ named registers)
      queues.leads)
      all_rules.leads)
      ended

-- the canonical text of modules reads as these
pub reads_back : (m : Modules) → IsModules m → HasNumbers m → ReadsBack m
reads_back m good small = λ place tail. record {
  read = last m good small place tail;
  part = part grammar place (modules_text m) tail (state nothing_read start) (last m good small place tail) (whole m good small place tail);
  says = refl;
}
