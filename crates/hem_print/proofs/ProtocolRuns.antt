-- Protocols read back.
use Rattle.std.proofs.Common.{◌≡◌, ℕ, ◌≤◌, Bool, true, false, not, ◌||◌, List, [], ◌∷◌, ◌++◌, map, length, take, take_all, refl, sym, ap, ◌∙◌, arith, Option, Some, None, append_assoc, nat_lt}
use Rattle.std.specs.Prelude.{option_and_then}
use Rattle.std.specs.List.{list_all, list_any}
use Rattle.std.specs.Option.{option_map_or}
use Rattle.std.specs.Str.{bytes_eq}
use Rattle.std.proofs.lemmas.List.Folds.{list_any-append, list_all-append}
use Rattle.std.proofs.lemmas.Grind.{flat_map-append}
use Rattle.hem_base.specs.declared.ids.Status8.{Status8}
use Rattle.hem_base.specs.declared.words.Reserved.TheVariants as word
use Rattle.hem_text.specs.declared.symbol.Symbol.{Symbol}
use Rattle.hem_text.specs.Grammars.{state}
use Rattle.hem_grammar.specs.declared.terminals.Terminal.{Terminal}
use Rattle.hem_grammar.specs.declared.terminals.Terminal.TheVariants as the
use Rattle.hem_grammar.specs.declared.terminals.Part.TheVariants as part
use Rattle.hem_grammar.specs.declared.terminals.Item.{Item}
use Rattle.hem_grammar.specs.Grammar.{w, p as d, start, root, mid, leaf}
use Rattle.hem_syntax.specs.Protocol.{Text, Protocol, KindPart, empty_part}
use Rattle.hem_syntax.specs.Lawful.{is_declarable, are_distinct, has_status, names_after, IsPart, IsProtocol}
use Rattle.hem_grammar.specs.Draft.{Read, nothing, is_in, no_rule, protocol_of}
use Rattle.hem_print.specs.Canonical.{plain, named, Line, field_line, dir_lines, rule_line, message_line, declaration_lines, kind_lines, end_line, protocol_lines}
use Rattle.hem_print.proofs.Steps.{go, pick}
use Rattle.hem_print.proofs.Naming.{and_left, and_right, not_true, or_left, or_right, or_both, cond_true, bytes_same, same_bytes}
use Rattle.hem_print.proofs.Around.{env}
use Rattle.hem_print.proofs.RuleNames.{names_grow, names_after-append}
use Rattle.hem_print.proofs.RuleRuns.{words_of}
use Rattle.hem_print.proofs.RulesRuns.{new_name}
use Rattle.hem_print.proofs.KindRuns.{IsRead, root_run, mid_run, leaf_run}
use Rattle.hem_print.proofs.DeclarationRuns.{declarations_run}

-- names told apart

distinct_left : (xs ys : List Text) → are_distinct (xs ++ ys) ≡ true → are_distinct xs ≡ true
distinct_left [] ys h = refl
distinct_left (x ∷ xs) ys h =
    let other : list_any (bytes_eq x) xs ≡ false = or_left _ _ (sym (list_any-append (bytes_eq x) xs ys) ∙ not_true _ (and_left (not (list_any (bytes_eq x) (xs ++ ys))) _ h)) in
    rw (other, distinct_left xs ys (and_right (not (list_any (bytes_eq x) (xs ++ ys))) _ h)) refl

distinct_right : (xs ys : List Text) → are_distinct (xs ++ ys) ≡ true → are_distinct ys ≡ true
distinct_right [] ys h = h
distinct_right (x ∷ xs) ys h = distinct_right xs ys (and_right (not (list_any (bytes_eq x) (xs ++ ys))) _ h)

equals_there : (n : Text) (ys : List Text) → is_in ys n ≡ true → list_any (bytes_eq n) ys ≡ false → ⊥
equals_there n [] there none = absurd cc
equals_there n (y ∷ ys) there none = at (bytes_eq y n) refl there (λ h. equals_there n ys h (or_right (bytes_eq n y) (list_any (bytes_eq n) ys) none))
  where
    clash : {b : Bool} → b ≡ true → b ≡ false → ⊥
    clash e f = cc

    at : (b : Bool) → bytes_eq y n ≡ b → (b || is_in ys n) ≡ true → (is_in ys n ≡ true → ⊥) → ⊥
    at true is h later = clash (ap (bytes_eq n) (bytes_same y n is) ∙ same_bytes n) (or_left (bytes_eq n y) (list_any (bytes_eq n) ys) none)
    at false is h later = later h

distinct_apart : (xs ys : List Text) (n : Text) → are_distinct (xs ++ ys) ≡ true → is_in ys n ≡ true → is_in xs n ≡ false
distinct_apart [] ys n h there = refl
distinct_apart (x ∷ xs) ys n h there =
    or_both _ _ (other (bytes_eq x n) refl) (distinct_apart xs ys n (and_right (not (list_any (bytes_eq x) (xs ++ ys))) _ h) there)
  where
    none : list_any (bytes_eq x) ys ≡ false
    none = or_right (list_any (bytes_eq x) xs) (list_any (bytes_eq x) ys) (sym (list_any-append (bytes_eq x) xs ys) ∙ not_true _ (and_left (not (list_any (bytes_eq x) (xs ++ ys))) _ h))

    other : (b : Bool) → bytes_eq x n ≡ b → bytes_eq x n ≡ false
    other true is = absurd (equals_there n ys there (ap (λ (m : Text). list_any (bytes_eq m) ys) (sym (bytes_same x n is)) ∙ none))
    other false is = is

-- what is known of each kind of a protocol
pub kind_read : (p : Protocol) (k : KindPart) → IsProtocol p → IsPart p k → IsRead p k
kind_read p k good kind = record {
  names = record {
    statuses = distinct_left p.statuses (map (λ m. m.0) p.messages) good.names_once;
    messages = distinct_right p.statuses (map (λ m. m.0) p.messages) good.names_once;
    fields = kind.fields_once;
    status_words = and_left (list_all is_declarable p.statuses) _ (sym (list_all-append is_declarable p.statuses (map (λ m. m.0) p.messages)) ∙ good.names);
    message_words = and_right (list_all is_declarable p.statuses) _ (sym (list_all-append is_declarable p.statuses (map (λ m. m.0) p.messages)) ∙ good.names);
    field_words = kind.field_names;
    some = good.some_statuses;
    few = good.few_statuses;
    apart = λ n there. distinct_apart p.statuses (map (λ m. m.0) p.messages) n good.names_once there;
  };
  rule_words = good.rule_names;
  rule_names = good.rule_names_once;
  few_fields = kind.few_fields;
  starts = kind.starts;
  few_rules = kind.few_rules;
  rules = kind.rules;
  rules_once = kind.rules_once;
}

-- the first status of a directory that is there
pub record Dir (p : Protocol) (dir : Option Status8) : Type 0 where
  pub status : Status8
  pub is : dir ≡ Some status
  pub has : nat_lt status.0 (length p.statuses) ≡ true

pub dir_of : (p : Protocol) (n : ℕ) (dir : Option Status8) → option_map_or (has_status (record { statuses = length p.statuses; messages = length p.messages; fields = n })) dir false ≡ true → Dir p dir
dir_of p n None h = absurd cc
dir_of p n (Some s) h = record { status = s; is = refl; has = h }

-- how many rule names there are after each kind
pub record Names (p : Protocol) : Type 0 where
  pub first : ℕ
  pub second : ℕ
  pub root : names_after 0 p.root.rules ≡ Some first
  pub mid : names_after first p.mid.rules ≡ Some second
  pub leaf : names_after second p.leaf.rules ≡ Some (length p.rule_names)
  pub first_few : first ≤ length p.rule_names
  pub second_few : second ≤ length p.rule_names

and_then_ok : {A B : Type 0} (f : A → Option B) (o : Option A) (y : B) → option_and_then f o ≡ Some y → (x : A) × (o ≡ Some x) × (f x ≡ Some y)
and_then_ok f None y h = absurd cc
and_then_ok f (Some x) y h = (x, refl, h)

pub names_of : (p : Protocol) → IsProtocol p → Names p
names_of p good =
    let outer = and_then_ok (λ n. names_after n p.leaf.rules) (names_after 0 (p.root.rules ++ p.mid.rules)) (length p.rule_names) (sym (names_after-append 0 (p.root.rules ++ p.mid.rules) p.leaf.rules) ∙ good.rule_names_in_order) in
    let inner = and_then_ok (λ n. names_after n p.mid.rules) (names_after 0 p.root.rules) outer.0 (sym (names_after-append 0 p.root.rules p.mid.rules) ∙ outer.1) in
    record {
      first = inner.0;
      second = outer.0;
      root = inner.1;
      mid = inner.2;
      leaf = outer.2;
      first_few = omega (arith, names_grow inner.0 p.mid.rules outer.0 inner.2, names_grow outer.0 p.leaf.rules (length p.rule_names) outer.2);
      second_few = names_grow outer.0 p.leaf.rules (length p.rule_names) outer.2;
    }

-- the lines of a kind behind its first word
abbrev pub behind_kind : Protocol → KindPart → List Line
behind_kind p k = map (field_line p) k.fields ++ dir_lines p k.dir ++ map (rule_line p k) k.rules ++ (end_line ∷ [])

regroup : (ds r m l : List Line) →
    words_of (ds ++ r ++ m ++ l ++ (end_line ∷ [])) ≡ words_of ds ++ (words_of r ++ (words_of m ++ (words_of l ++ (plain word.End ∷ []))))
regroup ds r m l = simp (flat_map-append, append_assoc)

-- a protocol that has been read back
pub record IsBack (p : Protocol) : Type 0 where
  pub env : Read
  pub runs : go (state nothing start) (words_of (protocol_lines p)) ≡ Some (state env [])
  pub says : protocol_of env ≡ p

-- the protocol with another leaf
abbrev with_leaf : Protocol → KindPart → Protocol
with_leaf p k = record p { leaf = k }

pub protocol_back : (p : Protocol) → IsProtocol p → IsBack p
protocol_back p good =
    let read_root = kind_read p p.root good good.root in
    let read_mid = kind_read p p.mid good good.mid in
    let read_leaf = kind_read p p.leaf good good.leaf in
    let names = names_of p good in
    let dir_root = dir_of p (length p.root.fields) p.root.dir good.root_dir in
    let dir_mid = dir_of p (length p.mid.fields) p.mid.dir good.mid_dir in
    let w3 = words_of (kind_lines p word.Leaf p.leaf) ++ (plain word.End ∷ []) in
    let w2 = words_of (kind_lines p word.Mid p.mid) ++ w3 in
    let w1 = words_of (kind_lines p word.Root p.root) ++ w2 in
    let w0 = words_of (map message_line p.messages) ++ w1 in
    let r3 : List (Symbol Terminal Item) = w word.End ∷ [] in
    let r2 = leaf ++ r3 in
    let r1 = mid ++ r2 in
    let few_rule_names : length p.rule_names ≤ length p.rule_names = omega arith in
    record {
      env = env p p.leaf (record { names = take (length p.rule_names) p.rule_names; root = p.root; mid = p.mid; dir = None; rules = p.leaf.rules }) no_rule;
      runs =
          ap (λ v. go (state nothing start) v)
          (regroup (declaration_lines p) (kind_lines p word.Root p.root) (kind_lines p word.Mid p.mid) (kind_lines p word.Leaf p.leaf)
          ∙ ap (λ v. plain word.Protocol ∷ named p.name ∷ plain word.Status ∷ v) (append_assoc (map (λ n. named n) p.statuses) (words_of (map message_line p.messages)) w1))
          ∙ pick nothing (named p.name) (plain word.Status ∷ (map (λ n. named n) p.statuses ++ w0)) (d part.Name) _ (the.Part part.Name) (cond_true _ _ _ (new_name p.name good.name).spelled) refl (new_name p.name good.name).short
          ∙ declarations_run p.name p.statuses p.messages (root ++ r1) ((plain word.Root ∷ words_of (behind_kind p p.root)) ++ w2) good.some_statuses good.few_statuses good.few_messages
          read_root.names.status_words read_root.names.message_words read_root.names.statuses good.names_once
          ∙ root_run p p.root read_root r1 w2 empty_part empty_part 0 names.first dir_root.status dir_root.is dir_root.has names.root names.first_few
          ∙ mid_run p p.mid read_mid r2 w3 p.root empty_part names.first names.second dir_mid.status dir_mid.is dir_mid.has names.mid names.second_few
          ∙ leaf_run p p.leaf read_leaf r3 (plain word.End ∷ []) p.root p.mid names.second (length p.rule_names) good.leaf_dir names.leaf few_rule_names;
      says =
          ap (λ (l : List Text). protocol_of (env p p.leaf (record { names = l; root = p.root; mid = p.mid; dir = None; rules = p.leaf.rules }) no_rule)) (take_all (length p.rule_names) p.rule_names few_rule_names)
          ∙ ap (λ (q : Option Status8). with_leaf p (record { fields = p.leaf.fields; dir = q; rules = p.leaf.rules })) (sym good.leaf_dir);
    }
