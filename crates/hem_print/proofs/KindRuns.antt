-- Fields, directories and kinds read back.
use Rattle.std.proofs.Common.{◌≡◌, ℕ, ◌+◌, ◌≤◌, true, false, not, List, [], ◌∷◌, ◌++◌, map, length, take, refl, sym, ap, ◌∙◌, arith, Option, Some, None, append_assoc, append-nil, nat_lt}
use Rattle.std.specs.List.{list_all, list_any}
use Rattle.std.specs.Str.{bytes_eq}
use Rattle.std.proofs.lemmas.List.{map-append}
use Rattle.std.proofs.lemmas.List.Folds.{list_any-append}
use Rattle.std.proofs.lemmas.Grind.{flat_map-append}
use Rattle.hem_base.specs.declared.ids.Status8.{Status8}
use Rattle.hem_base.specs.declared.words.Reserved.{Reserved}
use Rattle.hem_base.specs.declared.words.Reserved.TheVariants as word
use Rattle.hem_text.specs.declared.symbol.Symbol.{Symbol}
use Rattle.hem_text.specs.declared.symbol.Symbol.TheVariants.{Many}
use Rattle.hem_text.specs.Grammars.{state}
use Rattle.hem_base.specs.Words.{word_bytes}
use Rattle.hem_syntax.specs.declared.rule.Rule.{Rule}
use Rattle.hem_grammar.specs.declared.terminals.Terminal.{Terminal}
use Rattle.hem_grammar.specs.declared.terminals.Terminal.TheVariants as the
use Rattle.hem_grammar.specs.declared.terminals.Part.TheVariants as part
use Rattle.hem_grammar.specs.declared.terminals.Item.{Item}
use Rattle.hem_grammar.specs.declared.terminals.Item.TheVariants as item
use Rattle.hem_grammar.specs.Grammar.{w, p as d, root, mid, leaf}
use Rattle.hem_syntax.specs.Protocol.{Text, Protocol, KindPart}
use Rattle.hem_syntax.specs.Lawful.{is_declarable, are_distinct, counts_of, is_rule, named_once, names_after}
use Rattle.hem_grammar.specs.Draft.{is_in, is_among, first_status, no_rule, set_last}
use Rattle.hem_print.specs.Canonical.{Word, plain, named, status_name, field_line, dir_lines, rule_line, rule_words, rule_name, end_line, kind_lines}
use Rattle.hem_print.proofs.Steps.{go, pick, skip}
use Rattle.hem_print.proofs.Naming.{and_left, and_right, both, room, room_after, not_true, not_false, or_left, or_right, or_both, cond_true, cond_false, among_is, last_snoc, set_last_snoc}
use Rattle.hem_print.proofs.SetRuns.{status_in}
use Rattle.hem_print.proofs.Around.{Around, env, AreNamed, status_known, status_is}
use Rattle.hem_print.proofs.RuleRuns.{words_of}
use Rattle.hem_print.proofs.RulesRuns.{new_name, rules_run}

-- a kind of which the fields alone are known
abbrev pub only_fields : List (Text × Status8) → KindPart
only_fields fs = record { fields = fs; dir = None; rules = [] }

-- of distinct names each is new to those before it
pub new_before : (done : List Text) (n : Text) (ns : List Text) → are_distinct (done ++ n ∷ ns) ≡ true → is_in done n ≡ false
new_before [] n ns once = refl
new_before (m ∷ ms) n ns once =
    or_both _ _
    (or_left (bytes_eq m n) (list_any (bytes_eq m) ns)
    (or_right (list_any (bytes_eq m) ms) (list_any (bytes_eq m) (n ∷ ns))
    (sym (list_any-append (bytes_eq m) ms (n ∷ ns)) ∙ not_true _ (and_left (not (list_any (bytes_eq m) (ms ++ n ∷ ns))) _ once))))
    (new_before ms n ns (and_right (not (list_any (bytes_eq m) (ms ++ n ∷ ns))) _ once))

-- a field
field_run : (p : Protocol) (c : Around) → are_distinct p.statuses ≡ true → (rest : List (Symbol Terminal Item)) (done : List (Text × Status8)) (f : Text × Status8) →
    is_declarable f.0 ≡ true → is_among done f.0 ≡ false → nat_lt f.1.0 (length p.statuses) ≡ true → nat_lt (length done) 3 ≡ true → (tail : List Word) →
    go (state (env p (only_fields done) c no_rule) (Many item.Fields ∷ rest)) (plain word.Field ∷ named f.0 ∷ plain word.Init ∷ named (status_name p f.1) ∷ tail)
    ≡ go (state (env p (only_fields (done ++ f ∷ [])) c no_rule) (Many item.Fields ∷ rest)) tail
field_run p c once rest done f good fresh has few tail =
    let name = new_name f.0 good in
    let next = Many item.Fields ∷ rest in
    let begun = env p (only_fields (done ++ (f.0, first_status) ∷ [])) c no_rule in
    pick (env p (only_fields done) c no_rule) (plain word.Field) (named f.0 ∷ plain word.Init ∷ named (status_name p f.1) ∷ tail) (Many item.Fields) rest (the.Part part.Field) refl refl few
    ∙ pick (env p (only_fields done) c no_rule) (named f.0) (plain word.Init ∷ named (status_name p f.1) ∷ tail) (d part.NewField) (w word.Init ∷ d part.FieldStart ∷ next) (the.Part part.NewField) (cond_true _ _ _ name.spelled) (not_false _ fresh) (both name.short few)
    ∙ pick begun (named (status_name p f.1)) tail (d part.FieldStart) next (the.Part part.FieldStart) (cond_true _ _ _ (status_known p f.1 has)) refl refl
    ∙ ap (λ (l : Text × Status8). go (state (env p (only_fields (set_last (done ++ (f.0, first_status) ∷ []) (l.0, status_in p.statuses (status_name p f.1)))) c no_rule) next) tail) (last_snoc ([], status_in p.statuses (status_name p f.1)) done (f.0, first_status))
    ∙ ap (λ (l : List (Text × Status8)). go (state (env p (only_fields l) c no_rule) next) tail) (set_last_snoc done (f.0, first_status) (f.0, status_in p.statuses (status_name p f.1)))
    ∙ ap (λ (s : Status8). go (state (env p (only_fields (done ++ (f.0, s) ∷ [])) c no_rule) next) tail) (status_is p f.1 once has)

-- the fields of a kind, and the word after them
pub fields_run : (p : Protocol) (c : Around) → are_distinct p.statuses ≡ true → (rest : List (Symbol Terminal Item)) (after : Reserved) (ws : List Word) → bytes_eq (word_bytes word.Field) (word_bytes after) ≡ false →
    (done fs : List (Text × Status8)) → list_all is_declarable (map (λ f. f.0) fs) ≡ true → are_distinct (map (λ f. f.0) (done ++ fs)) ≡ true → list_all (λ f. nat_lt f.1.0 (length p.statuses)) fs ≡ true → length done + length fs ≤ 3 →
    go (state (env p (only_fields done) c no_rule) (Many item.Fields ∷ rest)) (words_of (map (field_line p) fs) ++ plain after ∷ ws)
    ≡ go (state (env p (only_fields (done ++ fs)) c no_rule) rest) (plain after ∷ ws)
fields_run p c once rest after ws other done [] good apart has few =
    skip (env p (only_fields done) c no_rule) (plain after) ws (Many item.Fields) rest refl (cond_false _ _ _ other)
    ∙ ap (λ (l : List (Text × Status8)). go (state (env p (only_fields l) c no_rule) rest) (plain after ∷ ws)) (sym (append-nil done))
fields_run p c once rest after ws other done (f ∷ fs) good apart has few =
    field_run p c once rest done f (and_left (is_declarable f.0) _ good) (fresh apart) (and_left (nat_lt f.1.0 (length p.statuses)) _ has) (room 3 (length done) (length fs) few) (words_of (map (field_line p) fs) ++ plain after ∷ ws)
    ∙ fields_run p c once rest after ws other (done ++ f ∷ []) fs (and_right (is_declarable f.0) _ good) (ap (λ (l : List (Text × Status8)). are_distinct (map (λ g. g.0) l)) (append_assoc done (f ∷ []) fs) ∙ apart) (and_right (nat_lt f.1.0 (length p.statuses)) _ has) (room_after 3 done f (length fs) few)
    ∙ ap (λ (l : List (Text × Status8)). go (state (env p (only_fields l) c no_rule) rest) (plain after ∷ ws)) (append_assoc done (f ∷ []) fs)
  where
    fresh : are_distinct (map (λ g. g.0) (done ++ f ∷ fs)) ≡ true → is_among done f.0 ≡ false
    fresh apart = among_is done f.0 ∙ new_before (map (λ g. g.0) done) f.0 (map (λ g. g.0) fs) (ap are_distinct (sym (map-append (λ g. g.0) done (f ∷ fs))) ∙ apart)

-- what is known of a kind that is read
pub record IsRead (p : Protocol) (k : KindPart) : Type 0 where
  pub names : AreNamed p k
  pub rule_words : list_all is_declarable p.rule_names ≡ true
  pub rule_names : are_distinct p.rule_names ≡ true
  pub few_fields : length k.fields ≤ 3
  pub starts : list_all (λ f. nat_lt f.1.0 (length p.statuses)) k.fields ≡ true
  pub few_rules : length k.rules ≤ 64
  pub rules : list_all (is_rule (counts_of p k)) k.rules ≡ true
  pub rules_once : named_once k.rules ≡ true

-- between two kinds
abbrev pub between : List Text → KindPart → KindPart → Around
between names r m = record { names = names; root = r; mid = m; dir = None; rules = [] }

-- how a kind's words are grouped
regroup_dir : (p : Protocol) (k : KindPart) (s : Status8) (v : Reserved) (ws : List Word) → k.dir ≡ Some s →
    words_of (kind_lines p v k) ++ ws ≡ plain word.Kind ∷ plain v ∷ (words_of (map (field_line p) k.fields) ++ (plain word.Dir ∷ plain word.Init ∷ named (status_name p s) ∷ (words_of (map (rule_line p k) k.rules) ++ plain word.End ∷ ws)))
regroup_dir p k s v ws is = rw is (ap (λ l. plain word.Kind ∷ plain v ∷ l) (cut (map (field_line p) k.fields) (map (rule_line p k) k.rules)))
  where
    cut : (fs rs : List _) → words_of (fs ++ dir_lines p (Some s) ++ rs ++ end_line ∷ []) ++ ws ≡ words_of fs ++ (plain word.Dir ∷ plain word.Init ∷ named (status_name p s) ∷ (words_of rs ++ plain word.End ∷ ws))
    cut fs rs = simp (flat_map-append, append_assoc)

-- the fields, the directory and the rules of a root or a mid
dir_run : (p : Protocol) (k : KindPart) → IsRead p k → (last : List (Symbol Terminal Item)) (ws : List Word) (r m : KindPart) (i i' : ℕ) (s : Status8) → nat_lt s.0 (length p.statuses) ≡ true → names_after i k.rules ≡ Some i' → i' ≤ length p.rule_names →
    go (state (env p (only_fields []) (between (take i p.rule_names) r m) no_rule) (Many item.Fields ∷ w word.Dir ∷ w word.Init ∷ d part.DirStart ∷ Many item.Rules ∷ last))
    (words_of (map (field_line p) k.fields) ++ (plain word.Dir ∷ plain word.Init ∷ named (status_name p s) ∷ (words_of (map (rule_line p k) k.rules) ++ plain word.End ∷ ws)))
    ≡ go (state (env p k (record { names = take i' p.rule_names; root = r; mid = m; dir = Some s; rules = k.rules }) no_rule) last) (plain word.End ∷ ws)
dir_run p k read last ws r m i i' s has after le =
    let c : Around = between (take i p.rule_names) r m in
    let c1 : Around = record c { dir = Some s } in
    let s1 = Many item.Rules ∷ last in
    let s0 = w word.Dir ∷ w word.Init ∷ d part.DirStart ∷ s1 in
    let t1 = words_of (map (rule_line p k) k.rules) ++ plain word.End ∷ ws in
    fields_run p c read.names.statuses s0 word.Dir (plain word.Init ∷ named (status_name p s) ∷ t1) refl [] k.fields read.names.field_words read.names.fields read.starts (omega (arith, read.few_fields))
    ∙ pick (env p k c no_rule) (named (status_name p s)) t1 (d part.DirStart) s1 (the.Part part.DirStart) (cond_true _ _ _ (status_known p s has)) refl refl
    ∙ ap (λ (q : Status8). go (state (env p k (record c { dir = Some q }) no_rule) s1) t1) (status_is p s read.names.statuses has)
    ∙ rules_run p k read.names read.rule_words read.rule_names last ws c1 i refl k.rules read.rules read.rules_once (omega (arith, read.few_rules)) i' after le

-- a root, and the word that ends it
pub root_run : (p : Protocol) (k : KindPart) → IsRead p k → (rest : List (Symbol Terminal Item)) (ws : List Word) (r m : KindPart) (i i' : ℕ) (s : Status8) → k.dir ≡ Some s → nat_lt s.0 (length p.statuses) ≡ true → names_after i k.rules ≡ Some i' → i' ≤ length p.rule_names →
    go (state (env p (only_fields []) (between (take i p.rule_names) r m) no_rule) (root ++ rest)) (words_of (kind_lines p word.Root k) ++ ws)
    ≡ go (state (env p (only_fields []) (between (take i' p.rule_names) k m) no_rule) rest) ws
root_run p k read rest ws r m i i' s is has after le =
    ap (λ v. go (state (env p (only_fields []) (between (take i p.rule_names) r m) no_rule) (root ++ rest)) v) (regroup_dir p k s word.Root ws is)
    ∙ dir_run p k read (d part.EndRoot ∷ rest) ws r m i i' s has after le
    ∙ ap (λ (q : Option Status8). go (state (env p (only_fields []) (between (take i' p.rule_names) (record { fields = k.fields; dir = q; rules = k.rules }) m) no_rule) rest) ws) (sym is)

-- a mid, and the word that ends it
pub mid_run : (p : Protocol) (k : KindPart) → IsRead p k → (rest : List (Symbol Terminal Item)) (ws : List Word) (r m : KindPart) (i i' : ℕ) (s : Status8) → k.dir ≡ Some s → nat_lt s.0 (length p.statuses) ≡ true → names_after i k.rules ≡ Some i' → i' ≤ length p.rule_names →
    go (state (env p (only_fields []) (between (take i p.rule_names) r m) no_rule) (mid ++ rest)) (words_of (kind_lines p word.Mid k) ++ ws)
    ≡ go (state (env p (only_fields []) (between (take i' p.rule_names) r k) no_rule) rest) ws
mid_run p k read rest ws r m i i' s is has after le =
    ap (λ v. go (state (env p (only_fields []) (between (take i p.rule_names) r m) no_rule) (mid ++ rest)) v) (regroup_dir p k s word.Mid ws is)
    ∙ dir_run p k read (d part.EndMid ∷ rest) ws r m i i' s has after le
    ∙ ap (λ (q : Option Status8). go (state (env p (only_fields []) (between (take i' p.rule_names) r (record { fields = k.fields; dir = q; rules = k.rules })) no_rule) rest) ws) (sym is)

regroup_leaf : (p : Protocol) (k : KindPart) (ws : List Word) → k.dir ≡ None →
    words_of (kind_lines p word.Leaf k) ++ ws ≡ plain word.Kind ∷ plain word.Leaf ∷ (words_of (map (field_line p) k.fields) ++ (words_of (map (rule_line p k) k.rules) ++ plain word.End ∷ ws))
regroup_leaf p k ws is = rw is (ap (λ l. plain word.Kind ∷ plain word.Leaf ∷ l) (cut (map (field_line p) k.fields) (map (rule_line p k) k.rules)))
  where
    cut : (fs rs : List _) → words_of (fs ++ dir_lines p None ++ rs ++ end_line ∷ []) ++ ws ≡ words_of fs ++ (words_of rs ++ plain word.End ∷ ws)
    cut fs rs = simp (flat_map-append, append_assoc)

-- the fields and the rules of a leaf, and the word that ends it
pub leaf_run : (p : Protocol) (k : KindPart) → IsRead p k → (rest : List (Symbol Terminal Item)) (ws : List Word) (r m : KindPart) (i i' : ℕ) → k.dir ≡ None → names_after i k.rules ≡ Some i' → i' ≤ length p.rule_names →
    go (state (env p (only_fields []) (between (take i p.rule_names) r m) no_rule) (leaf ++ rest)) (words_of (kind_lines p word.Leaf k) ++ ws)
    ≡ go (state (env p k (record { names = take i' p.rule_names; root = r; mid = m; dir = None; rules = k.rules }) no_rule) rest) ws
leaf_run p k read rest ws r m i i' is after le =
    let c : Around = between (take i p.rule_names) r m in
    ap (λ v. go (state (env p (only_fields []) c no_rule) (leaf ++ rest)) v) (regroup_leaf p k ws is)
    ∙ to_rules k.rules
    ∙ rules_run p k read.names read.rule_words read.rule_names (w word.End ∷ rest) ws c i refl k.rules read.rules read.rules_once (omega (arith, read.few_rules)) i' after le
  where
    to_rules : (ys : List Rule) →
        go (state (env p (only_fields []) (between (take i p.rule_names) r m) no_rule) (Many item.Fields ∷ Many item.Rules ∷ w word.End ∷ rest)) (words_of (map (field_line p) k.fields) ++ (words_of (map (rule_line p k) ys) ++ plain word.End ∷ ws))
        ≡ go (state (env p k (between (take i p.rule_names) r m) no_rule) (Many item.Rules ∷ w word.End ∷ rest)) (words_of (map (rule_line p k) ys) ++ plain word.End ∷ ws)
    to_rules [] = fields_run p (between (take i p.rule_names) r m) read.names.statuses (Many item.Rules ∷ w word.End ∷ rest) word.End ws refl [] k.fields read.names.field_words read.names.fields read.starts (omega (arith, read.few_fields))
    to_rules (y ∷ ys) = fields_run p (between (take i p.rule_names) r m) read.names.statuses (Many item.Rules ∷ w word.End ∷ rest) word.Rule (named (rule_name p y.name) ∷ ((rule_words p k y ++ words_of (map (rule_line p k) ys)) ++ plain word.End ∷ ws)) refl [] k.fields read.names.field_words read.names.fields read.starts (omega (arith, read.few_fields))
