-- No two registers have one name, and no two queues, since modules may be written.
use Rattle.std.proofs.Common.{◌≡◌, refl, ap, sym, ◌∙◌, ℕ, zero, suc, ◌<◌, arith, Bool, true, false, not, ◌&&◌, ◌||◌, List, [], ◌∷◌, ◌++◌, length, map, take, get_or, Option, Some, None}
use Rattle.std.specs.Prelude.{codes, slice_get, option_map}
use Rattle.std.specs.List.{list_any, flat_map, enumerate_from}
use Rattle.std.specs.Str.{bytes_eq}
use Rattle.std.proofs.lemmas.List.Folds.{list_any-append}
use Rattle.std.proofs.lemmas.Option.{slice_get-map, slice_get-get_or}
use Rattle.hem_base.specs.declared.ids.Kind.{Kind}
use Rattle.hem_base.specs.declared.ids.Kind.TheVariants.{Root, Mid, Leaf}
use Rattle.hem_base.specs.declared.ids.RuleId.{RuleId}
use Rattle.hem_syntax.specs.declared.rule.Rule.{Rule}
use Rattle.hem_syntax.specs.declared.rule.Side.TheVariants.{Up, Down}
use Rattle.hem_syntax.specs.Protocol.{Protocol, KindPart, part, rule_named}
use Rattle.hem_syntax.specs.Lawful.{IsProtocol, IsPart, are_distinct}
use Rattle.hem_syntax.specs.Names.{is_in, is_among}
use Rattle.hem_rows.specs.Rows.{AllHaveTemplates}
use Rattle.hem_rows.proofs.Choices.{both, not-true}
use Rattle.hem_tree.specs.Tree.{Tree, IsLawful, below, children_of}
use Rattle.hem_module.specs.Lawful.{IsModules}
use Rattle.hem_emit.specs.Names.{field, val, entry, awaits}
use Rattle.hem_emit.specs.Layout.{lock_registers, registers, queues}
use Rattle.hem_emit.specs.Written.{name_of_reg, name_of_queue, written_register, modules_of}
use Rattle.hem_translate.specs.declared.tables.Reg.{Reg as Register}
use Rattle.hem_translate.specs.declared.tables.Queue.{Queue as Listed}
use Rattle.hem_translate.specs.Places.{reg_of, queue_of}

neither : (a b : Bool) → (a || b) ≡ false → (a ≡ false) × (b ≡ false)
neither true b is = cc
neither false b is = (refl, is)

neither_is : (a b : Bool) → a ≡ false → b ≡ false → (a || b) ≡ false
neither_is a b one other = rw (one, other) refl

not_false : (b : Bool) → b ≡ false → not b ≡ true
not_false b is = rw is refl

both_are : (a b : Bool) → a ≡ true → b ≡ true → (a && b) ≡ true
both_are a b one other = rw (one, other) refl

-- of distinct names the first are, and the others
first_distinct : (xs ys : List (List ℕ)) → are_distinct (xs ++ ys) ≡ true → are_distinct xs ≡ true
first_distinct [] ys once = refl
first_distinct (x ∷ xs) ys once =
    let parts = both (not (list_any (bytes_eq x) (xs ++ ys))) (are_distinct (xs ++ ys)) once in
    let far = neither (list_any (bytes_eq x) xs) (list_any (bytes_eq x) ys) (sym (list_any-append (bytes_eq x) xs ys) ∙ not-true _ parts.0) in
    both_are _ _ (not_false _ far.0) (first_distinct xs ys parts.1)

others_distinct : (xs ys : List (List ℕ)) → are_distinct (xs ++ ys) ≡ true → are_distinct ys ≡ true
others_distinct [] ys once = once
others_distinct (x ∷ xs) ys once = others_distinct xs ys (both (not (list_any (bytes_eq x) (xs ++ ys))) (are_distinct (xs ++ ys)) once).1

pub map_map : {A B C : Type 0} (f : B → C) (g : A → B) (xs : List A) → map f (map g xs) ≡ map (λ x. f (g x)) xs
map_map f g [] = refl
map_map f g (x ∷ xs) = ap (λ ys. f (g x) ∷ ys) (map_map f g xs)

-- what passes nowhere doesn't pass at a place
none_at : {A : Type 0} (test : A → Bool) (xs : List A) (i : ℕ) (x : A) → list_any test xs ≡ false → slice_get xs i ≡ Some x → test x ≡ false
none_at test [] i x none at = cc
none_at test (y ∷ ys) zero x none at = let same : y ≡ x = cc in ap test (sym same) ∙ (neither (test y) (list_any test ys) none).0
none_at test (y ∷ ys) (suc i) x none at = none_at test ys i x (neither (test y) (list_any test ys) none).1 at

-- of elements with distinct names none before a place has the name of that at the place
pub named_before : {A : Type 0} (name : A → List ℕ) (xs : List A) (i : ℕ) (x : A) → are_distinct (map name xs) ≡ true → slice_get xs i ≡ Some x → list_any (λ n. bytes_eq n (name x)) (map name (take i xs)) ≡ false
named_before name [] i x once at = cc
named_before name (y ∷ ys) zero x once at = refl
named_before name (y ∷ ys) (suc i) x once at =
    let parts = both (not (list_any (bytes_eq (name y)) (map name ys))) (are_distinct (map name ys)) once in
    let far = none_at (bytes_eq (name y)) (map name ys) i (name x) (not-true _ parts.0) (slice_get-map name ys i ∙ ap (option_map name) at) in
    neither_is _ _ far (named_before name ys i x parts.1 at)

among_mapped : {A V : Type 0} (f : A → List ℕ × V) (xs : List A) (n : List ℕ) → is_among (map f xs) n ≡ list_any (λ m. bytes_eq m n) (map (λ x. (f x).0) xs)
among_mapped f [] n = refl
among_mapped f (x ∷ xs) n = ap (λ b. bytes_eq (f x).0 n || b) (among_mapped f xs n)

-- the name of a register or of a queue is not that of one before it
pub new_register : (p : Protocol) (tree : Tree) (regs : List Register) (i : ℕ) (d : Register) → are_distinct (map (λ r. name_of_reg (reg_of r)) regs) ≡ true → i < length regs → is_among (map (λ r. written_register p tree (reg_of r)) (take i regs)) (name_of_reg (reg_of (get_or regs i d))) ≡ false
new_register p tree regs i d once within =
    among_mapped (λ r. written_register p tree (reg_of r)) (take i regs) (name_of_reg (reg_of (get_or regs i d)))
    ∙ named_before (λ r. name_of_reg (reg_of r)) regs i (get_or regs i d) once (slice_get-get_or regs i d within)

pub new_queue : (queues : List Listed) (i : ℕ) (d : Listed) → are_distinct (map (λ q. name_of_queue (queue_of q)) queues) ≡ true → i < length queues → is_in (map (λ q. name_of_queue (queue_of q)) (take i queues)) (name_of_queue (queue_of (get_or queues i d))) ≡ false
new_queue queues i d once within = named_before (λ q. name_of_queue (queue_of q)) queues i (get_or queues i d) once (slice_get-get_or queues i d within)

-- a protocol without its rules
abbrev without_rules : Protocol → Protocol
without_rules p =
    record {
      name = p.name;
      statuses = p.statuses;
      messages = p.messages;
      rule_names = [];
      root = record { fields = p.root.fields; dir = p.root.dir; rules = [] };
      mid = record { fields = p.mid.fields; dir = p.mid.dir; rules = [] };
      leaf = record { fields = p.leaf.fields; dir = p.leaf.dir; rules = [] };
    }

-- a protocol of which only names count
abbrev smallest : Protocol
smallest =
    record {
      name = codes "p";
      statuses = codes "a" ∷ codes "b" ∷ [];
      messages = [];
      rule_names = [];
      root = record { fields = []; dir = Some (record { 0 = 0 }); rules = [] };
      mid = record { fields = []; dir = Some (record { 0 = 0 }); rules = [] };
      leaf = record { fields = []; dir = None; rules = [] };
    }

part_without : (p q : Protocol) (k : KindPart) → length q.statuses ≡ length p.statuses → length q.messages ≡ length p.messages → IsPart p k → IsPart q (record { fields = k.fields; dir = k.dir; rules = [] })
part_without p q k statuses messages is =
    record {
      few_fields = is.few_fields;
      field_names = is.field_names;
      fields_once = is.fields_once;
      starts = rw statuses is.starts;
      few_rules = omega arith;
      rules = refl;
      rules_once = refl;
    }

lawful_without : (p : Protocol) → IsProtocol p → IsProtocol (without_rules p)
lawful_without p lawful =
    record {
      name = lawful.name;
      some_statuses = lawful.some_statuses;
      few_statuses = lawful.few_statuses;
      few_messages = lawful.few_messages;
      names = lawful.names;
      names_once = lawful.names_once;
      rule_names = refl;
      rule_names_once = refl;
      rule_names_in_order = refl;
      root = part_without p (without_rules p) p.root refl refl lawful.root;
      mid = part_without p (without_rules p) p.mid refl refl lawful.mid;
      leaf = part_without p (without_rules p) p.leaf refl refl lawful.leaf;
      root_dir = lawful.root_dir;
      mid_dir = lawful.mid_dir;
      leaf_dir = lawful.leaf_dir;
    }

lawful_smallest : IsProtocol smallest
lawful_smallest =
    record {
      name = refl;
      some_statuses = omega arith;
      few_statuses = omega arith;
      few_messages = omega arith;
      names = refl;
      names_once = refl;
      rule_names = refl;
      rule_names_once = refl;
      rule_names_in_order = refl;
      root = no_fields (Some (record { 0 = 0 }));
      mid = no_fields (Some (record { 0 = 0 }));
      leaf = no_fields None;
      root_dir = refl;
      mid_dir = refl;
      leaf_dir = refl;
    }
  where
    no_fields : (dir : Option _) → IsPart smallest (record { fields = []; dir = dir; rules = [] })
    no_fields dir = record { few_fields = omega arith; field_names = refl; fields_once = refl; starts = refl; few_rules = omega arith; rules = refl; rules_once = refl }

no_rule : (p : Protocol) (kind : Kind) (name : RuleId) (rule : Rule) → rule_named (without_rules p) kind name ≡ Some rule → ⊥
no_rule p Root name rule is = cc
no_rule p Mid name rule is = cc
no_rule p Leaf name rule is = cc

no_rule_there : (kind : Kind) (name : RuleId) (rule : Rule) → rule_named smallest kind name ≡ Some rule → ⊥
no_rule_there Root name rule is = cc
no_rule_there Mid name rule is = cc
no_rule_there Leaf name rule is = cc

module _ (written : (p : Protocol) (tree : Tree) → IsProtocol p → AllHaveTemplates p → IsLawful tree → IsModules (modules_of p tree)) (tree : Tree) (tree_is : IsLawful tree) where
  same_fields : (p : Protocol) (kind : Kind) → (part (without_rules p) kind).fields ≡ (part p kind).fields
  same_fields p Root = refl
  same_fields p Mid = refl
  same_fields p Leaf = refl

  same_registers : (p : Protocol) → registers (without_rules p) tree ≡ registers p tree
  same_registers p = λ i. flat_map (λ node. map (λ j. field j node.0) (below (length (same_fields p node.1.kind i))) ++ val node.0 ∷ [] ++ lock_registers node.0 Up ++ lock_registers node.0 Down ++ flat_map (λ c. entry c ∷ awaits c ∷ []) (children_of tree node.0)) (enumerate_from 0 tree)

  pub registers_once : (p : Protocol) → IsProtocol p → are_distinct (map name_of_reg (registers p tree)) ≡ true
  registers_once p lawful =
      let q = without_rules p in
      let it = written q tree (lawful_without p lawful) (record { each = λ kind name rule is. absurd (no_rule p kind name rule is) }) tree_is in
      ap are_distinct (ap (map name_of_reg) (sym (same_registers p)) ∙ sym (map_map (λ (r : List ℕ × ℕ). r.0) (written_register q tree) (registers q tree)))
      ∙ first_distinct (map (λ r. r.0) (map (written_register q tree) (registers q tree))) (map name_of_queue (queues tree)) it.names_apart

  pub queues_once : are_distinct (map name_of_queue (queues tree)) ≡ true
  queues_once =
      let it = written smallest tree lawful_smallest (record { each = λ kind name rule is. absurd (no_rule_there kind name rule is) }) tree_is in
      others_distinct (map (λ r. r.0) (map (written_register smallest tree) (registers smallest tree))) (map name_of_queue (queues tree)) it.names_apart
