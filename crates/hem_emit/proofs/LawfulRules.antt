-- The rules of the modules of a protocol have names that may be declared, are apart, and name only what is there.
use Rattle.std.proofs.Common.{◌≡◌, ◌≢◌, refl, ap, sym, ◌∙◌, subst, ℕ, suc, ◌+◌, ◌<◌, ◌≤◌, arith, Bool, true, false, cond, ◌&&◌, List, [], ◌∷◌, ◌++◌, length, map, inl, inr, ◌⊎◌, Option, Some, None}
use Rattle.std.specs.Prelude.{◌==◌, find, nat_lt, slice_get, slice_index_or, position, is_some, unwrap_or, option_map, if◌then◌else◌}
use Rattle.std.specs.List.{list_all, enumerate_from, position_or_len}
use Rattle.std.specs.Str.{bytes_eq}
use Rattle.std.proofs.lemmas.Bool.{eqb-true}
use Rattle.std.proofs.lemmas.Bool.Decides.{eqb_tells}
use Rattle.std.proofs.lemmas.List.{length-map}
use Rattle.std.proofs.lemmas.List.Folds.{list_all-map, list_all-append}
use Rattle.std.proofs.lemmas.Slice.Eq.{bytes_eq-Decides}
use Rattle.hem_base.specs.declared.ids.Kind.{Kind}
use Rattle.hem_base.specs.declared.ids.Kind.TheVariants.{Root, Mid, Leaf}
use Rattle.hem_syntax.specs.declared.rule.Rule.{Rule}
use Rattle.hem_syntax.specs.declared.rule.Take.{Take}
use Rattle.hem_syntax.specs.declared.rule.Take.TheVariants as take
use Rattle.hem_syntax.specs.Protocol.{Protocol, part}
use Rattle.hem_syntax.specs.Lawful.{IsProtocol, is_declarable, names_after}
use Rattle.hem_rows.specs.Rows.{AllHaveTemplates}
use Rattle.hem_rows.proofs.Choices.{both}
use Rattle.hem_fire.specs.OneFire.{me_fits}
use Rattle.hem_tree.specs.Tree.{Tree, Node, IsLawful, children_of, place_among}
use Rattle.hem_system.proofs.Kids.{at_child}
use Rattle.hem_module.specs.declared.rules.ModRule as written
use Rattle.hem_module.specs.Module.{Test, equals, differs, has_head, Amount, number, read, head_value, Deed, deq, put, enq, Action, ModRule}
use Rattle.hem_module.specs.Lawful.{are_apart, Counts, has_atom, has_clause, has_value, has_act, has_action, has_rule, same_child, same_rule, counts_of, IsModules}
use Rattle.hem_emit.specs.Names.{Reg, Queue, same_reg, same_queue}
use Rattle.hem_emit.specs.Emit.{named_at, place_of, rule_at, rules_at, emitted_rules}
use Rattle.hem_emit.specs.Layout.{registers, queues}
use Rattle.hem_emit.specs.Numbering.{has_reg, has_queue, test_known, amount_known, deed_known, action_known, rule_known, reg_number, queue_number, Slot, slots, rule_in, name_of, same_name, IsSlot}
use Rattle.hem_emit.specs.Written.{name_of_queue, written_register, written_test, written_clause, written_amount, written_deed, written_action, written_as, modules_of}
use Rattle.hem_emit.proofs.Tests.{same_number, list_all-flat_map, at_below}
use Rattle.hem_emit.proofs.Places.{element_or}
use Rattle.hem_emit.proofs.Named.{and_both}
use Rattle.hem_emit.proofs.Spread.{all_imply}
use Rattle.hem_emit.proofs.NumberingFirings.{slots_apart}
use Rattle.hem_emit.proofs.NumberingRules.{map_map, rules_of_slots}
use Rattle.hem_emit.proofs.Rules.{passes_there, all_places, all_known}
use Rattle.hem_emit.proofs.Slots.{slot_is}
use Rattle.hem_emit.proofs.Placed.{once_there}
use Rattle.hem_emit.proofs.Lawful.{bytes_same, apart_distinct, apart_as, apart_of_map, names_declarable, names_apart}

less_of : (a b : ℕ) → nat_lt a b ≡ true → a < b
less_of a b less = grind arith

-- rules name names that are there
names_within : (m n : ℕ) (rs : List Rule) → names_after m rs ≡ Some n → (m ≤ n) × (list_all (λ r. nat_lt r.name.0 n) rs ≡ true)
names_within m n [] is = let same : m ≡ n = cc in (omega (arith, same), refl)
names_within m n (r ∷ rs) is = by_first (nat_lt r.name.0 m) refl (eqb_tells r.name.0 m) is (names_within m n rs) (names_within (m + 1) n rs)
  where
    lt_trans : (a b c : ℕ) → nat_lt a b ≡ true → b ≤ c → nat_lt a c ≡ true
    lt_trans a b c less le = grind arith

    lt_suc : (a b c : ℕ) → a ≡ b → b + 1 ≤ c → nat_lt a c ≡ true
    lt_suc a b c same le = grind arith

    by_first : (b : Bool) → nat_lt r.name.0 m ≡ b → ((r.name.0 == m) ≡ true) × (r.name.0 ≡ m) ⊎ ((r.name.0 == m) ≡ false) × (r.name.0 ≢ m) → (if b then names_after m rs else if r.name.0 == m then names_after (m + 1) rs else None) ≡ Some n → (names_after m rs ≡ Some n → (m ≤ n) × (list_all (λ r. nat_lt r.name.0 n) rs ≡ true)) → (names_after (m + 1) rs ≡ Some n → (m + 1 ≤ n) × (list_all (λ r. nat_lt r.name.0 n) rs ≡ true)) → (m ≤ n) × (list_all (λ r. nat_lt r.name.0 n) (r ∷ rs) ≡ true)
    by_first true less which is old new = let it = old is in (it.0, and_both _ _ (lt_trans r.name.0 m n less it.0) it.1)
    by_first false less (inl same) is old new =
        let here = same.0 in
        let it = new (rw here at is) in
        let le = it.0 in
        (omega (arith, le), and_both _ _ (lt_suc r.name.0 m n same.1 it.0) it.1)
    by_first false less (inr far) is old new = let other = far.0 in let none : None ≡ Some n = rw other at is in cc

module _ (p : Protocol) (tree : Tree) (lawful : IsProtocol p) (all : AllHaveTemplates p) (tree_is : IsLawful tree) where
  all_within : list_all (λ r. nat_lt r.name.0 (length p.rule_names)) (p.root.rules ++ p.mid.rules ++ p.leaf.rules) ≡ true
  all_within = (names_within 0 (length p.rule_names) (p.root.rules ++ p.mid.rules ++ p.leaf.rules) lawful.rule_names_in_order).1

  upper_within : (list_all (λ r. nat_lt r.name.0 (length p.rule_names)) (p.root.rules ++ p.mid.rules) ≡ true) × (list_all (λ r. nat_lt r.name.0 (length p.rule_names)) p.leaf.rules ≡ true)
  upper_within = both _ _ (sym (list_all-append (λ r. nat_lt r.name.0 (length p.rule_names)) (p.root.rules ++ p.mid.rules) p.leaf.rules) ∙ all_within)

  within : (kind : Kind) → list_all (λ r. nat_lt r.name.0 (length p.rule_names)) (part p kind).rules ≡ true
  within Root = (both (list_all (λ r. nat_lt r.name.0 (length p.rule_names)) p.root.rules) _ (sym (list_all-append (λ r. nat_lt r.name.0 (length p.rule_names)) p.root.rules p.mid.rules) ∙ upper_within.0)).0
  within Mid = (both (list_all (λ r. nat_lt r.name.0 (length p.rule_names)) p.root.rules) _ (sym (list_all-append (λ r. nat_lt r.name.0 (length p.rule_names)) p.root.rules p.mid.rules) ∙ upper_within.0)).1
  within Leaf = upper_within.1

  -- the name of a rule of the protocol
  pub rule_text : (kind : Kind) (j : ℕ) (rule : Rule) → slice_get (part p kind).rules j ≡ Some rule → (text : List ℕ) × (slice_get p.rule_names rule.name.0 ≡ Some text)
  rule_text kind j rule at = at_below p.rule_names rule.name.0 (less_of rule.name.0 (length p.rule_names) (passes_there (λ r. nat_lt r.name.0 (length p.rule_names)) (part p kind).rules j rule (within kind) at))

  abbrev name_fits : ModRule Reg Queue → Bool
  name_fits rule = is_declarable rule.name

  of_object : (o : ℕ) (kind : Kind) → list_all name_fits (rules_at p (place_of p tree o kind)) ≡ true
  of_object o kind =
      list_all-flat_map name_fits (λ rule. map (rule_at p (place_of p tree o kind) rule) (named_at kind rule.take (length (children_of tree o)))) (part p kind).rules
      ∙ all_places (λ rule. list_all name_fits (map (rule_at p (place_of p tree o kind) rule) (named_at kind rule.take (length (children_of tree o))))) (part p kind).rules
      (λ j rule at. list_all-map name_fits (rule_at p (place_of p tree o kind) rule) (named_at kind rule.take (length (children_of tree o))) ∙ all_places (λ me. is_declarable (slice_index_or p.rule_names rule.name.0 [])) (named_at kind rule.take (length (children_of tree o))) (λ k me here. declarable j rule at))
    where
      declarable : (j : ℕ) (rule : Rule) → slice_get (part p kind).rules j ≡ Some rule → is_declarable (slice_index_or p.rule_names rule.name.0 []) ≡ true
      declarable j rule at =
          let text = rule_text kind j rule at in
          ap is_declarable (element_or p.rule_names rule.name.0 [] text.0 text.1)
          ∙ passes_there is_declarable p.rule_names rule.name.0 text.0 lawful.rule_names text.1

  rule_names : list_all (λ r. is_declarable r.name) (map (written_as p tree) (emitted_rules p tree)) ≡ true
  rule_names =
      list_all-map (λ r. is_declarable r.name) (written_as p tree) (emitted_rules p tree)
      ∙ list_all-flat_map name_fits (λ (node : ℕ × Node). rules_at p (place_of p tree node.0 node.1.kind)) (enumerate_from 0 tree)
      ∙ all_places (λ (node : ℕ × Node). list_all name_fits (rules_at p (place_of p tree node.0 node.1.kind))) (enumerate_from 0 tree) (λ j node at. of_object node.0 node.1.kind)

  -- what is named is there, by places
  abbrev n : Counts
  n = counts_of (modules_of p tree)

  placed_within : {A B : Type 0} (test : A → Bool) (f : A → B) (xs : List A) → is_some (position test xs) ≡ true → nat_lt (unwrap_or (position test xs) 0) (length (map f xs)) ≡ true
  placed_within test f xs there = ap (nat_lt (unwrap_or (position test xs) 0)) (length-map xs f) ∙ by_less (nat_lt (position_or_len test xs) (length xs)) refl there
    where
      by_less : (b : Bool) → nat_lt (position_or_len test xs) (length xs) ≡ b → is_some (cond b (Some (position_or_len test xs)) None) ≡ true → nat_lt (unwrap_or (cond b (Some (position_or_len test xs)) None) 0) (length xs) ≡ true
      by_less true less there = less
      by_less false less there = cc

  reg_within : (r : Reg) → has_reg p tree r ≡ true → nat_lt (reg_number p tree r) n.regs ≡ true
  reg_within r there = placed_within (same_reg r) (written_register p tree) (registers p tree) there

  queue_within : (q : Queue) → has_queue tree q ≡ true → nat_lt (queue_number tree q) n.queues ≡ true
  queue_within q there = placed_within (same_queue q) name_of_queue (queues tree) there

  test_there : (t : Test Reg Queue) → test_known (has_reg p tree) (has_queue tree) t ≡ true → has_atom n (written_test p tree t) ≡ true
  test_there (equals r v) known = reg_within r known
  test_there (differs r v) known = reg_within r known
  test_there (has_head q id) known = queue_within q known

  tests_there : (ts : List (Test Reg Queue)) → list_all (test_known (has_reg p tree) (has_queue tree)) ts ≡ true → list_all (has_atom n) (map (written_test p tree) ts) ≡ true
  tests_there ts known = list_all-map (has_atom n) (written_test p tree) ts ∙ all_imply (test_known (has_reg p tree) (has_queue tree)) (λ t. has_atom n (written_test p tree t)) ts test_there known

  amount_there : (a : Amount Reg Queue) → amount_known (has_reg p tree) (has_queue tree) a ≡ true → has_value n (written_amount p tree a) ≡ true
  amount_there (number v) known = refl
  amount_there (read r) known = reg_within r known
  amount_there (head_value q) known = queue_within q known

  deed_there : (d : Deed Reg Queue) → deed_known (has_reg p tree) (has_queue tree) d ≡ true → has_act n (written_deed p tree d) ≡ true
  deed_there (deq q) known = queue_within q known
  deed_there (put r a) known = let parts = both (has_reg p tree r) _ known in and_both _ _ (reg_within r parts.0) (amount_there a parts.1)
  deed_there (enq q id a) known = let parts = both (has_queue tree q) _ known in and_both _ _ (queue_within q parts.0) (amount_there a parts.1)

  action_there : (a : Action Reg Queue) → action_known (has_reg p tree) (has_queue tree) a ≡ true → has_action n (written_action p tree a) ≡ true
  action_there a known = let parts = both (list_all (test_known (has_reg p tree) (has_queue tree)) a.tests) _ known in and_both _ _ (tests_there a.tests parts.0) (deed_there a.deed parts.1)

  rule_there : (r : ModRule Reg Queue) → rule_known (has_reg p tree) (has_queue tree) r ≡ true → has_rule n (written_as p tree r) ≡ true
  rule_there r known =
      let parts = both (list_all (list_all (test_known (has_reg p tree) (has_queue tree))) r.clauses) _ known in
      and_both _ _
      (list_all-map (has_clause n) (written_clause p tree) r.clauses ∙ all_imply (list_all (test_known (has_reg p tree) (has_queue tree))) (λ c. has_clause n (written_clause p tree c)) r.clauses tests_there parts.0)
      (list_all-map (has_action n) (written_action p tree) r.actions ∙ all_imply (action_known (has_reg p tree) (has_queue tree)) (λ a. has_action n (written_action p tree a)) r.actions action_there parts.1)

  rules_there : list_all (has_rule n) (map (written_as p tree) (emitted_rules p tree)) ≡ true
  rules_there =
      list_all-map (has_rule n) (written_as p tree) (emitted_rules p tree)
      ∙ all_imply (rule_known (has_reg p tree) (has_queue tree)) (λ r. has_rule n (written_as p tree r)) (emitted_rules p tree) rule_there (all_known p tree lawful all tree_is)

  -- no two rules have one object, name and child
  pub name_tells : (a b : Rule) (kind_a kind_b : Kind) (i j : ℕ) → slice_get (part p kind_a).rules i ≡ Some a → slice_get (part p kind_b).rules j ≡ Some b → bytes_eq (slice_index_or p.rule_names a.name.0 []) (slice_index_or p.rule_names b.name.0 []) ≡ true → a.name.0 ≡ b.name.0
  name_tells a b kind_a kind_b i j at_a at_b same =
      let x = rule_text kind_a i a at_a in
      let y = rule_text kind_b j b at_b in
      let texts : x.0 ≡ y.0 = sym (element_or p.rule_names a.name.0 [] x.0 x.1) ∙ bytes_same _ _ same ∙ element_or p.rule_names b.name.0 [] y.0 y.1 in
      once_there bytes_eq (λ t. (bytes_eq-Decides t t).1 refl) p.rule_names a.name.0 b.name.0 x.0 (sym (apart_distinct p.rule_names) ∙ lawful.rule_names_once) x.1 (y.1 ∙ ap Some (sym texts))

  pub found_at : (rules : List Rule) (name : ℕ) (rule : Rule) → find (λ r. r.name.0 == name) rules ≡ Some rule → (j : ℕ) × (slice_get rules j ≡ Some rule)
  found_at [] name rule is = cc
  found_at (r ∷ rs) name rule is = by_name (r.name.0 == name) is (found_at rs name rule)
    where
      by_name : (b : Bool) → cond b (Some r) (find (λ r. r.name.0 == name) rs) ≡ Some rule → (find (λ r. r.name.0 == name) rs ≡ Some rule → (j : ℕ) × (slice_get rs j ≡ Some rule)) → (j : ℕ) × (slice_get (r ∷ rs) j ≡ Some rule)
      by_name true is rest = (0, is)
      by_name false is rest = let it = rest is in (suc it.0, it.1)

  child_tells : (o : ℕ) (a b : Option ℕ) → ((k : ℕ) → a ≡ Some k → k < length (children_of tree o)) → ((k : ℕ) → b ≡ Some k → k < length (children_of tree o)) → same_child (option_map (λ k. slice_index_or (children_of tree o) k 0) a) (option_map (λ k. slice_index_or (children_of tree o) k 0) b) ≡ true → same_child a b ≡ true
  child_tells o None None fits_a fits_b same = refl
  child_tells o None (Some l) fits_a fits_b same = cc
  child_tells o (Some k) None fits_a fits_b same = cc
  child_tells o (Some k) (Some l) fits_a fits_b same =
      let x = at_below (children_of tree o) k (fits_a k refl) in
      let y = at_below (children_of tree o) l (fits_b l refl) in
      let equal : x.0 ≡ y.0 = sym (element_or (children_of tree o) k 0 x.0 x.1) ∙ eqb-true _ _ same ∙ element_or (children_of tree o) l 0 y.0 y.1 in
      let place_x = (at_child tree o k x.0 x.1).1 in
      let place_y = (at_child tree o l y.0 y.1).1 in
      same_number k l (sym place_x ∙ ap (place_among tree o) equal ∙ place_y)

  me_less : (s : Slot) → IsSlot p tree s → (k : ℕ) → s.me ≡ Some k → k < length (children_of tree s.object)
  me_less s it k is = by_kind s.kind s.rule.take (subst (λ m. me_fits s.kind s.rule.take m (length (children_of tree s.object)) ≡ true) is it.fits)
    where
      by_kind : (kind : Kind) (t : Take) → me_fits kind t (Some k) (length (children_of tree s.object)) ≡ true → k < length (children_of tree s.object)
      by_kind Leaf t fits = cc
      by_kind Root (take.Me id) fits = less_of k _ fits
      by_kind Mid (take.Me id) fits = less_of k _ fits
      by_kind Root (take.Parent id) fits = cc
      by_kind Root (take.Kids id) fits = cc
      by_kind Root take.Nothing fits = cc
      by_kind Mid (take.Parent id) fits = cc
      by_kind Mid (take.Kids id) fits = cc
      by_kind Mid take.Nothing fits = cc

  abbrev rule_of : Slot → written.ModRule
  rule_of s = written_as p tree (rule_in p tree s)

  slots_tell : (i j : ℕ) (a b : Slot) → slice_get (slots p tree) i ≡ Some a → slice_get (slots p tree) j ≡ Some b → same_rule (rule_of a) (rule_of b) ≡ true → same_name (name_of a) (name_of b) ≡ true
  slots_tell i j a b at_a at_b same =
      let slot_a = slot_is p tree lawful i a at_a in
      let slot_b = slot_is p tree lawful j b at_b in
      let parts = both (a.object == b.object && bytes_eq (rule_of a).name (rule_of b).name) _ same in
      let first = both (a.object == b.object) _ parts.0 in
      let object : a.object ≡ b.object = eqb-true a.object b.object first.0 in
      let place_a = found_at (part p a.kind).rules a.rule.name.0 a.rule slot_a.named in
      let place_b = found_at (part p b.kind).rules b.rule.name.0 b.rule slot_b.named in
      let name = name_tells a.rule b.rule a.kind b.kind place_a.0 place_b.0 place_a.1 place_b.1 first.1 in
      let child = child_tells a.object a.me b.me (me_less a slot_a) (λ k is. subst (λ o. k < length (children_of tree o)) (sym object) (me_less b slot_b k is)) (subst (λ o. same_child (option_map (λ k. slice_index_or (children_of tree a.object) k 0) a.me) (option_map (λ k. slice_index_or (children_of tree o) k 0) b.me) ≡ true) (sym object) parts.1) in
      and_both _ _ (and_both _ _ first.0 (same_number a.rule.name.0 b.rule.name.0 name)) child

  pub rules_apart : are_apart same_rule (map (written_as p tree) (emitted_rules p tree)) ≡ true
  rules_apart =
      ap (λ rs. are_apart same_rule (map (written_as p tree) rs)) (sym (rules_of_slots p tree))
      ∙ ap (are_apart same_rule) (map_map (written_as p tree) (rule_in p tree) (slots p tree))
      ∙ apart_as (λ a b. same_name (name_of a) (name_of b)) same_rule rule_of (slots p tree) slots_tell
      (sym (apart_of_map same_name name_of (slots p tree)) ∙ slots_apart p tree lawful)

  -- the modules of a protocol may be written
  pub modules_lawful : IsModules (modules_of p tree)
  modules_lawful =
      record {
        name = lawful.name;
        names = names_declarable p tree lawful tree_is;
        names_apart = names_apart p tree lawful tree_is;
        rule_names = rule_names;
        rules_apart = rules_apart;
        there = rules_there;
      }
