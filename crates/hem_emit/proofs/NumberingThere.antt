-- Each object, rule and child that fits names a module rule.
use Rattle.std.proofs.Common.{◌≡◌, refl, ap, ◌∙◌, ℕ, Bool, true, false, cond, ◌&&◌, ◌||◌, List, [], ◌∷◌, length, map, Option, Some, None}
use Rattle.std.specs.Prelude.{◌==◌, slice_get, option_map}
use Rattle.std.specs.List.{list_any, enumerate_from, find}
use Rattle.hem_base.specs.declared.ids.Kind.{Kind}
use Rattle.hem_base.specs.declared.ids.RuleId.{RuleId}
use Rattle.hem_syntax.specs.declared.rule.Rule.{Rule}
use Rattle.hem_syntax.specs.Protocol.{Protocol, part, rule_named}
use Rattle.hem_tree.specs.Tree.{Tree, Node, kind_of, children_of}
use Rattle.hem_fire.specs.OneFire.{me_fits}
use Rattle.hem_rows.proofs.Choices.{both}
use Rattle.hem_emit.specs.Emit.{named_at}
use Rattle.hem_emit.specs.Numbering.{same_child, Slot, slots_at, slots, same_name, name_of}
use Rattle.hem_emit.proofs.Tests.{same_number, list_any-map, list_any-flat_map, any_at}
use Rattle.hem_emit.proofs.NumberingRules.{named_fits}

-- where one passes a test, one passes a weaker one
pub any_weaker : {A : Type 0} (strong weak : A → Bool) → ((x : A) → strong x ≡ true → weak x ≡ true) → (xs : List A) → list_any strong xs ≡ true → list_any weak xs ≡ true
any_weaker strong weak each [] some = some
any_weaker {A} strong weak each (x ∷ xs) some = by (strong x) refl some (λ rest. any_weaker strong weak each xs rest)
  where
    right : (b c : Bool) → c ≡ true → (b || c) ≡ true
    right true c is = refl
    right false c is = is

    by : (b : Bool) → strong x ≡ b → (b || list_any strong xs) ≡ true → (list_any strong xs ≡ true → list_any weak xs ≡ true) → (weak x || list_any weak xs) ≡ true
    by true is some rest = ap (λ b. b || list_any weak xs) (each x is)
    by false is some rest = right (weak x) (list_any weak xs) (rest some)

-- what is found is there
found_there : {A : Type 0} (wanted test : A → Bool) (x : A) → test x ≡ true → (xs : List A) → find wanted xs ≡ Some x → list_any test xs ≡ true
found_there wanted test x is [] at = cc
found_there {A} wanted test x is (y ∷ ys) at = by (wanted y) at (λ at. found_there wanted test x is ys at)
  where
    right : (b c : Bool) → c ≡ true → (b || c) ≡ true
    right true c is = refl
    right false c is = is

    by : (b : Bool) → cond b (Some y) (find wanted ys) ≡ Some x → (find wanted ys ≡ Some x → list_any test ys ≡ true) → (test y || list_any test ys) ≡ true
    by true at rest = let e : y ≡ x = cc in ap (λ b. b || list_any test ys) (ap test e ∙ is)
    by false at rest = right (test y) (list_any test ys) (rest at)

module _ (p : Protocol) (tree : Tree) (o : ℕ) (kind : Kind) (r : RuleId) (rule : Rule) (me : Option ℕ) (ruled : rule_named p kind r ≡ Some rule) (fits : me_fits kind rule.take me (length (children_of tree o)) ≡ true) where
  abbrev is_it : Slot → Bool
  is_it s = same_name (record { object = o; rule = rule.name.0; me = me }) (name_of s)

  abbrev of_rule : Rule → List Slot
  of_rule rule = map (λ me. record { object = o; kind = kind; rule = rule; me = me }) (named_at kind rule.take (length (children_of tree o)))

  rule_there : list_any is_it (of_rule rule) ≡ true
  rule_there =
      list_any-map is_it (λ me. let s : Slot = record { object = o; kind = kind; rule = rule; me = me } in s) (named_at kind rule.take (length (children_of tree o)))
      ∙ any_weaker (same_child me) (λ you. o == o && rule.name.0 == rule.name.0 && same_child me you) (λ you is. rw (same_number o o refl, same_number rule.name.0 rule.name.0 refl, is) refl) (named_at kind rule.take (length (children_of tree o)))
      (named_fits kind rule.take me (length (children_of tree o)) ∙ fits)

  object_there : list_any is_it (slots_at p tree o kind) ≡ true
  object_there =
      list_any-flat_map is_it of_rule (part p kind).rules
      ∙ found_there (λ (x : Rule). x.name.0 == r.0) (λ rule. list_any is_it (of_rule rule)) rule rule_there (part p kind).rules ruled

  at_node : (found : Option Node) → slice_get tree o ≡ found → option_map (λ (node : Node). node.kind) found ≡ Some kind → list_any is_it (slots p tree) ≡ true
  at_node None at is = cc
  at_node (Some node) at is =
      let e : node.kind ≡ kind = cc in
      let there : (λ (x : ℕ × Node). list_any is_it (slots_at p tree x.0 x.1.kind)) (o, node) ≡ true = ap (λ k. list_any is_it (slots_at p tree o k)) e ∙ object_there in
      list_any-flat_map is_it (λ (x : ℕ × Node). slots_at p tree x.0 x.1.kind) (enumerate_from 0 tree)
      ∙ any_weaker (λ (x : ℕ × Node). o == x.0 && list_any is_it (slots_at p tree x.0 x.1.kind)) (λ (x : ℕ × Node). list_any is_it (slots_at p tree x.0 x.1.kind)) (λ x is. (both (o == x.0) _ is).1) (enumerate_from 0 tree)
      (any_at (λ (x : ℕ × Node). list_any is_it (slots_at p tree x.0 x.1.kind)) o tree node at ∙ there)

-- each object, rule and child that fits names a slot
pub slot_there : (p : Protocol) (tree : Tree) (o : ℕ) (kind : Kind) (r : RuleId) (rule : Rule) (me : Option ℕ) → kind_of tree o ≡ Some kind → rule_named p kind r ≡ Some rule → me_fits kind rule.take me (length (children_of tree o)) ≡ true → list_any (same_name (record { object = o; rule = rule.name.0; me = me })) (map name_of (slots p tree)) ≡ true
slot_there p tree o kind r rule me is ruled fits =
    list_any-map (same_name (record { object = o; rule = rule.name.0; me = me })) name_of (slots p tree)
    ∙ at_node p tree o kind r rule me ruled fits (slice_get tree o) refl is
