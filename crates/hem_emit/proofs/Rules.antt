-- All module rules of a protocol name only what is there.
use Rattle.std.proofs.Common.{◌≡◌, refl, ap, sym, ◌∙◌, subst, ℕ, zero, suc, ◌+◌, ◌≤◌, ◌<◌, arith, Bool, true, false, not, ◌||◌, List, [], ◌∷◌, length, map, Some}
use Rattle.std.specs.Prelude.{◌==◌, IsTrue, Ok, nat_lt, slice_get, find}
use Rattle.std.specs.List.{list_all, list_any, enumerate_from}
use Rattle.std.proofs.lemmas.List.Folds.{list_all-map, list_all-append}
use Rattle.hem_base.specs.declared.ids.Kind.{Kind}
use Rattle.hem_base.specs.declared.ids.Kind.TheVariants.{Root, Mid, Leaf}
use Rattle.hem_syntax.specs.declared.rule.Rule.{Rule}
use Rattle.hem_syntax.specs.declared.rule.Take.{Take}
use Rattle.hem_syntax.specs.declared.rule.Take.TheVariants as take
use Rattle.hem_syntax.specs.Protocol.{Protocol, part, rule_named}
use Rattle.hem_syntax.specs.Lawful.{IsProtocol, IsPart, counts_of, is_rule, named_once}
use Rattle.hem_template.specs.declared.template_name.TemplateName.{TemplateName}
use Rattle.hem_template.specs.Template.{template_of}
use Rattle.hem_rows.specs.Rows.{AllHaveTemplates}
use Rattle.hem_rows.proofs.Choices.{both}
use Rattle.hem_fire.specs.OneFire.{me_fits}
use Rattle.hem_tree.specs.Tree.{Tree, Node, IsLawful, below, kind_of, children_of}
use Rattle.std.specs.Option.{option_map_or}
use Rattle.hem_module.specs.Module.{ModRule}
use Rattle.hem_emit.specs.Names.{Reg, Queue}
use Rattle.hem_emit.specs.Emit.{named_at, place_of, rule_at, rules_at, emitted_rules}
use Rattle.hem_emit.specs.Numbering.{has_reg, has_queue, rule_known}
use Rattle.hem_emit.proofs.Tests.{same_number, list_all-flat_map}
use Rattle.hem_emit.proofs.Named.{and_both}
use Rattle.hem_emit.proofs.Spread.{all_imply}
use Rattle.hem_emit.proofs.Here.{rule_there}

-- each of the children that a rule may name fits it
pub below_less : (m n : ℕ) → n ≤ m → list_all (λ k. nat_lt k m) (below n) ≡ true
below_less m zero few = refl
below_less m (suc n) few = list_all-append (λ k. nat_lt k m) (below n) (n ∷ []) ∙ and_both _ _ (below_less m n (omega arith)) (and_both _ _ (lt_is n m (omega arith)) refl)
  where
    lt_is : (a b : ℕ) → a < b → nat_lt a b ≡ true
    lt_is a b less = grind arith

each_fits : (n : ℕ) → list_all (λ me. option_map_or (λ c. nat_lt c n) me false) (map Some (below n)) ≡ true
each_fits n = list_all-map (λ me. option_map_or (λ c. nat_lt c n) me false) Some (below n) ∙ below_less n n (omega arith)

pub named_fit : (kind : Kind) (tk : Take) (n : ℕ) → list_all (λ me. me_fits kind tk me n) (named_at kind tk n) ≡ true
named_fit Leaf tk n = refl
named_fit Root (take.Me id) n = each_fits n
named_fit Mid (take.Me id) n = each_fits n
named_fit Root (take.Parent id) n = refl
named_fit Root (take.Kids id) n = refl
named_fit Root take.Nothing n = refl
named_fit Mid (take.Parent id) n = refl
named_fit Mid (take.Kids id) n = refl
named_fit Mid take.Nothing n = refl

-- what stands in a list of which all pass does pass
pub passes_there : {A : Type 0} (f : A → Bool) (xs : List A) (j : ℕ) (x : A) → list_all f xs ≡ true → slice_get xs j ≡ Some x → f x ≡ true
passes_there f [] j x all at = cc
passes_there f (y ∷ ys) zero x all at = let same : x ≡ y = cc in ap f same ∙ (both (f y) _ all).0
passes_there f (y ∷ ys) (suc j) x all at = passes_there f ys j x (both (f y) _ all).1 at

-- what passes at each place passes all
pub all_places : {A : Type 0} (f : A → Bool) (xs : List A) → ((j : ℕ) (x : A) → slice_get xs j ≡ Some x → f x ≡ true) → list_all f xs ≡ true
all_places f [] each = refl
all_places f (x ∷ xs) each = and_both _ _ (each 0 x refl) (all_places f xs (λ j y at. each (suc j) y at))

-- a rule of a list without two of one name is found by its name
pub found_by_name : (rules : List Rule) (j : ℕ) (rule : Rule) → named_once rules ≡ true → slice_get rules j ≡ Some rule → find (λ r. r.name.0 == rule.name.0) rules ≡ Some rule
found_by_name [] j rule once at = cc
found_by_name (r ∷ rs) zero rule once at = let same : r ≡ rule = cc in let name_is : (r.name.0 == rule.name.0) ≡ true = same_number r.name.0 rule.name.0 (ap (λ (x : Rule). x.name.0) same) in rw name_is at
found_by_name (r ∷ rs) (suc j) rule once at = by_name (r.name.0 == rule.name.0) refl (found_by_name rs j rule (both (not (list_any (λ other. r.name.0 == other.name.0) rs)) _ once).1 at)
  where
    others : list_any (λ other. r.name.0 == other.name.0) rs ≡ false
    others = not_is _ (both (not (list_any (λ other. r.name.0 == other.name.0) rs)) _ once).0
      where
        not_is : (b : Bool) → not b ≡ true → b ≡ false
        not_is true is = cc
        not_is false is = refl

    never : (rs : List Rule) (j : ℕ) → list_any (λ other. r.name.0 == other.name.0) rs ≡ false → slice_get rs j ≡ Some rule → (r.name.0 == rule.name.0) ≡ false
    never [] j none at = cc
    never (x ∷ xs) zero none at = let same : x ≡ rule = cc in ap (λ (y : Rule). r.name.0 == y.name.0) (sym same) ∙ (neither _ _ none).0
      where
        neither : (a b : Bool) → (a || b) ≡ false → (a ≡ false) × (b ≡ false)
        neither true b is = cc
        neither false b is = (refl, is)
    never (x ∷ xs) (suc j) none at = never xs j (second _ _ none) at
      where
        second : (a b : Bool) → (a || b) ≡ false → b ≡ false
        second true b is = cc
        second false b is = is

    by_name : (b : Bool) → (r.name.0 == rule.name.0) ≡ b → find (λ r. r.name.0 == rule.name.0) rs ≡ Some rule → find (λ r. r.name.0 == rule.name.0) (r ∷ rs) ≡ Some rule
    by_name true same rest = let far = never rs j others at in let clash : true ≡ false = sym same ∙ far in cc
    by_name false far rest = rw far rest

-- what a protocol says of a kind is as every part is
pub part_is : (p : Protocol) → IsProtocol p → (kind : Kind) → IsPart p (part p kind)
part_is p lawful Root = lawful.root
part_is p lawful Mid = lawful.mid
part_is p lawful Leaf = lawful.leaf

-- a rule of a part: it is found by its name, has a template, and what it names is declared
pub record IsRuled (p : Protocol) (kind : Kind) (rule : Rule) : Type 0 where
  pub found : rule_named p kind rule.name ≡ Some rule
  pub template : TemplateName
  pub has : template_of p kind rule ≡ Ok template
  pub known : IsTrue (is_rule (counts_of p (part p kind)) rule)

pub ruled : (p : Protocol) → IsProtocol p → AllHaveTemplates p → (kind : Kind) (j : ℕ) (rule : Rule) → slice_get (part p kind).rules j ≡ Some rule → IsRuled p kind rule
ruled p lawful all kind j rule at =
    let it = part_is p lawful kind in
    let found = found_by_name (part p kind).rules j rule it.rules_once at in
    let t = all.each kind rule.name rule found in
    record { found = found; template = t.0; has = t.1; known = passes_there (is_rule (counts_of p (part p kind))) (part p kind).rules j rule it.rules at }

module _ (p : Protocol) (tree : Tree) (lawful : IsProtocol p) (all : AllHaveTemplates p) (tree_is : IsLawful tree) where
  abbrev is_known : ModRule Reg Queue → Bool
  is_known rule = rule_known (has_reg p tree) (has_queue tree) rule

  of_rule : (o : ℕ) (kind : Kind) → kind_of tree o ≡ Some kind → (j : ℕ) (rule : Rule) → slice_get (part p kind).rules j ≡ Some rule → list_all is_known (map (rule_at p (place_of p tree o kind) rule) (named_at kind rule.take (length (children_of tree o)))) ≡ true
  of_rule o kind is j rule at =
      let it = ruled p lawful all kind j rule at in
      list_all-map is_known (rule_at p (place_of p tree o kind) rule) (named_at kind rule.take (length (children_of tree o)))
      ∙ all_imply (λ me. me_fits kind rule.take me (length (children_of tree o))) (λ me. is_known (rule_at p (place_of p tree o kind) rule me)) (named_at kind rule.take (length (children_of tree o)))
      (λ me fits. rule_there p tree o kind rule it.template me tree_is is it.has it.known fits)
      (named_fit kind rule.take (length (children_of tree o)))

  of_object : (o : ℕ) (kind : Kind) → kind_of tree o ≡ Some kind → list_all is_known (rules_at p (place_of p tree o kind)) ≡ true
  of_object o kind is =
      list_all-flat_map is_known (λ rule. map (rule_at p (place_of p tree o kind) rule) (named_at kind rule.take (length (children_of tree o)))) (part p kind).rules
      ∙ all_places (λ rule. list_all is_known (map (rule_at p (place_of p tree o kind) rule) (named_at kind rule.take (length (children_of tree o))))) (part p kind).rules (of_rule o kind is)

  numbered : (i : ℕ) (nodes : List Node) (g : ℕ × Node → Bool) → ((j : ℕ) (node : Node) → slice_get nodes j ≡ Some node → g (i + j, node) ≡ true) → list_all g (enumerate_from i nodes) ≡ true
  numbered i [] g each = refl
  numbered i (node ∷ nodes) g each =
      and_both _ _ (let here : i + 0 ≡ i = omega arith in rw here at (each 0 node refl))
      (numbered (i + 1) nodes g (λ j x at. let there : i + suc j ≡ i + 1 + j = omega arith in rw there at (each (suc j) x at)))

  pub all_known : list_all is_known (emitted_rules p tree) ≡ true
  all_known =
      list_all-flat_map is_known (λ (node : ℕ × Node). rules_at p (place_of p tree node.0 node.1.kind)) (enumerate_from 0 tree)
      ∙ numbered 0 tree (λ (node : ℕ × Node). list_all is_known (rules_at p (place_of p tree node.0 node.1.kind)))
      (λ j node at. let here : 0 + j ≡ j = omega arith in let is : kind_of tree j ≡ Some node.kind = rw at refl in subst (λ n. list_all is_known (rules_at p (place_of p tree n node.kind)) ≡ true) (sym here) (of_object j node.kind is))
