-- No two module rules are named after one firing.
use Rattle.std.proofs.Common.{◌≡◌, refl, ap, ◌∙◌, ℕ, true, ◌&&◌, List, length, map, Option, Some, not, [], ◌∷◌}
use Rattle.std.specs.Prelude.{◌==◌}
use Rattle.std.specs.List.{list_all, flat_map, enumerate_from, list_any}
use Rattle.std.proofs.lemmas.Bool.{eqb-true}
use Rattle.hem_base.specs.declared.ids.Kind.{Kind}
use Rattle.hem_base.specs.declared.ids.Kind.TheVariants.{Root, Mid, Leaf}
use Rattle.hem_syntax.specs.declared.rule.Rule.{Rule}
use Rattle.hem_syntax.specs.Protocol.{Protocol, part}
use Rattle.hem_syntax.specs.Lawful.{IsProtocol, named_once}
use Rattle.hem_tree.specs.Tree.{Tree, Node, is_number, children_of}
use Rattle.hem_rows.proofs.Choices.{both}
use Rattle.hem_emit.specs.Emit.{named_at}
use Rattle.hem_emit.specs.Numbering.{are_apart, same_child, Slot, slots_at, slots, FiringName, same_name, name_of}
use Rattle.hem_emit.proofs.Tests.{same_number, list_all-flat_map}
use Rattle.hem_emit.proofs.NumberingApart.{all_pass, all_mapped, apart_map, apart_blocks, places_apart}
use Rattle.hem_emit.proofs.NumberingRules.{same_child_is, child_once, map_map, map_blocks}

-- a name of its parts
abbrev named : ℕ → ℕ → Option ℕ → FiringName
named o r me = record { object = o; rule = r; me = me }

pub same_name_is : (a b : FiringName) → same_name a b ≡ true → a ≡ b
same_name_is a b same =
    let parts = both (a.object == b.object && a.rule == b.rule) (same_child a.me b.me) same in
    let first = both (a.object == b.object) (a.rule == b.rule) parts.0 in
    ap (λ o. named o a.rule a.me) (eqb-true a.object b.object first.0)
    ∙ ap (λ r. named b.object r a.me) (eqb-true a.rule b.rule first.1)
    ∙ ap (λ me. named b.object b.rule me) (same_child_is a.me b.me parts.1)

module _ (p : Protocol) (tree : Tree) (once : (kind : Kind) → are_apart (λ (a b : Rule). a.name.0 == b.name.0) (part p kind).rules ≡ true) where
  -- the names of a rule, and of an object's rules
  abbrev of_rule : ℕ → Kind → Rule → List FiringName
  of_rule o kind rule = map (named o rule.name.0) (named_at kind rule.take (length (children_of tree o)))

  abbrev of_object : ℕ → Kind → List FiringName
  of_object o kind = flat_map (of_rule o kind) (part p kind).rules

  names_at : (o : ℕ) (kind : Kind) → map name_of (slots_at p tree o kind) ≡ of_object o kind
  names_at o kind =
      map_blocks name_of (λ (rule : Rule). map (λ me. let s : Slot = record { object = o; kind = kind; rule = rule; me = me } in s) (named_at kind rule.take (length (children_of tree o)))) (of_rule o kind)
      (λ rule. map_map name_of (λ me. let s : Slot = record { object = o; kind = kind; rule = rule; me = me } in s) (named_at kind rule.take (length (children_of tree o))))
      (part p kind).rules

  object_apart : (o : ℕ) (kind : Kind) → are_apart same_name (of_object o kind) ≡ true
  object_apart o kind =
      apart_blocks same_name same_name_is (λ n. Some n.rule) (λ (rule : Rule). rule.name.0) (of_rule o kind)
      (λ rule. all_mapped (λ n. is_number (Some n.rule) rule.name.0) (named o rule.name.0) (λ me. same_number rule.name.0 rule.name.0 refl) (named_at kind rule.take (length (children_of tree o))))
      (λ rule. apart_map same_name same_name_is (named o rule.name.0) same_child (λ me you. rw (same_number o o refl, same_number rule.name.0 rule.name.0 refl) refl) (named_at kind rule.take (length (children_of tree o))) (child_once kind rule.take (length (children_of tree o))))
      (part p kind).rules (once kind)

  object_named : (o : ℕ) (kind : Kind) → list_all (λ (n : FiringName). is_number (Some n.object) o) (of_object o kind) ≡ true
  object_named o kind =
      list_all-flat_map (λ (n : FiringName). is_number (Some n.object) o) (of_rule o kind) (part p kind).rules
      ∙ all_pass _ (λ rule. all_mapped (λ (n : FiringName). is_number (Some n.object) o) (named o rule.name.0) (λ me. same_number o o refl) (named_at kind rule.take (length (children_of tree o)))) (part p kind).rules

  -- no two slots have one name
  names_apart : are_apart same_name (map name_of (slots p tree)) ≡ true
  names_apart =
      ap (are_apart same_name) (map_blocks name_of (λ (node : ℕ × Node). slots_at p tree node.0 node.1.kind) (λ node. of_object node.0 node.1.kind) (λ node. names_at node.0 node.1.kind) (enumerate_from 0 tree))
      ∙ apart_blocks same_name same_name_is (λ n. Some n.object) (λ (node : ℕ × Node). node.0) (λ node. of_object node.0 node.1.kind) (λ node. object_named node.0 node.1.kind) (λ node. object_apart node.0 node.1.kind) (enumerate_from 0 tree) (places_apart 0 tree)

rules_once : (rules : List Rule) → named_once rules ≡ true → are_apart (λ (a b : Rule). a.name.0 == b.name.0) rules ≡ true
rules_once rules once = same rules ∙ once
  where
    same : (rules : List Rule) → are_apart (λ (a b : Rule). a.name.0 == b.name.0) rules ≡ named_once rules
    same [] = refl
    same (r ∷ rules) = ap (λ b. not (list_any (λ (other : Rule). r.name.0 == other.name.0) rules) && b) (same rules)

-- no two slots of a protocol that can be written have one name
pub slots_apart : (p : Protocol) (tree : Tree) → IsProtocol p → are_apart same_name (map name_of (slots p tree)) ≡ true
slots_apart p tree lawful = names_apart p tree of_kind
  where
    of_kind : (kind : Kind) → are_apart (λ (a b : Rule). a.name.0 == b.name.0) (part p kind).rules ≡ true
    of_kind Root = rules_once p.root.rules lawful.root.rules_once
    of_kind Mid = rules_once p.mid.rules lawful.mid.rules_once
    of_kind Leaf = rules_once p.leaf.rules lawful.leaf.rules_once
