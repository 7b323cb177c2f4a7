-- The rules of all objects by places are the module rules as they are written.
use Rattle.std.proofs.Common.{◌≡◌, refl, ap, ◌∙◌, ℕ, ◌+◌, arith, [], length, map, Some}
use Rattle.std.specs.Prelude.{slice_get, option_map}
use Rattle.std.specs.List.{flat_map, enumerate_from}
use Rattle.std.specs.Option.{option_map_or}
use Rattle.hem_syntax.specs.Protocol.{Protocol}
use Rattle.hem_tree.specs.Tree.{Tree, Node, below}
use Rattle.hem_module.specs.Module.{equals, differs, has_head, number, read, head_value, deq, put, enq, ModRule}
use Rattle.hem_emit.specs.Names.{Reg, Queue}
use Rattle.hem_emit.specs.Place.{Test, Amount, Deed}
use Rattle.hem_emit.specs.Emit.{place_of, rules_at, emitted_rules}
use Rattle.hem_emit.specs.Written.{written_test, written_amount, written_deed, written_as}
use Rattle.hem_translate.specs.ByPlace.{test_at, amount_at, deed_at, rule_by_places, places_of}
use Rattle.hem_translate.specs.ByObject.{rules_by, object_rules}
use Rattle.hem_translate.proofs.Statuses.{map_spread}
use Rattle.hem_translate.proofs.Further.{spread_below}

module _ (p : Protocol) (tree : Tree) where
  same_test : (t : Test) → test_at (places_of p tree) t ≡ written_test p tree t
  same_test (equals r n) = refl
  same_test (differs r n) = refl
  same_test (has_head q id) = refl

  same_amount : (a : Amount) → amount_at (places_of p tree) a ≡ written_amount p tree a
  same_amount (number n) = refl
  same_amount (read r) = refl
  same_amount (head_value q) = refl

  same_deed : (d : Deed) → deed_at (places_of p tree) d ≡ written_deed p tree d
  same_deed (deq q) = refl
  same_deed (put r (number n)) = refl
  same_deed (put r (read q)) = refl
  same_deed (put r (head_value q)) = refl
  same_deed (enq q id (number n)) = refl
  same_deed (enq q id (read r)) = refl
  same_deed (enq q id (head_value r)) = refl

  same_rule : (r : ModRule Reg Queue) → rule_by_places (places_of p tree) r ≡ written_as p tree r
  same_rule r = λ i. record { object = r.object; name = r.name; from = r.child; spontaneous = r.spontaneous; clauses = map (λ c. record { atoms = map (λ t. same_test t i) c }) r.clauses; actions = map (λ a. record { cond = map (λ t. same_test t i) a.tests; act = same_deed a.deed i }) r.actions }

  -- the rules of all objects
  pub all_written : flat_map (object_rules (places_of p tree) p tree) (below (length tree)) ≡ map (written_as p tree) (emitted_rules p tree)
  unfolding object_rules
  all_written =
      spread_below (λ o. object_rules (places_of p tree) p tree o) (λ node. map (rule_by_places (places_of p tree)) (rules_at p (place_of p tree node.0 node.1.kind))) 0 tree here
      ∙ map_spread (rule_by_places (places_of p tree)) (λ node. rules_at p (place_of p tree node.0 node.1.kind)) (enumerate_from 0 tree)
      ∙ (λ i. map (λ r. same_rule r i) (emitted_rules p tree))
    where
      here : (o : ℕ) (node : Node) → slice_get tree o ≡ Some node → object_rules (places_of p tree) p tree o ≡ map (rule_by_places (places_of p tree)) (rules_at p (place_of p tree (0 + o) node.kind))
      here o node at =
          let same : o ≡ 0 + o = omega arith in
          ap (λ n. option_map_or (rules_by (places_of p tree) p tree o) (option_map (λ (m : Node). m.kind) n) []) at
          ∙ ap (λ k. map (rule_by_places (places_of p tree)) (rules_at p (place_of p tree k node.kind))) same
