-- Each possible firing is among those that a walk tries.
use Rattle.std.proofs.Common.{◌≡◌, refl, sym, ap, ◌∙◌, ℕ, ◌<◌, ◌≤◌, arith, Bool, true, false, ◌&&◌, not, cond, List, [], length, map, Option, Some, None, eqb-true}
use Rattle.std.specs.Prelude.{◌==◌, find, nat_le, slice_get, option_map, is_some}
use Rattle.std.specs.List.{flat_map}
use Rattle.std.specs.Option.{option_map_or}
use Rattle.std.proofs.lemmas.Option.{slice_get_within, slice_get-map}
use Rattle.std.proofs.lemmas.Bool.Decides.{nat_tests}
use Rattle.hem_base.specs.declared.ids.ObjectId.{ObjectId}
use Rattle.hem_base.specs.declared.ids.Firing.{Firing}
use Rattle.hem_base.specs.declared.ids.Kind.{Kind}
use Rattle.hem_syntax.specs.declared.rule.Rule.{Rule}
use Rattle.hem_syntax.specs.Protocol.{Protocol, part, rule_named}
use Rattle.hem_tree.specs.Tree.{Tree, Node, kind_of, is_child, children_of}
use Rattle.hem_system.specs.State.{State, heads_of, own_effect, is_own_child, local_at, fire}
use Rattle.hem_system.specs.Ended.{is_self, self_firings, Within, Ended}
use Rattle.hem_system.proofs.Own.{came}
use Rattle.hem_system.proofs.Kids.{passes_at}
use Rattle.hem_system.proofs.Takers.{parent_is}
use Rattle.hem_rows.proofs.Choices.{both, if_some, if_mapped, if_passed, found-passes}
use Rattle.hem_walk.specs.Walk.{firing_of, named, firings_of_rule, rules_of, firings_at, is_spent, is_ready, IsThere, IsOver}
use Rattle.hem_walk.proofs.Finding.{mapped_none, flat_none}

-- an object with a kind is there
within : (tree : Tree) (o : ℕ) (kind : Kind) → kind_of tree o ≡ Some kind → o < length tree
within tree o kind is = let node = if_mapped (λ (node : Node). node.kind) (slice_get tree o) kind is in slice_get_within tree o node.0 node.1

-- what a possible firing names is there
pub record IsNamed (p : Protocol) (tree : Tree) (s : State) (f : Firing) : Type 0 where
  pub there : IsThere tree s f.line.0 f.object.0
  pub kind : Kind
  pub kind_is : kind_of tree f.object.0 ≡ Some kind
  pub rule : Rule
  pub rule_is : rule_named p kind f.rule ≡ Some rule
  pub child : is_own_child tree f.object.0 f.me ≡ true

pub names : (p : Protocol) (tree : Tree) (s next : State) (f : Firing) → fire p tree s f ≡ Some next → IsNamed p tree s f
names p tree s next f fires =
    let it = came {p = p} {tree = tree} {old = s} {new = next} {f = f} (record { leads = fires }) in
    let heads = heads_of tree it.line f.object.0 f.me in
    let by_local = if_some (λ local. own_effect p tree f local heads) (local_at it.line f.object.0) it.effect it.possible in
    let by_kind = if_some _ (kind_of tree f.object.0) it.effect by_local.2 in
    let by_rule = if_some _ (rule_named p by_kind.0 f.rule) it.effect by_kind.2 in
    let by_child = if_passed (is_own_child tree f.object.0 f.me) _ it.effect by_rule.2 in
    record {
      there = record { line = slice_get_within s f.line.0 it.line it.there; object = within tree f.object.0 by_kind.0 by_kind.1 };
      kind = by_kind.0;
      kind_is = by_kind.1;
      rule = by_rule.0;
      rule_is = by_rule.1;
      child = by_child.0;
    }

-- a child stands among the children
child_at : (tree : Tree) (k o : ℕ) → is_child tree k o ≡ true → (i : ℕ) × (slice_get (children_of tree o) i ≡ Some k)
child_at tree k o is =
    let node = if_some (λ (node : Node). node.parent) (slice_get tree k) o (parent_is tree k o is) in
    (_, passes_at (λ k. is_child tree k o) (length tree) k (slice_get_within tree k node.0 node.1) is)

-- where no firing of a rule passes a test, that with an own child doesn't
of_rule : (tree : Tree) (l o : ℕ) (rule : Rule) (test : Firing → Bool) (me : Option ObjectId) → is_own_child tree o me ≡ true → find test (firings_of_rule tree l o rule) ≡ None → test (firing_of l o rule me) ≡ false
of_rule tree l o rule test me own none = by_me me own (test (firing_of l o rule None)) refl none
  where
    by_me : (me : Option ObjectId) → is_own_child tree o me ≡ true → (b : Bool) → test (firing_of l o rule None) ≡ b → cond b (Some (firing_of l o rule None)) (find test (map (firing_of l o rule) (map named (children_of tree o)))) ≡ None → test (firing_of l o rule me) ≡ false
    by_me me own true is none = cc
    by_me None own false is none = is
    by_me (Some child) own false is none =
        let at = child_at tree child.0 o own in
        mapped_none test (firing_of l o rule) (map named (children_of tree o)) at.0 (Some child) none (slice_get-map named (children_of tree o) at.0 ∙ ap (option_map named) at.1)

-- where none at an object and line passes, no possible firing there does
pub none_passes : (p : Protocol) (tree : Tree) (s : State) (f : Firing) (test : Firing → Bool) → IsNamed p tree s f → find test (firings_at p tree f.line.0 f.object.0) ≡ None → test f ≡ false
none_passes p tree s f test it none =
    let all = firings_of_rule tree f.line.0 f.object.0 in
    let rules : rules_of p tree f.object.0 ≡ (part p it.kind).rules = ap (λ (o : Option Kind). option_map_or (λ kind. (part p kind).rules) o []) it.kind_is in
    let here = flat_none test all (λ r. r.name.0 == f.rule.0) (part p it.kind).rules it.rule it.rule_is (sym (ap (λ rs. find test (flat_map all rs)) rules) ∙ none) in
    let name : it.rule.name.0 ≡ f.rule.0 = eqb-true it.rule.name.0 f.rule.0 (found-passes (λ r. r.name.0 == f.rule.0) (part p it.kind).rules it.rule it.rule_is) in
    sym (ap (λ n. test (let g : Firing = record { line = f.line; object = f.object; rule = record { 0 = n }; me = f.me } in g)) name)
    ∙ of_rule tree f.line.0 f.object.0 it.rule test f.me it.child here

-- where no firing is ready, only spent ones are possible
pub ends : (p : Protocol) (tree : Tree) (k : ℕ) (h : List Firing) (s : State) → Within p tree h k → IsOver p tree k h s → Ended p tree h s k
ends p tree k h s bounded over f next fires =
    let it = names p tree s next f fires in
    let fails = none_passes p tree s f (is_ready p tree k h s) it (over.none f.line.0 f.object.0 it.there) in
    let spent : is_spent p tree k h f ≡ true = by_test (fire p tree s f) next fires (is_spent p tree k h f) fails in
    let parts = both (is_self p tree f) (nat_le k (self_firings p tree h f.line.0 f.object.0)) spent in
    let few = bounded f.line.0 f.object.0 in
    (parts.0, equal k (self_firings p tree h f.line.0 f.object.0) parts.1 few)
  where
    by_test : (o : Option State) (next : State) → o ≡ Some next → (b : Bool) → (is_some o && not b) ≡ false → b ≡ true
    by_test None next is b fails = cc
    by_test (Some s) next is true fails = refl
    by_test (Some s) next is false fails = cc

    equal : (k n : ℕ) → nat_le k n ≡ true → n ≤ k → n ≡ k
    equal k n least most = grind (arith, nat_tests)
