-- The parts of a firing's effect at its object.
use Rattle.std.proofs.Common.{◌≡◌, refl, true, Some}
use Rattle.hem_base.specs.declared.ids.Kind.{Kind}
use Rattle.hem_base.specs.declared.ids.Firing.{Firing}
use Rattle.hem_syntax.specs.declared.rule.Rule.{Rule}
use Rattle.hem_syntax.specs.Protocol.{Protocol, rule_named}
use Rattle.hem_object.specs.Local.{Local}
use Rattle.hem_tree.specs.Tree.{Tree, kind_of}
use Rattle.hem_fire.specs.OneFire.{Heads, can_fire}
use Rattle.hem_system.specs.State.{Effect, taken_heads, rule_effect, own_effect, is_own_child, place_of_me}
use Rattle.hem_rows.proofs.Choices.{chosen, if_some, if_passed}

-- its kind and rule, and that the child that it names is its object's
pub record IsOwnEffect (p : Protocol) (tree : Tree) (f : Firing) (local : Local) (heads : Heads) (e : Effect) : Type 0 where
  pub kind : Kind
  pub rule : Rule
  pub child : is_own_child tree f.object.0 f.me ≡ true
  pub named : rule_named p kind f.rule ≡ Some rule
  pub there : kind_of tree f.object.0 ≡ Some kind
  pub effect : rule_effect p kind rule (place_of_me tree f.object.0 f.me) local heads ≡ Some e

pub own_effect-parts : (p : Protocol) (tree : Tree) (f : Firing) (local : Local) (heads : Heads) (e : Effect) → own_effect p tree f local heads ≡ Some e → IsOwnEffect p tree f local heads e
own_effect-parts p tree f local heads e is =
    let by_kind = if_some _ (kind_of tree f.object.0) e is in
    let by_rule = if_some _ (rule_named p by_kind.0 f.rule) e by_kind.2 in
    let by_child = if_passed (is_own_child tree f.object.0 f.me) _ e by_rule.2 in
    record { kind = by_kind.0; rule = by_rule.0; child = by_child.0; named = by_rule.1; there = by_kind.1; effect = by_child.1 }

-- a firing takes of its heads those that its outs name
pub own_effect-took : (p : Protocol) (tree : Tree) (f : Firing) (local : Local) (heads : Heads) (e : Effect) → own_effect p tree f local heads ≡ Some e → e.took ≡ taken_heads e.outs heads
own_effect-took p tree f local heads e is =
    let parts = own_effect-parts p tree f local heads e is in
    let it = chosen (can_fire p parts.kind parts.rule (place_of_me tree f.object.0 f.me) local heads) _ e parts.effect in
    rw (← it.1) refl
