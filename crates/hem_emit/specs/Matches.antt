-- Modules that do exactly what a protocol does on a tree.
use Rattle.std.specs.Prelude.{ℕ, ◌≡◌, true, [], List, length, slice_get, option_map, is_some, Some}
use Rattle.hem_base.specs.declared.ids.Firing.{Firing}
use Rattle.hem_base.specs.declared.ids.Kind.{Kind}
use Rattle.hem_base.specs.declared.ids.LineId.{LineId}
use Rattle.hem_syntax.specs.declared.rule.Rule.{Rule}
use Rattle.hem_syntax.specs.Protocol.{Protocol, rule_named}
use Rattle.hem_fire.specs.OneFire.{me_fits}
use Rattle.hem_tree.specs.Tree.{Tree, kind_of, children_of}
use Rattle.hem_system.specs.State.{Line, Effect, is_own_child, place_of_me, effect_of, line_after, first_line}
use Rattle.hem_module.specs.declared.rules.ModRule.{ModRule}
use Rattle.hem_module.specs.Modules.{Modules}
use Rattle.hem_module.specs.States.{can_fire, stepped, start_of}
use Rattle.hem_emit.specs.Formed.{IsLine}
use Rattle.hem_emit.specs.Written.{state_of}

-- what a firing names is there: the object, a rule of its kind, and a child of the object where the rule takes from one
pub record IsName (p : Protocol) (tree : Tree) (f : Firing) : Type 0 where
  pub kind : Kind
  pub rule : Rule
  pub kind_is : kind_of tree f.object.0 ≡ Some kind
  pub named : rule_named p kind f.rule ≡ Some rule
  pub own_child : is_own_child tree f.object.0 f.me ≡ true
  pub fits : me_fits kind rule.take (place_of_me tree f.object.0 f.me) (length (children_of tree f.object.0)) ≡ true

-- a module rule has the object, the rule's name and the child of a firing
pub record IsNamedAfter (p : Protocol) (r : ModRule) (f : Firing) : Type 0 where
  pub object : r.object ≡ f.object.0
  pub name : slice_get p.rule_names f.rule.0 ≡ Some r.name
  pub child : r.from ≡ option_map (λ c. c.0) f.me

-- each module rule is named after a firing, and each firing that names what is there has one module rule
pub record AreNamed (p : Protocol) (tree : Tree) (rules : List ModRule) : Type 0 where
  pub firing : (i : ℕ) (r : ModRule) (line : LineId) → slice_get rules i ≡ Some r → (f : Firing) × (f.line ≡ line) × IsName p tree f × IsNamedAfter p r f
  pub rule : (f : Firing) → IsName p tree f → (i : ℕ) × (r : ModRule) × (slice_get rules i ≡ Some r) × IsNamedAfter p r f
  pub once : (f : Firing) (i j : ℕ) (r q : ModRule) → slice_get rules i ≡ Some r → slice_get rules j ≡ Some q → IsNamedAfter p r f → IsNamedAfter p q f → i ≡ j

-- in the image of a line, reachable or not, a module rule steps exactly where the firing that it is named after is possible, and to the image of the line to which that leads
pub record StepAlike (p : Protocol) (tree : Tree) (rules : List ModRule) : Type 0 where
  pub can : (f : Firing) (line : Line) (i : ℕ) (r : ModRule) → slice_get rules i ≡ Some r → IsName p tree f → IsNamedAfter p r f → IsLine p tree line → can_fire (state_of p tree line) r ≡ is_some (effect_of p tree line f)
  pub leads : (f : Firing) (line : Line) (e : Effect) (i : ℕ) (r : ModRule) → slice_get rules i ≡ Some r → IsName p tree f → IsNamedAfter p r f → IsLine p tree line → effect_of p tree line f ≡ Some e → stepped (state_of p tree line) r ≡ state_of p tree (line_after tree f e line)

-- modules match a protocol on a tree: their rules are named after its firings and step as they do, and they start in the image of the start without requests
pub record Matches (p : Protocol) (tree : Tree) (m : Modules) : Type 0 where
  pub names : AreNamed p tree m.rules
  pub steps : StepAlike p tree m.rules
  pub start : start_of m ≡ state_of p tree (first_line p tree (λ o. []))
