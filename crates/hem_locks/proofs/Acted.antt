-- A firing on a line, where each rule has a template.
use Rattle.std.proofs.Common.{◌≡◌, ap, sym, ℕ, Option, Some}
use Rattle.hem_base.specs.declared.ids.Firing.{Firing}
use Rattle.hem_base.specs.declared.ids.Kind.{Kind}
use Rattle.hem_syntax.specs.declared.rule.Rule.{Rule}
use Rattle.hem_syntax.specs.Protocol.{Protocol, rule_named}
use Rattle.hem_object.specs.Local.{Local}
use Rattle.hem_fire.specs.OneFire.{Heads, OneFire, can_fire, local_after, outs_of}
use Rattle.hem_tree.specs.Tree.{Tree, kind_of}
use Rattle.hem_system.specs.State.{Line, Effect, local_at, heads_of, taken_heads, is_own_child, place_of_me, rule_effect, own_effect, effect_of}
use Rattle.hem_rows.specs.Rows.{AllHaveTemplates}
use Rattle.hem_locks.specs.Acted.{IsActed}
use Rattle.hem_rows.proofs.Choices.{if_some, if_passed, chosen}
use Rattle.hem_rows.proofs.Acts.{acts_by_template}

-- the effect of a rule is that of one firing of it
pub fired : (p : Protocol) (kind : Kind) (rule : Rule) (me : Option ℕ) (local : Local) (heads : Heads) (e : Effect) → rule_effect p kind rule me local heads ≡ Some e → OneFire p kind rule me local heads e.after e.outs
fired p kind rule me local heads e is =
    let outs = outs_of p kind rule me local heads in
    let it = chosen (can_fire p kind rule me local heads) (let made : Effect = record { after = local_after p kind rule me local heads; took = taken_heads outs heads; outs = outs } in made) e is in
    record { possible = it.0; leaves = sym (ap (λ (e : Effect). e.after) it.1); gives = sym (ap (λ (e : Effect). e.outs) it.1) }

-- a firing on a line acts as a row says
pub acted : (p : Protocol) (tree : Tree) (line : Line) (f : Firing) (e : Effect) → AllHaveTemplates p → effect_of p tree line f ≡ Some e → IsActed p tree line f e
acted p tree line f e templates is =
    let by_local = if_some (λ local. own_effect p tree f local (heads_of tree line f.object.0 f.me)) (local_at line f.object.0) e is in
    let local = by_local.0 in
    let heads = heads_of tree line f.object.0 f.me in
    let by_kind = if_some _ (kind_of tree f.object.0) e by_local.2 in
    let kind = by_kind.0 in
    let by_rule = if_some _ (rule_named p kind f.rule) e by_kind.2 in
    let rule = by_rule.0 in
    let by_child = if_passed (is_own_child tree f.object.0 f.me) _ e by_rule.2 in
    let me = place_of_me tree f.object.0 f.me in
    let template = templates.each kind f.rule rule by_rule.1 in
    record {
      kind = kind;
      rule = rule;
      template = template.0;
      local = local;
      kind_is = by_kind.1;
      named = by_rule.1;
      has_template = template.1;
      own_child = by_child.0;
      there = by_local.1;
      acts = acts_by_template p kind rule template.0 me local heads e.after e.outs template.1 (fired p kind rule me local heads e by_child.1);
    }
