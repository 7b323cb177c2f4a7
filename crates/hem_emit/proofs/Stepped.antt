-- A written rule steps as the firing that it is named after.
use Rattle.std.proofs.Common.{◌≡◌, refl, ap, sym, ◌∙◌, Bool, true, false, cond, Option, Some, None}
use Rattle.std.specs.Prelude.{is_some, unwrap_or}
use Rattle.hem_base.specs.declared.ids.Firing.{Firing}
use Rattle.hem_base.specs.declared.ids.Kind.{Kind}
use Rattle.hem_syntax.specs.declared.rule.Rule.{Rule}
use Rattle.hem_syntax.specs.Protocol.{Protocol}
use Rattle.hem_template.specs.declared.template_name.TemplateName.{TemplateName}
use Rattle.hem_object.specs.Local.{Local}
use Rattle.hem_fire.specs.OneFire as one_fire
use Rattle.hem_fire.specs.OneFire.{local_after, outs_of}
use Rattle.hem_tree.specs.Tree.{Tree}
use Rattle.hem_system.specs.State.{Line, Effect, heads_of, place_of_me, taken_heads, effect_of, line_after}
use Rattle.hem_module.specs.States.{can_fire, stepped}
use Rattle.hem_emit.specs.Emit.{place_of, rule_at}
use Rattle.hem_emit.specs.Formed.{IsFiring}
use Rattle.hem_emit.specs.Numbering.{has_reg, has_queue, rule_known}
use Rattle.hem_emit.specs.Written.{written_as, state_of}
use Rattle.hem_emit.proofs.Shown.{image_exact}
use Rattle.hem_emit.proofs.Here.{rule_there}
use Rattle.hem_emit.proofs.Steps.{led, made}
use Rattle.hem_emit.proofs.Placed.{can_is, leads_to}

known : {p : Protocol} {tree : Tree} {line : Line} {f : Firing} {kind : Kind} {rule : Rule} {t : TemplateName} {local : Local} → IsFiring p tree line f kind rule t local → rule_known (has_reg p tree) (has_queue tree) (rule_at p (place_of p tree f.object.0 kind) rule (place_of_me tree f.object.0 f.me)) ≡ true
known {p = p} {tree = tree} {f = f} {kind = kind} {rule = rule} {t = t} it = rule_there p tree f.object.0 kind rule t (place_of_me tree f.object.0 f.me) it.tree_is it.kind_is it.has it.declared it.fits

pub can_written : (p : Protocol) (tree : Tree) (line : Line) (f : Firing) (kind : Kind) (rule : Rule) (t : TemplateName) (local : Local) → IsFiring p tree line f kind rule t local → can_fire (state_of p tree line) (written_as p tree (rule_at p (place_of p tree f.object.0 kind) rule (place_of_me tree f.object.0 f.me))) ≡ is_some (effect_of p tree line f)
can_written p tree line f kind rule t local it =
    can_is p tree line (rule_at p (place_of p tree f.object.0 kind) rule (place_of_me tree f.object.0 f.me)) (known it)
    ∙ image_exact p tree line f kind rule t local it.tree_is it.kind_is it.named it.has it.declared it.own_child it.fits it.there it.formed

pub leads_written : (p : Protocol) (tree : Tree) (line : Line) (f : Firing) (kind : Kind) (rule : Rule) (t : TemplateName) (local : Local) (e : Effect) → IsFiring p tree line f kind rule t local → effect_of p tree line f ≡ Some e → stepped (state_of p tree line) (written_as p tree (rule_at p (place_of p tree f.object.0 kind) rule (place_of_me tree f.object.0 f.me))) ≡ state_of p tree (line_after tree f e line)
leads_written p tree line f kind rule t local e it possible = by_can (one_fire.can_fire p kind rule (place_of_me tree f.object.0 f.me) local (heads_of tree line f.object.0 f.me)) refl
  where
    made_by : (b : Bool) → one_fire.can_fire p kind rule (place_of_me tree f.object.0 f.me) local (heads_of tree line f.object.0 f.me) ≡ b → Some e ≡ cond b (Some (let outs = outs_of p kind rule (place_of_me tree f.object.0 f.me) local (heads_of tree line f.object.0 f.me) in let x : Effect = record { after = local_after p kind rule (place_of_me tree f.object.0 f.me) local (heads_of tree line f.object.0 f.me); took = taken_heads outs (heads_of tree line f.object.0 f.me); outs = outs } in x)) None
    made_by b can = sym possible ∙ made p tree line f kind rule t local it.tree_is it.kind_is it.named it.has it.declared it.own_child it.fits it.objects it.there it.formed b can

    by_can : (b : Bool) → one_fire.can_fire p kind rule (place_of_me tree f.object.0 f.me) local (heads_of tree line f.object.0 f.me) ≡ b → stepped (state_of p tree line) (written_as p tree (rule_at p (place_of p tree f.object.0 kind) rule (place_of_me tree f.object.0 f.me))) ≡ state_of p tree (line_after tree f e line)
    by_can false can = let none = made_by false can in cc
    by_can true can =
        leads_to p tree line (rule_at p (place_of p tree f.object.0 kind) rule (place_of_me tree f.object.0 f.me)) (known it) _
        (led p tree line f kind rule t local it.tree_is it.kind_is it.named it.has it.declared it.own_child it.fits it.objects it.there it.formed can)
        ∙ ap (λ (o : Option Effect). state_of p tree (line_after tree f (unwrap_or o e) line)) (sym (made_by true can))
