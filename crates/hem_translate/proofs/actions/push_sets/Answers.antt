use Rattle.std.proofs.Common.{◌≡◌, ◌++◌, subst, OnOk}
use Rattle.std.specs.List.{flat_map}
use Rattle.hem_emit.specs.Place.{asker_of}
use Rattle.hem_emit.specs.Actions.{set_own, set_targets, set_me}
use Rattle.hem_translate.specs.ByPlace.{action_at}
use Rattle.hem_translate.proofs.Statuses.{map_three}
use Rattle.hem_translate.proofs.actions.push_sets.Goals as goal

pub returns : goal.returns
returns c =
    let sets = c.args.rule.now.sets in
    subst (λ xs. OnOk c.push_set_parts.result (c.push_set_parts.new.actions ≡ c.args.actions.now ++ xs)) (map_three (action_at c.args.l.now) (flat_map (set_own c.args.site.now c.args.me c.args.rule.now.take) sets) (flat_map (set_targets c.args.site.now) sets) (flat_map (set_me c.args.site.now (asker_of c.args.rule.now.take c.args.me)) sets)) c.push_set_parts.ensures
