use Rattle.std.proofs.Common.{◌≡◌, ◌++◌, subst, OnOk}
use Rattle.hem_emit.specs.Actions.{set_targets}
use Rattle.hem_translate.specs.ByPlace.{action_at}
use Rattle.hem_translate.proofs.Statuses.{map_spread}
use Rattle.hem_translate.proofs.actions.push_all_targets.Goals as goal

pub returns : goal.returns
returns c = subst (λ xs. OnOk c.push_each_targets.result (c.push_each_targets.new.actions ≡ c.args.actions.now ++ xs)) (map_spread (action_at c.args.l.now) (set_targets c.args.site.now) c.args.sets.now) c.push_each_targets.ensures
