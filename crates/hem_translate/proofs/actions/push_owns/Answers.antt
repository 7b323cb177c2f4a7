use Rattle.std.proofs.Common.{◌≡◌, ◌++◌, subst, OnOk}
use Rattle.hem_emit.specs.Actions.{set_own}
use Rattle.hem_translate.specs.ByPlace.{action_at}
use Rattle.hem_translate.proofs.Statuses.{map_spread}
use Rattle.hem_translate.proofs.actions.push_owns.Goals as goal

pub returns : goal.returns
returns c = subst (λ xs. OnOk c.push_each_own.result (c.push_each_own.new.actions ≡ c.args.actions.now ++ xs)) (map_spread (action_at c.args.l.now) (set_own c.args.site.now c.args.me c.args.take) c.args.sets.now) c.push_each_own.ensures
