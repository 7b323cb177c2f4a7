use Rattle.hem_syntax.specs.declared.rule.Side.TheVariants.{Down}
use Rattle.hem_module.specs.Module.{put, number}
use Rattle.hem_emit.specs.Names.{awaits}
use Rattle.std.proofs.Common.{◌≡◌, ◌++◌, subst, OnOk, map}
use Rattle.hem_emit.specs.Place.{kids_at}
use Rattle.hem_emit.specs.Actions.{free_lock, always}
use Rattle.hem_translate.specs.ByPlace.{action_at}
use Rattle.hem_translate.proofs.Statuses.{map_two}
use Rattle.hem_translate.proofs.locks.push_free_down.Goals as goal

pub returns : goal.returns
returns c = subst (λ xs. OnOk c.push_free_both.result (c.push_free_both.new.actions ≡ c.args.actions.now ++ xs)) (map_two (action_at c.args.l.now) (free_lock c.args.site.now Down) (map (λ k. always (put (awaits k.1) (number 0))) (kids_at c.args.site.now))) c.push_free_both.ensures
