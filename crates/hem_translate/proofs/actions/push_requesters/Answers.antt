use Rattle.std.proofs.Common.{◌≡◌, ◌++◌, subst, OnOk}
use Rattle.hem_emit.specs.Actions.{set_me}
use Rattle.hem_translate.specs.Askers.{asker_is}
use Rattle.hem_translate.specs.ByPlace.{action_at}
use Rattle.hem_translate.proofs.Statuses.{map_spread}
use Rattle.hem_translate.proofs.actions.push_requesters.Goals as goal

pub returns : goal.returns
returns c = subst (λ xs. OnOk c.push_each_requester.result (c.push_each_requester.new.actions ≡ c.args.actions.now ++ xs)) (map_spread (action_at c.args.l.now) (set_me c.args.site.now (asker_is c.args.who)) c.args.sets.now) c.push_each_requester.ensures
