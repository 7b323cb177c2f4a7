use Rattle.std.proofs.Common.{◌≡◌, ◌++◌, subst, OnOk}
use Rattle.hem_emit.specs.Place.{asker_of}
use Rattle.hem_emit.specs.Actions.{amounts_of}
use Rattle.hem_translate.proofs.Spreads.{child_sent}
use Rattle.hem_translate.proofs.sends.push_to_child.Goals as goal

pub returns : goal.returns
returns c = subst (λ xs. OnOk c.push_to_requesters.result (c.push_to_requesters.new.actions ≡ c.args.actions.now ++ xs)) (child_sent c.args.l.now c.args.site.now (asker_of c.args.take c.args.me) c.args.id (amounts_of c.args.site.now c.args.me c.args.take c.args.value)) c.push_to_requesters.ensures
