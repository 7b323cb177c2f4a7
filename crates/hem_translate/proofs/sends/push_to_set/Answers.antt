use Rattle.std.specs.List.{flat_map}
use Rattle.std.proofs.Common.{◌≡◌, ◌++◌, ap, ◌∙◌, subst, OnOk, map}
use Rattle.hem_emit.specs.Place.{asker_of}
use Rattle.hem_emit.specs.Actions.{amounts_of, targets_at}
use Rattle.hem_translate.specs.Amounts.{counted_at}
use Rattle.hem_translate.specs.Targets.{sent_to}
use Rattle.hem_translate.proofs.Spreads.{set_sent}
use Rattle.hem_translate.proofs.sends.push_to_set.Goals as goal

pub returns : goal.returns
returns c = subst (λ xs. OnOk c.push_to_kids.result (c.push_to_kids.new.actions ≡ c.args.actions.now ++ xs)) (ap (λ ts. flat_map (sent_to c.args.l.now c.args.id (map (counted_at c.args.l.now) (amounts_of c.args.site.now c.args.me c.args.take c.args.value))) ts) c.requires ∙ set_sent c.args.l.now c.args.id (amounts_of c.args.site.now c.args.me c.args.take c.args.value) (targets_at c.args.site.now (asker_of c.args.take c.args.me) c.args.send)) c.push_to_kids.ensures
