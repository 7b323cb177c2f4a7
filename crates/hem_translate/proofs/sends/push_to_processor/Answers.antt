use Rattle.std.specs.Prelude.{ℕ}
use Rattle.hem_emit.specs.Names.{Queue}
use Rattle.hem_system.specs.declared.lane.Lane.TheVariants.{Answers}
use Rattle.std.proofs.Common.{◌≡◌, ◌++◌, [], ap, ◌∙◌, subst, OnOk, map}
use Rattle.hem_emit.specs.Actions.{amounts_of}
use Rattle.hem_translate.specs.ByPlace.{queue_at}
use Rattle.hem_translate.specs.Amounts.{acted, counted_at}
use Rattle.hem_translate.specs.declared.amounts.Deed.TheVariants.{Send}
use Rattle.hem_translate.proofs.Spreads.{processor_sent}
use Rattle.hem_translate.proofs.sends.push_to_processor.Goals as goal

pub returns : goal.returns
returns c = subst (λ xs. OnOk c.push_counted.result (c.push_counted.new.actions ≡ c.args.actions.now ++ xs)) (ap (λ q. map (acted [] (Send q c.args.id)) (map (counted_at c.args.l.now) (amounts_of c.args.site.now c.args.me c.args.take c.args.value))) (c.queue-lane.ensures ∙ ap (λ (o : ℕ). let q : Queue = record { object = o; lane = Answers } in queue_at c.args.l.now q) c.object.ensures) ∙ processor_sent c.args.l.now c.args.site.now c.args.id (amounts_of c.args.site.now c.args.me c.args.take c.args.value)) c.push_counted.ensures
