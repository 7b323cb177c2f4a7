use Rattle.std.proofs.Common.{◌≡◌, ◌++◌, [], ap, ◌∙◌, subst, OnOk, map}
use Rattle.hem_emit.specs.Actions.{amounts_of}
use Rattle.hem_translate.specs.Amounts.{acted, counted_at}
use Rattle.hem_translate.specs.Places.{reg_of}
use Rattle.hem_translate.specs.declared.amounts.Deed.TheVariants.{Put}
use Rattle.hem_translate.proofs.Spreads.{put_valued}
use Rattle.hem_translate.proofs.actions.push_value.Goals as goal

pub returns : goal.returns
returns c = subst (λ xs. OnOk c.push_counted.result (c.push_counted.new.actions ≡ c.args.actions.now ++ xs)) (ap (λ r. map (acted [] (Put r)) (map (counted_at c.args.l.now) (amounts_of c.args.site.now c.args.me c.args.take c.args.value))) c.reg-place.ensures ∙ put_valued c.args.l.now (reg_of c.args.reg) (amounts_of c.args.site.now c.args.me c.args.take c.args.value)) c.push_counted.ensures
