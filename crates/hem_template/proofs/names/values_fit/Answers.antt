use Rattle.std.proofs.Common.{◌∙◌, ap}
use Rattle.std.specs.List.{list_all}
use Rattle.hem_template.specs.Rows.{set_value_fits}
use Rattle.hem_template.proofs.Values.{values_apart, by_first, by_none}
use Rattle.hem_template.proofs.names.values_fit.Goals as goal

pub returns-then-set_values_fit : goal.returns-then-set_values_fit
returns-then-set_values_fit c =
    by_first c.set_values_fit.result c.sent_value_fits.result _ _ _ (values_apart c.args.row.now c.args.rule.now)
    (c.set_values_fit.ensures ∙ ap (λ xs. list_all (set_value_fits c.args.row.now) xs) c.as_slice.ensures) c.if-set_values_fit.true c.sent_value_fits.ensures

pub returns-else-set_values_fit : goal.returns-else-set_values_fit
returns-else-set_values_fit c =
    by_none c.set_values_fit.result _ _ _ (values_apart c.args.row.now c.args.rule.now)
    (c.set_values_fit.ensures ∙ ap (λ xs. list_all (set_value_fits c.args.row.now) xs) c.as_slice.ensures) c.if-set_values_fit.false
