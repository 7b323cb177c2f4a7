use Rattle.std.proofs.Common.{subst, sym, ap, ◌∙◌}
use Rattle.hem_work.specs.Building.{table_of}
use Rattle.hem_work.specs.Lawful.{IsLawfulWork}
use Rattle.hem_work.proofs.FirstFault.{all_placed}
use Rattle.hem_work.proofs.Fits.{lawful_work}
use Rattle.hem_work.proofs.work.Work.build.Goals as goal

pub rows_of-requires : goal.rows_of-requires
rows_of-requires c = rw (c.as_slice.ensures, c.objects.ensures.count) (all_placed c.args.raw.now c.args.p.now c.args.tree.now (sym c.first_fault.ensures ∙ c.in_default.is))

pub returns-clause-lawful : goal.returns-clause-lawful
returns-clause-lawful c =
    let rows = c.in_ok-requests.ensures ∙ ap (λ entries. table_of entries c.args.raw.now.lines.0 c.objects.result) c.as_slice.ensures ∙ ap (table_of c.args.raw.now.entries c.args.raw.now.lines.0) c.objects.ensures.count in
    subst (λ r. IsLawfulWork c.args.p.now c.args.tree.now (record { place = c.args.raw.now.place; lines = c.args.raw.now.lines.0; self_count = c.args.raw.now.self_count.0; requests = r })) (sym rows)
    (lawful_work c.args.raw.now c.args.p.now c.args.tree.now (sym c.first_fault.ensures ∙ c.in_default.is))
