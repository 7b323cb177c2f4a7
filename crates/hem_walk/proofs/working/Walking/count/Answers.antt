use Rattle.std.proofs.Common.{sym, ap, ◌∙◌, ◌+◌, ◌<◌, length, subst, arith}
use Rattle.std.specs.Prelude.{slice_set, slice_index}
use Rattle.std.proofs.lemmas.List.{get_or_read}
use Rattle.hem_walk.specs.Working.{Walking, IsCounted}
use Rattle.hem_walk.proofs.Positions.{below_all}
use Rattle.hem_walk.proofs.Table.{table_raised}
use Rattle.hem_walk.proofs.working.Walking.count.Goals as goal

pub returns-then-is_self-clause-counted : goal.returns-then-is_self-clause-counted
returns-then-is_self-clause-counted c =
    let same = ap (λ (w : Walking). w.selfs) c.self.view_is in
    let inside = below_all c.args.tree.now c.args.self.now.system c.args.firing.line.0 c.args.firing.object.0 c.requires.there in
    let long = ap length same in
    let within : c.position.result < length c.self.inside.selfs.items = omega arith in
    let old = get_or_read c.self.inside.selfs.items c.position.result c.index_mut.result.now within c.index_mut.ensures.value 0 ∙ (λ i. slice_index (same i) (c.position.ensures i)) in
    subst (IsCounted c.args.p.now c.args.tree.now _ c.args.self.now.system)
    (sym (λ i. slice_set (same i) (c.position.ensures i) (old i + 1)))
    (table_raised c.args.p.now c.args.tree.now c.args.self.now.journal c.args.self.now.system c.args.self.now.selfs c.args.firing c.requires.counted c.requires.there (sym c.is_self.ensures ∙ c.if-is_self.true))
