use Rattle.std.proofs.Common.{refl, arith, ⊎_elim, sym, ◌∙◌}
use Rattle.std.proofs.lemmas.Bool.{eqb-true, eq-eqb}
use Rattle.hem_tree.proofs.Early.{lawful_early, parent_kept}
use Rattle.hem_tree.proofs.Paths.{under_parent, under_more, under_less}
use Rattle.hem_tree.proofs.tree.Tree.is_under.Goals as goal

pub returns-then-eq : goal.returns-then-eq
returns-then-eq c =
    let up = parent_kept c.args.self.now c.loop-parent.at.0 c.object.result.now c.in-Some.parent c.object.ensures.object c.in-Some.is in
    (λ _. c.loop-parent.invariant.same.1 (under_parent c.args.self.now (lawful_early c.args.self.now c.object.ensures.lawful.shape) c.loop-parent.at.0 c.in-Some.parent.0 c.args.high.0 up (eqb-true _ _ (sym c.eq.ensures ∙ c.if-eq.true))), λ _. refl)

pub loop-parent-smaller : goal.loop-parent-smaller
loop-parent-smaller c =
    let up = parent_kept c.args.self.now c.loop-parent.at.0 c.object.result.now c.in-Some.parent c.object.ensures.object c.in-Some.is in
    let e = lawful_early c.args.self.now c.object.ensures.lawful.shape in
    e.early c.loop-parent.at.0 c.in-Some.parent.0 up

pub loop-parent-preserved : goal.loop-parent-preserved
loop-parent-preserved c =
    let up = parent_kept c.args.self.now c.loop-parent.at.0 c.object.result.now c.in-Some.parent c.object.ensures.object c.in-Some.is in
    let e = lawful_early c.args.self.now c.object.ensures.lawful.shape in
    let lt = e.early c.loop-parent.at.0 c.in-Some.parent.0 up in
    record {
      within = omega (arith, c.loop-parent.invariant.within);
      same = (
        (λ u. ⊎_elim (λ here. absurd (let yes = eq-eqb _ _ here in let no = sym c.eq.ensures ∙ c.if-eq.false in cc)) (λ rest. rest) (under_less c.args.self.now e c.loop-parent.at.0 c.in-Some.parent.0 c.args.high.0 up (c.loop-parent.invariant.same.0 u))),
        (λ u. c.loop-parent.invariant.same.1 (under_more c.args.self.now e c.loop-parent.at.0 c.in-Some.parent.0 c.args.high.0 up u)),
      );
    }
