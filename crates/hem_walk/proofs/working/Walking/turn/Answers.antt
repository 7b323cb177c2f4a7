use Rattle.std.proofs.Common.{arith, subst, sym}
use Rattle.hem_walk.specs.Near.{IsMarked}
use Rattle.hem_walk.proofs.Marked.{marked_next}
use Rattle.hem_walk.proofs.SoFar.{unspent}
use Rattle.hem_walk.proofs.working.Walking.turn.Goals as goal

pub make-requires-clause-few : goal.make-requires-clause-few
make-requires-clause-few c = λ self.
    let less = unspent _ _ _ _ _ _ _ c.in-Some.ensures.some self in
    omega arith

pub returns-clause-marked : goal.returns-clause-marked
returns-clause-marked c =
    let made = c.in_ok-to.ensures.made in
    subst (λ h. IsMarked c.args.p.now c.args.tree.now c.args.work.now.self_count h c.make.new.self.system c.mark_near.new.marks) (sym made.journal)
    (marked_next c.args.p.now c.args.tree.now c.args.work.now.self_count _ _ c.make.new.self.system c.in-Some.firing c.in_ok-to.to c.choose.new.marks c.mark_near.new.marks c.choose.ensures.marked made.fires c.in_ok-to.ensures.sent c.mark_near.ensures)
