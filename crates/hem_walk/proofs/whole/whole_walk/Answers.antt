use Rattle.std.proofs.Common.{sym, ap, ◌∙◌, subst, ◌∷◌, [], length, arith, length-append}
use Rattle.hem_system.specs.Ended.{Within, Ended}
use Rattle.hem_check.proofs.Clauses.{templated}
use Rattle.hem_bound.proofs.Selfs.{firings_few}
use Rattle.hem_walk.specs.Working.{Walking, IsAfterTurn}
use Rattle.hem_walk.proofs.Counting.{within_is}
use Rattle.hem_walk.proofs.Listed.{ends}
use Rattle.hem_walk.proofs.SoFar.{so_far_next, shorter_before}
use Rattle.hem_walk.proofs.whole.whole_walk.Goals as goal

pub loop-marks-smaller : goal.loop-marks-smaller
loop-marks-smaller c =
    let next = subst (IsAfterTurn c.args.p.now c.args.tree.now c.args.work.now.self_count c.loop-marks.walking c.turn.new.self) c.if-branch.true c.in_ok-turn.ensures.turn in
    let shorter = shorter_before c.args.p.now c.args.tree.now c.args.work.now c.args.seed c.loop-marks.walking c.turn.new.self c.objects-objects.ensures.lawful.shape (templated c.args.p.now c.requires) c.loop-marks.invariant.so_far next in
    let longer = ap length next.made.journal ∙ length-append c.loop-marks.walking.journal (next.firing ∷ []) in
    omega (arith, shorter, longer)

pub loop-marks-preserved : goal.loop-marks-preserved
loop-marks-preserved c =
    let next = subst (IsAfterTurn c.args.p.now c.args.tree.now c.args.work.now.self_count c.loop-marks.walking c.turn.new.self) c.if-branch.true c.in_ok-turn.ensures.turn in
    record { so_far = so_far_next c.args.p.now c.args.tree.now c.args.work.now c.args.seed c.loop-marks.walking c.turn.new.self c.loop-marks.invariant.so_far next; marked = c.in_ok-turn.ensures.marked }

pub returns-clause-within : goal.returns-clause-within
returns-clause-within c =
    let left = subst (IsAfterTurn c.args.p.now c.args.tree.now c.args.work.now.self_count c.loop-marks.walking c.turn.new.self) c.if-branch.false c.in_ok-turn.ensures.turn in
    let journal = ap (λ (w : Walking). w.journal) c.walking-in-loop-marks.view_is ∙ left.journal in
    subst (λ h. Within c.args.p.now c.args.tree.now h c.args.work.now.self_count) (sym journal)
    (within_is c.args.p.now c.args.tree.now c.loop-marks.walking.journal c.args.work.now.self_count c.loop-marks.invariant.so_far.within)

pub returns-clause-ended : goal.returns-clause-ended
returns-clause-ended c =
    let k = c.args.work.now.self_count in
    let left = subst (IsAfterTurn c.args.p.now c.args.tree.now k c.loop-marks.walking c.turn.new.self) c.if-branch.false c.in_ok-turn.ensures.turn in
    let journal = ap (λ (w : Walking). w.journal) c.walking-in-loop-marks.view_is ∙ left.journal in
    let system = ap (λ (w : Walking). w.system) c.walking-in-loop-marks.view_is ∙ left.system in
    let within = within_is c.args.p.now c.args.tree.now c.loop-marks.walking.journal k c.loop-marks.invariant.so_far.within in
    subst (λ h. Ended c.args.p.now c.args.tree.now h c.walking-in-loop-marks.inside.system k) (sym journal)
    (subst (λ s. Ended c.args.p.now c.args.tree.now c.loop-marks.walking.journal s k) (sym system)
    (ends c.args.p.now c.args.tree.now k c.loop-marks.walking.journal c.loop-marks.walking.system within left.over))

pub returns-clause-few : goal.returns-clause-few
returns-clause-few c =
    let left = subst (IsAfterTurn c.args.p.now c.args.tree.now c.args.work.now.self_count c.loop-marks.walking c.turn.new.self) c.if-branch.false c.in_ok-turn.ensures.turn in
    let journal = ap length (ap (λ (w : Walking). w.journal) c.walking-in-loop-marks.view_is ∙ left.journal) in
    let few = firings_few c.args.p.now c.args.tree.now c.args.work.now c.args.work.now.self_count c.loop-marks.walking.journal c.loop-marks.walking.system c.objects-objects.ensures.lawful.shape (templated c.args.p.now c.requires) c.loop-marks.invariant.so_far.within c.loop-marks.invariant.so_far.runs in
    omega (arith, journal, few)
