use Rattle.hem_module.proofs.OneMore.{next_turn}
use Rattle.hem_module.proofs.turns.play.Goals as goal

pub loop-fired-preserved : goal.loop-fired-preserved
loop-fired-preserved c =
    next_turn c.loop-fired.fired c.args.m.now c.args.s.now c.loop-fired.s c.make.new.s c.in-Some.rule.now c.loop-fired.invariant c.in-Some.ensures c.in_ok-make-in-Some.ensures.ok
