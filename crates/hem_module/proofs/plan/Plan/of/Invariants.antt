use Rattle.std.proofs.Common.{◌≡◌, [], map, take}
use Rattle.hem_module.specs.Places.{action_of}
use Rattle.hem_module.specs.States.{held_of}
use Rattle.hem_module.specs.Plans.{writes_of, sends_of, losses_of, with_queues}
use Rattle.hem_module.proofs.plan.Plan.of.Given as goal

abbrev pub invariant-loop-action : goal.invariant-loop-action
invariant-loop-action l = record {
  writes : l.plan.writes.items ≡ writes_of (held_of l.s) (map action_of (take l.action-index l.actions));
  sends : l.plan.sends.items ≡ sends_of (held_of l.s) (map action_of (take l.action-index l.actions));
  losses : l.plan.losses.keys ≡ with_queues [] (losses_of (held_of l.s) (map action_of (take l.action-index l.actions)));
}
