use Rattle.std.proofs.Common.{◌≡◌, [], map, take}
use Rattle.hem_module.proofs.state.empty_queues.Given as goal

abbrev pub invariant-loop-name : goal.invariant-loop-name
invariant-loop-name l = l.queues ≡ map (λ q. []) (take l._name-index l.names)
