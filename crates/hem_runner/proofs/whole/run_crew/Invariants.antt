use Rattle.std.proofs.Common.{◌≤◌}
use Rattle.hem_system.specs.State.{start}
use Rattle.hem_crew.specs.Crew.{IsCrew}
use Rattle.hem_crew.specs.Rounds.{all_journaled}
use Rattle.hem_runner.specs.Runs.{channel_slots}
use Rattle.hem_runner.proofs.whole.run_crew.Given as goal

abbrev pub invariant-loop-turn : goal.invariant-loop-turn
invariant-loop-turn g l =
    record {
      crew : IsCrew l.p l.tree (start l.p l.tree l.fn.work) l.fn.work.self_count channel_slots l.crew;
      few : l.turn ≤ all_journaled l.crew;
    }
