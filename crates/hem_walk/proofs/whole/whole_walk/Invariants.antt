use Rattle.std.proofs.Common.{◌+◌, ◌*◌, ◌-◌, length}
use Rattle.hem_bound.specs.Starts.{requests_in}
use Rattle.hem_walk.specs.Near.{IsMarked}
use Rattle.hem_walk.specs.Working.{IsSoFar}
use Rattle.hem_walk.proofs.whole.whole_walk.Given as goal

abbrev pub invariant-loop-marks : goal.invariant-loop-marks
invariant-loop-marks l =
    record {
      so_far : IsSoFar l.p l.tree l.work l.seed l.walking;
      marked : IsMarked l.p l.tree l.work.self_count l.walking.journal l.walking.system l.marks;
    }

-- how many firings more there may be at most
abbrev pub decreases-loop-marks : goal.decreases-loop-marks
decreases-loop-marks l = 3 * length l.tree * (requests_in l.tree l.work + l.work.lines * (length l.tree * l.work.self_count)) - length l.walking.journal
