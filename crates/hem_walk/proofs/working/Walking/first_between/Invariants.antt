use Rattle.std.proofs.Common.{◌≤◌, ◌-◌}
use Rattle.hem_walk.specs.Near.{IsMarked}
use Rattle.hem_walk.specs.Working.{NoneReady}
use Rattle.hem_walk.proofs.working.Walking.first_between.Given as goal

-- none of the positions so far has a ready firing
abbrev pub invariant-loop-next : goal.invariant-loop-next
invariant-loop-next l =
    record {
      past : l.from ≤ l.at;
      marked : IsMarked l.p l.tree l.work.self_count l.self.journal l.self.system l.marks;
      none : NoneReady l.p l.tree l.work.self_count l.self.journal l.self.system l.from l.at;
    }

abbrev pub decreases-loop-next : goal.decreases-loop-next
decreases-loop-next l = l.end - l.at
