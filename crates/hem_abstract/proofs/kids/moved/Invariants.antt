use Rattle.std.proofs.Common.{◌≡◌, not, ◌&&◌, ◌||◌}
use Rattle.std.specs.Prelude.{◌==◌}
use Rattle.hem_base.specs.Sets.{bits_where}
use Rattle.hem_object.specs.Guard.{has}
use Rattle.hem_abstract.specs.Abstract.{status}
use Rattle.hem_abstract.proofs.kids.moved.Given as goal

-- the statuses so far
abbrev pub invariant-loop-status : goal.invariant-loop-status
invariant-loop-status l = l.bits ≡ bits_where (λ x. (has l.kids (status x) && not (has l.targets (status x))) || x == l.to.0) l.status
