use Rattle.std.proofs.Common.{not, ◌&&◌, ◌||◌, ℕ, Bool}
use Rattle.std.specs.Prelude.{◌==◌}
use Rattle.hem_object.proofs.Targets.{bits_where-lt, bits_where-suc}
use Rattle.hem_object.specs.Guard.{has}
use Rattle.hem_abstract.specs.Abstract.{status}
use Rattle.hem_abstract.proofs.kids.moved.Goals as goal

pub with_status-bits-requires-clause-below : goal.with_status-bits-requires-clause-below
with_status-bits-requires-clause-below c =
    let test : ℕ → Bool = λ x. (has c.args.kids (status x) && not (has c.args.targets (status x))) || x == c.args.to.0 in
    rw c.loop-status.invariant (bits_where-lt test c.loop-status.status)

pub loop-status-preserved : goal.loop-status-preserved
loop-status-preserved c =
    let test : ℕ → Bool = λ x. (has c.args.kids (status x) && not (has c.args.targets (status x))) || x == c.args.to.0 in
    bits_where-suc test _ _ _ _ c.loop-status.invariant c.with_status-bits.ensures c.occurs_after.ensures
