use Rattle.std.proofs.Common.{◌≡◌, ℕ, ◌&&◌, take}
use Rattle.std.specs.Prelude.{◌==◌, slice_index}
use Rattle.hem_law.specs.Orders.{stands_in}
use Rattle.hem_regroup.specs.Ready.{is_ready}
use Rattle.hem_regroup.proofs.ready.first_ready.Given as goal

abbrev pub invariant-loop-number : goal.invariant-loop-number
invariant-loop-number l = (u : ℕ) → is_ready l.ready u ≡ (stands_in (take l.number-index l.left) u && slice_index l.counts u == 0)
