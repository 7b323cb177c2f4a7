use Rattle.std.proofs.Common.{take}
use Rattle.hem_regroup.proofs.OutOnce.{AreTaken}
use Rattle.hem_regroup.proofs.blocks.all_blocks.Given as goal

abbrev pub invariant-loop-rank : goal.invariant-loop-rank
invariant-loop-rank l = AreTaken l.starts l.initial.groups (take l.rank-index l.order) l.groups l.blocks.items
