use Rattle.std.proofs.Common.{◌≡◌, ◌++◌, drop}
use Rattle.std.specs.List.{flat_map}
use Rattle.hem_report.specs.BlocksText.{block_text}
use Rattle.hem_report.proofs.blocks.write_each_block.Given as goal

-- the text so far and the blocks that are left make the whole text
abbrev pub invariant-loop-block : goal.invariant-loop-block
invariant-loop-block l = l.output ++ flat_map (block_text l.p) (drop l.block-index l.blocks) ≡ l.fn.output ++ flat_map (block_text l.p) l.blocks
