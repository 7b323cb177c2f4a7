-- The text of blocks.
use Rattle.std.specs.Prelude.{List, ◌++◌, length, flat_map, codes, decimal}
use Rattle.hem_syntax.specs.Protocol.{Protocol, Text}
use Rattle.hem_trace.specs.Blocks.{Block}
use Rattle.hem_report.specs.Texts.{firing_text}

-- a block: its number and its firings
abbrev pub block_text : Protocol → Block → Text
block_text p b = codes "block " ++ decimal b.number ++ codes "\n" ++ flat_map (firing_text p) b.firings

-- how many blocks there are, and each block
abbrev pub blocks_text : Protocol → List Block → Text
blocks_text p blocks = codes "blocks " ++ decimal (length blocks) ++ codes "\n" ++ flat_map (block_text p) blocks
