use Rattle.std.proofs.Common.{◌≡◌, ◌++◌, drop}
use Rattle.std.specs.Prelude.{flat_map}
use Rattle.hem_modprint.specs.PlayText.{item_text}
use Rattle.hem_modprint.proofs.plays.write_items.Given as goal

-- the text so far and what is left make the whole text
abbrev pub invariant-loop-item : goal.invariant-loop-item
invariant-loop-item l = l.output ++ flat_map item_text (drop l.item-index l.items) ≡ l.fn.output ++ flat_map item_text l.items
