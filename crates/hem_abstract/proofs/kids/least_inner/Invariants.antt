use Rattle.std.proofs.Common.{◌≡◌, ◌-◌, None}
use Rattle.hem_tree.specs.Tree.{below}
use Rattle.hem_abstract.specs.First.{first_with}
use Rattle.hem_abstract.specs.Parts.{kids_lose}
use Rattle.hem_abstract.proofs.Turns.{set_if}
use Rattle.hem_abstract.proofs.kids.least_inner.Given as goal

-- none of the sets so far
abbrev pub invariant-loop-number : goal.invariant-loop-number
invariant-loop-number l = first_with (set_if (kids_lose l.up l.turn l.losing)) (below (l.number - 1)) ≡ None
