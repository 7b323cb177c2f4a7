use Rattle.std.proofs.Common.{◌≡◌, ◌-◌, ◌++◌, [], ◌∷◌, None}
use Rattle.hem_tree.specs.Tree.{below}
use Rattle.hem_abstract.specs.Abstract.{status}
use Rattle.hem_abstract.specs.Stable.{field_lists}
use Rattle.hem_abstract.specs.First.{first_with}
use Rattle.hem_abstract.specs.Search.{clash_at}
use Rattle.hem_abstract.proofs.clash.Clash.+least.Given as goal

abbrev pub decreases-least : goal.decreases-least
decreases-least l = l.more

-- none with the statuses so far
abbrev pub invariant-loop-status : goal.invariant-loop-status
invariant-loop-status l = first_with (λ s. first_with (λ rest. clash_at l.self ((l.first ++ status s ∷ []) ++ rest)) (field_lists (l.more - 1) l.statuses)) (below l.status) ≡ None
