use Rattle.std.proofs.Common.{rules}
use Rattle.std.proofs.lemmas.List.Sorted.{answers_always}
use Rattle.hem_merge.proofs.SortedFirings.{sorted-by-turn}
use Rattle.hem_merge.proofs.merging.sorted.Goals as goal

pub returns-clause-sorted : goal.returns-clause-sorted
returns-clause-sorted c =
    sorted-by-turn c.sort_by_key.new.self.items
    (c.in_ok-sort_by_key.ensures.sorted (λ s. (s.stamp, s.firing.line.0, s.firing.object.0)) (answers_always _ _ _ (λ f a r g h. search rules)))
