use Rattle.std.proofs.Common.{◌≡◌, drop, map, Some}
use Rattle.std.specs.Prelude.{find}
use Rattle.hem_walk.specs.Walk.{firing_of, is_ready}
use Rattle.hem_walk.proofs.working.Walking.first_of_child.Given as goal

-- the first of the firings that are left is the first of all with a child
abbrev pub invariant-loop-child : goal.invariant-loop-child
invariant-loop-child l =
    find (is_ready l.p l.tree l.work.self_count l.self.journal l.self.system) (map (λ id. firing_of l.line.0 l.object.0 l.rule (Some id)) (drop l.child-index l.children))
    ≡ find (is_ready l.p l.tree l.work.self_count l.self.journal l.self.system) (map (λ id. firing_of l.line.0 l.object.0 l.rule (Some id)) l.children)
