use Rattle.std.proofs.Common.{◌≡◌, drop}
use Rattle.std.specs.Prelude.{find}
use Rattle.std.specs.List.{flat_map}
use Rattle.hem_walk.specs.Walk.{firings_of_rule, is_ready}
use Rattle.hem_walk.proofs.working.Walking.first_seen.Given as goal

-- the first of the firings that are left is the first of all
abbrev pub invariant-loop-rule : goal.invariant-loop-rule
invariant-loop-rule l =
    find (is_ready l.p l.tree l.work.self_count l.self.journal l.self.system) (flat_map (firings_of_rule l.tree l.line.0 l.object.0) (drop l.rule-index l.rules))
    ≡ find (is_ready l.p l.tree l.work.self_count l.self.journal l.self.system) (flat_map (firings_of_rule l.tree l.line.0 l.object.0) l.rules)
