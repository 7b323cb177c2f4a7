-- The plan of a firing, and what it leaves.
use Rattle.std.specs.Prelude.{ℕ, cond, Option, None, Some}
use Rattle.std.specs.Option.{option_map_or}
use Rattle.hem_base.specs.declared.ids.Kind.{Kind}
use Rattle.hem_syntax.specs.declared.rule.Rule.{Rule}
use Rattle.hem_fire.specs.declared.plan.Plan.{Plan}
use Rattle.hem_syntax.specs.Protocol.{Protocol}
use Rattle.hem_object.specs.Local.{Local}
use Rattle.hem_object.specs.Changes.{assigned, freed, locked}
use Rattle.hem_object.specs.Targets.{targets_of}
use Rattle.hem_fire.specs.Heads.{Heads}
use Rattle.hem_fire.specs.View.{view_of}
use Rattle.hem_fire.specs.Locks.{request_in_hand, lock_taken}
use Rattle.hem_fire.specs.OneFire.{can_fire, outs_of}

-- what a firing names, the lock that it takes, and what it takes and sends
abbrev pub planned : Protocol → Kind → Rule → Option ℕ → Local → Heads → Plan
planned p kind rule me local heads =
    let view = view_of rule.take me local heads in
    record {
      view = view;
      lock = lock_taken rule.lock view (request_in_hand p rule.take rule.send local view heads) (targets_of rule.send local view);
      outs = outs_of p kind rule me local heads;
    }

-- the plan of a firing, where the rule can fire
abbrev pub plan_of : Protocol → Kind → Rule → Option ℕ → Local → Heads → Option Plan
plan_of p kind rule me local heads =
    cond (can_fire p kind rule me local heads) (Some (planned p kind rule me local heads)) None

-- the local state that a plan leaves: the sets are made, then a lock is freed, then a lock is taken
abbrev pub left_by : Plan → Rule → Local → Local
left_by plan rule local =
    let left = freed rule.free (assigned rule.sets plan.view local) in
    option_map_or (λ l. locked l.0 l.1 left) plan.lock left
