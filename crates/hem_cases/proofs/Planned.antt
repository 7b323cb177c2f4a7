-- What a plan says of the rule that it is of.
use Rattle.std.proofs.Common.{◌≡◌, refl, subst, ℕ, Bool, true, false, cond}
use Rattle.std.specs.Prelude.{Option, None, Some, IsTrue}
use Rattle.std.specs.List.{list_all}
use Rattle.hem_base.specs.declared.ids.Kind.{Kind}
use Rattle.hem_syntax.specs.Protocol.{Protocol}
use Rattle.hem_syntax.specs.declared.rule.Rule.{Rule}
use Rattle.hem_object.specs.Local.{Local}
use Rattle.hem_object.specs.Changes.{assign_names}
use Rattle.hem_fire.specs.declared.plan.Plan.{Plan}
use Rattle.hem_fire.specs.OneFire.{Heads, can_fire}
use Rattle.hem_fire.specs.Plans.{planned, plan_of}
use Rattle.hem_fire.proofs.Parts.{names-can_fire}

-- the plan that is there is the one that was made
made : (can : Bool) (here plan : Plan) (local : Local) (rule : Rule) → (IsTrue can → IsTrue (list_all (assign_names local here.view) rule.sets)) → Some plan ≡ cond can (Some here) None → IsTrue (list_all (assign_names local plan.view) rule.sets)
made true here plan local rule holds is =
    let same : here ≡ plan = cc in
    subst (λ (x : Plan). IsTrue (list_all (assign_names local x.view) rule.sets)) same (holds refl)
made false here plan local rule holds is = cc

-- of a rule that can fire all that its sets name exists
pub planned_names : (p : Protocol) (kind : Kind) (rule : Rule) (me : Option ℕ) (local : Local) (heads : Heads) (plan : Plan) → Some plan ≡ plan_of p kind rule me local heads → IsTrue (list_all (assign_names local plan.view) rule.sets)
planned_names p kind rule me local heads plan is =
    made (can_fire p kind rule me local heads) (planned p kind rule me local heads) plan local rule (names-can_fire p kind rule me local heads) is
