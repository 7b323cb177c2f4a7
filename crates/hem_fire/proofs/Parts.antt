-- What the parts of a test say of whether a rule can fire, and of its plan.
use Rattle.std.proofs.Common.{◌≡◌, refl, sym, ap, ◌∙◌, ℕ, Bool, true, false, cond}
use Rattle.std.specs.Prelude.{◌&&◌, Option, None, Some, IsTrue, is_some}
use Rattle.std.specs.List.{list_all}
use Rattle.hem_base.specs.declared.ids.Kind.{Kind}
use Rattle.hem_base.specs.declared.ids.KidSet.{KidSet}
use Rattle.hem_base.specs.declared.ids.Message.{Message}
use Rattle.hem_syntax.specs.declared.rule.Rule.{Rule}
use Rattle.hem_syntax.specs.declared.rule.Side.{Side}
use Rattle.hem_object.specs.declared.state.Lock.{Lock}
use Rattle.hem_object.specs.declared.state.View.{View}
use Rattle.hem_syntax.specs.Protocol.{Protocol}
use Rattle.hem_object.specs.Local.{Local}
use Rattle.hem_object.specs.Guard.{holds}
use Rattle.hem_object.specs.Changes.{assign_names}
use Rattle.hem_object.specs.Targets.{targets_of}
use Rattle.hem_fire.specs.declared.outs.Outs.{Outs}
use Rattle.hem_fire.specs.declared.plan.Plan.{Plan}
use Rattle.hem_fire.specs.View.{view_of}
use Rattle.hem_fire.specs.Locks.{lock_names, request_in_hand, lock_taken}
use Rattle.hem_fire.specs.Sends.{send_names}
use Rattle.hem_fire.specs.OneFire.{Heads, can_begin, can_fire, outs_of}
use Rattle.hem_fire.specs.Plans.{planned, plan_of}

-- the part of the test that reads sets, lock and guard
abbrev pub can_change : Rule → Local → View → Option Message → Bool
can_change rule local view request =
    list_all (assign_names local view) rule.sets && lock_names rule.lock view request && holds rule.guard local view

and_parts : (a b c d e : Bool) → (a && b && c && d && e) ≡ (a && ((b && c && d) && e))
and_parts true b c d e = refl
and_parts false b c d e = refl

-- a rule can fire where all three parts pass
pub can_fire-parts : (p : Protocol) (kind : Kind) (rule : Rule) (me : Option ℕ) (local : Local) (heads : Heads) (view : View) (request : Option Message) → view ≡ view_of rule.take me local heads → request ≡ request_in_hand p rule.take rule.send local view heads → can_fire p kind rule me local heads ≡ (can_begin kind rule me local heads && (can_change rule local view request && send_names kind rule.send local view))
can_fire-parts p kind rule me local heads view request view_is request_is =
    rw (request_is, view_is)
    (let v = view_of rule.take me local heads in
    and_parts (can_begin kind rule me local heads) (list_all (assign_names local v) rule.sets)
    (lock_names rule.lock v (request_in_hand p rule.take rule.send local v heads))
    (holds rule.guard local v) (send_names kind rule.send local v))

-- a test of which a part fails
pub second_fails : (a b c : Bool) → b ≡ false → (a && (b && c)) ≡ false
second_fails true b c fails = rw fails refl
second_fails false b c fails = refl

pub all_pass : (a b c : Bool) → a ≡ true → b ≡ true → c ≡ true → (a && (b && c)) ≡ true
all_pass a b c first second third = rw (first, second, third) refl

-- there is a plan exactly where the rule can fire
pub plan-none : (p : Protocol) (kind : Kind) (rule : Rule) (me : Option ℕ) (local : Local) (heads : Heads) → can_fire p kind rule me local heads ≡ false → None ≡ plan_of p kind rule me local heads
plan-none p kind rule me local heads fails = sym (ap (λ (b : Bool). cond b (Some (planned p kind rule me local heads)) None) fails)

pub plan-some : (p : Protocol) (kind : Kind) (rule : Rule) (me : Option ℕ) (local : Local) (heads : Heads) (plan : Plan) → can_fire p kind rule me local heads ≡ true → plan ≡ planned p kind rule me local heads → Some plan ≡ plan_of p kind rule me local heads
plan-some p kind rule me local heads plan passes is = ap Some is ∙ sym (ap (λ (b : Bool). cond b (Some (planned p kind rule me local heads)) None) passes)

some-cond : {A : Type 0} (b : Bool) (a : A) → is_some (cond b (Some a) None) ≡ b
some-cond true a = refl
some-cond false a = refl

pub plan-can : (p : Protocol) (kind : Kind) (rule : Rule) (me : Option ℕ) (local : Local) (heads : Heads) → is_some (plan_of p kind rule me local heads) ≡ can_fire p kind rule me local heads
plan-can p kind rule me local heads = some-cond (can_fire p kind rule me local heads) (planned p kind rule me local heads)

-- a plan of its parts
pub planned-is : (p : Protocol) (kind : Kind) (rule : Rule) (me : Option ℕ) (local : Local) (heads : Heads) (view : View) (request : Option Message) (targets : KidSet) (lock : Option (Side × Lock)) (outs : Outs)
    → view ≡ view_of rule.take me local heads → request ≡ request_in_hand p rule.take rule.send local view heads → targets ≡ targets_of rule.send local view → lock ≡ lock_taken rule.lock view request targets → outs ≡ outs_of p kind rule me local heads
    → (let plan : Plan = record { view = view; lock = lock; outs = outs } in plan) ≡ planned p kind rule me local heads
planned-is p kind rule me local heads view request targets lock outs view_is request_is targets_is lock_is outs_is =
    rw (outs_is, lock_is, targets_is, request_is, view_is) refl

-- of two tests that hold, the first does
and_left : (a b : Bool) → IsTrue (a && b) → IsTrue a
and_left true b h = refl
and_left false b h = h

and_right : (a b : Bool) → IsTrue (a && b) → IsTrue b
and_right true b h = h
and_right false b h = cc

-- where a rule can fire, all that its sets name exists
pub names-can_fire : (p : Protocol) (kind : Kind) (rule : Rule) (me : Option ℕ) (local : Local) (heads : Heads) → IsTrue (can_fire p kind rule me local heads) → IsTrue (list_all (assign_names local (view_of rule.take me local heads)) rule.sets)
names-can_fire p kind rule me local heads h =
    let v = view_of rule.take me local heads in
    let a = can_begin kind rule me local heads in
    let b = list_all (assign_names local v) rule.sets in
    let c = lock_names rule.lock v (request_in_hand p rule.take rule.send local v heads) in
    let d = holds rule.guard local v in
    let e = send_names kind rule.send local v in
    and_right a b (and_left (a && b) c (and_left (a && b && c) d (and_left (a && b && c && d) e h)))
