-- What a firing names, and what it sees.
use Rattle.std.proofs.Common.{◌≡◌, ◌∙◌, refl, sym, ap, subst, ℕ, ◌+◌, ◌<◌, arith, Bool, true, false, cond, List, [], ◌∷◌, ◌++◌, length, take, map, get_or, Option, Some, None, zero-add}
use Rattle.std.specs.Prelude.{slice_get, IsTrue, ◌&&◌}
use Rattle.std.specs.List.{list_all}
use Rattle.std.proofs.lemmas.Simd.{map-map}
use Rattle.std.proofs.lemmas.List.{take_more, map-append, length-map, length-take-le}
use Rattle.hem_base.specs.Sets.{has_bit}
use Rattle.hem_system.proofs.Starts.{map_each-snoc}
use Rattle.std.proofs.lemmas.Option.{slice_get-map}
use Rattle.hem_base.specs.declared.ids.Firing.{Firing}
use Rattle.hem_base.specs.declared.ids.Kind.{Kind}
use Rattle.hem_base.specs.declared.ids.ObjectId.{ObjectId}
use Rattle.hem_base.specs.declared.ids.KidSet.{KidSet}
use Rattle.hem_base.specs.declared.ids.Message.{Message}
use Rattle.hem_syntax.specs.declared.rule.Rule.{Rule}
use Rattle.hem_syntax.specs.declared.rule.Take.{Take}
use Rattle.hem_syntax.specs.Protocol.{Protocol, rule_named}
use Rattle.hem_object.specs.Local.{Local}
use Rattle.hem_object.specs.declared.state.View.{View}
use Rattle.hem_object.specs.Changes.{assign_names}
use Rattle.hem_object.specs.Guard.{holds}
use Rattle.hem_fire.specs.Heads.{takes_there}
use Rattle.hem_fire.specs.Locks.{need_holds, lock_names, request_in_hand}
use Rattle.hem_fire.specs.Sends.{send_names}
use Rattle.hem_fire.specs.declared.plan.Plan.{Plan}
use Rattle.hem_fire.specs.View.{view_of}
use Rattle.hem_fire.specs.OneFire.{Heads, me_fits, can_fire, local_after, outs_of}
use Rattle.hem_fire.specs.Plans.{planned, plan_of, left_by}
use Rattle.hem_fire.proofs.Parts.{names-can_fire}
use Rattle.hem_tree.specs.Tree.{Tree, kind_of, children_of}
use Rattle.hem_system.specs.declared.cell.Cell.{Cell as Kept}
use Rattle.hem_system.specs.declared.lane.Lane.TheVariants.{UpResponses, Down}
use Rattle.hem_system.specs.State.{Line, Effect, head_at, request_head, heads_of, taken_heads, local_at, is_own_child, place_of_me, rule_effect, own_effect, effect_of}
use Rattle.hem_system.specs.Cells.{seen, line_of}
use Rattle.hem_system.specs.Steps.{request_taken, parent_taken, kids_taken, heads_in, heads_taken, IsEnabled}
use Rattle.hem_system.proofs.TakenHeads.{effect_with, same_by, alike_taken, taken_by_rule}

-- what is chosen where a test holds
chosen : {A B : Type 0} (b : Bool) (m x : A) (g : A → Option B) → cond b (Some m) None ≡ Some x → cond b (g m) None ≡ g x
chosen true m x g is = let same : m ≡ x = cc in ap g same
chosen false m x g is = cc

not_chosen : {A B : Type 0} (b : Bool) (m : A) (g : A → Option B) → cond b (Some m) None ≡ None → cond b (g m) None ≡ None
not_chosen true m g is = cc
not_chosen false m g is = refl

-- the effect of a firing is that of the rule that it names
pub own_effect-is : (p : Protocol) (tree : Tree) (f : Firing) (kind : Kind) (rule : Rule) (me : Option ℕ) (local : Local) (heads : Heads) → kind_of tree f.object.0 ≡ Some kind → rule_named p kind f.rule ≡ Some rule → cond (is_own_child tree f.object.0 f.me) (Some (place_of_me tree f.object.0 f.me)) None ≡ Some me → own_effect p tree f local heads ≡ rule_effect p kind rule me local heads
own_effect-is p tree f kind rule me local heads kind_is rule_is me_is =
    rw (kind_is, rule_is) (chosen (is_own_child tree f.object.0 f.me) (place_of_me tree f.object.0 f.me) me (λ m. rule_effect p kind rule m local heads) me_is)

-- the heads that children have, by number
pub kid_heads : (line : Line) (ids : List ObjectId) (ks : List ℕ) → map (λ id. id.0) ids ≡ ks → map (λ id. head_at line id.0 UpResponses) ids ≡ map (λ k. head_at line k UpResponses) ks
kid_heads line ids ks same = sym (map-map (λ k. head_at line k UpResponses) (λ (id : ObjectId). id.0) ids) ∙ ap (map (λ k. head_at line k UpResponses)) same

-- the local state of an object that is kept
pub local_at-line_of : (cells : List Kept) (o : ℕ) (cell : Kept) → slice_get cells o ≡ Some cell → local_at (line_of cells) o ≡ Some cell.local
local_at-line_of cells o cell at = rw (slice_get-map seen cells o, at) refl

-- the heads that a rule takes, of their parts
pub heads-are : (tree : Tree) (line : Line) (o : ℕ) (me : Option ObjectId) (t : Take) (local : Local) (request parent : Option Message) (set : KidSet) (kids heads : List (Option Message)) → request ≡ request_taken t (request_head line o me) → parent ≡ parent_taken t (head_at line o Down) → set ≡ kids_taken t local → kids ≡ heads_in set heads → heads ≡ map (λ k. head_at line k UpResponses) (children_of tree o) → (let heads : Heads = record { request = request; parent = parent; kids = kids } in heads) ≡ heads_taken t local (heads_of tree line o me)
heads-are tree line o me t local request parent set kids heads request_is parent_is set_is kids_is heads_are = rw (request_is, parent_is, kids_is, set_is, heads_are) refl

-- a rule that has a plan, and one that has none
planned_by : {A : Type 0} (b : Bool) (x y : A) → Some x ≡ cond b (Some y) None → (b ≡ true) × (x ≡ y)
planned_by true x y is = (refl, cc)
planned_by false x y is = cc

not_planned_by : {A : Type 0} (b : Bool) (y : A) → None ≡ cond b (Some y) None → b ≡ false
not_planned_by true y is = cc
not_planned_by false y is = refl

-- the effect of a firing on a line that is kept, by the rule that it names
effect_by : (p : Protocol) (tree : Tree) (cells : List Kept) (f : Firing) (cell : Kept) (kind : Kind) (rule : Rule) (me : Option ℕ) → slice_get cells f.object.0 ≡ Some cell → ((local : Local) (heads : Heads) → own_effect p tree f local heads ≡ rule_effect p kind rule me local heads) → effect_of p tree (line_of cells) f ≡ rule_effect p kind rule me cell.local (heads_of tree (line_of cells) f.object.0 f.me)
effect_by p tree cells f cell kind rule me at own =
    let there = local_at-line_of cells f.object.0 cell at in
    rw there (own cell.local (heads_of tree (line_of cells) f.object.0 f.me))

-- a firing that is not possible on a line that is kept
pub not_enabled : (p : Protocol) (tree : Tree) (cells : List Kept) (f : Firing) (cell : Kept) (kind : Kind) (rule : Rule) (me : Option ℕ) (took : Heads) → slice_get cells f.object.0 ≡ Some cell → ((local : Local) (heads : Heads) → own_effect p tree f local heads ≡ rule_effect p kind rule me local heads) → took ≡ heads_taken rule.take cell.local (heads_of tree (line_of cells) f.object.0 f.me) → None ≡ plan_of p kind rule me cell.local took → effect_of p tree (line_of cells) f ≡ None
not_enabled p tree cells f cell kind rule me took at own took_is plan_is =
    let local = cell.local in
    let heads = heads_of tree (line_of cells) f.object.0 f.me in
    let seen_is : None ≡ plan_of p kind rule me local (heads_taken rule.take local heads) = plan_is ∙ ap (plan_of p kind rule me local) took_is in
    let same = same_by p kind rule me local heads (heads_taken rule.take local heads) rule.take refl (alike_taken rule.take local heads) in
    let fails = sym same.can ∙ not_planned_by (can_fire p kind rule me local (heads_taken rule.take local heads)) (planned p kind rule me local (heads_taken rule.take local heads)) seen_is in
    effect_by p tree cells f cell kind rule me at own
    ∙ ap (λ (b : Bool). cond b (Some (effect_with heads (local_after p kind rule me local heads) (outs_of p kind rule me local heads))) None) fails

-- of seven tests the second and the third don't both hold
not_both : (x u d l n h s : Bool) → (u && d) ≡ false → (x && u && d && l && n && h && s) ≡ false
not_both false u d l n h s is = refl
not_both true false d l n h s is = refl
not_both true true false l n h s is = refl
not_both true true true l n h s is = cc

-- a firing whose rule needs a lock otherwise than it is
pub not_needed : (p : Protocol) (tree : Tree) (cells : List Kept) (f : Firing) (cell : Kept) (kind : Kind) (rule : Rule) (me : Option ℕ) → slice_get cells f.object.0 ≡ Some cell → ((local : Local) (heads : Heads) → own_effect p tree f local heads ≡ rule_effect p kind rule me local heads) → (need_holds rule.need.up cell.local.up && need_holds rule.need.down cell.local.down) ≡ false → effect_of p tree (line_of cells) f ≡ None
not_needed p tree cells f cell kind rule me at own fails =
    let local = cell.local in
    let heads = heads_of tree (line_of cells) f.object.0 f.me in
    let view = view_of rule.take me local heads in
    let never : can_fire p kind rule me local heads ≡ false =
    not_both (me_fits kind rule.take me (length local.dir) && takes_there rule.take local heads) (need_holds rule.need.up local.up) (need_holds rule.need.down local.down) (list_all (assign_names local view) rule.sets) (lock_names rule.lock view (request_in_hand p rule.take rule.send local view heads)) (holds rule.guard local view) (send_names kind rule.send local view) fails in
    effect_by p tree cells f cell kind rule me at own
    ∙ ap (λ (b : Bool). cond b (Some (effect_with heads (local_after p kind rule me local heads) (outs_of p kind rule me local heads))) None) never

-- a firing that is possible on a line that is kept
pub enabled-is : (p : Protocol) (tree : Tree) (cells : List Kept) (f : Firing) (cell : Kept) (kind : Kind) (rule : Rule) (me : Option ℕ) (took : Heads) (plan : Plan) → slice_get cells f.object.0 ≡ Some cell → ((local : Local) (heads : Heads) → own_effect p tree f local heads ≡ rule_effect p kind rule me local heads) → took ≡ heads_taken rule.take cell.local (heads_of tree (line_of cells) f.object.0 f.me) → Some plan ≡ plan_of p kind rule me cell.local took → IsEnabled p tree (line_of cells) f rule plan took
enabled-is p tree cells f cell kind rule me took plan at own took_is plan_is =
    let local = cell.local in
    let heads = heads_of tree (line_of cells) f.object.0 f.me in
    let seen = heads_taken rule.take local heads in
    let it = planned_by (can_fire p kind rule me local seen) plan (planned p kind rule me local seen) (plan_is ∙ ap (plan_of p kind rule me local) took_is) in
    let same = same_by p kind rule me local heads seen rule.take refl (alike_taken rule.take local heads) in
    let passes : can_fire p kind rule me local heads ≡ true = sym same.can ∙ it.0 in
    let view : plan.view ≡ view_of rule.take me local seen = ap (λ (x : Plan). x.view) it.1 in
    let after : local_after p kind rule me local heads ≡ left_by plan rule local = sym same.after ∙ sym (ap (λ (x : Plan). left_by x rule local) it.1) in
    let outs : outs_of p kind rule me local heads ≡ plan.outs = sym same.outs ∙ sym (ap (λ (x : Plan). x.outs) it.1) in
    let taken : taken_heads (outs_of p kind rule me local heads) heads ≡ took = taken_by_rule p kind rule me local heads rule.take refl ∙ sym took_is in
    record {
      local = local;
      there = local_at-line_of cells f.object.0 cell at;
      names = subst (λ (v : View). IsTrue (list_all (assign_names local v) rule.sets)) (sym view) (names-can_fire p kind rule me local seen it.0);
      effect = effect_by p tree cells f cell kind rule me at own
          ∙ ap (λ (b : Bool). cond b (Some (effect_with heads (local_after p kind rule me local heads) (outs_of p kind rule me local heads))) None) passes
          ∙ (λ i. let e : Effect = record { after = after i; took = taken i; outs = outs i } in Some e);
    }

-- one child more in the heads of a set's children
pub response_more : (line : Line) (set : KidSet) (n : ℕ) (ids : List ObjectId) (d : ObjectId) (old new : List (Option Message)) → n < length ids → old ≡ heads_in set (map (λ id. head_at line id.0 UpResponses) (take n ids)) → new ≡ old ++ cond (has_bit set.0 n) (head_at line (get_or ids n d).0 UpResponses) None ∷ [] → new ≡ heads_in set (map (λ id. head_at line id.0 UpResponses) (take (n + 1) ids))
response_more line set n ids d old new within so_far is =
    let g = λ (id : ObjectId). head_at line id.0 UpResponses in
    let keep = λ (k : ℕ) (head : Option Message). cond (has_bit set.0 k) head None in
    let size : 0 + length (map g (take n ids)) ≡ n = zero-add (length (map g (take n ids))) ∙ length-map (take n ids) g ∙ length-take-le n ids (omega arith) in
    is
    ∙ ap (λ (hs : List (Option Message)). hs ++ keep n (g (get_or ids n d)) ∷ []) so_far
    ∙ ap (λ (m : ℕ). heads_in set (map g (take n ids)) ++ keep m (g (get_or ids n d)) ∷ []) (sym size)
    ∙ sym (map_each-snoc keep 0 (map g (take n ids)) (g (get_or ids n d)))
    ∙ sym (ap (heads_in set) (ap (map g) (take_more ids n d within) ∙ map-append g (take n ids) (get_or ids n d ∷ [])))
