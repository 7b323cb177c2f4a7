-- A firing leads from a local state that an object of its kind may have to another one.
use Rattle.std.proofs.Common.{◌≡◌, refl, ap, sym, ◌∙◌, subst, ℕ, zero, suc, ◌+◌, Bool, true, false, cond, ◌&&◌, List, [], ◌∷◌, length, arith, ltb-true, Option, Some, None, inl, inr}
use Rattle.std.specs.Prelude.{◌==◌, nat_lt, nat_le, slice_set}
use Rattle.std.specs.List.{list_all}
use Rattle.std.specs.Option.{option_map_or}
use Rattle.hem_base.specs.declared.ids.Status8.{Status8}
use Rattle.hem_base.specs.declared.ids.RuleId.{RuleId}
use Rattle.hem_base.specs.declared.ids.Kind.{Kind}
use Rattle.hem_base.specs.declared.ids.Kind.TheVariants.{Root, Mid, Leaf}
use Rattle.hem_syntax.specs.declared.rule.Rule.{Rule}
use Rattle.hem_syntax.specs.declared.rule.Side.{Side}
use Rattle.hem_syntax.specs.declared.rule.Side.TheVariants as side
use Rattle.hem_syntax.specs.declared.rule.Assign.{Assign}
use Rattle.hem_syntax.specs.declared.rule.Assign.TheVariants as assign
use Rattle.hem_object.specs.declared.state.Lock.{Lock}
use Rattle.hem_object.specs.declared.state.View.{View}
use Rattle.hem_syntax.specs.Protocol.{Protocol, part, rule_named}
use Rattle.hem_object.specs.Local.{Local, IsStatus}
use Rattle.hem_syntax.specs.Lawful.{Counts, has_take, has_atom, has_assign, has_field, has_send, set_once, is_rule, counts_of, IsPart, IsProtocol}
use Rattle.hem_tree.specs.Tree.{Tree, kind_of}
use Rattle.hem_object.specs.Targets.{targets_of}
use Rattle.hem_object.specs.Changes.{set_at, assign_own, assign_targets, assign_me, in_turn, assigned, freed, locked}
use Rattle.hem_fire.specs.View.{view_of}
use Rattle.hem_fire.specs.Locks.{lock_taken, request_in_hand}
use Rattle.hem_fire.specs.OneFire.{local_after}
use Rattle.hem_system.specs.State.{place_of_me}
use Rattle.hem_system.specs.Events.{Event}
use Rattle.hem_trace.specs.Blocks.{Each}
use Rattle.hem_law.specs.Chains.{heads_seen, ChainStep}
use Rattle.hem_abstract.specs.Stable.{IsOfKind}
use Rattle.hem_rows.proofs.Choices.{both}
use Rattle.hem_law.proofs.OwnEffect.{own_effect-parts}
use Rattle.hem_law.proofs.Pending.{does-from}
use Rattle.hem_law.proofs.DirLength.{local_after-length}
use Rattle.hem_abstract.proofs.StableNever.{Among, find-among}

-- a rule of a kind is one that a protocol may have
part-is : (p : Protocol) (kind : Kind) → IsProtocol p → IsPart p (part p kind)
part-is p Root lawful = lawful.root
part-is p Mid lawful = lawful.mid
part-is p Leaf lawful = lawful.leaf

all-among : {X : Type 0} (test : X → Bool) (xs : List X) (x : X) → list_all test xs ≡ true → Among x xs → test x ≡ true
all-among test [] x all is = absurd is
all-among test (y ∷ xs) x all (inl same) = ap test (sym same) ∙ (both (test y) (list_all test xs) all).0
all-among test (y ∷ xs) x all (inr rest) = all-among test xs x (both (test y) (list_all test xs) all).1 rest

pub sets-fit : (p : Protocol) (kind : Kind) (name : RuleId) (rule : Rule) → IsProtocol p → rule_named p kind name ≡ Some rule → (list_all (has_assign (counts_of p (part p kind))) rule.sets ≡ true) × (set_once rule.sets ≡ true)
sets-fit p kind name rule lawful named =
    let n = counts_of p (part p kind) in
    let is = all-among (is_rule n) (part p kind).rules rule (part-is p kind lawful).rules (find-among (λ r. r.name.0 == name.0) (part p kind).rules rule named) in
    let sets = (both (has_take n rule.take && (nat_le (length rule.guard) 16 && list_all (has_atom n) rule.guard)) (nat_le (length rule.sets) 8 && list_all (has_assign n) rule.sets && set_once rule.sets) (both _ (has_send n rule.send) is).0).1 in
    let few = both (nat_le (length rule.sets) 8 && list_all (has_assign n) rule.sets) (set_once rule.sets) sets in
    ((both (nat_le (length rule.sets) 8) (list_all (has_assign n) rule.sets) few.0).1, few.1)

-- what a change of lists of statuses keeps
each-set : (P : Status8 → Type 0) (xs : List Status8) (i : ℕ) (s : Status8) → Each P xs → P s → Each P (slice_set xs i s)
each-set P [] i s all it = all
each-set P (x ∷ xs) zero s all it = (it, all.1)
each-set P (x ∷ xs) (suc i) s all it = (all.0, each-set P xs i s all.1 it)

length-set : (xs : List Status8) (i : ℕ) (s : Status8) → length (slice_set xs i s) ≡ length xs
length-set [] i s = refl
length-set (x ∷ xs) zero s = refl
length-set (x ∷ xs) (suc i) s = ap suc (length-set xs i s)

each-set_at : (P : Status8 → Type 0) (s : Status8) (test : ℕ → Bool) (k : ℕ) (dir : List Status8) → Each P dir → P s → Each P (set_at s test k dir)
each-set_at P s test k [] all it = tt
each-set_at P s test k (d ∷ dir) all it = (one (test k), each-set_at P s test (k + 1) dir all.1 it)
  where
    one : (b : Bool) → P (cond b s d)
    one true = it
    one false = all.0

-- the fields are as many, and all statuses are declared
record AreDeclared (p : Protocol) (count : ℕ) (local : Local) : Type 0 where
  field_count : length local.fields ≡ count
  fields : Each (IsStatus p) local.fields
  dir : Each (IsStatus p) local.dir

own-declared : (p : Protocol) (n : Counts) (count : ℕ) (before : Local) (view : View) (a : Assign) (local : Local) → n.statuses ≡ length p.statuses → has_assign n a ≡ true → AreDeclared p count local → AreDeclared p count (assign_own before view a local)
own-declared p n count before view (assign.Field i s) local same has are =
    record { field_count = length-set local.fields i s ∙ are.field_count; fields = each-set (IsStatus p) local.fields i s are.fields (let less = ltb-true s.0 n.statuses (both (has_field n i) (nat_lt s.0 n.statuses) has).1 in omega arith); dir = are.dir }
own-declared p n count before view (assign.Val v) local same has are = record { field_count = are.field_count; fields = are.fields; dir = are.dir }
own-declared p n count before view (assign.Me s) local same has are = are
own-declared p n count before view (assign.Targets s) local same has are = are

targets-declared : (p : Protocol) (n : Counts) (count : ℕ) (view : View) (a : Assign) (local : Local) → n.statuses ≡ length p.statuses → has_assign n a ≡ true → AreDeclared p count local → AreDeclared p count (assign_targets view a local)
targets-declared p n count view (assign.Field i s) local same has are = are
targets-declared p n count view (assign.Val v) local same has are = are
targets-declared p n count view (assign.Me s) local same has are = are
targets-declared p n count view (assign.Targets s) local same has are = record { field_count = are.field_count; fields = are.fields; dir = each-set_at (IsStatus p) s _ 0 local.dir are.dir (let less = ltb-true s.0 n.statuses has in omega arith) }

me-declared : (p : Protocol) (n : Counts) (count : ℕ) (view : View) (a : Assign) (local : Local) → n.statuses ≡ length p.statuses → has_assign n a ≡ true → AreDeclared p count local → AreDeclared p count (assign_me view a local)
me-declared p n count view (assign.Field i s) local same has are = are
me-declared p n count view (assign.Val v) local same has are = are
me-declared p n count view (assign.Targets s) local same has are = are
me-declared p n count view (assign.Me s) local same has are = record { field_count = are.field_count; fields = are.fields; dir = each-set_at (IsStatus p) s _ 0 local.dir are.dir (let less = ltb-true s.0 n.statuses has in omega arith) }

turns-declared : (p : Protocol) (n : Counts) (count : ℕ) (change : Assign → Local → Local) (sets : List Assign) (local : Local) → ((a : Assign) (l : Local) → has_assign n a ≡ true → AreDeclared p count l → AreDeclared p count (change a l)) → list_all (has_assign n) sets ≡ true → AreDeclared p count local → AreDeclared p count (in_turn change sets local)
turns-declared p n count change [] local keeps has are = are
turns-declared p n count change (a ∷ sets) local keeps has are =
    let parts = both (has_assign n a) (list_all (has_assign n) sets) has in
    turns-declared p n count change sets (change a local) keeps parts.1 (keeps a local parts.0 are)

assigned-declared : (p : Protocol) (n : Counts) (count : ℕ) (view : View) (sets : List Assign) (local : Local) → n.statuses ≡ length p.statuses → list_all (has_assign n) sets ≡ true → AreDeclared p count local → AreDeclared p count (assigned sets view local)
assigned-declared p n count view sets local same has are =
    turns-declared p n count (assign_me view) sets _ (λ a l. me-declared p n count view a l same) has
    (turns-declared p n count (assign_targets view) sets _ (λ a l. targets-declared p n count view a l same) has
    (turns-declared p n count (assign_own local view) sets local (λ a l. own-declared p n count local view a l same) has are))

freed-declared : (p : Protocol) (count : ℕ) (free : Option Side) (local : Local) → AreDeclared p count local → AreDeclared p count (freed free local)
freed-declared p count None local are = are
freed-declared p count (Some side.Up) local are = record { field_count = are.field_count; fields = are.fields; dir = are.dir }
freed-declared p count (Some side.Down) local are = record { field_count = are.field_count; fields = are.fields; dir = are.dir }

locked-declared : (p : Protocol) (count : ℕ) (taken : Option (Side × Lock)) (local : Local) → AreDeclared p count local → AreDeclared p count (option_map_or (λ l. locked l.0 l.1 local) taken local)
locked-declared p count None local are = are
locked-declared p count (Some l) local are = one l.0
  where
    one : (s : Side) → AreDeclared p count (locked s l.1 local)
    one side.Up = record { field_count = are.field_count; fields = are.fields; dir = are.dir }
    one side.Down = record { field_count = are.field_count; fields = are.fields; dir = are.dir }

-- an event of a chain leads to a local state of the kind
pub of-kind-next : (p : Protocol) (tree : Tree) (kind : Kind) (local next : Local) (e : Event) → IsProtocol p → kind_of tree e.firing.object.0 ≡ Some kind → ChainStep p tree (Some local) e next → IsOfKind p kind local → IsOfKind p kind next
of-kind-next p tree kind local next e lawful there step of =
    let heads = heads_seen tree e in
    let me = place_of_me tree e.firing.object.0 e.firing.me in
    let same : step.now ≡ local = (let here : Some local ≡ Some step.now = step.here in cc) in
    let parts = own_effect-parts p tree e.firing step.now heads (record { after = next; took = e.took; outs = e.outs }) step.fires in
    let does = (does-from p tree e.firing step.now heads (record { after = next; took = e.took; outs = e.outs }) parts).0 in
    let kind_is : parts.kind ≡ kind = (let both : Some parts.kind ≡ Some kind = sym parts.there ∙ there in cc) in
    let named : rule_named p kind e.firing.rule ≡ Some parts.rule = subst (λ k. rule_named p k e.firing.rule ≡ Some parts.rule) kind_is parts.named in
    let fit = sets-fit p kind e.firing.rule parts.rule lawful named in
    let view = view_of parts.rule.take me step.now heads in
    let n = counts_of p (part p kind) in
    let now : AreDeclared p (length (part p kind).fields) step.now = subst (AreDeclared p (length (part p kind).fields)) (sym same) (record { field_count = of.field_count; fields = of.fields; dir = of.dir }) in
    let whole : AreDeclared p (length (part p kind).fields) (local_after p parts.kind parts.rule me step.now heads) =
    locked-declared p (length (part p kind).fields) (lock_taken parts.rule.lock view (request_in_hand p parts.rule.take parts.rule.send step.now view heads) (targets_of parts.rule.send step.now view)) (freed parts.rule.free (assigned parts.rule.sets view step.now))
    (freed-declared p (length (part p kind).fields) parts.rule.free (assigned parts.rule.sets view step.now)
    (assigned-declared p n (length (part p kind).fields) view parts.rule.sets step.now refl fit.0 now)) in
    let after = subst (AreDeclared p (length (part p kind).fields)) does.leaves whole in
    let size : length next.dir ≡ length local.dir = ap (λ (l : Local). length l.dir) (sym does.leaves) ∙ local_after-length p parts.kind parts.rule me step.now heads ∙ ap (λ (l : Local). length l.dir) same in
    record {
      field_count = after.field_count;
      fields = after.fields;
      dir = after.dir;
      leaf = λ is. empty next.dir (size ∙ ap length (of.leaf is));
      inner = λ is none. of.inner is (empty local.dir (sym size ∙ ap length none));
      few = of.few;
    }
  where
    empty : (xs : List Status8) → length xs ≡ 0 → xs ≡ []
    empty [] is = refl
    empty (x ∷ xs) is = absurd (omega arith)
