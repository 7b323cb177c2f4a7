-- The sets of a rule change the abstract state of a local state as they change the local state.
use Rattle.std.proofs.Common.{◌≡◌, ◌≢◌, refl, ap, sym, ◌∙◌, subst, ℕ, zero, suc, ◌+◌, ◌<◌, Bool, true, false, not, cond, ◌&&◌, List, [], ◌∷◌, arith, inl, inr, ◌⊎◌}
use Rattle.std.specs.Prelude.{◌==◌, ◌||◌, slice_set}
use Rattle.std.specs.List.{list_any}
use Rattle.std.proofs.lemmas.Bool.{eq-eqb}
use Rattle.std.proofs.lemmas.Bool.Decides.{eqb_tells}
use Rattle.hem_base.specs.Sets.{has_bit, bits_where}
use Rattle.hem_base.specs.declared.ids.Status8.{Status8}
use Rattle.hem_base.specs.declared.ids.StatusSet.{StatusSet}
use Rattle.hem_syntax.specs.declared.rule.Value.TheVariants as value
use Rattle.hem_syntax.specs.declared.rule.Assign.{Assign}
use Rattle.hem_syntax.specs.declared.rule.Assign.TheVariants as assign
use Rattle.hem_object.specs.declared.state.View.{View}
use Rattle.hem_object.specs.Local.{Local}
use Rattle.hem_object.specs.Guard.{has}
use Rattle.hem_syntax.specs.Lawful.{write_alike, set_once}
use Rattle.hem_object.specs.Changes.{set_at, assign_own, assign_targets, assign_me, in_turn, assigned}
use Rattle.hem_abstract.specs.Abstract.{Abstract, status, occurs, abstract_of}
use Rattle.hem_abstract.specs.Partners.{after_one, after, is_new_val}
use Rattle.hem_rows.proofs.Choices.{both, not-true}
use Rattle.hem_abstract.specs.Exact.{is_me, is_targets, AreAwaited, KnowsTargets}
use Rattle.hem_rows.proofs.Bits.{bits_where-is}

-- the fields change alike
fields-own : (before : Local) (view : View) (targets : StatusSet) (a : Assign) (local : Local) (at : Abstract) → at.fields ≡ local.fields → (after_one targets a at).fields ≡ (assign_own before view a local).fields
fields-own before view targets (assign.Field i s) local at same = ap (λ fs. slice_set fs i s) same
fields-own before view targets (assign.Val v) local at same = same
fields-own before view targets (assign.Me s) local at same = same
fields-own before view targets (assign.Targets s) local at same = same

fields-owns : (before : Local) (view : View) (targets : StatusSet) (sets : List Assign) (local : Local) (at : Abstract) → at.fields ≡ local.fields → (after at sets targets).fields ≡ (in_turn (assign_own before view) sets local).fields
fields-owns before view targets [] local at same = same
fields-owns before view targets (a ∷ sets) local at same = fields-owns before view targets sets (assign_own before view a local) (after_one targets a at) (fields-own before view targets a local at same)

fields-kept : (change : Assign → Local → Local) (sets : List Assign) (local : Local) → ((a : Assign) (l : Local) → (change a l).fields ≡ l.fields) → (in_turn change sets local).fields ≡ local.fields
fields-kept change [] local keeps = refl
fields-kept change (a ∷ sets) local keeps = fields-kept change sets (change a local) keeps ∙ keeps a local

targets-fields : (view : View) (a : Assign) (l : Local) → (assign_targets view a l).fields ≡ l.fields
targets-fields view (assign.Field i s) l = refl
targets-fields view (assign.Val v) l = refl
targets-fields view (assign.Me s) l = refl
targets-fields view (assign.Targets s) l = refl

me-fields : (view : View) (a : Assign) (l : Local) → (assign_me view a l).fields ≡ l.fields
me-fields view (assign.Field i s) l = refl
me-fields view (assign.Val v) l = refl
me-fields view (assign.Me s) l = refl
me-fields view (assign.Targets s) l = refl

-- what sets of the requester's entry change, where there is none
me-none : (view : View) (sets : List Assign) (local : Local) → list_any is_me sets ≡ false → in_turn (assign_me view) sets local ≡ local
me-none view [] local none = refl
me-none view (assign.Me s ∷ sets) local none = cc
me-none view (assign.Field i s ∷ sets) local none = me-none view sets local none
me-none view (assign.Val v ∷ sets) local none = me-none view sets local none
me-none view (assign.Targets s ∷ sets) local none = me-none view sets local none

pub fields-exact : (view : View) (targets : StatusSet) (sets : List Assign) (local : Local) → list_any is_me sets ≡ false → (after (abstract_of local) sets targets).fields ≡ (assigned sets view local).fields
fields-exact view targets sets local none =
    fields-owns local view targets sets local (abstract_of local) refl
    ∙ sym (fields-kept (assign_targets view) sets (in_turn (assign_own local view) sets local) (targets-fields view))
    ∙ ap (λ (l : Local). l.fields) (sym (me-none view sets (in_turn (assign_targets view) sets (in_turn (assign_own local view) sets local)) none))

-- the directory
own-dir : (before : Local) (view : View) (sets : List Assign) (local : Local) → (in_turn (assign_own before view) sets local).dir ≡ local.dir
own-dir before view [] local = refl
own-dir before view (assign.Field i s ∷ sets) local = own-dir before view sets _
own-dir before view (assign.Val v ∷ sets) local = own-dir before view sets _
own-dir before view (assign.Me s ∷ sets) local = own-dir before view sets local
own-dir before view (assign.Targets s ∷ sets) local = own-dir before view sets local

-- numbers whose bits pass tests that agree
pub bits-alike : (f g : ℕ → Bool) (n : ℕ) → ((x : ℕ) → x < n → f x ≡ g x) → bits_where f n ≡ bits_where g n
bits-alike f g zero same = refl
bits-alike f g (suc n) same =
    let rest = bits-alike f g n (λ x less. same x (omega arith)) in
    let here = same n (omega arith) in
    rw (rest, here) refl

-- the statuses that occur after a set of the targets
occurs-set : (awaited : ℕ → Bool) (targets : StatusSet) (s : Status8) (k : ℕ) (dir : List Status8) (x : ℕ) → AreAwaited awaited targets k dir → occurs (set_at s awaited k dir) x ≡ ((occurs dir x && not (has targets (status x))) || (list_any (has targets) dir && s.0 == x))
occurs-set awaited targets s k [] x are = refl
occurs-set awaited targets s k (d ∷ dir) x are =
    let rest = occurs-set awaited targets s (k + 1) dir x are.1 in
    by_entry (awaited k) (has targets d) are.0 refl (eqb_tells d.0 x) rest
  where
    set_case : (e o h l : Bool) → (e || ((o && not h) || (l && e))) ≡ ((o && not h) || e)
    set_case true true true l = refl
    set_case true true false l = refl
    set_case true false h l = refl
    set_case false o h true = refl
    set_case false o h false = refl

    by_entry : (a b : Bool) → a ≡ b → has targets d ≡ b → ((d.0 == x) ≡ true) × (d.0 ≡ x) ⊎ ((d.0 == x) ≡ false) × (d.0 ≢ x) → occurs (set_at s awaited (k + 1) dir) x ≡ ((occurs dir x && not (has targets (status x))) || (list_any (has targets) dir && s.0 == x)) → ((cond a s d).0 == x || occurs (set_at s awaited (k + 1) dir) x) ≡ (((d.0 == x || occurs dir x) && not (has targets (status x))) || ((has targets d || list_any (has targets) dir) && s.0 == x))
    by_entry true true same is (inl at) rest =
        let here : has targets (status x) ≡ true = ap (λ n. has_bit targets.0 n) (sym at.1) ∙ is in
        rw (at.0, is, rest, here) (set_case (s.0 == x) (occurs dir x) true (list_any (has targets) dir) ∙ gone (s.0 == x) (occurs dir x))
      where
        gone : (e o : Bool) → ((o && false) || e) ≡ e
        gone e true = refl
        gone e false = refl
    by_entry true true same is (inr other) rest = rw (other.0, is, rest) (set_case (s.0 == x) (occurs dir x) (has targets (status x)) (list_any (has targets) dir))
    by_entry true false same is at rest = cc
    by_entry false true same is at rest = cc
    by_entry false false same is (inl at) rest =
        let here : has targets (status x) ≡ false = ap (λ n. has_bit targets.0 n) (sym at.1) ∙ is in
        rw (at.0, is, here) refl
    by_entry false false same is (inr other) rest = rw (other.0, is, rest) refl

-- either order of an equality of numbers
eq-turned : (a b : ℕ) → (a == b) ≡ (b == a)
eq-turned a b = elim (eqb_tells a b) [ inl same ↦ same.0 ∙ sym (eq-eqb b a (sym same.1)) | inr other ↦ other.0 ∙ sym (differs (λ same. other.1 (sym same))) ]
  where
    differs : b ≢ a → (b == a) ≡ false
    differs other = elim (eqb_tells b a) [ inl same ↦ absurd (other same.1) | inr it ↦ it.0 ]

-- one set of the targets
targets-one : (view : View) (targets : StatusSet) (s : Status8) (local : Local) (at : Abstract) → at.kids ≡ (abstract_of local).kids → AreAwaited (has_bit view.awaited.0) targets 0 local.dir → list_any (has targets) local.dir ≡ true → (after_one targets (assign.Targets s) at).kids ≡ (abstract_of (assign_targets view (assign.Targets s) local)).kids
targets-one view targets s local at same are some =
    ap (λ (n : ℕ). let set : StatusSet = record { 0 = n } in set)
    (bits-alike (λ x. (has at.kids (status x) && not (has targets (status x))) || x == s.0) (occurs (set_at s (has_bit view.awaited.0) 0 local.dir)) 8
    (λ x less.
    ap (λ (set : StatusSet). (has set (status x) && not (has targets (status x))) || x == s.0) same
    ∙ ap (λ b. (b && not (has targets (status x))) || x == s.0) (bits_where-is (occurs local.dir) 8 x less)
    ∙ ap (λ b. (occurs local.dir x && not (has targets (status x))) || b) (eq-turned x s.0)
    ∙ sym (occurs-set (has_bit view.awaited.0) targets s 0 local.dir x are ∙ ap (λ b. (occurs local.dir x && not (has targets (status x))) || (b && s.0 == x)) some)))

-- no set of the targets
targets-none : (view : View) (targets : StatusSet) (sets : List Assign) (local : Local) (at : Abstract) → list_any is_targets sets ≡ false → at.kids ≡ (abstract_of local).kids → (after at sets targets).kids ≡ (abstract_of (in_turn (assign_targets view) sets local)).kids
targets-none view targets [] local at none same = same
targets-none view targets (assign.Targets s ∷ sets) local at none same = cc
targets-none view targets (assign.Field i s ∷ sets) local at none same = targets-none view targets sets local (record at { fields = slice_set at.fields i s }) none same
targets-none view targets (assign.Val v ∷ sets) local at none same = targets-none view targets sets local at none same
targets-none view targets (assign.Me s ∷ sets) local at none same = targets-none view targets sets local at none same

-- where one set is of the targets, no other is
no-more : (s : Status8) (sets : List Assign) → list_any (write_alike (assign.Targets s)) sets ≡ false → list_any is_targets sets ≡ false
no-more s [] none = refl
no-more s (assign.Targets t ∷ sets) none = cc
no-more s (assign.Field i t ∷ sets) none = no-more s sets none
no-more s (assign.Val v ∷ sets) none = no-more s sets none
no-more s (assign.Me t ∷ sets) none = no-more s sets none

targets-sets : (view : View) (targets : StatusSet) (sets : List Assign) (local : Local) (at : Abstract) → set_once sets ≡ true → at.kids ≡ (abstract_of local).kids → KnowsTargets view targets sets local.dir → (after at sets targets).kids ≡ (abstract_of (in_turn (assign_targets view) sets local)).kids
targets-sets view targets [] local at once same knows = same
targets-sets view targets (assign.Targets s ∷ sets) local at once same knows =
    let parts = both (not (list_any (write_alike (assign.Targets s)) sets)) (set_once sets) once in
    let known = knows refl in
    targets-none view targets sets (assign_targets view (assign.Targets s) local) (after_one targets (assign.Targets s) at) (no-more s sets (not-true (list_any (write_alike (assign.Targets s)) sets) parts.0)) (targets-one view targets s local at same known.0 known.1)
targets-sets view targets (assign.Field i s ∷ sets) local at once same knows = targets-sets view targets sets local (record at { fields = slice_set at.fields i s }) (both (not (list_any (write_alike (assign.Field i s)) sets)) (set_once sets) once).1 same knows
targets-sets view targets (assign.Val v ∷ sets) local at once same knows = targets-sets view targets sets local at (both (not (list_any (write_alike (assign.Val v)) sets)) (set_once sets) once).1 same knows
targets-sets view targets (assign.Me s ∷ sets) local at once same knows = targets-sets view targets sets local at (both (not (list_any (write_alike (assign.Me s)) sets)) (set_once sets) once).1 same knows

-- the abstract state after the sets is that of the local state after them
pub after-exact : (view : View) (targets : StatusSet) (sets : List Assign) (local : Local) → list_any is_me sets ≡ false → set_once sets ≡ true → KnowsTargets view targets sets local.dir → after (abstract_of local) sets targets ≡ abstract_of (assigned sets view local)
after-exact view targets sets local none once knows =
    let own = in_turn (assign_own local view) sets local in
    let dir = own-dir local view sets local in
    let kids : (after (abstract_of local) sets targets).kids ≡ (abstract_of (assigned sets view local)).kids =
    targets-sets view targets sets own (abstract_of local) once (ap (λ (d : List Status8). let set : StatusSet = record { 0 = bits_where (occurs d) 8 } in set) (sym dir)) (subst (KnowsTargets view targets sets) (sym dir) knows)
    ∙ ap (λ (l : Local). (abstract_of l).kids) (sym (me-none view sets (in_turn (assign_targets view) sets own) none)) in
    by_fields (fields-exact view targets sets local none) kids
  where
    by_fields : {a b : Abstract} → a.fields ≡ b.fields → a.kids ≡ b.kids → a ≡ b
    by_fields {b = b} fields kids = rw (← fields, ← kids) refl

-- the value stays where no set sets it to another
own-val : (before : Local) (view : View) (sets : List Assign) (local : Local) → list_any is_new_val sets ≡ false → local.val ≡ before.val → (in_turn (assign_own before view) sets local).val ≡ before.val
own-val before view [] local none same = same
own-val before view (assign.Field i s ∷ sets) local none same = own-val before view sets _ none same
own-val before view (assign.Val value.Val ∷ sets) local none same = own-val before view sets _ none refl
own-val before view (assign.Val value.Msg ∷ sets) local none same = cc
own-val before view (assign.Val value.Kept ∷ sets) local none same = cc
own-val before view (assign.Val value.Rs ∷ sets) local none same = cc
own-val before view (assign.Val value.Zero ∷ sets) local none same = cc
own-val before view (assign.Me s ∷ sets) local none same = own-val before view sets local none same
own-val before view (assign.Targets s ∷ sets) local none same = own-val before view sets local none same

val-kept : (change : Assign → Local → Local) (sets : List Assign) (local : Local) → ((a : Assign) (l : Local) → (change a l).val ≡ l.val) → (in_turn change sets local).val ≡ local.val
val-kept change [] local keeps = refl
val-kept change (a ∷ sets) local keeps = val-kept change sets (change a local) keeps ∙ keeps a local

targets-val : (view : View) (a : Assign) (l : Local) → (assign_targets view a l).val ≡ l.val
targets-val view (assign.Field i s) l = refl
targets-val view (assign.Val v) l = refl
targets-val view (assign.Me s) l = refl
targets-val view (assign.Targets s) l = refl

me-val : (view : View) (a : Assign) (l : Local) → (assign_me view a l).val ≡ l.val
me-val view (assign.Field i s) l = refl
me-val view (assign.Val v) l = refl
me-val view (assign.Me s) l = refl
me-val view (assign.Targets s) l = refl

pub val-exact : (view : View) (sets : List Assign) (local : Local) → list_any is_new_val sets ≡ false → (assigned sets view local).val ≡ local.val
val-exact view sets local none =
    val-kept (assign_me view) sets _ (me-val view)
    ∙ val-kept (assign_targets view) sets _ (targets-val view)
    ∙ own-val local view sets local none refl
