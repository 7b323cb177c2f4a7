-- The actions on the children's directory entries lead to what a firing makes of them.
use Rattle.std.proofs.Common.{◌≡◌, ◌≢◌, refl, ap, sym, ◌∙◌, ℕ, zero, suc, ◌+◌, ◌<◌, Bool, true, false, not, cond, ◌&&◌, List, [], ◌∷◌, ◌++◌, length, map, arith, Option, Some}
use Rattle.std.specs.Prelude.{◌==◌, slice_get, filter}
use Rattle.std.specs.List.{list_all, flat_map, enumerate_from}
use Rattle.hem_base.specs.Sets.{has_bit}
use Rattle.hem_base.specs.declared.ids.Status8.{Status8}
use Rattle.hem_base.specs.declared.ids.Kind.{Kind}
use Rattle.hem_syntax.specs.declared.rule.Rule.{Rule}
use Rattle.hem_syntax.specs.declared.rule.Assign.{Assign}
use Rattle.hem_syntax.specs.declared.rule.Assign.TheVariants as assign
use Rattle.hem_object.specs.declared.state.View.{View}
use Rattle.hem_syntax.specs.Protocol.{Protocol}
use Rattle.hem_object.specs.Local.{Local}
use Rattle.hem_object.specs.Guard.{is_requester}
use Rattle.hem_template.specs.declared.row.Row.{Row}
use Rattle.hem_template.specs.Template.{may_name_requester, has_rs, is_leaf, set_fits}
use Rattle.hem_object.specs.Changes.{set_at, in_turn, assign_own, assign_targets, assign_me}
use Rattle.hem_fire.specs.Heads.{Heads}
use Rattle.hem_fire.specs.View.{view_of}
use Rattle.hem_fire.specs.OneFire.{local_after}
use Rattle.hem_module.specs.Module.{number, put}
use Rattle.hem_module.specs.Step.{Held, test_holds, number_after}
use Rattle.hem_rows.proofs.Choices.{both}
use Rattle.hem_emit.specs.Names.{Reg, Queue, val, entry, awaits, same_reg}
use Rattle.hem_emit.specs.Place.{Test, Action, Place, Asker, fixed, holder, kids_at, asker_of, is_named}
use Rattle.hem_emit.specs.Clauses.{held_for}
use Rattle.hem_emit.specs.Actions.{where_holds, is_awaited, set_own, set_targets, set_me, take_actions, free_actions, lock_actions, send_actions, actions_of}
use Rattle.hem_emit.specs.Image.{status_number}
use Rattle.hem_emit.specs.Shows.{AreKids}
use Rattle.hem_emit.proofs.Tests.{differ, same_number}
use Rattle.hem_emit.proofs.Guards.{is_asker}
use Rattle.hem_emit.proofs.Writes.{leaves, number_after-append, all_leave, flat_leaves, value_leaves, takes_leave, sends_leave}
use Rattle.hem_emit.proofs.After.{in_turn-keeps, dir_after}
use Rattle.hem_emit.proofs.Owned.{NoLock, free_leaves, lock_leaves}

-- an action for each child that is kept, which writes that child's register
abbrev pub for_kids : (ℕ → Reg) → (ℕ × ℕ → List Test) → (ℕ × ℕ → Bool) → ℕ → List (ℕ × ℕ) → List Action
for_kids reg tests keep amount kids = map (λ k. where_holds (tests k) (put (reg k.1) (number amount))) (filter keep kids)

-- of a register of a child, the actions for other children write nothing
none_written : (s : Held Reg Queue) (is_it : Reg → Bool) (reg : ℕ → Reg) (tests : ℕ × ℕ → List Test) (keep : ℕ × ℕ → Bool) (amount i : ℕ) (kids : List ℕ) (old : ℕ) → ((j d : ℕ) → slice_get kids j ≡ Some d → is_it (reg d) ≡ false) → number_after s is_it (for_kids reg tests keep amount (enumerate_from i kids)) old ≡ old
none_written s is_it reg tests keep amount i [] old other = refl
none_written s is_it reg tests keep amount i (d ∷ kids) old other =
    by_keep (keep (i, d)) (other 0 d refl) (λ old. none_written s is_it reg tests keep amount (i + 1) kids old (λ j e at. other (suc j) e at))
  where
    same_twice : (b : Bool) → cond b old old ≡ old
    same_twice true = refl
    same_twice false = refl

    by_keep : (b : Bool) → is_it (reg d) ≡ false → ((old : ℕ) → number_after s is_it (for_kids reg tests keep amount (enumerate_from (i + 1) kids)) old ≡ old) → number_after s is_it (map (λ k. where_holds (tests k) (put (reg k.1) (number amount))) (cond b ((i, d) ∷ filter keep (enumerate_from (i + 1) kids)) (filter keep (enumerate_from (i + 1) kids)))) old ≡ old
    by_keep true apart rest = ap (λ b. number_after s is_it (for_kids reg tests keep amount (enumerate_from (i + 1) kids)) (cond (list_all (test_holds s) (tests (i, d))) (cond b amount old) old)) apart ∙ (ap (number_after s is_it (for_kids reg tests keep amount (enumerate_from (i + 1) kids))) (same_twice (list_all (test_holds s) (tests (i, d)))) ∙ rest old)
    by_keep false apart rest = rest old

-- its own action writes it where the child is kept and the tests hold
pub written_from : (s : Held Reg Queue) (is_it : Reg → Bool) (reg : ℕ → Reg) (tests : ℕ × ℕ → List Test) (keep : ℕ × ℕ → Bool) (amount i m c : ℕ) (kids : List ℕ) (old : ℕ) → slice_get kids m ≡ Some c → is_it (reg c) ≡ true → ((j d : ℕ) → slice_get kids j ≡ Some d → j ≢ m → is_it (reg d) ≡ false) → number_after s is_it (for_kids reg tests keep amount (enumerate_from i kids)) old ≡ cond (keep (i + m, c) && list_all (test_holds s) (tests (i + m, c))) amount old
written_from s is_it reg tests keep amount i m c [] old at own other = cc
written_from s is_it reg tests keep amount i zero c (d ∷ kids) old at own other =
    let it : d ≡ c = cc in
    let e : i + 0 ≡ i = omega arith in
    by_keep (keep (i, d)) refl (ap (λ x. is_it (reg x)) it ∙ own) (λ old. none_written s is_it reg tests keep amount (i + 1) kids old (λ j x at. other (suc j) x at (λ bad. absurd (omega (arith, bad)))))
    ∙ ap (λ x. cond (keep (i, x) && list_all (test_holds s) (tests (i, x))) amount old) it
    ∙ sym (ap (λ n. cond (keep (n, c) && list_all (test_holds s) (tests (n, c))) amount old) e)
  where
    by_keep : (b : Bool) → keep (i, d) ≡ b → is_it (reg d) ≡ true → ((old : ℕ) → number_after s is_it (for_kids reg tests keep amount (enumerate_from (i + 1) kids)) old ≡ old) → number_after s is_it (map (λ k. where_holds (tests k) (put (reg k.1) (number amount))) (cond b ((i, d) ∷ filter keep (enumerate_from (i + 1) kids)) (filter keep (enumerate_from (i + 1) kids)))) old ≡ cond (keep (i, d) && list_all (test_holds s) (tests (i, d))) amount old
    by_keep true is mine rest = ap (λ b. number_after s is_it (for_kids reg tests keep amount (enumerate_from (i + 1) kids)) (cond (list_all (test_holds s) (tests (i, d))) (cond b amount old) old)) mine ∙ rest (cond (list_all (test_holds s) (tests (i, d))) amount old) ∙ sym (ap (λ b. cond (b && (list_all (test_holds s) (tests (i, d)))) amount old) is)
    by_keep false is mine rest = rest old ∙ sym (ap (λ b. cond (b && (list_all (test_holds s) (tests (i, d)))) amount old) is)
written_from s is_it reg tests keep amount i (suc m) c (d ∷ kids) old at own other =
    let e : i + 1 + m ≡ i + suc m = omega arith in
    by_keep (keep (i, d)) (other 0 d refl (λ bad. absurd (omega (arith, bad)))) (λ old. written_from s is_it reg tests keep amount (i + 1) m c kids old at own (λ j x at far. other (suc j) x at (λ same. let back : j ≡ m = omega (arith, same) in far back)))
    ∙ ap (λ n. cond (keep (n, c) && list_all (test_holds s) (tests (n, c))) amount old) e
  where
    same_twice : (b : Bool) → cond b old old ≡ old
    same_twice true = refl
    same_twice false = refl

    by_keep : (b : Bool) → is_it (reg d) ≡ false → ((old : ℕ) → number_after s is_it (for_kids reg tests keep amount (enumerate_from (i + 1) kids)) old ≡ cond (keep (i + 1 + m, c) && list_all (test_holds s) (tests (i + 1 + m, c))) amount old) → number_after s is_it (map (λ k. where_holds (tests k) (put (reg k.1) (number amount))) (cond b ((i, d) ∷ filter keep (enumerate_from (i + 1) kids)) (filter keep (enumerate_from (i + 1) kids)))) old ≡ cond (keep (i + 1 + m, c) && list_all (test_holds s) (tests (i + 1 + m, c))) amount old
    by_keep true apart rest = ap (λ b. number_after s is_it (for_kids reg tests keep amount (enumerate_from (i + 1) kids)) (cond (list_all (test_holds s) (tests (i, d))) (cond b amount old) old)) apart ∙ (ap (number_after s is_it (for_kids reg tests keep amount (enumerate_from (i + 1) kids))) (same_twice (list_all (test_holds s) (tests (i, d)))) ∙ rest old)
    by_keep false apart rest = rest old

pub keep_all : {A : Type 0} (xs : List A) → filter (λ x. true) xs ≡ xs
keep_all [] = refl
keep_all (x ∷ xs) = ap (λ ys. x ∷ ys) (keep_all xs)

-- the actions for all children of an object, at the entry of the one at a place
pub kept_written : (at : Place) (kind : Kind) → AreKids kind at.kids → (s : Held Reg Queue) (tests : ℕ × ℕ → List Test) (keep : ℕ × ℕ → Bool) (amount k c old : ℕ) → slice_get at.kids k ≡ Some c → number_after s (same_reg (entry c)) (for_kids entry tests keep amount (kids_at at)) old ≡ cond (keep (k, c) && list_all (test_holds s) (tests (k, c))) amount old
kept_written at kind kids s tests keep amount k c old kid =
    let e : 0 + k ≡ k = omega arith in
    written_from s (same_reg (entry c)) entry tests keep amount 0 k c at.kids old kid (same_number c c refl) (λ j d other far. differ c d (λ same. far (kids.apart j k c (other ∙ ap Some (sym same)) kid)))
    ∙ ap (λ n. cond (keep (n, c) && list_all (test_holds s) (tests (n, c))) amount old) e

pub each_written : (at : Place) (kind : Kind) → AreKids kind at.kids → (s : Held Reg Queue) (tests : ℕ × ℕ → List Test) (amount k c old : ℕ) → slice_get at.kids k ≡ Some c → number_after s (same_reg (entry c)) (map (λ k. where_holds (tests k) (put (entry k.1) (number amount))) (kids_at at)) old ≡ cond (list_all (test_holds s) (tests (k, c))) amount old
each_written at kind kids s tests amount k c old kid =
    ap (λ xs. number_after s (same_reg (entry c)) (map (λ k. where_holds (tests k) (put (entry k.1) (number amount))) xs) old) (sym (keep_all (kids_at at)))
    ∙ kept_written at kind kids s tests (λ k. true) amount k c old kid

-- an entry that is set
entry_set : (status : Status8) (test : ℕ → Bool) (i m : ℕ) (dir : List Status8) → m < length dir → status_number (slice_get (set_at status test i dir) m) ≡ cond (test (i + m)) status.0 (status_number (slice_get dir m))
entry_set status test i m [] less = absurd (omega (arith, less))
entry_set status test i zero (x ∷ dir) less = let e : i + 0 ≡ i = omega arith in rw e (by_test (test i))
  where
    by_test : (b : Bool) → (cond b status x).0 ≡ cond b status.0 x.0
    by_test true = refl
    by_test false = refl
entry_set status test i (suc m) (x ∷ dir) less = let e : i + 1 + m ≡ i + suc m = omega arith in rw e at (entry_set status test (i + 1) m dir (omega (arith, less)))

set_length : (status : Status8) (test : ℕ → Bool) (i : ℕ) (dir : List Status8) → length (set_at status test i dir) ≡ length dir
set_length status test i [] = refl
set_length status test i (x ∷ dir) = ap suc (set_length status test (i + 1) dir)

-- the entry of the child at a place, where who is awaited and who asks are read right
module _ (at : Place) (kind : Kind) (kids : AreKids kind at.kids) (s : Held Reg Queue) (view : View) (row : Row) (who : Asker) (k c : ℕ) (kid : slice_get at.kids k ≡ Some c) (awaited : has_rs row.taking ≡ true → (s.reg (awaits c) == 1) ≡ has_bit view.awaited.0 k) (asks : (may_name_requester row && not (is_leaf at.kind)) ≡ true → is_asker at s who k c ≡ is_requester view k) where
  targets_set : (sets : List Assign) (before : Local) → k < length before.dir → list_all (set_fits at.kind row) sets ≡ true → number_after s (same_reg (entry c)) (flat_map (set_targets at) sets) (status_number (slice_get before.dir k)) ≡ status_number (slice_get (in_turn (assign_targets view) sets before).dir k)
  targets_set [] before less fits = refl
  targets_set (assign.Targets status ∷ sets) before less fits =
      let parts = both (has_rs row.taking) (list_all (set_fits at.kind row) sets) fits in
      number_after-append s (same_reg (entry c)) (set_targets at (assign.Targets status)) (flat_map (set_targets at) sets) (status_number (slice_get before.dir k))
      ∙ ap (number_after s (same_reg (entry c)) (flat_map (set_targets at) sets)) (
      each_written at kind kids s (λ k. is_awaited k ∷ []) status.0 k c (status_number (slice_get before.dir k)) kid
      ∙ ap (λ b. cond b status.0 (status_number (slice_get before.dir k))) (one_test _ ∙ awaited parts.0)
      ∙ written status (has_bit view.awaited.0) before less)
      ∙ targets_set sets (record before { dir = set_at status (has_bit view.awaited.0) 0 before.dir }) (let same = set_length status (has_bit view.awaited.0) 0 before.dir in rw same less) parts.1
    where
      one_test : (b : Bool) → (b && true) ≡ b
      one_test true = refl
      one_test false = refl

      written : (status : Status8) (test : ℕ → Bool) (before : Local) → k < length before.dir → cond (test k) status.0 (status_number (slice_get before.dir k)) ≡ status_number (slice_get (set_at status test 0 before.dir) k)
      written status test before less = let e : 0 + k ≡ k = omega arith in ap (λ n. cond (test n) status.0 (status_number (slice_get before.dir k))) (sym e) ∙ sym (entry_set status test 0 k before.dir less)
  targets_set (assign.Field j status ∷ sets) before less fits = targets_set sets before less fits
  targets_set (assign.Val v ∷ sets) before less fits = targets_set sets before less fits
  targets_set (assign.Me status ∷ sets) before less fits = targets_set sets before less (both (may_name_requester row && not (is_leaf at.kind)) (list_all (set_fits at.kind row) sets) fits).1

  me_written : (who : Asker) → ((may_name_requester row && not (is_leaf at.kind)) ≡ true → is_asker at s who k c ≡ is_requester view k) → (may_name_requester row && not (is_leaf at.kind)) ≡ true → (status : Status8) (old : ℕ) → number_after s (same_reg (entry c)) (set_me at who (assign.Me status)) old ≡ cond (is_requester view k) status.0 old
  me_written (fixed me) names may status old =
      kept_written at kind kids s (λ k. []) (λ k. is_named me k.0) status.0 k c old kid
      ∙ ap (λ b. cond b status.0 old) (one_test _ ∙ names may)
    where
      one_test : (b : Bool) → (b && true) ≡ b
      one_test true = refl
      one_test false = refl
  me_written (holder side) names may status old =
      each_written at kind kids s (λ k. held_for at side k ∷ []) status.0 k c old kid
      ∙ ap (λ b. cond b status.0 old) (one_test _ ∙ names may)
    where
      one_test : (b : Bool) → (b && true) ≡ b
      one_test true = refl
      one_test false = refl

  me_nothing : (who : Asker) (sets : List Assign) (a : Assign) → (set_me at who a ≡ []) → flat_map (set_me at who) (a ∷ sets) ≡ flat_map (set_me at who) sets
  me_nothing who sets a none = ap (λ (xs : List Action). xs ++ flat_map (set_me at who) sets) none

  me_set : (sets : List Assign) (before : Local) → k < length before.dir → list_all (set_fits at.kind row) sets ≡ true → number_after s (same_reg (entry c)) (flat_map (set_me at who) sets) (status_number (slice_get before.dir k)) ≡ status_number (slice_get (in_turn (assign_me view) sets before).dir k)
  me_set [] before less fits = refl
  me_set (assign.Me status ∷ sets) before less fits =
      let parts = both (may_name_requester row && not (is_leaf at.kind)) (list_all (set_fits at.kind row) sets) fits in
      number_after-append s (same_reg (entry c)) (set_me at who (assign.Me status)) (flat_map (set_me at who) sets) (status_number (slice_get before.dir k))
      ∙ ap (number_after s (same_reg (entry c)) (flat_map (set_me at who) sets)) (me_written who asks parts.0 status (status_number (slice_get before.dir k)) ∙ written status (is_requester view) before less)
      ∙ me_set sets (record before { dir = set_at status (is_requester view) 0 before.dir }) (let same = set_length status (is_requester view) 0 before.dir in rw same less) parts.1
    where
      written : (status : Status8) (test : ℕ → Bool) (before : Local) → k < length before.dir → cond (test k) status.0 (status_number (slice_get before.dir k)) ≡ status_number (slice_get (set_at status test 0 before.dir) k)
      written status test before less = let e : 0 + k ≡ k = omega arith in ap (λ n. cond (test n) status.0 (status_number (slice_get before.dir k))) (sym e) ∙ sym (entry_set status test 0 k before.dir less)
  me_set (assign.Field j status ∷ sets) before less fits = ap (λ xs. number_after s (same_reg (entry c)) xs (status_number (slice_get before.dir k))) (me_nothing who sets (assign.Field j status) (none who)) ∙ me_set sets before less fits
    where
      none : (who : Asker) → set_me at who (assign.Field j status) ≡ []
      none (fixed me) = refl
      none (holder side) = refl
  me_set (assign.Val v ∷ sets) before less fits = ap (λ xs. number_after s (same_reg (entry c)) xs (status_number (slice_get before.dir k))) (me_nothing who sets (assign.Val v) (none who)) ∙ me_set sets before less fits
    where
      none : (who : Asker) → set_me at who (assign.Val v) ≡ []
      none (fixed me) = refl
      none (holder side) = refl
  me_set (assign.Targets status ∷ sets) before less fits = ap (λ xs. number_after s (same_reg (entry c)) xs (status_number (slice_get before.dir k))) (me_nothing who sets (assign.Targets status) (none who)) ∙ me_set sets before less (both (has_rs row.taking) (list_all (set_fits at.kind row) sets) fits).1
    where
      none : (who : Asker) → set_me at who (assign.Targets status) ≡ []
      none (fixed me) = refl
      none (holder side) = refl

-- the actions of a rule lead from a child's entry to what it is after the firing
pub entry_after : (at : Place) → AreKids at.kind at.kids → (s : Held Reg Queue) (p : Protocol) (rule : Rule) (row : Row) (me : Option ℕ) (local : Local) (heads : Heads) (k c : ℕ) → slice_get at.kids k ≡ Some c → k < length local.dir → s.reg (entry c) ≡ status_number (slice_get local.dir k) → (has_rs row.taking ≡ true → (s.reg (awaits c) == 1) ≡ has_bit (view_of rule.take me local heads).awaited.0 k) → ((may_name_requester row && not (is_leaf at.kind)) ≡ true → is_asker at s (asker_of rule.take me) k c ≡ is_requester (view_of rule.take me local heads) k) → list_all (set_fits at.kind row) rule.sets ≡ true → number_after s (same_reg (entry c)) (actions_of p at me rule) (s.reg (entry c)) ≡ status_number (slice_get (local_after p at.kind rule me local heads).dir k)
entry_after at kids s p rule row me local heads k c kid less shown awaited asks fits =
    let is_it = same_reg (entry c) in
    let view = view_of rule.take me local heads in
    let takes = take_actions at me rule.take in
    let own = flat_map (set_own at me rule.take) rule.sets in
    let targets = flat_map (set_targets at) rule.sets in
    let mine = flat_map (set_me at (asker_of rule.take me)) rule.sets in
    let free = free_actions at rule.free in
    let locks = lock_actions p at me rule rule.lock in
    let sends = send_actions p at me rule.take rule.send in
    let one = in_turn (assign_own local view) rule.sets local in
    let two = in_turn (assign_targets view) rule.sets one in
    let own_dir : one.dir ≡ local.dir = in_turn-keeps (λ local. local.dir) (assign_own local view) (own_keeps view) rule.sets local in
    let less_one : k < length one.dir = rw own_dir less in
    let count_two : length two.dir ≡ length one.dir = in_turn-keeps (λ local. length local.dir) (assign_targets view) (targets_keep view) rule.sets one in
    let less_two : k < length two.dir = rw count_two less_one in
    number_after-append s is_it (takes ++ (own ++ targets ++ mine) ++ free ++ locks) sends (s.reg (entry c))
    ∙ all_leave s is_it sends _ (sends_leave is_it p at me rule.take rule.send)
    ∙ number_after-append s is_it (takes ++ (own ++ targets ++ mine) ++ free) locks (s.reg (entry c))
    ∙ all_leave s is_it locks _ (lock_leaves is_it p at me rule no_lock rule.lock)
    ∙ number_after-append s is_it (takes ++ (own ++ targets ++ mine)) free (s.reg (entry c))
    ∙ all_leave s is_it free _ (free_leaves is_it at no_lock rule.free)
    ∙ number_after-append s is_it takes (own ++ targets ++ mine) (s.reg (entry c))
    ∙ ap (number_after s is_it (own ++ targets ++ mine)) (all_leave s is_it takes (s.reg (entry c)) (takes_leave is_it at me rule.take))
    ∙ number_after-append s is_it (own ++ targets) mine (s.reg (entry c))
    ∙ ap (number_after s is_it mine) (
    number_after-append s is_it own targets (s.reg (entry c))
    ∙ ap (number_after s is_it targets) (all_leave s is_it own (s.reg (entry c)) (flat_leaves is_it (set_own at me rule.take) rule.sets own_leaves) ∙ shown ∙ sym (ap (λ dir. status_number (slice_get dir k)) own_dir))
    ∙ targets_set at at.kind kids s view row (asker_of rule.take me) k c kid awaited asks rule.sets one less_one fits)
    ∙ me_set at at.kind kids s view row (asker_of rule.take me) k c kid awaited asks rule.sets two less_two fits
    ∙ sym (ap (λ dir. status_number (slice_get dir k)) (dir_after p at.kind rule me local heads))
  where
    no_lock : NoLock (same_reg (entry c))
    no_lock = record { no_awaits = λ c. refl; no_origin = λ side o. refl; no_asked = λ side o. refl; no_kept = λ side o. refl }

    own_leaves : (a : Assign) → list_all (leaves (same_reg (entry c))) (set_own at me rule.take a) ≡ true
    own_leaves (assign.Field i status) = refl
    own_leaves (assign.Val v) = value_leaves (same_reg (entry c)) at me rule.take v [] (put (val at.object)) (λ a. refl)
    own_leaves (assign.Me status) = refl
    own_leaves (assign.Targets status) = refl

    own_keeps : (view : View) (a : Assign) (x : Local) → (assign_own local view a x).dir ≡ x.dir
    own_keeps view (assign.Field i status) x = refl
    own_keeps view (assign.Val v) x = refl
    own_keeps view (assign.Me status) x = refl
    own_keeps view (assign.Targets status) x = refl

    targets_keep : (view : View) (a : Assign) (x : Local) → length (assign_targets view a x).dir ≡ length x.dir
    targets_keep view (assign.Field i status) x = refl
    targets_keep view (assign.Val v) x = refl
    targets_keep view (assign.Me status) x = refl
    targets_keep view (assign.Targets status) x = set_length status (has_bit view.awaited.0) 0 x.dir
