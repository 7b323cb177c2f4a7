-- Clauses on the children's directory entries hold in a state that shows an object where the conditions hold at it.
use Rattle.std.proofs.Common.{◌≡◌, refl, ap, sym, ◌∙◌, subst, ℕ, ◌<◌, Bool, true, false, not, ◌&&◌, ◌||◌, List, ◌∷◌, length, arith, Option, Some}
use Rattle.std.specs.Prelude.{◌==◌, nat_lt, All, filter, map, slice_get}
use Rattle.std.specs.List.{list_all, list_any, flat_map}
use Rattle.std.proofs.lemmas.List.Folds.{list_all-map}
use Rattle.hem_base.specs.Sets.{has_bit}
use Rattle.hem_base.specs.declared.ids.Status8.{Status8}
use Rattle.hem_base.specs.declared.ids.StatusSet.{StatusSet}
use Rattle.hem_syntax.specs.declared.rule.Side.{Side}
use Rattle.hem_object.specs.declared.state.Lock.{Lock}
use Rattle.hem_object.specs.declared.state.View.{View}
use Rattle.hem_object.specs.Local.{Local, IsOrigin}
use Rattle.hem_object.specs.Guard.{has, is_requester, kids_of, others_of}
use Rattle.hem_fire.specs.Heads.{Heads}
use Rattle.hem_tree.specs.Tree.{below}
use Rattle.hem_module.specs.Module.{equals}
use Rattle.hem_module.specs.Step.{Held, test_holds, clause_holds}
use Rattle.hem_emit.specs.Names.{Reg, Queue, entry}
use Rattle.hem_emit.specs.Place.{Place, kids_at, others_at, is_named, fixed, holder, origin_at, kid_origin}
use Rattle.hem_emit.specs.Clauses.{is_one_of, entry_in, held_for, not_held_for, me_clauses, others_all, others_any, kids_any}
use Rattle.hem_emit.specs.Image.{lock_at}
use Rattle.hem_emit.specs.Shows.{AreKids, Shows}
use Rattle.hem_emit.proofs.Tests.{and_true, list_any-map, list_any-filter, list_all-filter, list_any-flat_map, list_all-one, among_below, all_alike, any_alike, all_elements, any_elements, all_at, any_at, below_at}
use Rattle.hem_emit.proofs.Places.{element_or}

-- a state shows an object whose statuses are declared, and whose locks are held for those whom they may be held for
pub record Sees (at : Place) (me : Option ℕ) (local : Local) (heads : Heads) (s : Held Reg Queue) : Type 0 where
  pub shows : Shows at me local heads s
  pub kids : AreKids at.kind at.kids
  pub fields : (i : ℕ) (status : Status8) → slice_get local.fields i ≡ Some status → status.0 < at.statuses
  pub dir : (k : ℕ) (status : Status8) → slice_get local.dir k ≡ Some status → status.0 < at.statuses
  pub origin : (side : Side) (lock : Lock) → lock_at side local ≡ Some lock → IsOrigin at.kind (length at.kids) lock.by

pub and_alike : (a b c d : Bool) → a ≡ b → c ≡ d → (a && c) ≡ (b && d)
and_alike a b c d one other = cc

pub or_alike : (a b c d : Bool) → a ≡ b → c ≡ d → (a || c) ≡ (b || d)
or_alike a b c d one other = cc

pub not_alike : (a b : Bool) → a ≡ b → not a ≡ not b
not_alike a b same = cc

pub not_not : (b : Bool) → b ≡ not (not b)
not_not true = refl
not_not false = refl

-- an element of a list of which all have a property
pub one_of_all : {A : Type 0} (P : A → Type 0) (xs : List A) (k : ℕ) (x : A) → All P xs → slice_get xs k ≡ Some x → P x
one_of_all P xs k x all at = subst P (element_or xs k x x at) (all k x (below_at xs k x at))

-- a register of a declared status is one of a set where the set has it
pub is_one_of-is : (at : Place) (set : StatusSet) (r : Reg) (s : Held Reg Queue) → s.reg r < at.statuses → clause_holds s (is_one_of at set r) ≡ has_bit set.0 (s.reg r)
is_one_of-is at set r s less =
    list_any-map (test_holds s) (λ n. equals r n) (filter (has_bit set.0) (below at.statuses))
    ∙ list_any-filter (λ n. s.reg r == n) (has_bit set.0) (below at.statuses)
    ∙ among_below (has_bit set.0) (s.reg r) at.statuses
    ∙ within (has_bit set.0 (s.reg r)) (grind arith)
  where
    within : (b : Bool) → nat_lt (s.reg r) at.statuses ≡ true → (b && nat_lt (s.reg r) at.statuses) ≡ b
    within b true_it_is = rw true_it_is (and_true b)

-- the clauses on an object's children, for any guard that looks at the requester as `view` says
module _ {at : Place} {me : Option ℕ} {local : Local} {heads : Heads} {s : Held Reg Queue} (sees : Sees at me local heads s) (set : StatusSet) where
  pub entry_is : (k c : ℕ) (status : Status8) → slice_get at.kids k ≡ Some c → slice_get local.dir k ≡ Some status → clause_holds s (entry_in at set (k, c)) ≡ has set status
  entry_is k c status kid there =
      let shown = sees.shows.entries k c status kid there in
      let less = sees.dir k status there in
      is_one_of-is at set (entry c) s (rw shown less) ∙ ap (has_bit set.0) shown

  pub kids_all-is : list_all (clause_holds s) (map (entry_in at set) (kids_at at)) ≡ list_all (has set) local.dir
  kids_all-is =
      list_all-map (clause_holds s) (entry_in at set) (kids_at at)
      ∙ all_alike (λ k. clause_holds s (entry_in at set k)) (λ k. has set k.1) at.kids local.dir (sym sees.shows.dir_count) (λ k c status kid there. entry_is k c status kid there)
      ∙ all_elements (has set) 0 local.dir

  pub kids_any-is : list_all (clause_holds s) (kids_any at set) ≡ list_any (has set) local.dir
  kids_any-is =
      list_all-one (clause_holds s) (flat_map (entry_in at set) (kids_at at))
      ∙ list_any-flat_map (test_holds s) (entry_in at set) (kids_at at)
      ∙ any_alike (λ k. clause_holds s (entry_in at set k)) (λ k. has set k.1) at.kids local.dir (sym sees.shows.dir_count) (λ k c status kid there. entry_is k c status kid there)
      ∙ any_elements (has set) 0 local.dir

  -- where the requester is fixed
  module _ (view : View) (asker : Option ℕ) (named : (k : ℕ) → is_named asker k ≡ is_requester view k) where
    pub me_fixed : list_all (clause_holds s) (me_clauses at (fixed asker) set) ≡ list_any (λ k. is_requester view k.0 && has set k.1) (kids_of local)
    me_fixed =
        list_all-one (clause_holds s) (flat_map (entry_in at set) (filter (λ k. is_named asker k.0) (kids_at at)))
        ∙ list_any-flat_map (test_holds s) (entry_in at set) (filter (λ k. is_named asker k.0) (kids_at at))
        ∙ list_any-filter (λ k. clause_holds s (entry_in at set k)) (λ k. is_named asker k.0) (kids_at at)
        ∙ any_alike (λ k. is_named asker k.0 && clause_holds s (entry_in at set k)) (λ k. is_requester view k.0 && has set k.1) at.kids local.dir (sym sees.shows.dir_count) (λ k c status kid there. and_alike _ _ _ _ (named k) (entry_is k c status kid there))

    pub others_any_of : list_any (test_holds s) (flat_map (entry_in at set) (others_at at asker)) ≡ list_any (λ k. has set k.1) (others_of local view)
    others_any_of =
        list_any-flat_map (test_holds s) (entry_in at set) (others_at at asker)
        ∙ list_any-filter (λ k. clause_holds s (entry_in at set k)) (λ k. not (is_named asker k.0)) (kids_at at)
        ∙ any_alike (λ k. not (is_named asker k.0) && clause_holds s (entry_in at set k)) (λ k. not (is_requester view k.0) && has set k.1) at.kids local.dir (sym sees.shows.dir_count) (λ k c status kid there. and_alike _ _ _ _ (not_alike _ _ (named k)) (entry_is k c status kid there))
        ∙ sym (list_any-filter (λ k. has set k.1) (λ k. not (is_requester view k.0)) (kids_of local))

    pub others_any_fixed : list_all (clause_holds s) (others_any at (fixed asker) set) ≡ list_any (λ k. has set k.1) (others_of local view)
    others_any_fixed = list_all-one (clause_holds s) (flat_map (entry_in at set) (others_at at asker)) ∙ others_any_of

    pub others_all_fixed : list_all (clause_holds s) (others_all at (fixed asker) set) ≡ list_all (λ k. has set k.1) (others_of local view)
    others_all_fixed =
        list_all-map (clause_holds s) (entry_in at set) (others_at at asker)
        ∙ list_all-filter (λ k. clause_holds s (entry_in at set k)) (λ k. not (is_named asker k.0)) (kids_at at)
        ∙ all_alike (λ k. not (not (is_named asker k.0)) || clause_holds s (entry_in at set k)) (λ k. not (not (is_requester view k.0)) || has set k.1) at.kids local.dir (sym sees.shows.dir_count) (λ k c status kid there. or_alike _ _ _ _ (not_alike _ _ (not_alike _ _ (named k))) (entry_is k c status kid there))
        ∙ sym (list_all-filter (λ k. has set k.1) (λ k. not (is_requester view k.0)) (kids_of local))

  -- where a lock is held for the child at a place
  module _ (view : View) (side : Side) (j c : ℕ) (status : Status8) (kid : slice_get at.kids j ≡ Some c) (there : slice_get local.dir j ≡ Some status) (held : (k d : ℕ) → slice_get at.kids k ≡ Some d → (s.reg (origin_at at side) == kid_origin d) ≡ (j == k)) (asks : (k : ℕ) → (j == k) ≡ is_requester view k) where
    pub me_held : list_all (clause_holds s) (me_clauses at (holder side) set) ≡ list_any (λ k. is_requester view k.0 && has set k.1) (kids_of local)
    me_held =
        list_all-map (clause_holds s) (λ k. not_held_for at side k ∷ entry_in at set k) (kids_at at)
        ∙ all_alike (λ k. not (s.reg (origin_at at side) == kid_origin k.1) || clause_holds s (entry_in at set k)) (λ k. not (j == k.0) || clause_holds s (entry_in at set k)) at.kids at.kids refl (λ k d e kid_d kid_e. let same : d ≡ e = cc in or_alike _ _ _ _ (not_alike _ _ (held k d kid_d)) (ap (λ d. clause_holds s (entry_in at set (k, d))) same))
        ∙ all_at (λ k. clause_holds s (entry_in at set k)) j at.kids c kid
        ∙ entry_is j c status kid there
        ∙ sym (any_at (λ k. has set k.1) j local.dir status there)
        ∙ any_alike (λ k. j == k.0 && has set k.1) (λ k. is_requester view k.0 && has set k.1) local.dir local.dir refl (λ k d e at_d at_e. let same : d ≡ e = cc in and_alike _ _ _ _ (asks k) (ap (has set) same))

    pub others_all_held : list_all (clause_holds s) (others_all at (holder side) set) ≡ list_all (λ k. has set k.1) (others_of local view)
    others_all_held =
        list_all-map (clause_holds s) (λ k. held_for at side k ∷ entry_in at set k) (kids_at at)
        ∙ all_alike (λ k. s.reg (origin_at at side) == kid_origin k.1 || clause_holds s (entry_in at set k)) (λ k. not (not (is_requester view k.0)) || has set k.1) at.kids local.dir (sym sees.shows.dir_count) (λ k d status kid_d there_d. or_alike _ _ _ _ (held k d kid_d ∙ asks k ∙ not_not (is_requester view k)) (entry_is k d status kid_d there_d))
        ∙ sym (list_all-filter (λ k. has set k.1) (λ k. not (is_requester view k.0)) (kids_of local))

    pub others_any_held : list_all (clause_holds s) (others_any at (holder side) set) ≡ list_any (λ k. has set k.1) (others_of local view)
    others_any_held =
        list_all-map (clause_holds s) (λ k. not_held_for at side k ∷ flat_map (entry_in at set) (others_at at (Some k.0))) (kids_at at)
        ∙ all_alike (λ k. not (s.reg (origin_at at side) == kid_origin k.1) || list_any (test_holds s) (flat_map (entry_in at set) (others_at at (Some k.0)))) (λ k. not (j == k.0) || list_any (test_holds s) (flat_map (entry_in at set) (others_at at (Some k.0)))) at.kids at.kids refl (λ k d e kid_d kid_e. or_alike _ _ _ _ (not_alike _ _ (held k d kid_d)) refl)
        ∙ all_at (λ k. list_any (test_holds s) (flat_map (entry_in at set) (others_at at (Some k.0)))) j at.kids c kid
        ∙ others_any_of view (Some j) (λ k. asks k)
