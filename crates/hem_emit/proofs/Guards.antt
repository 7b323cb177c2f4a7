-- The clauses of a guard hold in a state that shows an object where the guard holds at it.
use Rattle.std.proofs.Common.{◌≡◌, refl, ap, sym, ◌∙◌, ℕ, ◌<◌, Bool, true, false, not, ◌&&◌, ◌||◌, List, [], ◌∷◌, length, arith, Option, Some}
use Rattle.std.specs.Prelude.{◌==◌, nat_lt, slice_get}
use Rattle.std.specs.List.{list_all, list_any, flat_map}
use Rattle.std.specs.Option.{option_map_or}
use Rattle.std.proofs.lemmas.List.Folds.{list_all-append}
use Rattle.hem_base.specs.Sets.{has_bit}
use Rattle.hem_base.specs.declared.ids.MsgId.{MsgId}
use Rattle.hem_base.specs.declared.ids.Status8.{Status8}
use Rattle.hem_base.specs.declared.ids.StatusSet.{StatusSet}
use Rattle.hem_base.specs.declared.ids.Message.{Message}
use Rattle.hem_syntax.specs.declared.rule.Atom.{Atom}
use Rattle.hem_syntax.specs.declared.rule.Atom.TheVariants as atom
use Rattle.hem_syntax.specs.declared.rule.Side.{Side}
use Rattle.hem_object.specs.declared.state.By.TheVariants.{Kid}
use Rattle.hem_object.specs.declared.state.Lock.{Lock}
use Rattle.hem_object.specs.declared.state.View.{View}
use Rattle.hem_syntax.specs.Protocol.{Protocol}
use Rattle.hem_object.specs.Local.{Local}
use Rattle.hem_object.specs.Guard.{has, is_in, is_requester, has_requester, kids_of, others_of, atom_holds, holds}
use Rattle.hem_syntax.specs.Lawful.{Counts, has_atom}
use Rattle.hem_template.specs.declared.row.Row.{Row}
use Rattle.hem_template.specs.Template.{may_name_requester, has_kept, is_leaf, atom_fits}
use Rattle.hem_fire.specs.Heads.{Heads}
use Rattle.hem_module.specs.Step.{Held, clause_holds}
use Rattle.hem_rows.proofs.Choices.{both}
use Rattle.hem_emit.specs.Names.{Reg, Queue, origin, asked, field}
use Rattle.hem_emit.specs.Place.{Place, Asker, fixed, holder, is_named, origin_at, kid_origin}
use Rattle.hem_emit.specs.Clauses.{is_one_of, atom_clauses, me_clauses, others_all, others_any, asked_clauses}
use Rattle.hem_emit.specs.Image.{lock_at, lock_number}
use Rattle.hem_emit.proofs.Tests.{list_all-one, at_below}
use Rattle.hem_emit.proofs.Places.{is_kid, requester-is, origin_kid, origin_child}
use Rattle.hem_emit.proofs.Entries.{Sees, and_alike, is_one_of-is, kids_all-is, kids_any-is, me_fixed, others_all_fixed, others_any_fixed, me_held, others_all_held, others_any_held}

-- whether a child is the one that is named, or the one that a lock is held for
abbrev pub is_asker : Place → Held Reg Queue → Asker → ℕ → ℕ → Bool
is_asker at s (fixed me) k c = is_named me k
is_asker at s (holder side) k c = s.reg (origin_at at side) == kid_origin c

-- the clauses that name the requester or its request hold where the conditions do, as far as a rule may name them
pub record Guarded (at : Place) (s : Held Reg Queue) (who : Asker) (local : Local) (view : View) (asks keeps : Bool) : Type 0 where
  pub names : (k c : ℕ) → slice_get at.kids k ≡ Some c → asks ≡ true → is_asker at s who k c ≡ is_requester view k
  pub me : (set : StatusSet) → asks ≡ true → list_all (clause_holds s) (me_clauses at who set) ≡ list_any (λ k. is_requester view k.0 && has set k.1) (kids_of local)
  pub all : (set : StatusSet) → asks ≡ true → list_all (clause_holds s) (others_all at who set) ≡ (has_requester view && list_all (λ k. has set k.1) (others_of local view))
  pub any : (set : StatusSet) → asks ≡ true → list_all (clause_holds s) (others_any at who set) ≡ (has_requester view && list_any (λ k. has set k.1) (others_of local view))
  pub asked_for : (id : MsgId) → keeps ≡ true → list_all (clause_holds s) (asked_clauses at who id.0) ≡ option_map_or (λ m. m.id.0 == id.0) view.kept false

-- a lock is held for the child at a place, which is the requester
pub record HeldForKid (at : Place) (local : Local) (side : Side) (view : View) : Type 0 where
  pub kid : ℕ
  pub lock : Lock
  pub held : lock_at side local ≡ Some lock
  pub by : lock.by ≡ Kid kid
  pub asks : view.requester ≡ Some (Kid kid)

-- a lock is held, and the request that it keeps is the one that is asked for
pub record Keeps (local : Local) (side : Side) (view : View) : Type 0 where
  pub lock : Lock
  pub held : lock_at side local ≡ Some lock
  pub kept : view.kept ≡ Some lock.request

with_requester : (view : View) (b c : Bool) → has_requester view ≡ true → b ≡ c → b ≡ (has_requester view && c)
with_requester view b c asks same = rw asks same

one_test : (b : Bool) → ((b || false) && true) ≡ b
one_test true = refl
one_test false = refl

module _ {at : Place} {me : Option ℕ} {local : Local} {heads : Heads} {s : Held Reg Queue} (sees : Sees at me local heads s) where
  -- where the requester is fixed
  pub guarded_fixed : (view : View) (asker : Option ℕ) (asks keeps : Bool) → (asks ≡ true → (k : ℕ) → is_named asker k ≡ is_requester view k) → (asks ≡ true → has_requester view ≡ true) → keeps ≡ false → Guarded at s (fixed asker) local view asks keeps
  guarded_fixed view asker asks keeps named there none =
      record {
        names = λ k c kid may. named may k;
        me = λ set may. me_fixed sees set view asker (named may);
        all = λ set may. with_requester view _ _ (there may) (others_all_fixed sees set view asker (named may));
        any = λ set may. with_requester view _ _ (there may) (others_any_fixed sees set view asker (named may));
        asked_for = λ id may. cc;
      }

  -- where a lock is held for it
  pub guarded_held : (view : View) (side : Side) (asks keeps : Bool) → (asks ≡ true → HeldForKid at local side view) → (keeps ≡ true → Keeps local side view) → Guarded at s (holder side) local view asks keeps
  guarded_held view side asks keeps for_kid keep =
      record {
        names = λ k c kid may. let h = for_kid may in shown h k c kid ∙ asked_by h k;
        me = λ set may. let h = for_kid may in let c = kid_at h in let e = entry_at h in me_held sees set view side h.kid c.0 e.0 c.1 e.1 (shown h) (asked_by h);
        all = λ set may. let h = for_kid may in let c = kid_at h in let e = entry_at h in with_requester view _ _ (rw h.asks refl) (others_all_held sees set view side h.kid c.0 e.0 c.1 e.1 (shown h) (asked_by h));
        any = λ set may. let h = for_kid may in let c = kid_at h in let e = entry_at h in with_requester view _ _ (rw h.asks refl) (others_any_held sees set view side h.kid c.0 e.0 c.1 e.1 (shown h) (asked_by h));
        asked_for = λ id may. let k = keep may in one_test _ ∙ ap (λ n. n == id.0) (sees.shows.locks side asked ∙ ap (lock_number at.kids asked) k.held) ∙ ap (λ (m : Option Message). option_map_or (λ m. m.id.0 == id.0) m false) (sym k.kept);
      }
    where
      in_kids : (h : HeldForKid at local side view) → h.kid < length at.kids
      in_kids h = origin_child at.kind at.kids h.lock.by h.kid (sees.origin side h.lock h.held) h.by

      kid_at : (h : HeldForKid at local side view) → (c : ℕ) × (slice_get at.kids h.kid ≡ Some c)
      kid_at h = at_below at.kids h.kid (in_kids h)

      entry_at : (h : HeldForKid at local side view) → (status : Status8) × (slice_get local.dir h.kid ≡ Some status)
      entry_at h = at_below local.dir h.kid (let within = in_kids h in let count = sees.shows.dir_count in rw count within)

      shown : (h : HeldForKid at local side view) (k d : ℕ) → slice_get at.kids k ≡ Some d → (s.reg (origin_at at side) == kid_origin d) ≡ (h.kid == k)
      shown h k d kid =
          ap (λ n. n == kid_origin d) (sees.shows.locks side origin ∙ ap (lock_number at.kids origin) h.held)
          ∙ origin_kid at.kind at.kids h.lock.by k d sees.kids (λ j e. at_below at.kids j (origin_child at.kind at.kids h.lock.by j (sees.origin side h.lock h.held) e)) kid
          ∙ ap (λ by. is_kid (Some by) k) h.by

      asked_by : (h : HeldForKid at local side view) (k : ℕ) → (h.kid == k) ≡ is_requester view k
      asked_by h k = sym (requester-is view (Some (Kid h.kid)) k h.asks)

  field_is : (i : ℕ) (set : StatusSet) → i < length local.fields → list_all (clause_holds s) (is_one_of at set (field i at.object) ∷ []) ≡ is_in set (slice_get local.fields i)
  field_is i set less =
      let there = at_below local.fields i less in
      let shown = sees.shows.fields i there.0 there.1 in
      let declared = sees.fields i there.0 there.1 in
      list_all-one (clause_holds s) (is_one_of at set (field i at.object))
      ∙ is_one_of-is at set (field i at.object) s (rw shown declared)
      ∙ ap (has_bit set.0) shown
      ∙ sym (ap (is_in set) there.1)

  below_of : (a b n : ℕ) → nat_lt a n ≡ true → n ≡ b → a < b
  below_of a b n less same = grind arith

  module _ (p : Protocol) (row : Row) (n : Counts) (who : Asker) (view : View) (fields : n.fields ≡ length local.fields) (guarded : Guarded at s who local view (may_name_requester row && not (is_leaf at.kind)) (has_kept row.taking)) where
    pub atom_is : (a : Atom) → atom_fits p at.kind row a ≡ true → has_atom n a ≡ true → list_all (clause_holds s) (atom_clauses at who a) ≡ atom_holds local view a
    atom_is (atom.Field i set) fits known = field_is i set (below_of i (length local.fields) n.fields (both (nat_lt i n.fields) _ known).0 fields)
    atom_is (atom.Me set) fits known = guarded.me set fits
    atom_is (atom.KidsAll set) fits known = kids_all-is sees set
    atom_is (atom.KidsAny set) fits known = kids_any-is sees set
    atom_is (atom.OthersAll set) fits known = guarded.all set fits
    atom_is (atom.OthersAny set) fits known = guarded.any set fits
    atom_is (atom.Asked id) fits known = guarded.asked_for id (both (has_kept row.taking) _ fits).0

    pub guard_is : (guard : List Atom) → list_all (atom_fits p at.kind row) guard ≡ true → list_all (has_atom n) guard ≡ true → list_all (clause_holds s) (flat_map (atom_clauses at who) guard) ≡ holds guard local view
    guard_is [] fits known = refl
    guard_is (a ∷ guard) fits known =
        let f = both (atom_fits p at.kind row a) _ fits in
        let k = both (has_atom n a) _ known in
        list_all-append (clause_holds s) (atom_clauses at who a) (flat_map (atom_clauses at who) guard)
        ∙ and_alike _ _ _ _ (atom_is a f.0 k.0) (guard_is guard f.1 k.1)
