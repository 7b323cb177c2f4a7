-- The actions on who is awaited lead to what a firing makes of it.
use Rattle.std.proofs.Common.{◌≡◌, ◌≢◌, refl, ap, sym, ◌∙◌, ℕ, ◌+◌, ◌<◌, Bool, true, false, not, cond, ◌&&◌, ◌||◌, List, [], ◌∷◌, length, map, arith, inl, inr, ◌⊎◌, Option, Some, None}
use Rattle.std.specs.Prelude.{◌==◌, slice_get}
use Rattle.std.specs.List.{list_all, list_any}
use Rattle.hem_base.specs.Sets.{has_bit}
use Rattle.hem_base.specs.declared.ids.StatusSet.{StatusSet}
use Rattle.hem_base.specs.declared.ids.MsgId.{MsgId}
use Rattle.hem_syntax.specs.declared.rule.Value.{Value}
use Rattle.std.proofs.lemmas.Bool.Decides.{eqb_tells}
use Rattle.hem_syntax.specs.declared.rule.Side.{Side}
use Rattle.hem_syntax.specs.declared.rule.Side.TheVariants.{Up, Down}
use Rattle.hem_syntax.specs.declared.rule.SendTo.{SendTo}
use Rattle.hem_syntax.specs.declared.rule.SendTo.TheVariants as send
use Rattle.hem_object.specs.declared.state.View.{View}
use Rattle.hem_object.specs.Local.{Local}
use Rattle.hem_object.specs.Guard.{is_in, is_requester}
use Rattle.hem_object.specs.Changes.{freed}
use Rattle.hem_object.specs.Targets.{kid_is_in, targets_of}
use Rattle.hem_fire.specs.Heads.{Heads, awaited_of}
use Rattle.hem_module.specs.Module.{number, put}
use Rattle.hem_module.specs.Step.{Held, test_holds, clause_holds, number_after}
use Rattle.hem_rows.proofs.Bits.{no_bit, bits_where-is}
use Rattle.hem_emit.specs.Names.{Reg, Queue, awaits, same_reg}
use Rattle.hem_emit.specs.Place.{Test, Place, Asker, fixed, holder, kids_at, others_at, is_named, origin_at, kid_origin}
use Rattle.hem_emit.specs.Clauses.{entry_in, not_held_for}
use Rattle.hem_emit.specs.Actions.{always, where_holds, free_lock, free_actions, targets_at}
use Rattle.hem_emit.specs.Shows.{AreKids}
use Rattle.hem_emit.proofs.Tests.{list_any-map, list_any-filter, list_any-flat_map, any_alike, any_at, at_below, below_at, same_number, differ}
use Rattle.hem_emit.proofs.Entries.{Sees, and_alike, not_alike, entry_is}
use Rattle.hem_emit.proofs.Guards.{is_asker}
use Rattle.hem_emit.proofs.Writes.{number_after-append}
use Rattle.hem_emit.proofs.Dirs.{written_from, keep_all}

-- who is awaited after a lock is freed
pub free_awaited : (at : Place) → AreKids at.kind at.kids → (s : Held Reg Queue) (k c : ℕ) (free : Option Side) (local : Local) → slice_get at.kids k ≡ Some c → number_after s (same_reg (awaits c)) (free_actions at free) (cond (has_bit (awaited_of local).0 k) 1 0) ≡ cond (has_bit (awaited_of (freed free local)).0 k) 1 0
free_awaited at kids s k c None local kid = refl
free_awaited at kids s k c (Some Up) local kid = refl
free_awaited at kids s k c (Some Down) local kid =
    let e : 0 + k ≡ k = omega arith in
    number_after-append s (same_reg (awaits c)) (free_lock at Down) (map (λ k. always (put (awaits k.1) (number 0))) (kids_at at)) _
    ∙ ap (λ xs. number_after s (same_reg (awaits c)) (map (λ k. always (put (awaits k.1) (number 0))) xs) (cond (has_bit (awaited_of local).0 k) 1 0)) (sym (keep_all (kids_at at)))
    ∙ written_from s (same_reg (awaits c)) awaits (λ k. []) (λ k. true) 0 0 k c at.kids (cond (has_bit (awaited_of local).0 k) 1 0) kid (same_number c c refl) (λ j d other far. differ c d (λ same. far (kids.apart j k c (other ∙ ap Some (sym same)) kid)))
    ∙ sym (ap (λ b. cond b 1 0) (no_bit k))

-- the register is written where one of the targets that may be is one
any_written : (s : Held Reg Queue) (c : ℕ) (xs : List ((ℕ × ℕ) × List Test)) (old : ℕ) → number_after s (same_reg (awaits c)) (map (λ x. where_holds x.1 (put (awaits x.0.1) (number 1))) xs) old ≡ cond (list_any (λ x. list_all (test_holds s) x.1 && c == x.0.1) xs) 1 old
any_written s c [] old = refl
any_written s c (x ∷ xs) old =
    any_written s c xs (cond (list_all (test_holds s) x.1) (cond (c == x.0.1) 1 old) old)
    ∙ by_tests (list_any (λ x. list_all (test_holds s) x.1 && c == x.0.1) xs) (list_all (test_holds s) x.1) (c == x.0.1)
  where
    by_tests : (rest holds it : Bool) → cond rest 1 (cond holds (cond it 1 old) old) ≡ cond ((holds && it) || rest) 1 old
    by_tests true true true = refl
    by_tests true true false = refl
    by_tests true false it = refl
    by_tests false true true = refl
    by_tests false true false = refl
    by_tests false false it = refl

-- a test beside each element's
one_beside : {A : Type 0} (test : A → Bool) (b : Bool) (xs : List A) → list_any (λ x. (test x && true) && b) xs ≡ (list_any test xs && b)
one_beside test true [] = refl
one_beside test false [] = refl
one_beside test b (x ∷ xs) = ap (λ rest. ((test x && true) && b) || rest) (one_beside test b xs) ∙ by_tests (test x) (list_any test xs) b
  where
    by_tests : (x rest b : Bool) → (((x && true) && b) || (rest && b)) ≡ ((x || rest) && b)
    by_tests true true true = refl
    by_tests true true false = refl
    by_tests true false true = refl
    by_tests true false false = refl
    by_tests false rest b = refl

two_beside : {A : Type 0} (test : A → Bool) (a b : Bool) (xs : List A) → list_any (λ x. (a && (test x && true)) && b) xs ≡ ((a && list_any test xs) && b)
two_beside test true b xs = one_beside test b xs
two_beside test false b [] = refl
two_beside test false b (x ∷ xs) = two_beside test false b xs

module _ {at : Place} {me : Option ℕ} {local : Local} {heads : Heads} {s : Held Reg Queue} (sees : Sees at me local heads s) (k c : ℕ) (kid : slice_get at.kids k ≡ Some c) where
  same_kid : (j d : ℕ) → slice_get at.kids j ≡ Some d → (c == d) ≡ (k == j)
  same_kid j d other = by_place (eqb_tells k j)
    where
      by_place : ((k == j) ≡ true) × (k ≡ j) ⊎ ((k == j) ≡ false) × (k ≢ j) → (c == d) ≡ (k == j)
      by_place (inl same) = let both : Some c ≡ Some d = sym kid ∙ ap (slice_get at.kids) same.1 ∙ other in let equal : c ≡ d = cc in (same_number c d equal ∙ sym same.0)
      by_place (inr far) = differ c d (λ same. far.1 (sees.kids.apart k j c kid (other ∙ ap Some (sym same)))) ∙ sym far.0

  -- of the children at any place only this one matters
  at_kid : (test : ℕ × ℕ → Bool) → list_any (λ j. test j && c == j.1) (kids_at at) ≡ test (k, c)
  at_kid test =
      any_alike (λ j. test j && c == j.1) (λ j. k == j.0 && test j) at.kids at.kids refl (λ j d e kid_d kid_e. let same : d ≡ e = cc in and_alike _ _ _ _ refl (same_kid j d kid_d) ∙ swapped (test (j, d)) (k == j) ∙ ap (λ x. k == j && test (j, x)) same)
      ∙ any_at test k at.kids c kid
    where
      swapped : (a b : Bool) → (a && b) ≡ (b && a)
      swapped true true = refl
      swapped true false = refl
      swapped false true = refl
      swapped false false = refl

  less : k < length local.dir
  less = let within = below_at at.kids k c kid in let count = sees.shows.dir_count in rw count within

  kid_in : (set : StatusSet) → clause_holds s (entry_in at set (k, c)) ≡ kid_is_in local set k
  kid_in set = let there = at_below local.dir k less in entry_is sees set k c there.0 kid there.1 ∙ sym (ap (is_in set) there.1)

  -- a child is written as awaited where the send reaches it
  pub target_is : (who : Asker) (view : View) (to : SendTo) → ((set : StatusSet) (id : MsgId) (v : Value) → to ≡ send.Others set id v → is_asker at s who k c ≡ is_requester view k) → list_any (λ x. list_all (test_holds s) x.1 && c == x.0.1) (targets_at at who to) ≡ has_bit (targets_of to local view).0 k
  target_is who view (send.Kids set id v) asks =
      list_any-flat_map (λ x. list_all (test_holds s) x.1 && c == x.0.1) (λ k. map (λ test. (k, test ∷ [])) (entry_in at set k)) (kids_at at)
      ∙ any_alike (λ j. list_any (λ x. list_all (test_holds s) x.1 && c == x.0.1) (map (λ test. (j, test ∷ [])) (entry_in at set j))) (λ j. clause_holds s (entry_in at set j) && c == j.1) at.kids at.kids refl (λ j d e kid_d kid_e. let same : d ≡ e = cc in list_any-map (λ x. list_all (test_holds s) x.1 && c == x.0.1) (λ test. ((j, d), test ∷ [])) (entry_in at set (j, d)) ∙ one_beside (test_holds s) (c == d) (entry_in at set (j, d)) ∙ ap (λ x. clause_holds s (entry_in at set (j, x)) && c == x) same)
      ∙ at_kid (λ j. clause_holds s (entry_in at set j))
      ∙ kid_in set
      ∙ sym (bits_where-is (kid_is_in local set) (length local.dir) k less)
  target_is (fixed asker) view (send.Others set id v) asks =
      list_any-flat_map (λ x. list_all (test_holds s) x.1 && c == x.0.1) (λ k. map (λ test. (k, test ∷ [])) (entry_in at set k)) (others_at at asker)
      ∙ list_any-filter (λ j. list_any (λ x. list_all (test_holds s) x.1 && c == x.0.1) (map (λ test. (j, test ∷ [])) (entry_in at set j))) (λ j. not (is_named asker j.0)) (kids_at at)
      ∙ any_alike (λ j. not (is_named asker j.0) && list_any (λ x. list_all (test_holds s) x.1 && c == x.0.1) (map (λ test. (j, test ∷ [])) (entry_in at set j))) (λ j. (clause_holds s (entry_in at set j) && not (is_named asker j.0)) && c == j.1) at.kids at.kids refl (λ j d e kid_d kid_e. let same : d ≡ e = cc in ap (λ b. not (is_named asker j) && b) (list_any-map (λ x. list_all (test_holds s) x.1 && c == x.0.1) (λ test. ((j, d), test ∷ [])) (entry_in at set (j, d)) ∙ one_beside (test_holds s) (c == d) (entry_in at set (j, d))) ∙ turned (not (is_named asker j)) (clause_holds s (entry_in at set (j, d))) (c == d) ∙ ap (λ x. (clause_holds s (entry_in at set (j, x)) && not (is_named asker j)) && c == x) same)
      ∙ at_kid (λ j. clause_holds s (entry_in at set j) && not (is_named asker j.0))
      ∙ and_alike _ _ _ _ (kid_in set) (not_alike _ _ (asks set id v refl))
      ∙ sym (bits_where-is (λ k. kid_is_in local set k && not (is_requester view k)) (length local.dir) k less)
    where
      turned : (a b x : Bool) → (a && (b && x)) ≡ ((b && a) && x)
      turned true true x = refl
      turned true false x = refl
      turned false true x = refl
      turned false false x = refl
  target_is (holder side) view (send.Others set id v) asks =
      list_any-flat_map (λ x. list_all (test_holds s) x.1 && c == x.0.1) (λ k. map (λ test. (k, not_held_for at side k ∷ test ∷ [])) (entry_in at set k)) (kids_at at)
      ∙ any_alike (λ j. list_any (λ x. list_all (test_holds s) x.1 && c == x.0.1) (map (λ test. (j, not_held_for at side j ∷ test ∷ [])) (entry_in at set j))) (λ j. (not (s.reg (origin_at at side) == kid_origin j.1) && clause_holds s (entry_in at set j)) && c == j.1) at.kids at.kids refl (λ j d e kid_d kid_e. let same : d ≡ e = cc in list_any-map (λ x. list_all (test_holds s) x.1 && c == x.0.1) (λ test. ((j, d), not_held_for at side (j, d) ∷ test ∷ [])) (entry_in at set (j, d)) ∙ two_beside (test_holds s) (not (s.reg (origin_at at side) == kid_origin d)) (c == d) (entry_in at set (j, d)) ∙ ap (λ x. (not (s.reg (origin_at at side) == kid_origin x) && clause_holds s (entry_in at set (j, x))) && c == x) same)
      ∙ at_kid (λ j. not (s.reg (origin_at at side) == kid_origin j.1) && clause_holds s (entry_in at set j))
      ∙ swapped (not (s.reg (origin_at at side) == kid_origin c)) (clause_holds s (entry_in at set (k, c)))
      ∙ and_alike _ _ _ _ (kid_in set) (not_alike _ _ (asks set id v refl))
      ∙ sym (bits_where-is (λ k. kid_is_in local set k && not (is_requester view k)) (length local.dir) k less)
    where
      swapped : (a b : Bool) → (a && b) ≡ (b && a)
      swapped true true = refl
      swapped true false = refl
      swapped false true = refl
      swapped false false = refl
  target_is who view send.Nothing asks = nobody_at who send.Nothing
    where
      nobody_at : (who : Asker) (to : SendTo) → list_any (λ x. list_all (test_holds s) x.1 && c == x.0.1) (targets_at at who send.Nothing) ≡ has_bit 0 k
      nobody_at (fixed asker) to = sym (no_bit k)
      nobody_at (holder side) to = sym (no_bit k)
  target_is who view (send.Me id v) asks = nobody_at who
    where
      nobody_at : (who : Asker) → list_any (λ x. list_all (test_holds s) x.1 && c == x.0.1) (targets_at at who (send.Me id v)) ≡ has_bit 0 k
      nobody_at (fixed asker) = sym (no_bit k)
      nobody_at (holder side) = sym (no_bit k)
  target_is who view (send.Parent id v) asks = nobody_at who
    where
      nobody_at : (who : Asker) → list_any (λ x. list_all (test_holds s) x.1 && c == x.0.1) (targets_at at who (send.Parent id v)) ≡ has_bit 0 k
      nobody_at (fixed asker) = sym (no_bit k)
      nobody_at (holder side) = sym (no_bit k)

  -- the register of the child after the actions for the children that a lock awaits
  pub awaits_written : (who : Asker) (view : View) (to : SendTo) (old : ℕ) → ((set : StatusSet) (id : MsgId) (v : Value) → to ≡ send.Others set id v → is_asker at s who k c ≡ is_requester view k) → number_after s (same_reg (awaits c)) (map (λ x. where_holds x.1 (put (awaits x.0.1) (number 1))) (targets_at at who to)) old ≡ cond (has_bit (targets_of to local view).0 k) 1 old
  awaits_written who view to old asks = any_written s c (targets_at at who to) old ∙ ap (λ b. cond b 1 old) (target_is who view to asks)
