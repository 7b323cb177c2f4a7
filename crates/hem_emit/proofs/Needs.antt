-- The clauses on locks hold where the locks are as a rule needs them.
use Rattle.std.proofs.Common.{◌≡◌, refl, ap, sym, ◌∙◌, subst, ℕ, ◌+◌, ◌<◌, Bool, true, false, ◌&&◌, ◌||◌, List, [], ◌∷◌, length, arith, Option, Some, None}
use Rattle.std.specs.Prelude.{◌==◌, slice_get, map}
use Rattle.std.specs.List.{list_all, list_any, enumerate_from}
use Rattle.hem_base.specs.declared.ids.KidSet.{KidSet}
use Rattle.hem_base.specs.declared.ids.Message.{Message}
use Rattle.hem_base.specs.declared.ids.Kind.{Kind}
use Rattle.hem_base.specs.declared.ids.Kind.TheVariants.{Root, Mid, Leaf}
use Rattle.hem_syntax.specs.declared.rule.Hold.{Hold}
use Rattle.hem_syntax.specs.declared.rule.Hold.TheVariants as hold
use Rattle.hem_syntax.specs.declared.rule.Side.{Side}
use Rattle.hem_object.specs.declared.state.By.{By}
use Rattle.hem_object.specs.declared.state.By.TheVariants.{Processor, Kid, Parent, Own}
use Rattle.hem_object.specs.declared.state.Lock.{Lock}
use Rattle.hem_object.specs.Local.{Local, IsOrigin}
use Rattle.hem_fire.specs.Heads.{Heads}
use Rattle.hem_fire.specs.Locks.{need_holds}
use Rattle.hem_module.specs.Step.{Held, test_holds, clause_holds}
use Rattle.hem_emit.specs.Names.{Reg, Queue, origin}
use Rattle.hem_emit.specs.Place.{Place, kids_at, origin_of, origin_at, kid_origin}
use Rattle.hem_emit.specs.Clauses.{held_for, need_clauses, child_need}
use Rattle.hem_emit.specs.Image.{lock_at, lock_number}
use Rattle.hem_emit.specs.Shows.{AreKids}
use Rattle.hem_emit.proofs.Tests.{or_false, differ, list_all-one, list_any-map, any_alike, any_at, at_below}
use Rattle.hem_emit.proofs.Places.{origin_kid, free_origin, origin_child}
use Rattle.hem_emit.proofs.Entries.{Sees}

-- a lock that is held for an origin
abbrev pub held_by : By → Message → KidSet → Option Lock
held_by by request awaited = Some (record { by = by; request = request; awaited = awaited })

-- a child's origin is none of the small numbers
no_child_is : (n : ℕ) (c : ℕ) → n < 3 → (kid_origin c == n) ≡ false
no_child_is n c small = differ (3 + c) n (λ e. absurd (omega (arith, e, small)))

free_by : (kids : List ℕ) (by : By) (request : Message) (awaited : KidSet) → (origin_of kids by == 0) ≡ need_holds hold.Free (held_by by request awaited)
free_by kids Own request awaited = refl
free_by kids Parent request awaited = refl
free_by kids Processor request awaited = refl
free_by kids (Kid c) request awaited = no_child_is 0 _ (omega arith)

own_by : (kids : List ℕ) (by : By) (request : Message) (awaited : KidSet) → (origin_of kids by == 1) ≡ need_holds hold.Own (held_by by request awaited)
own_by kids Own request awaited = refl
own_by kids Parent request awaited = refl
own_by kids Processor request awaited = refl
own_by kids (Kid c) request awaited = no_child_is 1 _ (omega arith)

parent_by : (kids : List ℕ) (by : By) (request : Message) (awaited : KidSet) → (origin_of kids by == 2) ≡ need_holds hold.Parent (held_by by request awaited)
parent_by kids Own request awaited = refl
parent_by kids Parent request awaited = refl
parent_by kids Processor request awaited = refl
parent_by kids (Kid c) request awaited = no_child_is 2 _ (omega arith)

processor_by : (kids : List ℕ) (by : By) (request : Message) (awaited : KidSet) → kids ≡ [] → IsOrigin Leaf (length kids) by → (origin_of kids by == 3) ≡ need_holds hold.Child (held_by by request awaited)
processor_by kids Own request awaited none is = refl
processor_by kids Parent request awaited none is = refl
processor_by kids Processor request awaited none is = refl
processor_by kids (Kid c) request awaited none is = let e : length kids ≡ 0 = ap length none in absurd (omega (arith, e, is))

none_of : {A : Type 0} (xs : List A) → list_any (λ x. false) xs ≡ false
none_of [] = refl
none_of (x ∷ xs) = none_of xs

no_kid : (kids : List ℕ) (n : ℕ) → ((k c : ℕ) → slice_get kids k ≡ Some c → (n == kid_origin c) ≡ false) → list_any (λ k. n == kid_origin k.1) (enumerate_from 0 kids) ≡ false
no_kid kids n never = any_alike (λ k. n == kid_origin k.1) (λ k. false) kids kids refl (λ k c d at other. never k c at) ∙ none_of (enumerate_from 0 kids)

child_by : (kind : Kind) (kids : List ℕ) (by : By) (request : Message) (awaited : KidSet) → AreKids kind kids → (kind ≡ Leaf → ⊥) → IsOrigin kind (length kids) by → list_any (λ k. origin_of kids by == kid_origin k.1) (enumerate_from 0 kids) ≡ need_holds hold.Child (held_by by request awaited)
child_by kind kids Own request awaited are inner is = no_kid kids 1 (λ k c at. origin_kid kind kids Own k c are (λ j e. cc) at)
child_by kind kids Parent request awaited are inner is = no_kid kids 2 (λ k c at. origin_kid kind kids Parent k c are (λ j e. cc) at)
child_by Root kids Processor request awaited are inner is = absurd is
child_by Mid kids Processor request awaited are inner is = absurd is
child_by Leaf kids Processor request awaited are inner is = absurd (inner refl)
child_by kind kids (Kid j) request awaited are inner is =
    let there = at_below kids j (origin_child kind kids (Kid j) j is refl) in
    any_alike (λ k. origin_of kids (Kid j) == kid_origin k.1) (λ k. j == k.0 && true) kids kids refl (λ k c d at other. origin_kid kind kids (Kid j) k c are (λ i e. let same : j ≡ i = ap (λ (b : By). elim b as (λ _. ℕ) [ Kid d ↦ d | _ ↦ 0 ]) e in (there.0, ap (slice_get kids) (sym same) ∙ there.1)) at ∙ sym (and_true_of (j == k)))
    ∙ any_at (λ k. true) j kids there.0 there.1
  where
    and_true_of : (b : Bool) → (b && true) ≡ b
    and_true_of true = refl
    and_true_of false = refl

-- the origin's number against a number that stands for a need
by_lock : (kids : List ℕ) (n : ℕ) (need : Hold) → (0 == n) ≡ need_holds need None → ((by : By) (request : Message) (awaited : KidSet) → (origin_of kids by == n) ≡ need_holds need (held_by by request awaited)) → (lock : Option Lock) → (lock_number kids origin lock == n) ≡ need_holds need lock
by_lock kids n need free held None = free
by_lock kids n need free held (Some l) = held l.by l.request l.awaited

processor_lock : (kids : List ℕ) (lock : Option Lock) → kids ≡ [] → ((l : Lock) → lock ≡ Some l → IsOrigin Leaf (length kids) l.by) → (lock_number kids origin lock == 3) ≡ need_holds hold.Child lock
processor_lock kids None none is = refl
processor_lock kids (Some l) none is = processor_by kids l.by l.request l.awaited none (is l refl)

child_lock : (kind : Kind) (kids : List ℕ) (lock : Option Lock) → AreKids kind kids → (kind ≡ Leaf → ⊥) → ((l : Lock) → lock ≡ Some l → IsOrigin kind (length kids) l.by) → list_any (λ k. lock_number kids origin lock == kid_origin k.1) (enumerate_from 0 kids) ≡ need_holds hold.Child lock
child_lock kind kids None are inner is = no_kid kids 0 (λ k c at. free_origin c)
child_lock kind kids (Some l) are inner is = child_by kind kids l.by l.request l.awaited are inner (is l refl)

module _ {at : Place} {me : Option ℕ} {local : Local} {heads : Heads} {s : Held Reg Queue} (sees : Sees at me local heads s) (side : Side) where
  -- a clause that is one test of the lock's origin
  one_test : (n : ℕ) (need : Hold) → (0 == n) ≡ need_holds need None → ((by : By) (request : Message) (awaited : KidSet) → (origin_of at.kids by == n) ≡ need_holds need (held_by by request awaited)) → (((s.reg (origin_at at side) == n) || false) && true) ≡ need_holds need (lock_at side local)
  one_test n need free held =
      by_bool (s.reg (origin_at at side) == n)
      ∙ ap (λ m. m == n) (sees.shows.locks side origin)
      ∙ by_lock at.kids n need free held (lock_at side local)
    where
      by_bool : (b : Bool) → ((b || false) && true) ≡ b
      by_bool true = refl
      by_bool false = refl

  child_test : (kind : Kind) → at.kind ≡ kind → clause_holds s (child_need kind at side) ≡ need_holds hold.Child (lock_at side local)
  child_test Leaf is =
      or_false (s.reg (origin_at at side) == 3)
      ∙ ap (λ m. m == 3) (sees.shows.locks side origin)
      ∙ processor_lock at.kids (lock_at side local) (sees.kids.of_leaf is) (λ l e. subst (λ k. IsOrigin k (length at.kids) l.by) is (sees.origin side l e))
  child_test Root is = inner_test (λ e. let bad : Root ≡ Leaf = sym is ∙ e in cc)
    where
      inner_test : (at.kind ≡ Leaf → ⊥) → clause_holds s (map (held_for at side) (kids_at at)) ≡ need_holds hold.Child (lock_at side local)
      inner_test inner =
          list_any-map (test_holds s) (held_for at side) (kids_at at)
          ∙ ap (λ m. list_any (λ k. m == kid_origin k.1) (enumerate_from 0 at.kids)) (sees.shows.locks side origin)
          ∙ child_lock at.kind at.kids (lock_at side local) sees.kids inner (sees.origin side)
  child_test Mid is = inner_test (λ e. let bad : Mid ≡ Leaf = sym is ∙ e in cc)
    where
      inner_test : (at.kind ≡ Leaf → ⊥) → clause_holds s (map (held_for at side) (kids_at at)) ≡ need_holds hold.Child (lock_at side local)
      inner_test inner =
          list_any-map (test_holds s) (held_for at side) (kids_at at)
          ∙ ap (λ m. list_any (λ k. m == kid_origin k.1) (enumerate_from 0 at.kids)) (sees.shows.locks side origin)
          ∙ child_lock at.kind at.kids (lock_at side local) sees.kids inner (sees.origin side)

  pub needs-are : (need : Hold) → list_all (clause_holds s) (need_clauses at side need) ≡ need_holds need (lock_at side local)
  needs-are hold.Any = refl
  needs-are hold.Free = one_test 0 hold.Free refl (free_by at.kids)
  needs-are hold.Own = one_test 1 hold.Own refl (own_by at.kids)
  needs-are hold.Parent = one_test 2 hold.Parent refl (parent_by at.kids)
  needs-are hold.Child = list_all-one (clause_holds s) (child_need at.kind at side) ∙ child_test at.kind refl
