-- Which child a lock is held for, as its origin shows it.
use Rattle.std.proofs.Common.{◌≡◌, ◌≢◌, refl, ap, ◌∙◌, ℕ, zero, suc, ◌+◌, ◌<◌, Bool, true, false, List, [], ◌∷◌, length, arith, inl, inr, ◌⊎◌, Option, Some, None}
use Rattle.std.specs.Prelude.{◌==◌, slice_get, slice_index_or}
use Rattle.std.proofs.lemmas.Bool.Decides.{eqb_tells}
use Rattle.hem_base.specs.declared.ids.Kind.{Kind}
use Rattle.hem_base.specs.declared.ids.Kind.TheVariants.{Root, Mid, Leaf}
use Rattle.hem_object.specs.declared.state.By.{By}
use Rattle.hem_object.specs.declared.state.By.TheVariants.{Processor, Kid, Parent, Own}
use Rattle.hem_object.specs.declared.state.View.{View}
use Rattle.hem_object.specs.Local.{IsOrigin}
use Rattle.hem_object.specs.Guard.{is_requester}
use Rattle.hem_emit.specs.Place.{origin_of, kid_origin}
use Rattle.hem_emit.specs.Shows.{AreKids}
use Rattle.hem_emit.proofs.Tests.{differ, same_number}

-- whether it is the child at a place
abbrev pub is_kid : Option By → ℕ → Bool
is_kid None k = false
is_kid (Some Processor) k = false
is_kid (Some (Kid c)) k = c == k
is_kid (Some Parent) k = false
is_kid (Some Own) k = false

pub requester-is : (view : View) (me : Option By) (k : ℕ) → view.requester ≡ me → is_requester view k ≡ is_kid me k
requester-is view None k is = rw is refl
requester-is view (Some Processor) k is = rw is refl
requester-is view (Some (Kid c)) k is = rw is refl
requester-is view (Some Parent) k is = rw is refl
requester-is view (Some Own) k is = rw is refl

pub element_or : {A : Type 0} (xs : List A) (k : ℕ) (d x : A) → slice_get xs k ≡ Some x → slice_index_or xs k d ≡ x
element_or [] k d x at = cc
element_or (y ∷ xs) zero d x at = let it : y ≡ x = cc in it
element_or (y ∷ xs) (suc k) d x at = element_or xs k d x at

-- the origin of a lock is that of the child at a place exactly where it is held for it
pub origin_kid : (kind : Kind) (kids : List ℕ) (by : By) (k c : ℕ) → AreKids kind kids → ((j : ℕ) → by ≡ Kid j → (d : ℕ) × (slice_get kids j ≡ Some d)) → slice_get kids k ≡ Some c → (origin_of kids by == kid_origin c) ≡ is_kid (Some by) k
origin_kid kind kids Own k c are real at = differ 1 (3 + c) (λ e. absurd (omega (arith, e)))
origin_kid kind kids Parent k c are real at = differ 2 (3 + c) (λ e. absurd (omega (arith, e)))
origin_kid kind kids Processor k c are real at = let above = are.above k c at in differ 3 (3 + c) (λ e. absurd (omega (arith, e, above)))
origin_kid kind kids (Kid j) k c are real at = by_place (eqb_tells j k) (real j refl)
  where
    by_place : ((j == k) ≡ true) × (j ≡ k) ⊎ ((j == k) ≡ false) × (j ≢ k) → (d : ℕ) × (slice_get kids j ≡ Some d) → (3 + slice_index_or kids j 0 == 3 + c) ≡ (j == k)
    by_place (inl same) there = rw same.0 (same_number _ _ (ap (λ n. 3 + n) (element_or kids j 0 c (ap (slice_get kids) same.1 ∙ at))))
    by_place (inr other) there =
        rw (other.0, element_or kids j 0 there.0 there.1) (differ (3 + there.0) (3 + c) (λ e. let same : there.0 ≡ c = omega (arith, e) in other.1 (are.apart j k c (there.1 ∙ ap Some same) at)))

-- the number of a free lock's origin is that of no child
pub free_origin : (c : ℕ) → (0 == kid_origin c) ≡ false
free_origin c = differ 0 (3 + c) (λ e. absurd (omega (arith, e)))

-- an origin that is a child is one of the children
pub origin_child : (kind : Kind) (kids : List ℕ) (by : By) (j : ℕ) → IsOrigin kind (length kids) by → by ≡ Kid j → j < length kids
origin_child Leaf kids Processor j is same = cc
origin_child Leaf kids (Kid c) j is same = let e : c ≡ j = ap (λ (b : By). elim b as (λ _. ℕ) [ Kid d ↦ d | _ ↦ 0 ]) same in omega (arith, is, e)
origin_child Leaf kids Parent j is same = cc
origin_child Leaf kids Own j is same = cc
origin_child Root kids Processor j is same = absurd is
origin_child Root kids (Kid c) j is same = let e : c ≡ j = ap (λ (b : By). elim b as (λ _. ℕ) [ Kid d ↦ d | _ ↦ 0 ]) same in omega (arith, is, e)
origin_child Root kids Parent j is same = cc
origin_child Root kids Own j is same = cc
origin_child Mid kids Processor j is same = absurd is
origin_child Mid kids (Kid c) j is same = let e : c ≡ j = ap (λ (b : By). elim b as (λ _. ℕ) [ Kid d ↦ d | _ ↦ 0 ]) same in omega (arith, is, e)
origin_child Mid kids Parent j is same = cc
origin_child Mid kids Own j is same = cc
