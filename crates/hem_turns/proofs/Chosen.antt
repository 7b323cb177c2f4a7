-- What a choice is: a plan that can be carried out, with a slot wherever it sends.
use Rattle.std.proofs.Common.{◌≡◌, refl, ◌∙◌, subst, ℕ, zero, suc, ◌<◌, arith, Bool, true, false, ◌&&◌, not, cond, List, [], ◌∷◌, ◌++◌, length, Option, Some, None, inl, inr, ◌⊎◌}
use Rattle.std.specs.Prelude.{nat_lt, slice_get, option_and_then}
use Rattle.std.specs.Option.{option_or}
use Rattle.hem_base.specs.declared.ids.Kind.{Kind}
use Rattle.hem_syntax.specs.Protocol.{Protocol, part}
use Rattle.hem_syntax.specs.declared.rule.Rule.{Rule}
use Rattle.hem_object.specs.Local.{Local}
use Rattle.hem_fire.specs.declared.plan.Plan.{Plan}
use Rattle.hem_fire.specs.Plans.{plan_of}
use Rattle.hem_tree.specs.Tree.{below}
use Rattle.hem_rows.proofs.Choices.{both, if_some, if_passed}
use Rattle.hem_abstract.specs.First.{first_with}
use Rattle.hem_choice.specs.Choices.{Sight, Choice, greatest_stamp, heads_of, may_send, is_spent, stamp_after, choice_by, choice_with, choice_below, choice_of, chosen}

-- the first that is given is given by some element
first-gives : {A B : Type 0} (give : A → Option B) (xs : List A) (y : B) → first_with give xs ≡ Some y → (i : ℕ) × (x : A) × (slice_get xs i ≡ Some x) × (give x ≡ Some y)
first-gives give [] y is = cc
first-gives {A = A} {B = B} give (x ∷ xs) y is = by_first (give x) refl is (first-gives give xs y)
  where
    by_first : (o : Option B) → give x ≡ o → option_or o (first_with give xs) ≡ Some y → (first_with give xs ≡ Some y → (i : ℕ) × (z : A) × (slice_get xs i ≡ Some z) × (give z ≡ Some y)) → (i : ℕ) × (z : A) × (slice_get (x ∷ xs) i ≡ Some z) × (give z ≡ Some y)
    by_first (Some z) at is rest = (0, x, refl, at ∙ is)
    by_first None at is rest = let it = rest is in (suc it.0, it.1, it.2, it.3)

-- a number among those below a bound is below it
at-end : (xs : List ℕ) (n i k : ℕ) → slice_get (xs ++ n ∷ []) i ≡ Some k → ((j : ℕ) × (slice_get xs j ≡ Some k)) ⊎ (n ≡ k)
at-end [] n zero k at = inr cc
at-end [] n (suc i) k at = cc
at-end (x ∷ xs) n zero k at = inl (0, at)
at-end (x ∷ xs) n (suc i) k at = elim (at-end xs n i k at) [ inl it ↦ inl (suc it.0, it.1) | inr last ↦ inr last ]

below-less : (n i k : ℕ) → slice_get (below n) i ≡ Some k → k < n
below-less zero i k at = cc
below-less (suc n) i k at = by_end (at-end (below n) n i k at) (below-less n)
  where
    by_end : ((j : ℕ) × (slice_get (below n) j ≡ Some k)) ⊎ (n ≡ k) → ((j k : ℕ) → slice_get (below n) j ≡ Some k → k < n) → k < suc n
    by_end (inl it) less = let before = less it.0 k it.1 in omega (arith, before)
    by_end (inr last) less = omega (arith, last)

-- a choice by itself: its rule is one of the kind's, the child that it names is one of those seen, its plan is possible with what was seen, there is a slot wherever it sends, it isn't spent, and its stamp is right and within the bound
pub record IsChosen (p : Protocol) (kind : Kind) (local : Local) (sight : Sight) (choice : Choice) : Type 0 where
  pub rule : (i : ℕ) × (slice_get (part p kind).rules i ≡ Some choice.rule)
  pub kid : (k : ℕ) → choice.me ≡ Some k → k < length sight.look.kids
  pub fresh : is_spent sight choice.rule.take ≡ false
  pub planned : plan_of p kind choice.rule choice.me local (heads_of sight choice.me) ≡ Some choice.plan
  pub sends : may_send sight.look choice.plan.outs.to ≡ true
  pub stamp : choice.stamp ≡ stamp_after sight.last sight.look choice.me choice.plan.outs
  pub bound : nat_lt greatest_stamp choice.stamp ≡ false

with-chosen : (p : Protocol) (kind : Kind) (local : Local) (sight : Sight) (i : ℕ) (rule : Rule) (me : Option ℕ) (choice : Choice) → slice_get (part p kind).rules i ≡ Some rule → ((k : ℕ) → me ≡ Some k → k < length sight.look.kids) → choice_with p kind local sight rule me ≡ Some choice → IsChosen p kind local sight choice
with-chosen p kind local sight i rule me choice at kid is = by_spent (is_spent sight rule.take) refl is
  where
    made : Plan → Choice
    made plan = record { rule = rule; me = me; plan = plan; stamp = stamp_after sight.last sight.look me plan.outs }

    falsely : (b : Bool) → not b ≡ true → b ≡ false
    falsely true no_it = cc
    falsely false no_it = refl

    by_spent : (b : Bool) → is_spent sight rule.take ≡ b → cond b None (option_and_then (choice_by sight rule me) (plan_of p kind rule me local (heads_of sight me))) ≡ Some choice → IsChosen p kind local sight choice
    by_spent true spent is = cc
    by_spent false spent is =
        let planned = if_some (choice_by sight rule me) (plan_of p kind rule me local (heads_of sight me)) choice is in
        let plan : Plan = planned.0 in
        let passed = if_passed (may_send sight.look plan.outs.to && not (nat_lt greatest_stamp (stamp_after sight.last sight.look me plan.outs))) (Some (made plan)) choice planned.2 in
        let tests = both (may_send sight.look plan.outs.to) (not (nat_lt greatest_stamp (stamp_after sight.last sight.look me plan.outs))) passed.0 in
        let same : made plan ≡ choice = cc in
        let facts : IsChosen p kind local sight (made plan) = record { rule = (i, at); kid = kid; fresh = spent; planned = planned.1; sends = tests.0; stamp = refl; bound = falsely _ tests.1 } in
        subst (IsChosen p kind local sight) same facts

pub is-chosen : (p : Protocol) (kind : Kind) (local : Local) (sight : Sight) (choice : Choice) → chosen p kind local sight ≡ Some choice → IsChosen p kind local sight choice
is-chosen p kind local sight choice is =
    let it = first-gives (choice_of p kind local sight) (part p kind).rules choice is in
    by_first it.0 it.1 it.2 (choice_with p kind local sight it.1 None) refl it.3
  where
    by_first : (i : ℕ) (rule : Rule) → slice_get (part p kind).rules i ≡ Some rule → (o : Option Choice) → choice_with p kind local sight rule None ≡ o → option_or o (choice_below p kind local sight rule) ≡ Some choice → IsChosen p kind local sight choice
    by_first i rule there (Some c) at is = with-chosen p kind local sight i rule None choice there (λ k named. cc) (at ∙ is)
    by_first i rule there None at is =
        let place = first-gives (λ place. choice_with p kind local sight rule (Some place)) (below (length sight.look.kids)) choice is in
        let less = below-less (length sight.look.kids) place.0 place.1 place.2 in
        with-chosen p kind local sight i rule (Some place.1) choice there (λ k named. (let same : place.1 ≡ k = cc in subst (λ n. n < length sight.look.kids) same less)) place.3
