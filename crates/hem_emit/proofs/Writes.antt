-- The number of a register after actions: what writes it, and what leaves it.
use Rattle.std.proofs.Common.{◌≡◌, refl, ap, ◌∙◌, ℕ, Bool, true, false, not, cond, List, [], ◌∷◌, ◌++◌, map, Option}
use Rattle.std.specs.List.{list_all, flat_map}
use Rattle.std.proofs.lemmas.List.Folds.{list_all-map, list_all-append}
use Rattle.hem_syntax.specs.declared.rule.Take.{Take}
use Rattle.hem_syntax.specs.declared.rule.Take.TheVariants as take
use Rattle.hem_syntax.specs.declared.rule.Value.{Value}
use Rattle.hem_syntax.specs.declared.rule.SendTo.{SendTo}
use Rattle.hem_syntax.specs.declared.rule.SendTo.TheVariants as send
use Rattle.hem_syntax.specs.Protocol.{Protocol}
use Rattle.hem_module.specs.Module.{deq, put, enq}
use Rattle.hem_module.specs.Step.{Held, amount_in, is_done, put_by, number_after}
use Rattle.hem_rows.proofs.Choices.{both}
use Rattle.hem_emit.specs.Names.{Reg, Queue}
use Rattle.hem_emit.specs.Place.{Test, Amount, Deed, Action, Place, kids_at, asker_of}
use Rattle.hem_emit.specs.Actions.{where_holds, is_awaited, amounts_of, with_value, take_actions, send_actions, requester_queues, child_queue, targets_at, parent_lane}
use Rattle.hem_emit.specs.Clauses.{responses_of}
use Rattle.hem_emit.proofs.Tests.{list_all-flat_map}
use Rattle.hem_emit.proofs.Named.{and_both}

-- whether a deed leaves a register
abbrev pub leaves_by : (Reg → Bool) → Deed → Bool
leaves_by is_it (put r amount) = not (is_it r)
leaves_by is_it _ = true

-- whether an action leaves a register
abbrev pub leaves : (Reg → Bool) → Action → Bool
leaves is_it a = leaves_by is_it a.deed

pub number_after-append : (s : Held Reg Queue) (is_it : Reg → Bool) (xs ys : List Action) (old : ℕ) → number_after s is_it (xs ++ ys) old ≡ number_after s is_it ys (number_after s is_it xs old)
number_after-append s is_it [] ys old = refl
number_after-append s is_it (a ∷ xs) ys old = number_after-append s is_it xs ys (cond (is_done s a) (put_by s is_it a.deed old) old)

same_twice : (b : Bool) (new old : ℕ) → new ≡ old → cond b new old ≡ old
same_twice true new old same = same
same_twice false new old same = refl

deed_leaves : (s : Held Reg Queue) (is_it : Reg → Bool) (deed : Deed) (old : ℕ) → leaves_by is_it deed ≡ true → put_by s is_it deed old ≡ old
deed_leaves s is_it (put r amount) old is = by_test (is_it r) is
  where
    by_test : (b : Bool) → not b ≡ true → cond b (amount_in s amount) old ≡ old
    by_test true is = cc
    by_test false is = refl
deed_leaves s is_it (deq q) old is = refl
deed_leaves s is_it (enq q id amount) old is = refl

pub all_leave : (s : Held Reg Queue) (is_it : Reg → Bool) (xs : List Action) (old : ℕ) → list_all (leaves is_it) xs ≡ true → number_after s is_it xs old ≡ old
all_leave s is_it [] old is = refl
all_leave s is_it (a ∷ xs) old is =
    let parts = both (leaves is_it a) (list_all (leaves is_it) xs) is in
    ap (number_after s is_it xs) (same_twice (is_done s a) _ old (deed_leaves s is_it a.deed old parts.0))
    ∙ all_leave s is_it xs old parts.1

pub all_true : {A : Type 0} (test : A → Bool) (xs : List A) → ((x : A) → test x ≡ true) → list_all test xs ≡ true
all_true test [] each = refl
all_true test (x ∷ xs) each = and_both _ _ (each x) (all_true test xs each)

pub map_leaves : {A : Type 0} (is_it : Reg → Bool) (f : A → Action) (xs : List A) → ((x : A) → leaves is_it (f x) ≡ true) → list_all (leaves is_it) (map f xs) ≡ true
map_leaves is_it f xs each = list_all-map (leaves is_it) f xs ∙ all_true (λ x. leaves is_it (f x)) xs each

pub flat_leaves : {A : Type 0} (is_it : Reg → Bool) (f : A → List Action) (xs : List A) → ((x : A) → list_all (leaves is_it) (f x) ≡ true) → list_all (leaves is_it) (flat_map f xs) ≡ true
flat_leaves is_it f xs each = list_all-flat_map (leaves is_it) f xs ∙ all_true (λ x. list_all (leaves is_it) (f x)) xs each

pub both_leave : (is_it : Reg → Bool) (xs ys : List Action) → list_all (leaves is_it) xs ≡ true → list_all (leaves is_it) ys ≡ true → list_all (leaves is_it) (xs ++ ys) ≡ true
both_leave is_it xs ys one other = list_all-append (leaves is_it) xs ys ∙ and_both _ _ one other

pub value_leaves : (is_it : Reg → Bool) (at : Place) (me : Option ℕ) (t : Take) (v : Value) (tests : List Test) (deed : Amount → Deed) → ((a : Amount) → leaves_by is_it (deed a) ≡ true) → list_all (leaves is_it) (with_value at me t v tests deed) ≡ true
value_leaves is_it at me t v tests deed each = map_leaves is_it (λ a. where_holds (tests ++ a.0) (deed a.1)) (amounts_of at me t v) (λ a. each a.1)

-- what is taken and sent leaves all registers
pub takes_leave : (is_it : Reg → Bool) (at : Place) (me : Option ℕ) (t : Take) → list_all (leaves is_it) (take_actions at me t) ≡ true
takes_leave is_it at me (take.Me id) = refl
takes_leave is_it at me (take.Parent id) = refl
takes_leave is_it at me (take.Kids id) = map_leaves is_it (λ k. where_holds (is_awaited k ∷ []) (deq (responses_of k))) (kids_at at) (λ k. refl)
takes_leave is_it at me take.Nothing = refl

pub sends_leave : (is_it : Reg → Bool) (p : Protocol) (at : Place) (me : Option ℕ) (t : Take) (to : SendTo) → list_all (leaves is_it) (send_actions p at me t to) ≡ true
sends_leave is_it p at me t send.Nothing = refl
sends_leave is_it p at me t (send.Me id v) =
    flat_leaves is_it (λ w. with_value at me t v w.0 (enq w.1 id.0)) (requester_queues at.kind at (asker_of t me)) (λ w. value_leaves is_it at me t v w.0 (enq w.1 id.0) (λ a. refl))
sends_leave is_it p at me t (send.Parent id v) = value_leaves is_it at me t v [] (enq (parent_lane p at id) id.0) (λ a. refl)
sends_leave is_it p at me t (send.Kids set id v) =
    flat_leaves is_it (λ x. with_value at me t v x.1 (enq (child_queue x.0) id.0)) (targets_at at (asker_of t me) (send.Kids set id v)) (λ x. value_leaves is_it at me t v x.1 (enq (child_queue x.0) id.0) (λ a. refl))
sends_leave is_it p at me t (send.Others set id v) =
    flat_leaves is_it (λ x. with_value at me t v x.1 (enq (child_queue x.0) id.0)) (targets_at at (asker_of t me) (send.Others set id v)) (λ x. value_leaves is_it at me t v x.1 (enq (child_queue x.0) id.0) (λ a. refl))
