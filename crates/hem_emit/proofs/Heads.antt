-- The actions of a rule take the heads that a firing takes.
use Rattle.std.proofs.Common.{◌≡◌, ◌≢◌, refl, ap, sym, ◌∙◌, ℕ, Bool, true, false, ◌&&◌, ◌||◌, List, [], ◌∷◌, ◌++◌, inl, inr, ◌⊎◌, Option, Some, None}
use Rattle.std.specs.Prelude.{◌==◌, slice_get}
use Rattle.std.specs.List.{list_all, list_any}
use Rattle.std.proofs.lemmas.List.Folds.{list_any-append}
use Rattle.std.proofs.lemmas.Bool.Decides.{eqb_tells}
use Rattle.hem_base.specs.Sets.{has_bit}
use Rattle.hem_base.specs.declared.ids.MsgId.{MsgId}
use Rattle.hem_syntax.specs.declared.rule.Rule.{Rule}
use Rattle.hem_syntax.specs.declared.rule.Take.{Take}
use Rattle.hem_syntax.specs.declared.rule.Take.TheVariants as take
use Rattle.hem_syntax.specs.declared.rule.SendTo.{SendTo}
use Rattle.hem_syntax.specs.declared.rule.SendTo.TheVariants as send
use Rattle.hem_syntax.specs.Protocol.{Protocol}
use Rattle.hem_object.specs.Local.{Local}
use Rattle.hem_fire.specs.Heads.{Heads, awaited_of}
use Rattle.hem_module.specs.Module.{deq, put, enq}
use Rattle.hem_module.specs.Step.{Held, is_done, takes_head, loses_head}
use Rattle.hem_rows.proofs.Choices.{both}
use Rattle.hem_emit.specs.Names.{Reg, Queue, awaits, same_queue}
use Rattle.hem_emit.specs.Place.{Deed, Action, Place, kids_at, asker_of}
use Rattle.hem_emit.specs.Clauses.{requests_of, parent_queue, responses_of}
use Rattle.hem_emit.specs.Actions.{always, where_holds, is_awaited, with_value, take_actions, set_actions, free_actions, lock_actions, targets_at, requester_queues, child_queue, parent_lane, send_actions, actions_of}
use Rattle.hem_emit.specs.Shows.{Shows, AreKids}
use Rattle.hem_emit.proofs.Tests.{or_false, list_any-map, any_alike, any_at, same_number, differ}
use Rattle.hem_emit.proofs.Puts.{flat_fine, value_fine, sets_fine, frees_fine, locks_fine}
use Rattle.hem_emit.proofs.Takes.{bit_is}

-- whether a deed takes no head
abbrev pub spares : Deed → Bool
spares (deq q) = false
spares _ = true

deed_spares : (is_it : Queue → Bool) (deed : Deed) → spares deed ≡ true → takes_head is_it deed ≡ false
deed_spares is_it (deq q) is = cc
deed_spares is_it (put r amount) is = refl
deed_spares is_it (enq q id amount) is = refl

none_lost : (s : Held Reg Queue) (is_it : Queue → Bool) (xs : List Action) → list_all (λ a. spares a.deed) xs ≡ true → loses_head s is_it xs ≡ false
none_lost s is_it [] none = refl
none_lost s is_it (a ∷ xs) none =
    let parts = both (spares a.deed) (list_all (λ a. spares a.deed) xs) none in
    no_head (is_done s a) (takes_head is_it a.deed) (loses_head s is_it xs) (deed_spares is_it a.deed parts.0) (none_lost s is_it xs parts.1)
  where
    no_head : (done it rest : Bool) → it ≡ false → rest ≡ false → ((done && it) || rest) ≡ false
    no_head true it rest one other = cc
    no_head false it rest one other = other

sends_spare : (p : Protocol) (at : Place) (me : Option ℕ) (t : Take) (to : SendTo) → list_all (λ a. spares a.deed) (send_actions p at me t to) ≡ true
sends_spare p at me t send.Nothing = refl
sends_spare p at me t (send.Me id v) = flat_fine spares (λ r a. refl) (λ w. with_value at me t v w.0 (enq w.1 id.0)) (requester_queues at.kind at (asker_of t me)) (λ w. value_fine spares (λ r a. refl) at me t v w.0 (enq w.1 id.0) (λ a. refl))
sends_spare p at me t (send.Parent id v) = value_fine spares (λ r a. refl) at me t v [] (enq (parent_lane p at id) id.0) (λ a. refl)
sends_spare p at me t (send.Kids set id v) = flat_fine spares (λ r a. refl) (λ x. with_value at me t v x.1 (enq (child_queue x.0) id.0)) (targets_at at (asker_of t me) (send.Kids set id v)) (λ x. value_fine spares (λ r a. refl) at me t v x.1 (enq (child_queue x.0) id.0) (λ a. refl))
sends_spare p at me t (send.Others set id v) = flat_fine spares (λ r a. refl) (λ x. with_value at me t v x.1 (enq (child_queue x.0) id.0)) (targets_at at (asker_of t me) (send.Others set id v)) (λ x. value_fine spares (λ r a. refl) at me t v x.1 (enq (child_queue x.0) id.0) (λ a. refl))

-- a queue loses its head where the actions of the take say so
pub takes_alone : (s : Held Reg Queue) (is_it : Queue → Bool) (p : Protocol) (at : Place) (me : Option ℕ) (rule : Rule) → loses_head s is_it (actions_of p at me rule) ≡ loses_head s is_it (take_actions at me rule.take)
takes_alone s is_it p at me rule =
    let takes = take_actions at me rule.take in
    let sets = set_actions at me rule in
    let free = free_actions at rule.free in
    let locks = lock_actions p at me rule rule.lock in
    let sends = send_actions p at me rule.take rule.send in
    let test = λ (a : Action). is_done s a && takes_head is_it a.deed in
    without test (takes ++ sets ++ free ++ locks) sends (none_lost s is_it sends (sends_spare p at me rule.take rule.send))
    ∙ without test (takes ++ sets ++ free) locks (none_lost s is_it locks (locks_fine spares (λ r a. refl) p at me rule rule.lock))
    ∙ without test (takes ++ sets) free (none_lost s is_it free (frees_fine spares (λ r a. refl) at rule.free))
    ∙ without test takes sets (none_lost s is_it sets (sets_fine spares (λ r a. refl) at me rule))
  where
    without : (test : Action → Bool) (xs ys : List Action) → list_any test ys ≡ false → list_any test (xs ++ ys) ≡ list_any test xs
    without test xs ys none = list_any-append test xs ys ∙ ap (λ b. list_any test xs || b) none ∙ or_false (list_any test xs)

-- the parent's messages lose their head where a rule takes from the parent
pub parent_lost : (s : Held Reg Queue) (p : Protocol) (at : Place) (me : Option ℕ) (rule : Rule) (id : MsgId) → rule.take ≡ take.Parent id → loses_head s (same_queue (parent_queue at)) (actions_of p at me rule) ≡ true
parent_lost s p at me rule id is =
    takes_alone s (same_queue (parent_queue at)) p at me rule
    ∙ ap (λ t. loses_head s (same_queue (parent_queue at)) (take_actions at me t)) is
    ∙ here (at.object == at.object) (same_number at.object at.object refl)
  where
    here : (b : Bool) → b ≡ true → ((b && true) || false) ≡ true
    here b is = rw is refl

-- a child's responses lose their head where a rule takes from the children and the child is awaited
pub responses_lost : (s : Held Reg Queue) (p : Protocol) (at : Place) (me : Option ℕ) (rule : Rule) (local : Local) (heads : Heads) (id : MsgId) (k c : ℕ) → AreKids at.kind at.kids → Shows at me local heads s → slice_get at.kids k ≡ Some c → rule.take ≡ take.Kids id → loses_head s (same_queue (responses_of (k, c))) (actions_of p at me rule) ≡ has_bit (awaited_of local).0 k
responses_lost s p at me rule local heads id k c kids shows kid is =
    takes_alone s (same_queue (responses_of (k, c))) p at me rule
    ∙ ap (λ t. loses_head s (same_queue (responses_of (k, c))) (take_actions at me t)) is
    ∙ list_any-map (λ a. is_done s a && takes_head (same_queue (responses_of (k, c))) a.deed) (λ k. where_holds (is_awaited k ∷ []) (deq (responses_of k))) (kids_at at)
    ∙ any_alike (λ j. (s.reg (awaits j.1) == 1 && true) && (c == j.1 && true)) (λ j. k == j.0 && has_bit (awaited_of local).0 j.0) at.kids at.kids refl (λ j d e kid_d kid_e. by_place (eqb_tells k j) d kid_d (bit_is _ _ (shows.awaited j d kid_d)))
    ∙ any_at (λ j. has_bit (awaited_of local).0 j.0) k at.kids c kid
  where
    of_bits : (a b e f : Bool) → a ≡ f → b ≡ true → e ≡ true → ((a && true) && (b && true)) ≡ (e && f)
    of_bits true b e f one two other = cc
    of_bits false b e f one two other = cc

    of_none : (a b e f : Bool) → b ≡ false → e ≡ false → ((a && true) && (b && true)) ≡ (e && f)
    of_none true b e f one other = cc
    of_none false b e f one other = cc

    by_place : {j : ℕ} → ((k == j) ≡ true) × (k ≡ j) ⊎ ((k == j) ≡ false) × (k ≢ j) → (d : ℕ) → slice_get at.kids j ≡ Some d → (s.reg (awaits d) == 1) ≡ has_bit (awaited_of local).0 j → ((s.reg (awaits d) == 1 && true) && (c == d && true)) ≡ (k == j && has_bit (awaited_of local).0 j)
    by_place {j = j} (inl same) d there bit =
        let both_are : Some c ≡ Some d = sym kid ∙ ap (slice_get at.kids) same.1 ∙ there in
        let equal : c ≡ d = cc in
        of_bits _ _ _ _ bit (same_number c d equal) same.0
    by_place {j = j} (inr far) d there bit =
        of_none _ _ _ _ (differ c d (λ same. far.1 (kids.apart k j c kid (there ∙ ap Some (sym same))))) far.0

-- the requests that a rule takes lose their head
pub requests_lost : (s : Held Reg Queue) (p : Protocol) (at : Place) (me : Option ℕ) (rule : Rule) (id : MsgId) → rule.take ≡ take.Me id → loses_head s (same_queue (requests_of at me)) (actions_of p at me rule) ≡ true
requests_lost s p at me rule id is =
    takes_alone s (same_queue (requests_of at me)) p at me rule
    ∙ ap (λ t. loses_head s (same_queue (requests_of at me)) (take_actions at me t)) is
    ∙ here me
  where
    one : (b : Bool) → b ≡ true → ((b && true) || false) ≡ true
    one b is = rw is refl

    here : (me : Option ℕ) → loses_head s (same_queue (requests_of at me)) (always (deq (requests_of at me)) ∷ []) ≡ true
    here None = one _ (same_number at.object at.object refl)
    here (Some k) = one _ (same_number _ _ refl)
