-- In the image of a line, as a state of modules, a written rule steps as its firing does.
use Rattle.std.proofs.Common.{◌≡◌, refl, ap, sym, ◌∙◌, subst, ℕ, zero, suc, ◌+◌, arith, Bool, true, false, not, List, [], ◌∷◌, map, Option, Some, None}
use Rattle.std.specs.Prelude.{slice_get, position, is_some, unwrap_or, option_map}
use Rattle.std.specs.List.{list_all, list_any, enumerate_from}
use Rattle.std.proofs.lemmas.Option.{slice_get-map}
use Rattle.hem_base.specs.declared.ids.Message.{Message}
use Rattle.hem_syntax.specs.Protocol.{Protocol}
use Rattle.hem_tree.specs.Tree.{Tree}
use Rattle.hem_system.specs.State.{Line, list_at}
use Rattle.hem_module.specs.Module.{Test, equals, differs, has_head, Amount, number, read, head_value, Deed, deq, put, enq, Action, ModRule}
use Rattle.hem_module.specs.Places.{places, test_of, amount_of, deed_of, clause_of, action_of, rule_of}
use Rattle.hem_module.specs.Step.{Held, mod_can, after_actions}
use Rattle.hem_module.specs.States.{held_of, can_fire, placed, stepped, item_of, message_of}
use Rattle.hem_rows.proofs.Choices.{both}
use Rattle.hem_emit.specs.Names.{Reg, Queue, same_reg, same_queue, names}
use Rattle.hem_emit.specs.Image.{number_of, image}
use Rattle.hem_emit.specs.Layout.{registers, queues}
use Rattle.hem_emit.specs.Numbering.{are_apart, test_known, test_by, amount_by, deed_by, action_by, rule_by, rule_known, Agree, reg_number, queue_number, has_reg, has_queue}
use Rattle.hem_emit.specs.Written.{written_test, written_amount, written_deed, written_clause, written_action, written_as, state_of}
use Rattle.hem_emit.proofs.Here.{element_there, placed as is_placed}
use Rattle.hem_emit.proofs.Numbering.{same_reg_is, same_queue_is, place_passes}
use Rattle.hem_emit.proofs.NumberingPlaces.{same_reg_self, same_queue_self, places_one_to_one}
use Rattle.hem_emit.proofs.NumberingRules.{map_map}
use Rattle.hem_emit.proofs.NumberingSteps.{can_alike, actions_alike}
use Rattle.hem_emit.proofs.NumberingTwice.{registers_apart, queues_apart}

-- what is written reads as the rule over places
test_read : (p : Protocol) (tree : Tree) (t : Test Reg Queue) → test_of (written_test p tree t) ≡ test_by (reg_number p tree) (queue_number tree) t
test_read p tree (equals r n) = refl
test_read p tree (differs r n) = refl
test_read p tree (has_head q n) = refl

tests_read : (p : Protocol) (tree : Tree) (ts : List (Test Reg Queue)) → map test_of (map (written_test p tree) ts) ≡ map (test_by (reg_number p tree) (queue_number tree)) ts
tests_read p tree ts = map_map test_of (written_test p tree) ts ∙ (λ i. map (λ t. test_read p tree t i) ts)

amount_read : (p : Protocol) (tree : Tree) (a : Amount Reg Queue) → amount_of (written_amount p tree a) ≡ amount_by (reg_number p tree) (queue_number tree) a
amount_read p tree (number n) = refl
amount_read p tree (read r) = refl
amount_read p tree (head_value q) = refl

deed_read : (p : Protocol) (tree : Tree) (d : Deed Reg Queue) → deed_of (written_deed p tree d) ≡ deed_by (reg_number p tree) (queue_number tree) d
deed_read p tree (deq q) = refl
deed_read p tree (put r a) = ap (put (reg_number p tree r)) (amount_read p tree a)
deed_read p tree (enq q id a) = ap (enq (queue_number tree q) id) (amount_read p tree a)

action_read : (p : Protocol) (tree : Tree) (a : Action Reg Queue) → action_of (written_action p tree a) ≡ action_by (reg_number p tree) (queue_number tree) a
action_read p tree a = λ i. record { tests = tests_read p tree a.tests i; deed = deed_read p tree a.deed i }

pub rule_read : (p : Protocol) (tree : Tree) (rule : ModRule Reg Queue) → rule_of (written_as p tree rule) ≡ rule_by (reg_number p tree) (queue_number tree) rule
rule_read p tree rule =
    λ i. record {
      object = rule.object;
      name = rule.name;
      child = rule.child;
      spontaneous = rule.spontaneous;
      clauses = clauses i;
      actions = actions i;
    }
  where
    clauses : map clause_of (map (written_clause p tree) rule.clauses) ≡ map (map (test_by (reg_number p tree) (queue_number tree))) rule.clauses
    clauses = map_map clause_of (written_clause p tree) rule.clauses ∙ (λ i. map (λ c. tests_read p tree c i) rule.clauses)

    actions : map action_of (map (written_action p tree) rule.actions) ≡ map (action_by (reg_number p tree) (queue_number tree)) rule.actions
    actions = map_map action_of (written_action p tree) rule.actions ∙ (λ i. map (λ a. action_read p tree a i) rule.actions)

-- what stands at the place of a name that is there
at_place : {A B : Type 0} (same : A → A → Bool) → ((a b : A) → same a b ≡ true → a ≡ b) → (xs : List A) (f : A → B) (d : B) (a : A) → is_some (position (same a) xs) ≡ true → unwrap_or (slice_get (map f xs) (unwrap_or (position (same a) xs) 0)) d ≡ f a
at_place {A} {B} same sound xs f d a there = by (position (same a) xs) refl there
  where
    by : (o : Option ℕ) → position (same a) xs ≡ o → is_some o ≡ true → unwrap_or (slice_get (map f xs) (unwrap_or o 0)) d ≡ f a
    by None at there = cc
    by (Some i) at there =
        let x = place_passes (same a) xs i at in
        ap (λ (o : Option B). unwrap_or o d) (slice_get-map f xs i ∙ ap (option_map f) x.1) ∙ ap f (sym (sound a x.0 x.2))

-- the state of a line and its image have the same
pub state_agrees : (p : Protocol) (tree : Tree) (line : Line) → Agree (reg_number p tree) (queue_number tree) (has_reg p tree) (has_queue tree) (image tree line) (held_of (state_of p tree line))
state_agrees p tree line =
    record {
      regs = λ r there. at_place same_reg same_reg_is (registers p tree) (number_of tree line) 0 r there;
      queues = λ q there. ap (map item_of) (at_place same_queue same_queue_is (queues tree) (λ q. list_at line q.object q.lane) [] q there);
    }

-- what stands in a list without two that are the same stands there once
twice : {A : Type 0} (same : A → A → Bool) → ((a : A) → same a a ≡ true) → (x : A) (xs : List A) (j : ℕ) (a : A) → are_apart same (x ∷ xs) ≡ true → slice_get (x ∷ xs) 0 ≡ Some a → slice_get xs j ≡ Some a → ⊥
twice {A} same self x xs j a apart first there =
    let e : x ≡ a = cc in
    let some : list_any (same x) xs ≡ true = element_there (same x) xs j a there (ap (same x) (sym e) ∙ self x) in
    let none = (both (not (list_any (same x) xs)) _ apart).0 in
    let clash : false ≡ true = sym (ap not some) ∙ none in
    cc

pub once_there : {A : Type 0} (same : A → A → Bool) → ((a : A) → same a a ≡ true) → (xs : List A) (i j : ℕ) (a : A) → are_apart same xs ≡ true → slice_get xs i ≡ Some a → slice_get xs j ≡ Some a → i ≡ j
once_there same self [] i j a apart at_i at_j = cc
once_there same self (x ∷ xs) zero zero a apart at_i at_j = refl
once_there same self (x ∷ xs) zero (suc j) a apart at_i at_j = absurd (twice same self x xs j a apart at_i at_j)
once_there same self (x ∷ xs) (suc i) zero a apart at_i at_j = absurd (twice same self x xs i a apart at_j at_i)
once_there same self (x ∷ xs) (suc i) (suc j) a apart at_i at_j = ap suc (once_there same self xs i j a (both (not (list_any (same x) xs)) _ apart).1 at_i at_j)

-- and is found at its place
pub place_there : {A : Type 0} (same : A → A → Bool) → ((a b : A) → same a b ≡ true → a ≡ b) → ((a : A) → same a a ≡ true) → (xs : List A) (i : ℕ) (a : A) → are_apart same xs ≡ true → slice_get xs i ≡ Some a → position (same a) xs ≡ Some i
place_there {A} same sound self xs i a apart at = by (position (same a) xs) refl (is_placed (same a) xs (element_there (same a) xs i a at (self a)))
  where
    by : (o : Option ℕ) → position (same a) xs ≡ o → is_some o ≡ true → position (same a) xs ≡ Some i
    by None is there = cc
    by (Some j) is there =
        let x = place_passes (same a) xs j is in
        is ∙ ap Some (once_there same self xs j i a apart (x.1 ∙ ap Some (sym (sound a x.0 x.2))) at)

-- a list by places, where each place says what its element says
placed_from : {A B : Type 0} (k : A → B) (g : ℕ → B) (h : A → B) (n : ℕ) (xs : List A) → ((i : ℕ) (x : A) → slice_get xs i ≡ Some x → g (n + i) ≡ h x) → map (λ (x : ℕ × B). g x.0) (enumerate_from n (map k xs)) ≡ map h xs
placed_from k g h n [] each = refl
placed_from k g h n (x ∷ xs) each =
    let here : n + 0 ≡ n = omega arith in
    let head : g n ≡ h x = sym (ap g here) ∙ each 0 x refl in
    let tail = placed_from k g h (n + 1) xs (λ i y at. let there : n + 1 + i ≡ n + suc i = omega arith in ap g there ∙ each (suc i) y at) in
    λ i. head i ∷ tail i

pub placed_as : {A B : Type 0} (k : A → B) (g : ℕ → B) (h : A → B) (xs : List A) → ((i : ℕ) (x : A) → slice_get xs i ≡ Some x → g i ≡ h x) → map (λ (x : ℕ × B). g x.0) (enumerate_from 0 (map k xs)) ≡ map h xs
placed_as k g h xs each = placed_from k g h 0 xs (λ i x at. let here : 0 + i ≡ i = omega arith in ap g here ∙ each i x at)

messages_back : (ms : List Message) → map message_of (map item_of ms) ≡ ms
messages_back [] = refl
messages_back (m ∷ ms) = ap (λ xs. m ∷ xs) (messages_back ms)

-- the state whose places have what an image has is that of the image's line
state_by : (p : Protocol) (tree : Tree) (old new : Line) (after : Held ℕ ℕ) → Agree (reg_number p tree) (queue_number tree) (has_reg p tree) (has_queue tree) (image tree new) after → placed (state_of p tree old) after ≡ state_of p tree new
state_by p tree old new after agree =
    λ i. record { regs = regs_are i; queues = queues_are i }
  where
    regs_are : map (λ (x : ℕ × ℕ). after.reg x.0) (enumerate_from 0 (map (number_of tree old) (registers p tree))) ≡ map (number_of tree new) (registers p tree)
    regs_are =
        placed_as (number_of tree old) after.reg (number_of tree new) (registers p tree)
        (λ i r at. let place = place_there same_reg same_reg_is same_reg_self (registers p tree) i r (registers_apart p tree) at in
        ap after.reg (sym (ap (λ (o : Option ℕ). unwrap_or o 0) place)) ∙ agree.regs r (ap is_some place))

    queues_are : map (λ (x : ℕ × List Message). map message_of (after.queue x.0)) (enumerate_from 0 (map (λ (q : Queue). list_at old q.object q.lane) (queues tree))) ≡ map (λ (q : Queue). list_at new q.object q.lane) (queues tree)
    queues_are =
        placed_as (λ (q : Queue). list_at old q.object q.lane) (λ n. map message_of (after.queue n)) (λ q. list_at new q.object q.lane) (queues tree)
        (λ i q at. let place = place_there same_queue same_queue_is same_queue_self (queues tree) i q (queues_apart tree) at in
        ap (λ n. map message_of (after.queue n)) (sym (ap (λ (o : Option ℕ). unwrap_or o 0) place))
        ∙ ap (map message_of) (agree.queues q (ap is_some place))
        ∙ messages_back (list_at new q.object q.lane))

module _ (p : Protocol) (tree : Tree) (line : Line) (rule : ModRule Reg Queue) (known : rule_known (has_reg p tree) (has_queue tree) rule ≡ true) where
  -- a written rule can fire exactly where the rule can step
  pub can_is : can_fire (state_of p tree line) (written_as p tree rule) ≡ mod_can (image tree line) rule
  can_is =
      ap (mod_can (held_of (state_of p tree line))) (rule_read p tree rule)
      ∙ can_alike names places (reg_number p tree) (queue_number tree) (has_reg p tree) (has_queue tree) (image tree line) (held_of (state_of p tree line)) (places_one_to_one p tree) (state_agrees p tree line) rule known

  -- and leads to the state of the line whose image that is to which the rule leads
  pub leads_to : (next : Line) → after_actions names (image tree line) rule.actions ≡ image tree next → stepped (state_of p tree line) (written_as p tree rule) ≡ state_of p tree next
  leads_to next leads =
      ap (λ (r : ModRule ℕ ℕ). placed (state_of p tree line) (after_actions places (held_of (state_of p tree line)) r.actions)) (rule_read p tree rule)
      ∙ state_by p tree line next (after_actions places (held_of (state_of p tree line)) (map (action_by (reg_number p tree) (queue_number tree)) rule.actions))
      (subst (λ s. Agree (reg_number p tree) (queue_number tree) (has_reg p tree) (has_queue tree) s (after_actions places (held_of (state_of p tree line)) (map (action_by (reg_number p tree) (queue_number tree)) rule.actions))) leads
      (actions_alike names places (reg_number p tree) (queue_number tree) (has_reg p tree) (has_queue tree) (image tree line) (held_of (state_of p tree line)) (places_one_to_one p tree) (state_agrees p tree line) rule.actions (both (list_all (list_all (test_known (has_reg p tree) (has_queue tree))) rule.clauses) _ known).1))
