-- The items that actions append: those of a send, one for each queue whose tests hold.
use Rattle.std.proofs.Common.{◌≡◌, refl, ap, sym, ◌∙◌, ℕ, Bool, true, false, not, cond, ◌&&◌, List, [], ◌∷◌, ◌++◌, map, Option}
use Rattle.std.specs.Prelude.{unwrap_or, is_some}
use Rattle.std.specs.List.{list_all, flat_map}
use Rattle.std.proofs.lemmas.List.Folds.{list_all-append}
use Rattle.hem_syntax.specs.declared.rule.Rule.{Rule}
use Rattle.hem_syntax.specs.declared.rule.Take.{Take}
use Rattle.hem_syntax.specs.declared.rule.Take.TheVariants as take
use Rattle.hem_syntax.specs.declared.rule.Value.{Value}
use Rattle.hem_syntax.specs.Protocol.{Protocol}
use Rattle.hem_object.specs.Local.{Local}
use Rattle.hem_object.specs.Guard.{value_of}
use Rattle.hem_fire.specs.Heads.{Heads}
use Rattle.hem_fire.specs.View.{view_of}
use Rattle.hem_module.specs.Module.{Item, deq, put, enq}
use Rattle.hem_module.specs.Step.{Held, test_holds, amount_in, is_done, appended_by, appended}
use Rattle.hem_rows.proofs.Choices.{both}
use Rattle.hem_emit.specs.Names.{Reg, Queue}
use Rattle.hem_emit.specs.Place.{Test, Amount, Deed, Action, Place, kids_at}
use Rattle.hem_emit.specs.Clauses.{responses_of}
use Rattle.hem_emit.specs.Actions.{where_holds, is_awaited, amounts_of, with_value, take_actions, set_actions, free_actions, lock_actions, send_actions, actions_of}
use Rattle.hem_emit.specs.Shows.{Shows}
use Rattle.hem_emit.proofs.Picked.{picked, one_if}
use Rattle.hem_emit.proofs.Meant.{meant, one_meant}
use Rattle.hem_emit.proofs.Puts.{map_fine, sets_fine, frees_fine, locks_fine}

-- whether a deed appends nothing to a queue
abbrev pub misses : (Queue → Bool) → Deed → Bool
misses is_it (enq q id amount) = not (is_it q)
misses is_it _ = true

deed_misses : (s : Held Reg Queue) (is_it : Queue → Bool) (deed : Deed) → misses is_it deed ≡ true → appended_by s is_it deed ≡ []
deed_misses s is_it (deq q) is = refl
deed_misses s is_it (put r amount) is = refl
deed_misses s is_it (enq q id amount) is = by_test (is_it q) is
  where
    by_test : (b : Bool) → not b ≡ true → cond b (appended_by s (λ q. true) (enq q id amount)) [] ≡ []
    by_test true is = cc
    by_test false is = refl

pub none_appended : (s : Held Reg Queue) (is_it : Queue → Bool) (xs : List Action) → list_all (λ a. misses is_it a.deed) xs ≡ true → appended s is_it xs ≡ []
none_appended s is_it [] none = refl
none_appended s is_it (a ∷ xs) none =
    let parts = both (misses is_it a.deed) (list_all (λ a. misses is_it a.deed) xs) none in
    no_item (is_done s a) (appended_by s is_it a.deed) (appended s is_it xs) (deed_misses s is_it a.deed parts.0) (none_appended s is_it xs parts.1)
  where
    no_item : (b : Bool) (one rest : List Item) → one ≡ [] → rest ≡ [] → cond b one [] ++ rest ≡ []
    no_item true one rest e f = rw (e, f) refl
    no_item false one rest e f = f

append_alike : (xs ys zs : List Item) → (xs ++ ys) ++ zs ≡ xs ++ (ys ++ zs)
append_alike [] ys zs = refl
append_alike (x ∷ xs) ys zs = ap (λ rest. x ∷ rest) (append_alike xs ys zs)

pub appended-append : (s : Held Reg Queue) (is_it : Queue → Bool) (xs ys : List Action) → appended s is_it (xs ++ ys) ≡ appended s is_it xs ++ appended s is_it ys
appended-append s is_it [] ys = refl
appended-append s is_it (a ∷ xs) ys =
    ap (λ zs. cond (is_done s a) (appended_by s is_it a.deed) [] ++ zs) (appended-append s is_it xs ys)
    ∙ sym (append_alike (cond (is_done s a) (appended_by s is_it a.deed) []) (appended s is_it xs) (appended s is_it ys))

-- the sends alone append
pub sends_alone : (s : Held Reg Queue) (is_it : Queue → Bool) (p : Protocol) (at : Place) (me : Option ℕ) (rule : Rule) → appended s is_it (actions_of p at me rule) ≡ appended s is_it (send_actions p at me rule.take rule.send)
sends_alone s is_it p at me rule =
    let takes = take_actions at me rule.take in
    let sets = set_actions at me rule in
    let free = free_actions at rule.free in
    let locks = lock_actions p at me rule rule.lock in
    let sends = send_actions p at me rule.take rule.send in
    let fine = λ (a : Action). misses is_it a.deed in
    without (takes ++ sets ++ free ++ locks) sends (
    joined (takes ++ sets ++ free) locks (joined (takes ++ sets) free (joined takes sets (takes_miss rule.take) (sets_fine (misses is_it) (λ r a. refl) at me rule)) (frees_fine (misses is_it) (λ r a. refl) at rule.free)) (locks_fine (misses is_it) (λ r a. refl) p at me rule rule.lock))
  where
    joined : (xs ys : List Action) → list_all (λ a. misses is_it a.deed) xs ≡ true → list_all (λ a. misses is_it a.deed) ys ≡ true → list_all (λ a. misses is_it a.deed) (xs ++ ys) ≡ true
    joined xs ys one other = list_all-append (λ a. misses is_it a.deed) xs ys ∙ two _ _ one other
      where
        two : (a b : Bool) → a ≡ true → b ≡ true → (a && b) ≡ true
        two a b one other = cc

    without : (xs ys : List Action) → list_all (λ a. misses is_it a.deed) xs ≡ true → appended s is_it (xs ++ ys) ≡ appended s is_it ys
    without xs ys none = appended-append s is_it xs ys ∙ ap (λ zs. zs ++ appended s is_it ys) (none_appended s is_it xs none)

    takes_miss : (t : Take) → list_all (λ a. misses is_it a.deed) (take_actions at me t) ≡ true
    takes_miss (take.Me id) = refl
    takes_miss (take.Parent id) = refl
    takes_miss (take.Kids id) = map_fine (misses is_it) (λ r a. refl) (λ k. where_holds (is_awaited k ∷ []) (deq (responses_of k))) (kids_at at) (λ k. refl)
    takes_miss take.Nothing = refl

-- an item of an id with each of some numbers
abbrev pub items : ℕ → List ℕ → List Item
items id ns = map (λ n. record { id = id; value = n }) ns

-- of the actions for one queue, an item with each number that is meant
each_meant : (s : Held Reg Queue) (is_it : Queue → Bool) (q : Queue) (id : ℕ) (tests : List Test) (xs : List (List Test × Amount)) → appended s is_it (map (λ a. where_holds (tests ++ a.0) (enq q id a.1)) xs) ≡ cond (list_all (test_holds s) tests && is_it q) (items id (meant s xs)) []
each_meant s is_it q id tests [] = none (list_all (test_holds s) tests && is_it q)
  where
    none : (b : Bool) → [] ≡ cond b (items id []) []
    none true = refl
    none false = refl
each_meant s is_it q id tests (a ∷ xs) =
    ap (λ b. cond b (appended_by s is_it (enq q id a.1)) [] ++ appended s is_it (map (λ a. where_holds (tests ++ a.0) (enq q id a.1)) xs)) (list_all-append (test_holds s) tests a.0)
    ∙ ap (λ zs. cond (list_all (test_holds s) tests && list_all (test_holds s) a.0) (appended_by s is_it (enq q id a.1)) [] ++ zs) (each_meant s is_it q id tests xs)
    ∙ by_tests (list_all (test_holds s) tests) (list_all (test_holds s) a.0) (is_it q)
  where
    by_tests : (b c it : Bool) → cond (b && c) (cond it (record { id = id; value = amount_in s a.1 } ∷ []) []) [] ++ cond (b && it) (items id (meant s xs)) [] ≡ cond (b && it) (items id (cond c (amount_in s a.1 ∷ []) [] ++ meant s xs)) []
    by_tests true true true = refl
    by_tests true true false = refl
    by_tests true false true = refl
    by_tests true false false = refl
    by_tests false c it = refl

-- an item of an id with the number that a value stands for
module _ {at : Place} {me : Option ℕ} {local : Local} {heads : Heads} {s : Held Reg Queue} (shows : Shows at me local heads s) (is_it : Queue → Bool) (t : Take) (v : Value) (id : ℕ) (there : is_some (value_of v local (view_of t me local heads)) ≡ true) where
  abbrev pub item_sent : Item
  item_sent = record { id = id; value = unwrap_or (value_of v local (view_of t me local heads)) 0 }

  pub value_appended : (q : Queue) (tests : List Test) → appended s is_it (with_value at me t v tests (enq q id)) ≡ one_if (list_all (test_holds s) tests && is_it q) item_sent
  value_appended q tests =
      each_meant s is_it q id tests (amounts_of at me t v)
      ∙ ap (λ ns. cond (list_all (test_holds s) tests && is_it q) (items id ns) []) (one_meant shows t v there)

  pub values_appended : {A : Type 0} (tests : A → List Test) (q : A → Queue) (xs : List A) → appended s is_it (flat_map (λ x. with_value at me t v (tests x) (enq (q x) id)) xs) ≡ picked (λ x. list_all (test_holds s) (tests x) && is_it (q x)) item_sent xs
  values_appended tests q [] = refl
  values_appended tests q (x ∷ xs) =
      appended-append s is_it (with_value at me t v (tests x) (enq (q x) id)) (flat_map (λ x. with_value at me t v (tests x) (enq (q x) id)) xs)
      ∙ ap (λ zs. zs ++ appended s is_it (flat_map (λ x. with_value at me t v (tests x) (enq (q x) id)) xs)) (value_appended (q x) (tests x))
      ∙ ap (λ zs. one_if (list_all (test_holds s) (tests x) && is_it (q x)) item_sent ++ zs) (values_appended tests q xs)
