-- Tests, amounts and targets by places, one by one.
use Rattle.std.proofs.Common.{◌≡◌, refl, ap, sym, ◌∙◌, ℕ, List, [], ◌∷◌, ◌++◌, map, filter, Some, None, Option}
use Rattle.std.specs.List.{flat_map}
use Rattle.std.proofs.lemmas.List.{map-append}
use Rattle.hem_base.specs.declared.ids.MsgId.{MsgId}
use Rattle.hem_base.specs.declared.ids.Kind.TheVariants as level
use Rattle.hem_syntax.specs.declared.rule.Rule.{Rule}
use Rattle.hem_syntax.specs.declared.rule.Side.{Side}
use Rattle.hem_syntax.specs.declared.rule.Side.TheVariants.{Up, Down}
use Rattle.hem_syntax.specs.declared.rule.Origin.{Origin}
use Rattle.hem_syntax.specs.declared.rule.SendTo.{SendTo}
use Rattle.hem_syntax.specs.Protocol.{Protocol}
use Rattle.hem_system.specs.declared.lane.Lane.TheVariants as lane
use Rattle.hem_module.specs.Module.{number, put, enq}
use Rattle.hem_emit.specs.Names.{Reg, Queue, awaits, lock, kept}
use Rattle.hem_emit.specs.Place.{Test, Amount, Deed as Meant, Place, Asker, fixed, holder, asker_of, kids_at, is_named}
use Rattle.hem_emit.specs.Clauses.{held_for}
use Rattle.hem_emit.specs.Actions.{where_holds, with_value, child_queue, requester_queues, targets_at, await_actions, lock_actions, origin_amount, id_in_hand, value_in_hand}
use Rattle.hem_translate.specs.declared.amounts.Deed.{Deed}
use Rattle.hem_translate.specs.declared.amounts.Deed.TheVariants.{Put, Send}
use Rattle.hem_translate.specs.declared.targets.Target.{Target}
use Rattle.hem_translate.specs.ByPlace.{Places, reg_at, queue_at, test_at, amount_at, deed_at, action_at}
use Rattle.hem_translate.specs.Amounts.{done, counted_at, acted}
use Rattle.hem_translate.specs.Targets.{target_at, aimed, requesters, awaited_by, awaits_by, begun_by, sent_to}

-- a child under each of these tests
pub aimed_alone : (l : Places) (k : ℕ × ℕ) (tests : List Test) → map (aimed k None) (map (test_at l) tests) ≡ map (target_at l) (map (λ test. (k, test ∷ [])) tests)
aimed_alone l k [] = refl
aimed_alone l k (test ∷ tests) = let rest = aimed_alone l k tests in λ i. aimed k None (test_at l test) ∷ rest i

-- a child under each of these tests after another
pub aimed_after : (l : Places) (k : ℕ × ℕ) (first : Test) (tests : List Test) → map (aimed k (Some (test_at l first))) (map (test_at l) tests) ≡ map (target_at l) (map (λ test. (k, first ∷ test ∷ [])) tests)
aimed_after l k first [] = refl
aimed_after l k first (test ∷ tests) = let rest = aimed_after l k first tests in λ i. aimed k (Some (test_at l first)) (test_at l test) ∷ rest i

-- a deed with each of these amounts, under further tests
pub valued : (l : Places) (tests : List Test) (deed : Deed) (d : Amount → Meant) → ((a : Amount) → done deed (amount_at l a) ≡ deed_at l (d a)) → (xs : List (List Test × Amount)) → map (acted (map (test_at l) tests) deed) (map (counted_at l) xs) ≡ map (action_at l) (map (λ a. where_holds (tests ++ a.0) (d a.1)) xs)
valued l tests deed d alike [] = refl
valued l tests deed d alike (x ∷ xs) =
    let both = sym (map-append (test_at l) tests x.0) in
    let act = alike x.1 in
    let rest = valued l tests deed d alike xs in
    λ i. record { cond = both i; act = act i } ∷ rest i

pub put_valued : (l : Places) (r : Reg) (xs : List (List Test × Amount)) → map (acted [] (Put (reg_at l r))) (map (counted_at l) xs) ≡ map (action_at l) (map (λ a. where_holds ([] ++ a.0) (put r a.1)) xs)
put_valued l r xs = valued l [] (Put (reg_at l r)) (put r) (λ a. refl) xs

pub send_valued : (l : Places) (tests : List Test) (q : Queue) (id : MsgId) (xs : List (List Test × Amount)) → map (acted (map (test_at l) tests) (Send (queue_at l q) id)) (map (counted_at l) xs) ≡ map (action_at l) (map (λ a. where_holds (tests ++ a.0) (enq q id.0 a.1)) xs)
send_valued l tests q id xs = valued l tests (Send (queue_at l q) id) (enq q id.0) (λ a. refl) xs

append_nil : {A : Type 0} (xs : List A) → xs ≡ xs ++ []
append_nil [] = refl
append_nil (x ∷ xs) = ap (λ ys. x ∷ ys) (append_nil xs)

-- what goes to the processor
pub processor_sent : (l : Places) (at : Place) (id : MsgId) (xs : List (List Test × Amount)) → map (acted [] (Send (queue_at l (record { object = at.object; lane = lane.Answers })) id)) (map (counted_at l) xs) ≡ map (action_at l) (map (λ a. where_holds ([] ++ a.0) (enq (record { object = at.object; lane = lane.Answers }) id.0 a.1)) xs ++ [])
processor_sent l at id xs = send_valued l [] (record { object = at.object; lane = lane.Answers }) id xs ∙ ap (map (action_at l)) (append_nil _)

-- what goes to these children
pub set_sent : (l : Places) (id : MsgId) (amounts : List (List Test × Amount)) (xs : List ((ℕ × ℕ) × List Test)) → flat_map (sent_to l id (map (counted_at l) amounts)) (map (target_at l) xs) ≡ map (action_at l) (flat_map (λ x. map (λ a. where_holds (x.1 ++ a.0) (enq (child_queue x.0) id.0 a.1)) amounts) xs)
set_sent l id amounts [] = refl
set_sent l id amounts (x ∷ xs) =
    let first = send_valued l x.1 (child_queue x.0) id amounts in
    let rest = set_sent l id amounts xs in
    (λ i. first i ++ rest i)
    ∙ sym (map-append (action_at l) (map (λ a. where_holds (x.1 ++ a.0) (enq (child_queue x.0) id.0 a.1)) amounts) (flat_map (λ x. map (λ a. where_holds (x.1 ++ a.0) (enq (child_queue x.0) id.0 a.1)) amounts) xs))

same_spread : {A B C D : Type 0} (g : B → List D) (h : C → List D) (f : A → B) (e : A → C) → ((k : A) → g (f k) ≡ h (e k)) → (ks : List A) → flat_map g (map f ks) ≡ flat_map h (map e ks)
same_spread g h f e same [] = refl
same_spread g h f e same (k ∷ ks) = let first = same k in let rest = same_spread g h f e same ks in λ i. first i ++ rest i

-- what goes to a child that is the requester
pub child_sent : (l : Places) (at : Place) (who : Asker) (id : MsgId) (amounts : List (List Test × Amount)) → flat_map (sent_to l id (map (counted_at l) amounts)) (map (target_at l) (requesters at who)) ≡ map (action_at l) (flat_map (λ w. map (λ a. where_holds (w.0 ++ a.0) (enq w.1 id.0 a.1)) amounts) (requester_queues level.Mid at who))
child_sent l at (fixed me) id amounts =
    set_sent l id amounts (requesters at (fixed me))
    ∙ ap (map (action_at l)) (same_spread (λ x. map (λ a. where_holds (x.1 ++ a.0) (enq (child_queue x.0) id.0 a.1)) amounts) (λ w. map (λ a. where_holds (w.0 ++ a.0) (enq w.1 id.0 a.1)) amounts) (λ (k : ℕ × ℕ). let x : (ℕ × ℕ) × List Test = (k, []) in x) (λ (k : ℕ × ℕ). let w : List Test × Queue = ([], child_queue k) in w) (λ k. refl) (filter (λ k. is_named me k.0) (kids_at at)))
child_sent l at (holder side) id amounts =
    set_sent l id amounts (requesters at (holder side))
    ∙ ap (map (action_at l)) (same_spread (λ x. map (λ a. where_holds (x.1 ++ a.0) (enq (child_queue x.0) id.0 a.1)) amounts) (λ w. map (λ a. where_holds (w.0 ++ a.0) (enq w.1 id.0 a.1)) amounts) (λ (k : ℕ × ℕ). let x : (ℕ × ℕ) × List Test = (k, held_for at side k ∷ []) in x) (λ (k : ℕ × ℕ). let w : List Test × Queue = (held_for at side k ∷ [], child_queue k) in w) (λ k. refl) (kids_at at))

-- the children that a lock awaits
awaited_all : (l : Places) (xs : List ((ℕ × ℕ) × List Test)) → map (awaited_by l) (map (target_at l) xs) ≡ map (action_at l) (map (λ x. where_holds x.1 (put (awaits x.0.1) (number 1))) xs)
awaited_all l [] = refl
awaited_all l (x ∷ xs) = let rest = awaited_all l xs in λ i. awaited_by l (target_at l x) ∷ rest i

awaits_all : (l : Places) (at : Place) (who : Asker) (to : SendTo) (side : Side) → awaits_by l side (map (target_at l) (targets_at at who to)) ≡ map (action_at l) (await_actions at who to side)
awaits_all l at who to Up = refl
awaits_all l at who to Down = awaited_all l (targets_at at who to)

-- the lock that a rule takes
pub lock_joined : (l : Places) (p : Protocol) (at : Place) (me : Option ℕ) (rule : Rule) (side : Side) (by : Origin) (targets : List Target) → targets ≡ map (target_at l) (targets_at at (asker_of rule.take me) rule.send) → begun_by l at side (amount_at l (origin_amount at (asker_of rule.take me) by)) (amount_at l (id_in_hand p at rule.take rule.send)) ++ map (action_at l) (with_value at me rule.take (value_in_hand p rule.take rule.send) [] (put (lock side kept at.object))) ++ awaits_by l side targets ≡ map (action_at l) (lock_actions p at me rule (Some (side, by)))
lock_joined l p at me rule side by targets same =
    let who = asker_of rule.take me in
    let begun = begun_by l at side (amount_at l (origin_amount at who by)) (amount_at l (id_in_hand p at rule.take rule.send)) in
    let value = with_value at me rule.take (value_in_hand p rule.take rule.send) [] (put (lock side kept at.object)) in
    ap (λ ts. begun ++ map (action_at l) value ++ awaits_by l side ts) same
    ∙ ap (λ ts. begun ++ map (action_at l) value ++ ts) (awaits_all l at who rule.send side)
    ∙ ap (λ ts. begun ++ ts) (sym (map-append (action_at l) value (await_actions at who rule.send side)))
