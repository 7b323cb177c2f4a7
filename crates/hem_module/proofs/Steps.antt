-- The changes that a plan makes, one after another, are those of the step.
use Rattle.std.proofs.Common.{◌≡◌, ◌∙◌, subst, refl, sym, ap, ℕ, zero, suc, nat_eq, ◌==◌, ◌<◌, ◌+◌, ◌-◌, arith, Bool, true, false, ◌&&◌, ◌||◌, cond, List, [], ◌∷◌, ◌++◌, length, map, drop, take, get_or, Some, None, Option}
use Rattle.std.specs.Prelude.{slice_get, slice_set, unwrap_or}
use Rattle.std.specs.List.{list_any, IsDistinct, AllByRecursion}
use Rattle.std.proofs.lemmas.List.{append-nil, append_assoc, map-append, length-append, length-set}
use Rattle.std.proofs.lemmas.List.Folds.{list_any-append}
use Rattle.std.proofs.lemmas.List.Sums.{fold_more}
use Rattle.std.proofs.lemmas.Bool.{eqb-true, eq-eqb}
use Rattle.std.proofs.Math.Seq.{take-append_seam}
use Rattle.std.specs.Option.{option_map, option_map_or}
use Rattle.std.specs.Prelude.{is_some}
use Rattle.hem_base.specs.declared.ids.Message.{Message}
use Rattle.hem_module.specs.declared.plan.Write.{Write}
use Rattle.hem_module.specs.declared.plan.Sent.{Sent}
use Rattle.hem_module.specs.Module.{Item, Deed, deq, put, enq, Action}
use Rattle.hem_module.specs.Step.{Held, head_of, amount_in, is_done, put_by, number_after, takes_head, appended_by, loses_head, appended, queue_after, after_actions}
use Rattle.hem_module.specs.Places.{places}
use Rattle.hem_module.specs.States.{State, item_of, message_of, held_of, placed}
use Rattle.hem_module.specs.Plans.{write_by, sent_by, lost_by, writes_of, sends_of, losses_of, with_queues, queue_at, write_one, written, send_one, sent, lose_one, lost, unsend_one}
use Rattle.hem_module.proofs.Lists.{same_elements, get_placed_first}

-- what these writes leave in a register
abbrev number_by : ℕ → List Write → ℕ → ℕ
number_by i [] n = n
number_by i (w ∷ ws) n = number_by i ws (cond (i == w.register) w.number n)

-- maps over what may not be there
map_same : {A : Type 0} (o : Option A) → o ≡ option_map (λ y. y) o
map_same None = refl
map_same (Some x) = refl

map_twice : {A B C : Type 0} (g : B → C) (f : A → B) (o : Option A) → option_map g (option_map f o) ≡ option_map (λ x. g (f x)) o
map_twice g f None = refl
map_twice g f (Some x) = refl

-- tests of places
suc_zero : (i : ℕ) → (suc i == 0) ≡ false
suc_zero i = grind arith

zero_suc : (i : ℕ) → (0 == suc i) ≡ false
zero_suc i = grind arith

suc_suc : (i k : ℕ) → (suc i == suc k) ≡ (i == k)
suc_suc i k = grind arith

-- an element of a list with one set
get_set : {A : Type 0} (xs : List A) (k i : ℕ) (x : A) → slice_get (slice_set xs k x) i ≡ option_map (λ y. cond (i == k) x y) (slice_get xs i)
get_set [] k i x = refl
get_set (y ∷ xs) zero zero x = refl
get_set (y ∷ xs) zero (suc i) x = rw (suc_zero i) (map_same (slice_get xs i))
get_set (y ∷ xs) (suc k) zero x = rw (zero_suc k) refl
get_set (y ∷ xs) (suc k) (suc i) x = get_set xs k i x ∙ ap (λ b. option_map (λ z. cond b x z) (slice_get xs i)) (sym (suc_suc i k))

-- the registers after writes, by place
written_at : (rs : List ℕ) (ws : List Write) (i : ℕ) → slice_get (written rs ws) i ≡ option_map (number_by i ws) (slice_get rs i)
written_at rs [] i = map_same (slice_get rs i)
written_at rs (w ∷ ws) i =
    written_at (write_one rs w) ws i
    ∙ ap (option_map (number_by i ws)) (get_set rs w.register i w.number)
    ∙ map_twice (number_by i ws) (λ y. cond (i == w.register) w.number y) (slice_get rs i)

-- writes one after another
number_more : (i : ℕ) (ws vs : List Write) (n : ℕ) → number_by i (ws ++ vs) n ≡ number_by i vs (number_by i ws n)
number_more i [] vs n = refl
number_more i (w ∷ ws) vs n = number_more i ws vs (cond (i == w.register) w.number n)

-- the write of a deed
number_of_deed : (s : Held ℕ ℕ) (i : ℕ) (d : Deed ℕ ℕ) (n : ℕ) → number_by i (write_by s d) n ≡ put_by s (λ r. i == r) d n
number_of_deed s i (deq q) n = refl
number_of_deed s i (put r a) n = refl
number_of_deed s i (enq q id a) n = refl

-- the write of an action
number_of_action : (s : Held ℕ ℕ) (i : ℕ) (done : Bool) (d : Deed ℕ ℕ) (n : ℕ) → number_by i (cond done (write_by s d) []) n ≡ cond done (put_by s (λ r. i == r) d n) n
number_of_action s i true d n = number_of_deed s i d n
number_of_action s i false d n = refl

-- the writes of actions
number_of_actions : (s : Held ℕ ℕ) (i : ℕ) (actions : List (Action ℕ ℕ)) (n : ℕ) → number_by i (writes_of s actions) n ≡ number_after s (λ r. i == r) actions n
number_of_actions s i [] n = refl
number_of_actions s i (a ∷ actions) n =
    number_more i (cond (is_done s a) (write_by s a.deed) []) (writes_of s actions) n
    ∙ ap (number_by i (writes_of s actions)) (number_of_action s i (is_done s a) a.deed n)
    ∙ number_of_actions s i actions _

-- the registers after the writes of actions are those of the step
pub registers_after : (s : State) (actions : List (Action ℕ ℕ)) → written s.regs (writes_of (held_of s) actions) ≡ (placed s (after_actions places (held_of s) actions)).regs
registers_after s actions =
    let after = after_actions places (held_of s) actions in
    same_elements _ _ (λ i.
    written_at s.regs (writes_of (held_of s) actions) i
    ∙ register_at (held_of s) i actions (slice_get s.regs i)
    ∙ sym (get_placed_first (λ x. after.reg x.0) s.regs i))
  where
    register_at : (h : Held ℕ ℕ) (i : ℕ) (actions : List (Action ℕ ℕ)) (o : Option ℕ) → option_map (number_by i (writes_of h actions)) o ≡ option_map (λ x. number_after h (λ r. i == r) actions (unwrap_or o 0)) o
    register_at h i actions None = refl
    register_at h i actions (Some n) = ap Some (number_of_actions h i actions n)

-- the messages that go to a queue
abbrev sent_to : ℕ → List Sent → List Message
sent_to i [] = []
sent_to i (x ∷ sends) = cond (i == x.queue) (x.message ∷ []) [] ++ sent_to i sends

map_nothing_more : {A : Type 0} (o : Option (List A)) → o ≡ option_map (λ q. q ++ []) o
map_nothing_more None = refl
map_nothing_more (Some q) = ap Some (sym (append-nil q))

-- a queue where one gets a message, and where one loses its head
get_sent : (qs : List (List Message)) (k i : ℕ) (m : Message) → slice_get (slice_set qs k (queue_at qs k ++ m ∷ [])) i ≡ option_map (λ q. q ++ cond (i == k) (m ∷ []) []) (slice_get qs i)
get_sent [] k i m = refl
get_sent (q ∷ qs) zero zero m = refl
get_sent (q ∷ qs) zero (suc i) m = map_nothing_more (slice_get qs i) ∙ ap (λ b. option_map (λ (p : List Message). p ++ cond b (m ∷ []) []) (slice_get qs i)) (sym (suc_zero i))
get_sent (q ∷ qs) (suc k) zero m = ap Some (sym (append-nil q)) ∙ ap (λ b. Some (q ++ cond b (m ∷ []) [])) (sym (zero_suc k))
get_sent (q ∷ qs) (suc k) (suc i) m = get_sent qs k i m ∙ ap (λ b. option_map (λ (p : List Message). p ++ cond b (m ∷ []) []) (slice_get qs i)) (sym (suc_suc i k))

get_lost : (qs : List (List Message)) (k i : ℕ) → slice_get (slice_set qs k (drop 1 (queue_at qs k))) i ≡ option_map (drop (cond (i == k) 1 0)) (slice_get qs i)
get_lost [] k i = refl
get_lost (q ∷ qs) zero zero = refl
get_lost (q ∷ qs) zero (suc i) = map_same (slice_get qs i) ∙ ap (λ b. option_map (drop (cond b 1 0)) (slice_get qs i)) (sym (suc_zero i))
get_lost (q ∷ qs) (suc k) zero = ap (λ b. Some (drop (cond b 1 0) q)) (sym (zero_suc k))
get_lost (q ∷ qs) (suc k) (suc i) = get_lost qs k i ∙ ap (λ b. option_map (drop (cond b 1 0)) (slice_get qs i)) (sym (suc_suc i k))

-- the queues after messages are sent, by place
sent_at : (qs : List (List Message)) (sends : List Sent) (i : ℕ) → slice_get (sent qs sends) i ≡ option_map (λ q. q ++ sent_to i sends) (slice_get qs i)
sent_at qs [] i = map_nothing_more (slice_get qs i)
sent_at qs (x ∷ sends) i =
    sent_at (send_one qs x) sends i
    ∙ ap (option_map (λ q. q ++ sent_to i sends)) (get_sent qs x.queue i x.message)
    ∙ map_twice (λ q. q ++ sent_to i sends) (λ q. q ++ cond (i == x.queue) (x.message ∷ []) []) (slice_get qs i)
    ∙ ap (λ f. option_map f (slice_get qs i)) (λ j q. append_assoc q (cond (i == x.queue) (x.message ∷ []) []) (sent_to i sends) j)

-- a number is none of these, where each is another
none_same : (k : ℕ) (ks : List ℕ) → AllByRecursion (λ y. nat_eq k y ≡ false) ks → list_any (nat_eq k) ks ≡ false
none_same k [] others = refl
none_same k (y ∷ ks) others = rw (others.0) (none_same k ks others.1)

-- two losses, of which one is none
lost_twice : (b a : Bool) → (b ≡ true → a ≡ false) → (o : Option (List Message)) → option_map (drop (cond a 1 0)) (option_map (drop (cond b 1 0)) o) ≡ option_map (drop (cond (b || a) 1 0)) o
lost_twice b a alone None = refl
lost_twice true true alone (Some q) = absurd (let clash : true ≡ false = alone refl in cc clash)
lost_twice true false alone (Some q) = refl
lost_twice false a alone (Some q) = refl

-- the queues after these lose their heads, by place
lost_at : (qs : List (List Message)) (ks : List ℕ) (i : ℕ) → IsDistinct nat_eq ks → slice_get (lost qs ks) i ≡ option_map (drop (cond (list_any (nat_eq i) ks) 1 0)) (slice_get qs i)
unfolding IsDistinct
lost_at qs [] i apart = map_same (slice_get qs i)
lost_at qs (k ∷ ks) i apart =
    let alone : (i == k) ≡ true → list_any (nat_eq i) ks ≡ false = λ h. rw (eqb-true i k h) (none_same k ks apart.0) in
    lost_at (lose_one qs k) ks i apart.1
    ∙ ap (option_map (drop (cond (list_any (nat_eq i) ks) 1 0))) (get_lost qs k i)
    ∙ lost_twice (i == k) (list_any (nat_eq i) ks) alone (slice_get qs i)

-- whether a queue is among these once one more is
among_one : (i k : ℕ) (ks : List ℕ) (b : Bool) → list_any (nat_eq k) ks ≡ b → list_any (nat_eq i) (cond b ks (ks ++ k ∷ [])) ≡ (list_any (nat_eq i) ks || nat_eq i k)
among_one i k ks false h = list_any-append (nat_eq i) ks (k ∷ []) ∙ ap (λ b. list_any (nat_eq i) ks || b) (or_false (nat_eq i k))
  where
    or_false : (b : Bool) → (b || false) ≡ b
    or_false true = refl
    or_false false = refl
among_one i k ks true h = there (nat_eq i k) refl
  where
    there : (b : Bool) → nat_eq i k ≡ b → list_any (nat_eq i) ks ≡ (list_any (nat_eq i) ks || b)
    there true e = let all : list_any (nat_eq i) ks ≡ true = rw (eqb-true i k e) h in rw all refl
    there false e = or_true (list_any (nat_eq i) ks)
      where
        or_true : (b : Bool) → b ≡ (b || false)
        or_true true = refl
        or_true false = refl

-- whether a queue is among these once more are
among_all : (i : ℕ) (xs ks : List ℕ) → list_any (nat_eq i) (with_queues ks xs) ≡ (list_any (nat_eq i) ks || list_any (nat_eq i) xs)
among_all i [] ks = or_none (list_any (nat_eq i) ks)
  where
    or_none : (b : Bool) → b ≡ (b || false)
    or_none true = refl
    or_none false = refl
among_all i (x ∷ xs) ks =
    among_all i xs _
    ∙ ap (λ b. b || list_any (nat_eq i) xs) (among_one i x ks _ refl)
    ∙ or_assoc (list_any (nat_eq i) ks) (nat_eq i x) (list_any (nat_eq i) xs)
  where
    or_assoc : (a b c : Bool) → ((a || b) || c) ≡ (a || (b || c))
    or_assoc true b c = refl
    or_assoc false b c = refl

-- the queue that an action lets lose its head
lost_of_deed : (s : Held ℕ ℕ) (i : ℕ) (d : Deed ℕ ℕ) → list_any (nat_eq i) (lost_by s d) ≡ (takes_head (λ q. i == q) d && is_some (head_of s i))
lost_of_deed s i (put r a) = refl
lost_of_deed s i (enq q id a) = refl
lost_of_deed s i (deq q) = here (i == q) refl
  where
    at : (o : Option Item) → list_any (nat_eq q) (option_map_or (λ m. q ∷ []) o []) ≡ is_some o
    at None = refl
    at (Some m) = let same : nat_eq q q ≡ true = eq-eqb q q refl in rw same refl

    not_at : nat_eq i q ≡ false → (o : Option Item) → list_any (nat_eq i) (option_map_or (λ m. q ∷ []) o []) ≡ false
    not_at e None = refl
    not_at e (Some m) = rw e refl

    here : (b : Bool) → (i == q) ≡ b → list_any (nat_eq i) (lost_by s (deq q)) ≡ (b && is_some (head_of s i))
    here true e = rw (eqb-true i q e) (at (head_of s q))
    here false e = not_at e (head_of s q)

-- the queues that actions let lose their heads
lost_of_actions : (s : Held ℕ ℕ) (i : ℕ) (actions : List (Action ℕ ℕ)) → list_any (nat_eq i) (losses_of s actions) ≡ (loses_head s (λ q. i == q) actions && is_some (head_of s i))
lost_of_actions s i [] = refl
lost_of_actions s i (a ∷ actions) =
    list_any-append (nat_eq i) (cond (is_done s a) (lost_by s a.deed) []) (losses_of s actions)
    ∙ ap (λ b. b || list_any (nat_eq i) (losses_of s actions)) (one (is_done s a))
    ∙ ap (λ b. ((is_done s a && takes_head (λ q. i == q) a.deed) && is_some (head_of s i)) || b) (lost_of_actions s i actions)
    ∙ apart (is_done s a && takes_head (λ q. i == q) a.deed) (loses_head s (λ q. i == q) actions) (is_some (head_of s i))
  where
    one : (done : Bool) → list_any (nat_eq i) (cond done (lost_by s a.deed) []) ≡ ((done && takes_head (λ q. i == q) a.deed) && is_some (head_of s i))
    one true = lost_of_deed s i a.deed
    one false = refl

    apart : (a b c : Bool) → ((a && c) || (b && c)) ≡ ((a || b) && c)
    apart true true true = refl
    apart true true false = refl
    apart true false true = refl
    apart true false false = refl
    apart false b c = refl

-- the messages that actions send to a queue
sent_of_actions : (s : Held ℕ ℕ) (i : ℕ) (actions : List (Action ℕ ℕ)) → sent_to i (sends_of s actions) ≡ map message_of (appended s (λ q. i == q) actions)
sent_of_actions s i [] = refl
sent_of_actions s i (a ∷ actions) =
    sent_to-append (cond (is_done s a) (sent_by s a.deed) []) (sends_of s actions)
    ∙ ap (λ (ms : List Message). ms ++ sent_to i (sends_of s actions)) (one (is_done s a) a.deed)
    ∙ ap (λ (ms : List Message). map message_of (cond (is_done s a) (appended_by s (λ q. i == q) a.deed) []) ++ ms) (sent_of_actions s i actions)
    ∙ sym (map-append message_of (cond (is_done s a) (appended_by s (λ q. i == q) a.deed) []) (appended s (λ q. i == q) actions))
  where
    sent_to-append : (xs ys : List Sent) → sent_to i (xs ++ ys) ≡ sent_to i xs ++ sent_to i ys
    sent_to-append [] ys = refl
    sent_to-append (x ∷ xs) ys =
        ap (λ (ms : List Message). cond (i == x.queue) (x.message ∷ []) [] ++ ms) (sent_to-append xs ys)
        ∙ sym (append_assoc (cond (i == x.queue) (x.message ∷ []) []) (sent_to i xs) (sent_to i ys))

    at : (b : Bool) (x : Item) → (cond b (message_of x ∷ []) [] ++ []) ≡ map message_of (cond b (x ∷ []) [])
    at true x = refl
    at false x = refl

    one : (done : Bool) (d : Deed ℕ ℕ) → sent_to i (cond done (sent_by s d) []) ≡ map message_of (cond done (appended_by s (λ q. i == q) d) [])
    one false d = refl
    one true (deq q) = refl
    one true (put r n) = refl
    one true (enq q id n) = at (i == q) (record { id = id; value = amount_in s n })

-- messages as items and back, before others
back : (ms : List Message) (items : List Item) → map message_of (map item_of ms ++ items) ≡ ms ++ map message_of items
back [] items = refl
back (m ∷ ms) items = ap (λ (rest : List Message). m ∷ rest) (back ms items)

-- a queue that may lose its head before others come
queue_left : (loses : Bool) (ms : List Message) (items : List Item) → drop (cond (loses && is_some (slice_get (map item_of ms) 0)) 1 0) (ms ++ map message_of items) ≡ map message_of (drop (cond loses 1 0) (map item_of ms) ++ items)
queue_left true [] items = refl
queue_left true (m ∷ ms) items = sym (back ms items)
queue_left false ms items = sym (back ms items)

-- the queues after the messages and losses of actions are those of the step
pub queues_after : (s : State) (actions : List (Action ℕ ℕ)) → IsDistinct nat_eq (with_queues [] (losses_of (held_of s) actions)) → lost (sent s.queues (sends_of (held_of s) actions)) (with_queues [] (losses_of (held_of s) actions)) ≡ (placed s (after_actions places (held_of s) actions)).queues
queues_after s actions apart =
    let h = held_of s in
    let after = after_actions places h actions in
    let losses = with_queues [] (losses_of h actions) in
    same_elements _ _ (λ i.
    lost_at (sent s.queues (sends_of h actions)) losses i apart
    ∙ ap (option_map (drop (cond (list_any (nat_eq i) losses) 1 0))) (sent_at s.queues (sends_of h actions) i)
    ∙ queue_at_place h i actions (slice_get s.queues i) refl
    ∙ sym (get_placed_first (λ x. map message_of (after.queue x.0)) s.queues i))
  where
    queue_at_place : (h : Held ℕ ℕ) (i : ℕ) (actions : List (Action ℕ ℕ)) (o : Option (List Message)) → h.queue i ≡ map item_of (unwrap_or o [])
        → option_map (drop (cond (list_any (nat_eq i) (with_queues [] (losses_of h actions))) 1 0)) (option_map (λ q. q ++ sent_to i (sends_of h actions)) o) ≡ option_map (λ x. map message_of (queue_after h (λ q. i == q) actions (h.queue i))) o
    queue_at_place h i actions None held = refl
    queue_at_place h i actions (Some ms) held =
        let loses = loses_head h (λ q. i == q) actions in
        let any : list_any (nat_eq i) (with_queues [] (losses_of h actions)) ≡ (loses && is_some (slice_get (map item_of ms) 0)) = among_all i (losses_of h actions) [] ∙ lost_of_actions h i actions ∙ ap (λ (q : List Item). loses && is_some (slice_get q 0)) held in
        let moved = queue_left loses ms (appended h (λ q. i == q) actions) in
        ap Some (
        ap (λ b. drop (cond b 1 0) (ms ++ sent_to i (sends_of h actions))) any
        ∙ ap (λ (rest : List Message). drop (cond (loses && is_some (slice_get (map item_of ms) 0)) 1 0) (ms ++ rest)) (sent_of_actions h i actions)
        ∙ moved
        ∙ ap (λ (q : List Item). map message_of (drop (cond loses 1 0) q ++ appended h (λ q. i == q) actions)) (sym held))

-- the last message taken back
take_last : (ms : List Message) (m : Message) → take (length (ms ++ m ∷ []) - 1) (ms ++ m ∷ []) ≡ ms
take_last ms m =
    let e : length (ms ++ m ∷ []) - 1 ≡ length ms = rw (length-append ms (m ∷ [])) (omega arith) in
    ap (λ n. take n (ms ++ m ∷ [])) e ∙ take-append_seam ms (m ∷ [])

-- a message sent and taken back
unsend_sent : (qs : List (List Message)) (k : ℕ) (m : Message) → k < length qs → unsend_one (slice_set qs k (queue_at qs k ++ m ∷ [])) k ≡ qs
unsend_sent [] k m within = absurd (omega arith)
unsend_sent (q ∷ qs) zero m within = ap (λ (p : List Message). p ∷ qs) (take_last q m)
unsend_sent (q ∷ qs) (suc k) m within = ap (λ (rest : List (List Message)). q ∷ rest) (unsend_sent qs k m (omega arith))

-- the last of the messages that were sent taken back
pub unsent : (before qs : List (List Message)) (sends : List Sent) (p : ℕ) (d : Sent) → p < length sends → qs ≡ sent before (take (p + 1) sends) → (get_or sends p d).queue < length qs → unsend_one qs (get_or sends p d).queue ≡ sent before (take p sends)
unsent before qs sends p d within h there =
    let x = get_or sends p d in
    let e : qs ≡ send_one (sent before (take p sends)) x = h ∙ fold_more send_one before sends p d within in
    let inside : x.queue < length (sent before (take p sends)) = rw (e, length-set (sent before (take p sends)) x.queue (queue_at (sent before (take p sends)) x.queue ++ x.message ∷ [])) at there in
    ap (λ z. unsend_one z x.queue) e ∙ unsend_sent (sent before (take p sends)) x.queue x.message inside

-- a state that is left by these writes, messages and losses is that of the step
pub made : (s new : State) (actions : List (Action ℕ ℕ)) (writes : List Write) (sends : List Sent) (losses : List ℕ)
    → writes ≡ writes_of (held_of s) actions → sends ≡ sends_of (held_of s) actions → losses ≡ with_queues [] (losses_of (held_of s) actions) → IsDistinct nat_eq losses
    → new.regs ≡ written s.regs writes → new.queues ≡ lost (sent s.queues sends) losses
    → new ≡ placed s (after_actions places (held_of s) actions)
made s new actions writes sends losses ws ss ls apart regs queues =
    let at_regs = regs ∙ ap (written s.regs) ws ∙ registers_after s actions in
    let at_queues = queues ∙ ap (λ x. lost (sent s.queues x) losses) ss ∙ ap (λ x. lost (sent s.queues (sends_of (held_of s) actions)) x) ls ∙ queues_after s actions (subst (IsDistinct nat_eq) ls apart) in
    λ i. record { regs = at_regs i; queues = at_queues i }
