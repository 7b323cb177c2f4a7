-- What a firing takes from and sends to the lists of the edges above and below, in numbers.
use Rattle.std.proofs.Common.{◌≡◌, refl, ap, sym, ◌∙◌, ℕ, ◌+◌, ◌≤◌, Bool, true, false, ◌&&◌, cond, List, arith, Option, Some, None}
use Rattle.std.specs.Prelude.{◌==◌, slice_get}
use Rattle.std.specs.Option.{option_map_or}
use Rattle.std.proofs.lemmas.Bool.{eqb-true}
use Rattle.hem_base.specs.Sets.{has_bit}
use Rattle.hem_base.specs.declared.ids.KidSet.{KidSet}
use Rattle.hem_base.specs.declared.ids.Kind.{Kind}
use Rattle.hem_base.specs.declared.ids.Message.{Message}
use Rattle.hem_template.specs.declared.template_name.TemplateName.{TemplateName}
use Rattle.hem_object.specs.declared.state.By.{By}
use Rattle.hem_object.specs.declared.state.By.TheVariants.{Processor, Kid, Parent, Own}
use Rattle.hem_object.specs.declared.state.Lock.{Lock}
use Rattle.hem_syntax.specs.Protocol.{Protocol}
use Rattle.hem_object.specs.Local.{Local, nobody}
use Rattle.hem_template.specs.Template.{row_of, is_leaf}
use Rattle.hem_template.specs.declared.row.Taking.{Taking}
use Rattle.hem_template.specs.declared.row.Sending.{Sending}
use Rattle.hem_template.specs.declared.row.Taking.TheVariants.{NothingTaken, FromRequester, ParentRequest, ParentResponse, FromKids}
use Rattle.hem_template.specs.declared.row.Sending.TheVariants.{NothingSent, ToRequester, RequestUp, ResponseUp, ToOthers, ToKids}
use Rattle.hem_fire.specs.declared.outs.To.{To}
use Rattle.hem_fire.specs.declared.outs.To.TheVariants as to
use Rattle.hem_fire.specs.declared.outs.Outs.{Outs}
use Rattle.hem_fire.specs.Heads.{Heads}
use Rattle.hem_fire.specs.Sends.{to_requester}
use Rattle.hem_rows.specs.Acts.{is_down_request, is_down_response, requester_of, takes_me, takes_parent, takes_kids, AreHeads, GoesToKids, IsSent, Acts}
use Rattle.hem_locks.specs.Edges.{one_if, is_kid, for_kid, for_parent, held, awaits}
use Rattle.hem_rows.proofs.Bits.{no_bit}
use Rattle.hem_locks.proofs.Counts.{head_counts, not_both}
use Rattle.hem_locks.proofs.Numbers.{requests_taken, responses_taken, answers_sent, asks_sent, new_for_kid, new_for_parent, Sparing, Above, above_adds, answers_taken, asks_taken, requests_sent, responses_sent, Below, below_adds}
use Rattle.hem_locks.proofs.LockNumbers.{asked_of, one_if-few, asked_of-few, held-few, up_number-is, down_number-is, taken-for_kid, taken-for_parent, taken-held, taken-awaits, needed-kid, needed-parent, needed-held, needed-awaiting, requester-no_parent, requester-asking}

-- whether a message goes to the child at that place
abbrev pub reaches_kid : ℕ → To → Bool
reaches_kid c (to.Kid d) = c == d
reaches_kid c (to.Kids set) = has_bit set.0 c
reaches_kid c _ = false

-- whether it goes up, as a request or as a response
abbrev pub is_up_request : To → Bool
is_up_request to.UpRequest = true
is_up_request _ = false

abbrev pub is_up_response : To → Bool
is_up_response to.UpResponse = true
is_up_response _ = false

-- whether the child at that place is the one that a firing names
abbrev pub is_me : ℕ → Option ℕ → Bool
is_me c me = option_map_or (λ d. c == d) me false

-- the numbers of what is sent down to a child
record SentDown (p : Protocol) (c : ℕ) (sending : Sending) (asked : Option By) (targets : KidSet) (outs : Outs) : Type 0 where
  answers : cond (reaches_kid c outs.to) (one_if (is_down_response p outs.message)) 0 ≡ answers_sent sending (asked_of c asked)
  asks : cond (reaches_kid c outs.to) (one_if (is_down_request p outs.message)) 0 ≡ asks_sent sending (one_if (has_bit targets.0 c))
  known : cond (reaches_kid c outs.to) (one_if (is_down_response p outs.message)) 0 + cond (reaches_kid c outs.to) (one_if (is_down_request p outs.message)) 0 ≡ one_if (reaches_kid c outs.to)

nothing_down : (answers asks : ℕ) (b : Bool) → b ≡ false → (cond b answers 0 ≡ 0) × (cond b asks 0 ≡ 0) × (cond b answers 0 + cond b asks 0 ≡ one_if b)
nothing_down answers asks true is = cc
nothing_down answers asks false is = (refl, refl, refl)

-- a response that is sent where a test passes, and a request
as_response : (p : Protocol) (m : Message) (b : Bool) → is_down_response p m ≡ true → (cond b (one_if (is_down_response p m)) 0 ≡ one_if b) × (cond b (one_if (is_down_request p m)) 0 ≡ 0)
as_response p m true is = let one : one_if (is_down_response p m) ≡ 1 = rw is refl in (one, omega (arith, one, not_both p m))
as_response p m false is = (refl, refl)

as_request : (p : Protocol) (m : Message) (b : Bool) → is_down_request p m ≡ true → (cond b (one_if (is_down_response p m)) 0 ≡ 0) × (cond b (one_if (is_down_request p m)) 0 ≡ one_if b)
as_request p m true is = let one : one_if (is_down_request p m) ≡ 1 = rw is refl in (omega (arith, one, not_both p m), one)
as_request p m false is = (refl, refl)

to_requester-kid : (c : ℕ) (by : By) → one_if (reaches_kid c (to_requester (Some by))) ≡ is_kid c by
to_requester-kid c Processor = refl
to_requester-kid c (Kid d) = refl
to_requester-kid c Parent = refl
to_requester-kid c Own = refl

kids-down : (p : Protocol) (c : ℕ) (targets : KidSet) (outs : Outs) → GoesToKids p targets outs → (cond (reaches_kid c outs.to) (one_if (is_down_response p outs.message)) 0 ≡ 0) × (cond (reaches_kid c outs.to) (one_if (is_down_request p outs.message)) 0 ≡ one_if (has_bit targets.0 c)) × (one_if (reaches_kid c outs.to) ≡ one_if (has_bit targets.0 c))
kids-down p c targets outs sent =
    let it = as_request p outs.message (reaches_kid c outs.to) sent.request in
    let reached : one_if (reaches_kid c outs.to) ≡ one_if (has_bit targets.0 c) = ap (λ (t : To). one_if (reaches_kid c t)) sent.goes in
    (it.0, it.1 ∙ reached, reached)

sent_down : (p : Protocol) (kind : Kind) (c : ℕ) (sending : Sending) (asked : Option By) (targets : KidSet) (outs : Outs) → is_leaf kind ≡ false → IsSent p kind sending asked targets outs → SentDown p c sending asked targets outs
sent_down p kind c NothingSent asked targets outs no_leaf sent = let it = nothing_down (one_if (is_down_response p outs.message)) (one_if (is_down_request p outs.message)) (reaches_kid c outs.to) (ap (reaches_kid c) sent) in record { answers = it.0; asks = it.1; known = it.2 }
sent_down p kind c RequestUp asked targets outs no_leaf sent = let it = nothing_down (one_if (is_down_response p outs.message)) (one_if (is_down_request p outs.message)) (reaches_kid c outs.to) (ap (reaches_kid c) sent.goes) in record { answers = it.0; asks = it.1; known = it.2 }
sent_down p kind c ResponseUp asked targets outs no_leaf sent = let it = nothing_down (one_if (is_down_response p outs.message)) (one_if (is_down_request p outs.message)) (reaches_kid c outs.to) (ap (reaches_kid c) sent.goes) in record { answers = it.0; asks = it.1; known = it.2 }
sent_down p kind c ToRequester asked targets outs no_leaf sent =
    let it = as_response p outs.message (reaches_kid c outs.to) (sent.response no_leaf) in
    let reached : one_if (reaches_kid c outs.to) ≡ asked_of c asked = ap (λ (t : To). one_if (reaches_kid c t)) sent.goes ∙ to_requester-kid c sent.by ∙ sym (ap (asked_of c) sent.asker) in
    record { answers = it.0 ∙ reached; asks = it.1; known = omega (arith, it.0, it.1) }
sent_down p kind c ToOthers asked targets outs no_leaf sent = let it = kids-down p c targets outs sent.kids in record { answers = it.0; asks = it.1; known = omega (arith, it.0, it.1, it.2) }
sent_down p kind c ToKids asked targets outs no_leaf sent = let it = kids-down p c targets outs sent in record { answers = it.0; asks = it.1; known = omega (arith, it.0, it.1, it.2) }

-- the requester isn't among the others
sparing : (p : Protocol) (kind : Kind) (c : ℕ) (sending : Sending) (asked : Option By) (targets : KidSet) (outs : Outs) → IsSent p kind sending asked targets outs → Sparing sending (asked_of c asked) (one_if (has_bit targets.0 c))
sparing p kind c NothingSent asked targets outs sent = tt
sparing p kind c ToRequester asked targets outs sent = tt
sparing p kind c RequestUp asked targets outs sent = tt
sparing p kind c ResponseUp asked targets outs sent = tt
sparing p kind c ToKids asked targets outs sent = tt
sparing p kind c ToOthers asked targets outs sent = let is : asked_of c asked ≡ is_kid c sent.by = ap (asked_of c) sent.asker in omega (arith, is, by_holder sent.by sent.spares)
  where
    target : ℕ
    target = one_if (has_bit targets.0 c)

    by_place : (b : Bool) → (b ≡ true → has_bit targets.0 c ≡ false) → one_if b + target ≤ 1
    by_place false spares = omega (arith, one_if-few (has_bit targets.0 c))
    by_place true spares = let none : target ≡ 0 = ap one_if (spares refl) in omega (arith, none)

    by_holder : (by : By) → ((d : ℕ) → by ≡ Kid d → has_bit targets.0 d ≡ false) → is_kid c by + target ≤ 1
    by_holder Processor spares = omega (arith, one_if-few (has_bit targets.0 c))
    by_holder Parent spares = omega (arith, one_if-few (has_bit targets.0 c))
    by_holder Own spares = omega (arith, one_if-few (has_bit targets.0 c))
    by_holder (Kid d) spares = by_place (c == d) (λ same. let is : c ≡ d = eqb-true c d same in rw is (spares d refl))

-- the child's request is taken where the child is the requester
me_taken : (c : ℕ) (taking : Taking) (me : Option ℕ) (local : Local) (outs : Outs) → outs.taken_request ≡ takes_me taking → one_if (outs.taken_request && is_me c me) ≡ requests_taken taking (asked_of c (requester_of taking me local))
me_taken c NothingTaken me local outs is = rw is refl
me_taken c FromRequester None local outs is = rw is refl
me_taken c FromRequester (Some d) local outs is = rw is refl
me_taken c ParentRequest me local outs is = rw is refl
me_taken c ParentResponse me local outs is = rw is refl
me_taken c FromKids me local outs is = rw is refl

-- the child's response is taken where the child is awaited
kids_taken : (c : ℕ) (taking : Taking) (local : Local) (outs : Outs) → outs.taken_kids ≡ takes_kids taking local → one_if (has_bit outs.taken_kids.0 c) ≡ responses_taken taking (awaits c local.down)
kids_taken c NothingTaken local outs is = ap (λ (s : KidSet). one_if (has_bit s.0 c)) is ∙ ap one_if (no_bit c)
kids_taken c FromRequester local outs is = ap (λ (s : KidSet). one_if (has_bit s.0 c)) is ∙ ap one_if (no_bit c)
kids_taken c ParentRequest local outs is = ap (λ (s : KidSet). one_if (has_bit s.0 c)) is ∙ ap one_if (no_bit c)
kids_taken c ParentResponse local outs is = ap (λ (s : KidSet). one_if (has_bit s.0 c)) is ∙ ap one_if (no_bit c)
kids_taken c FromKids local outs is = ap (λ (s : KidSet). one_if (has_bit s.0 c)) is ∙ by_lock local.down
  where
    by_lock : (lock : Option Lock) → one_if (has_bit (option_map_or (λ lock. lock.awaited) lock nobody).0 c) ≡ awaits c lock
    by_lock None = ap one_if (no_bit c)
    by_lock (Some lock) = refl

-- what a firing changes at the edge to the child at that place
pub record SumsAbove (p : Protocol) (c : ℕ) (me : Option ℕ) (local after : Local) (outs : Outs) : Type 0 where
  pub uplock : cond (reaches_kid c outs.to) (one_if (is_down_response p outs.message)) 0 + for_kid c after.up + for_kid c after.down ≡ one_if (outs.taken_request && is_me c me) + for_kid c local.up + for_kid c local.down
  pub downlock : cond (reaches_kid c outs.to) (one_if (is_down_request p outs.message)) 0 + awaits c local.down ≡ one_if (has_bit outs.taken_kids.0 c) + awaits c after.down
  pub known : cond (reaches_kid c outs.to) (one_if (is_down_response p outs.message)) 0 + cond (reaches_kid c outs.to) (one_if (is_down_request p outs.message)) 0 ≡ one_if (reaches_kid c outs.to)
  pub behind : cond (reaches_kid c outs.to) (one_if (is_down_response p outs.message)) 0 + awaits c local.down ≤ 1
  pub spared : for_kid c after.down + awaits c after.down ≤ 1

pub sums_above : (p : Protocol) (kind : Kind) (t : TemplateName) (c : ℕ) (me : Option ℕ) (local : Local) (heads : Heads) (after : Local) (outs : Outs) → is_leaf kind ≡ false → for_kid c local.down + awaits c local.down ≤ 1 → Acts p kind (row_of t) me local heads after outs → SumsAbove p c me local after outs
sums_above p kind t c me local heads after outs no_leaf few acts =
    let row = row_of t in
    let asked = requester_of row.taking me local in
    let target = one_if (has_bit acts.targets.0 c) in
    let sent = sent_down p kind c row.sending asked acts.targets outs no_leaf acts.sent in
    let numbers : Above row (for_kid c local.up) (for_kid c local.down) (awaits c local.down) (asked_of c asked) target (for_kid c after.up) (for_kid c after.down) (awaits c after.down) = record {
      up_need = needed-kid c row.up local.up acts.up_before;
      down_need = needed-kid c row.down local.down acts.down_before;
      awaited_need = needed-awaiting c row.down local.down acts.down_before;
      asking = requester-asking c row.taking me local;
      sparing = sparing p kind c row.sending asked acts.targets outs acts.sent;
      few_asked = asked_of-few c asked;
      few_targets = one_if-few (has_bit acts.targets.0 c);
      few_awaited = few;
      up_after = up_number-is (for_kid c) (new_for_kid (asked_of c asked)) row.frees row.locks asked local.up after.up refl (λ o. taken-for_kid c asked nobody after.up o) acts.up_after;
      down_after = down_number-is (for_kid c) (new_for_kid (asked_of c asked)) row.frees row.locks asked acts.targets local.down after.down refl (λ o. taken-for_kid c asked acts.targets after.down o) acts.down_after;
      awaited_after = down_number-is (awaits c) (λ o. target) row.frees row.locks asked acts.targets local.down after.down refl (λ o. taken-awaits c asked acts.targets after.down o) acts.down_after;
    } in
    let adds = above_adds t (for_kid c local.up) (for_kid c local.down) (awaits c local.down) (asked_of c asked) target (for_kid c after.up) (for_kid c after.down) (awaits c after.down) numbers in
    record {
      uplock = ap (λ n. n + for_kid c after.up + for_kid c after.down) sent.answers ∙ adds.uplock ∙ sym (ap (λ n. n + for_kid c local.up + for_kid c local.down) (me_taken c row.taking me local outs acts.taken_request));
      downlock = ap (λ n. n + awaits c local.down) sent.asks ∙ adds.downlock ∙ sym (ap (λ n. n + awaits c after.down) (kids_taken c row.taking local outs acts.taken_kids));
      known = sent.known;
      behind = rw sent.answers adds.behind;
      spared = adds.spared;
    }

-- the parent's message that is taken
parent_taken : (p : Protocol) (taking : Taking) (local : Local) (heads : Heads) (taken : Bool) (down : List Message) → taken ≡ takes_parent taking → slice_get down 0 ≡ heads.parent → AreHeads p taking local heads → (head_counts (is_down_response p) taken down ≡ answers_taken taking) × (head_counts (is_down_request p) taken down ≡ asks_taken taking)
parent_taken p NothingTaken local heads taken down is head there = (rw is refl, rw is refl)
parent_taken p FromRequester local heads taken down is head there = (rw is refl, rw is refl)
parent_taken p FromKids local heads taken down is head there = (rw is refl, rw is refl)
parent_taken p ParentRequest local heads taken down is head there =
    let m = there.0 in
    let at : slice_get down 0 ≡ Some m = head ∙ there.1 in
    let one : one_if (is_down_request p m) ≡ 1 = ap one_if there.2 in
    let none : one_if (is_down_response p m) ≡ 0 = omega (arith, one, not_both p m) in
    (rw (is, at) none, rw (is, at) one)
parent_taken p ParentResponse local heads taken down is head there =
    let m = there.0 in
    let at : slice_get down 0 ≡ Some m = head ∙ there.1 in
    let one : one_if (is_down_response p m) ≡ 1 = ap one_if there.2 in
    let none : one_if (is_down_request p m) ≡ 0 = omega (arith, one, not_both p m) in
    (rw (is, at) one, rw (is, at) none)

-- what goes up
pub to_requester-up : (by : By) → (is_up_request (to_requester (Some by)) ≡ false) × (is_up_response (to_requester (Some by)) ≡ false)
to_requester-up Processor = (refl, refl)
to_requester-up (Kid d) = (refl, refl)
to_requester-up Parent = (refl, refl)
to_requester-up Own = (refl, refl)

sent_up : (p : Protocol) (kind : Kind) (sending : Sending) (asked : Option By) (targets : KidSet) (outs : Outs) → IsSent p kind sending asked targets outs → (one_if (is_up_request outs.to) ≡ requests_sent sending) × (one_if (is_up_response outs.to) ≡ responses_sent sending)
sent_up p kind NothingSent asked targets outs sent = (rw sent refl, rw sent refl)
sent_up p kind ToRequester asked targets outs sent = let it = to_requester-up sent.by in (ap (λ (t : To). one_if (is_up_request t)) sent.goes ∙ ap one_if it.0, ap (λ (t : To). one_if (is_up_response t)) sent.goes ∙ ap one_if it.1)
sent_up p kind RequestUp asked targets outs sent = (rw sent.goes refl, rw sent.goes refl)
sent_up p kind ResponseUp asked targets outs sent = (rw sent.goes refl, rw sent.goes refl)
sent_up p kind ToOthers asked targets outs sent = (rw sent.kids.goes refl, rw sent.kids.goes refl)
sent_up p kind ToKids asked targets outs sent = (rw sent.goes refl, rw sent.goes refl)

-- what a firing changes at the edge to its parent
pub record SumsBelow (p : Protocol) (local after : Local) (outs : Outs) (down : List Message) : Type 0 where
  pub uplock : one_if (is_up_request outs.to) + held local.up ≡ head_counts (is_down_response p) outs.taken_parent down + held after.up
  pub downlock : one_if (is_up_response outs.to) + for_parent after.down ≡ head_counts (is_down_request p) outs.taken_parent down + for_parent local.down
  pub single : held after.up + held after.down ≤ 1 + for_parent after.down

pub sums_below : (p : Protocol) (kind : Kind) (t : TemplateName) (me : Option ℕ) (local : Local) (heads : Heads) (after : Local) (outs : Outs) (down : List Message) → slice_get down 0 ≡ heads.parent → Acts p kind (row_of t) me local heads after outs → SumsBelow p local after outs down
sums_below p kind t me local heads after outs down head acts =
    let row = row_of t in
    let asked = requester_of row.taking me local in
    let numbers : Below row (held local.up) (held local.down) (for_parent local.down) (held after.up) (held after.down) (for_parent after.down) = record {
      up_need = needed-held row.up local.up acts.up_before;
      down_need = needed-held row.down local.down acts.down_before;
      parent_need = needed-parent row.down local.down acts.down_before;
      few = held-few local.up;
      up_after = up_number-is held (λ o. 1) row.frees row.locks asked local.up after.up refl (λ o. taken-held asked nobody after.up o) acts.up_after;
      down_after = down_number-is held (λ o. 1) row.frees row.locks asked acts.targets local.down after.down refl (λ o. taken-held asked acts.targets after.down o) acts.down_after;
      parent_after = down_number-is for_parent new_for_parent row.frees row.locks asked acts.targets local.down after.down refl (λ o. taken-for_parent asked acts.targets after.down o (requester-no_parent row.taking me local)) acts.down_after;
    } in
    let adds = below_adds t (held local.up) (held local.down) (for_parent local.down) (held after.up) (held after.down) (for_parent after.down) numbers in
    let taken = parent_taken p row.taking local heads outs.taken_parent down acts.taken_parent head acts.there in
    let sent = sent_up p kind row.sending asked acts.targets outs acts.sent in
    record {
      uplock = ap (λ n. n + held local.up) sent.0 ∙ adds.uplock ∙ sym (ap (λ n. n + held after.up) taken.0);
      downlock = ap (λ n. n + for_parent after.down) sent.1 ∙ adds.downlock ∙ sym (ap (λ n. n + for_parent local.down) taken.1);
      single = adds.single;
    }
