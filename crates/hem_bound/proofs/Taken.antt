-- The weight of what a firing takes and sends, by the row of its rule's template.
use Rattle.std.proofs.Common.{◌≡◌, refl, ap, sym, ◌∙◌, ℕ, ◌+◌, ◌*◌, ◌≤◌, ◌<◌, length, Bool, true, false, ◌&&◌, cond, arith, Option, Some, None, ◌≢◌, inl, inr, ◌⊎◌}
use Rattle.std.specs.Prelude.{◌==◌, is_some}
use Rattle.std.specs.Option.{option_map_or}
use Rattle.std.proofs.lemmas.Bool.Decides.{eqb_tells}
use Rattle.hem_base.specs.Sets.{has_bit}
use Rattle.hem_base.specs.declared.ids.KidSet.{KidSet}
use Rattle.hem_base.specs.declared.ids.Kind.{Kind}
use Rattle.hem_base.specs.declared.ids.ObjectId.{ObjectId}
use Rattle.hem_base.specs.declared.ids.Firing.{Firing}
use Rattle.hem_object.specs.declared.state.Lock.{Lock}
use Rattle.hem_object.specs.declared.state.By.{By}
use Rattle.hem_object.specs.declared.state.By.TheVariants.{Processor, Kid, Parent, Own}
use Rattle.hem_syntax.specs.Protocol.{Protocol}
use Rattle.hem_template.specs.declared.row.Taking.{Taking}
use Rattle.hem_template.specs.declared.row.Sending.{Sending}
use Rattle.hem_template.specs.declared.row.Taking.TheVariants.{NothingTaken, FromRequester, ParentRequest, ParentResponse, FromKids}
use Rattle.hem_template.specs.declared.row.Sending.TheVariants.{NothingSent, ToRequester, RequestUp, ResponseUp, ToOthers, ToKids}
use Rattle.hem_fire.specs.declared.outs.To.{To}
use Rattle.hem_fire.specs.declared.outs.To.TheVariants as to
use Rattle.hem_fire.specs.Sends.{to_requester}
use Rattle.hem_tree.specs.Tree.{Tree, IsTree, parent_of, is_child, place_among}
use Rattle.hem_system.specs.declared.lane.Lane.TheVariants.{UpRequests, Down}
use Rattle.hem_system.specs.State.{Effect, takes, reaches, is_own_child}
use Rattle.hem_system.proofs.Takers.{parent_is}
use Rattle.hem_rows.specs.Acts.{takes_me, takes_parent, IsSent}
use Rattle.hem_locks.proofs.Sums.{reaches_kid, is_up_request, to_requester-up}
use Rattle.hem_bound.specs.Sums.{total}
use Rattle.hem_bound.specs.Sizes.{size_of, sizes_where}
use Rattle.hem_bound.specs.Potential.{up_weight, down_weight, kid_size, lock_weight}
use Rattle.hem_bound.specs.Changes.{request_weight, asked_size, targets_size}
use Rattle.hem_locks.proofs.Still.{child_within}
use Rattle.hem_bound.proofs.Sums.{total_none, total_same, total_twice, total_one}
use Rattle.hem_bound.proofs.Sizes.{equal_turned}
use Rattle.hem_bound.proofs.Levels.{weight_step, weight_least}
use Rattle.hem_bound.proofs.ByTemplate.{if_asked, if_told, if_asks, sent_by}
use Rattle.hem_bound.proofs.Moved.{up_taken, down_taken, up_sent, down_sent, lock_there}

-- where nothing is taken
nothing_taken-is : (n : ℕ) (takes : ℕ → Bool) (w : ℕ → ℕ) → ((k : ℕ) → takes k ≡ false) → total n (λ k. cond (takes k) (w k) 0) ≡ 0
nothing_taken-is n takes w never = total_same n (λ k. cond (takes k) (w k) 0) (λ k. 0) (λ k. ap (λ b. cond b (w k) 0) (never k)) ∙ total_none n

-- the request of the child that a firing names, where that is taken
pub up_taken-is : (tree : Tree) (f : Firing) (e : Effect) (taking : Taking) → is_own_child tree f.object.0 f.me ≡ true → e.outs.taken_request ≡ takes_me taking → total (length tree) (up_taken tree f e) ≡ if_asked taking (request_weight tree f.me)
up_taken-is tree f e taking own taken = by_taking taking taken
  where
    o : ℕ
    o = f.object.0

    untaken : e.outs.taken_request ≡ false → total (length tree) (up_taken tree f e) ≡ 0
    untaken none = nothing_taken-is (length tree) (λ k. takes tree f e.outs k UpRequests) (up_weight tree) (λ k. ap (λ b. b && option_map_or (λ child. child.0 == k) f.me false && is_child tree k o) none)

    by_me : (me : Option ObjectId) → f.me ≡ me → e.outs.taken_request ≡ true → total (length tree) (up_taken tree f e) ≡ request_weight tree me
    by_me None named is = nothing_taken-is (length tree) (λ k. takes tree f e.outs k UpRequests) (up_weight tree) (λ k. ap (λ (me : Option ObjectId). e.outs.taken_request && option_map_or (λ child. child.0 == k) me false && is_child tree k o) named ∙ ap (λ b. b && false && is_child tree k o) is)
    by_me (Some child) named is =
        let is_own : is_child tree child.0 o ≡ true = sym (ap (is_own_child tree o) named) ∙ own in
        total_same (length tree) (up_taken tree f e) (λ k. cond (k == child.0) (up_weight tree k) 0)
        (λ k. ap (λ (me : Option ObjectId). cond (e.outs.taken_request && option_map_or (λ child. child.0 == k) me false && is_child tree k o) (up_weight tree k) 0) named
        ∙ ap (λ b. cond (b && child.0 == k && is_child tree k o) (up_weight tree k) 0) is
        ∙ ap (λ b. cond b (up_weight tree k) 0) (one k (eqb_tells k child.0) is_own))
        ∙ total_one (length tree) child.0 (up_weight tree) (child_within tree child.0 o (parent_is tree child.0 o is_own))
      where
        one : (k : ℕ) → ((k == child.0) ≡ true) × (k ≡ child.0) ⊎ ((k == child.0) ≡ false) × (k ≢ child.0) → is_child tree child.0 o ≡ true → (child.0 == k && is_child tree k o) ≡ (k == child.0)
        one k (inl same) is_own = ap (λ b. b && is_child tree k o) (equal_turned child.0 k ∙ same.0) ∙ ap (λ n. is_child tree n o) same.1 ∙ is_own ∙ sym same.0
        one k (inr other) is_own = ap (λ b. b && is_child tree k o) (equal_turned child.0 k ∙ other.0) ∙ sym other.0

    by_taking : (taking : Taking) → e.outs.taken_request ≡ takes_me taking → total (length tree) (up_taken tree f e) ≡ if_asked taking (request_weight tree f.me)
    by_taking NothingTaken is = untaken is
    by_taking FromRequester is = by_me f.me refl is
    by_taking ParentRequest is = untaken is
    by_taking ParentResponse is = untaken is
    by_taking FromKids is = untaken is

-- the parent's message, where that is taken
pub down_taken-is : (tree : Tree) (f : Firing) (e : Effect) (taking : Taking) → f.object.0 < length tree → e.outs.taken_parent ≡ takes_parent taking → total (length tree) (down_taken tree f e) ≡ if_told taking (2 * size_of tree f.object.0)
down_taken-is tree f e taking inside taken = by_taking taking taken
  where
    untaken : e.outs.taken_parent ≡ false → total (length tree) (down_taken tree f e) ≡ 0
    untaken none = nothing_taken-is (length tree) (λ k. takes tree f e.outs k Down) (down_weight tree) (λ k. ap (λ b. b && k == f.object.0) none)

    own : e.outs.taken_parent ≡ true → total (length tree) (down_taken tree f e) ≡ down_weight tree f.object.0
    own is = total_same (length tree) (down_taken tree f e) (λ k. cond (k == f.object.0) (down_weight tree k) 0) (λ k. ap (λ b. cond (b && k == f.object.0) (down_weight tree k) 0) is) ∙ total_one (length tree) f.object.0 (down_weight tree) inside

    by_taking : (taking : Taking) → e.outs.taken_parent ≡ takes_parent taking → total (length tree) (down_taken tree f e) ≡ if_told taking (2 * size_of tree f.object.0)
    by_taking NothingTaken is = untaken is
    by_taking FromRequester is = untaken is
    by_taking ParentRequest is = own is
    by_taking ParentResponse is = own is
    by_taking FromKids is = untaken is

-- a child's request weighs more than one of the object that it asks, and at least twice the objects
request_least : (tree : Tree) (o : ℕ) (me : Option ObjectId) (least : ℕ) → is_own_child tree o me ≡ true → ((k : ℕ) → parent_of tree k ≡ Some o → least ≤ up_weight tree k) → cond (is_some me) least 0 ≤ request_weight tree me
request_least tree o None least own weighs = omega arith
request_least tree o (Some child) least own weighs = weighs child.0 (parent_is tree child.0 o own)

pub request_higher : (tree : Tree) (o : ℕ) (me : Option ObjectId) → IsTree tree → is_own_child tree o me ≡ true → cond (is_some me) (up_weight tree o + 1) 0 ≤ request_weight tree me
request_higher tree o me lawful own = request_least tree o me (up_weight tree o + 1) own (λ k parent. let is = weight_step tree k o lawful parent in omega (arith, is))

pub request_heavy : (tree : Tree) (o : ℕ) (me : Option ObjectId) → IsTree tree → is_own_child tree o me ≡ true → cond (is_some me) (2 * length tree) 0 ≤ request_weight tree me
request_heavy tree o me lawful own = request_least tree o me (2 * length tree) own (λ k parent. weight_least tree k o lawful parent)

-- the downlock of the object that fires
pub lock_total : (tree : Tree) (f : Firing) (lock : Option Lock) → f.object.0 < length tree → total (length tree) (lock_there tree f lock) ≡ lock_weight tree f.object.0 lock
lock_total tree f lock inside = total_one (length tree) f.object.0 (λ k. lock_weight tree k lock) inside

-- a request that is sent up
up_total : (tree : Tree) (f : Firing) (t : To) → f.object.0 < length tree → total (length tree) (λ k. cond (reaches tree f t k UpRequests) (up_weight tree k) 0) ≡ cond (is_up_request t) (up_weight tree f.object.0) 0
up_total tree f to.UpRequest inside = total_one (length tree) f.object.0 (up_weight tree) inside
up_total tree f to.Nobody inside = total_none (length tree)
up_total tree f to.Answer inside = total_none (length tree)
up_total tree f (to.Kid c) inside = total_none (length tree)
up_total tree f to.UpResponse inside = total_none (length tree)
up_total tree f (to.Kids set) inside = total_none (length tree)

pub up_sent-is : (p : Protocol) (tree : Tree) (f : Firing) (e : Effect) (kind : Kind) (sending : Sending) (asked : Option By) (targets : KidSet) → f.object.0 < length tree → IsSent p kind sending asked targets e.outs → total (length tree) (up_sent tree f e) ≡ if_asks sending (up_weight tree f.object.0)
up_sent-is p tree f e kind sending asked targets inside sent = up_total tree f e.outs.to inside ∙ by_sending sending sent
  where
    w : ℕ
    w = up_weight tree f.object.0

    by_sending : (sending : Sending) → IsSent p kind sending asked targets e.outs → cond (is_up_request e.outs.to) w 0 ≡ if_asks sending w
    by_sending NothingSent sent = ap (λ (t : To). cond (is_up_request t) w 0) sent
    by_sending ToRequester sent = ap (λ (t : To). cond (is_up_request t) w 0) sent.goes ∙ ap (λ b. cond b w 0) (to_requester-up sent.by).0
    by_sending RequestUp sent = ap (λ (t : To). cond (is_up_request t) w 0) sent.goes
    by_sending ResponseUp sent = ap (λ (t : To). cond (is_up_request t) w 0) sent.goes
    by_sending ToOthers sent = ap (λ (t : To). cond (is_up_request t) w 0) sent.kids.goes
    by_sending ToKids sent = ap (λ (t : To). cond (is_up_request t) w 0) sent.goes

-- messages that are sent down
none_down : (b : Bool) (w : ℕ) → cond (b && false) w 0 ≡ 0
none_down true w = refl
none_down false w = refl

down_one : (tree : Tree) (f : Firing) (t : To) (k : ℕ) → cond (reaches tree f t k Down) (down_weight tree k) 0 ≡ 2 * cond (is_child tree k f.object.0 && reaches_kid (place_among tree f.object.0 k) t) (size_of tree k) 0
down_one tree f t k = by_way t
  where
    twice : (b : Bool) → cond b (down_weight tree k) 0 ≡ 2 * cond b (size_of tree k) 0
    twice true = refl
    twice false = refl

    none : 0 ≡ 2 * cond (is_child tree k f.object.0 && false) (size_of tree k) 0
    none = let is = none_down (is_child tree k f.object.0) (size_of tree k) in omega (arith, is)

    by_way : (t : To) → cond (reaches tree f t k Down) (down_weight tree k) 0 ≡ 2 * cond (is_child tree k f.object.0 && reaches_kid (place_among tree f.object.0 k) t) (size_of tree k) 0
    by_way to.Nobody = none
    by_way to.Answer = none
    by_way (to.Kid c) = twice (is_child tree k f.object.0 && place_among tree f.object.0 k == c)
    by_way to.UpRequest = none
    by_way to.UpResponse = none
    by_way (to.Kids set) = twice (is_child tree k f.object.0 && has_bit set.0 (place_among tree f.object.0 k))

down_total : (tree : Tree) (f : Firing) (t : To) → total (length tree) (λ k. cond (reaches tree f t k Down) (down_weight tree k) 0) ≡ 2 * sizes_where tree f.object.0 (λ d. reaches_kid d t)
down_total tree f t =
    let part = λ (k : ℕ). cond (is_child tree k f.object.0 && reaches_kid (place_among tree f.object.0 k) t) (size_of tree k) 0 in
    total_same (length tree) (λ k. cond (reaches tree f t k Down) (down_weight tree k) 0) (λ k. 2 * part k) (down_one tree f t) ∙ total_twice (length tree) part

no_sizes : (tree : Tree) (o : ℕ) → sizes_where tree o (λ d. false) ≡ 0
no_sizes tree o = total_same (length tree) (λ k. cond (is_child tree k o && false) (size_of tree k) 0) (λ k. 0) (λ k. none_down (is_child tree k o) (size_of tree k)) ∙ total_none (length tree)

requester_size : (tree : Tree) (o : ℕ) (by : By) → sizes_where tree o (λ d. reaches_kid d (to_requester (Some by))) ≡ kid_size tree o by
requester_size tree o Processor = no_sizes tree o
requester_size tree o (Kid c) = refl
requester_size tree o Parent = no_sizes tree o
requester_size tree o Own = no_sizes tree o

pub down_sent-is : (p : Protocol) (tree : Tree) (f : Firing) (e : Effect) (kind : Kind) (sending : Sending) (asked : Option By) (targets : KidSet) → IsSent p kind sending asked targets e.outs → total (length tree) (down_sent tree f e) ≡ 2 * sent_by sending (asked_size tree f.object.0 asked) (targets_size tree f.object.0 e.outs.to)
down_sent-is p tree f e kind sending asked targets sent = down_total tree f e.outs.to ∙ ap (λ x. 2 * x) (by_sending sending sent)
  where
    o : ℕ
    o = f.object.0

    sizes : To → ℕ
    sizes t = sizes_where tree o (λ d. reaches_kid d t)

    by_sending : (sending : Sending) → IsSent p kind sending asked targets e.outs → sizes e.outs.to ≡ sent_by sending (asked_size tree o asked) (targets_size tree o e.outs.to)
    by_sending NothingSent sent = ap sizes sent ∙ no_sizes tree o
    by_sending ToRequester sent = ap sizes sent.goes ∙ requester_size tree o sent.by ∙ sym (ap (asked_size tree o) sent.asker)
    by_sending RequestUp sent = ap sizes sent.goes ∙ no_sizes tree o
    by_sending ResponseUp sent = ap sizes sent.goes ∙ no_sizes tree o
    by_sending ToOthers sent = ap sizes sent.kids.goes ∙ sym (ap (targets_size tree o) sent.kids.goes)
    by_sending ToKids sent = ap sizes sent.goes ∙ sym (ap (targets_size tree o) sent.goes)
