-- What the firings of the templates take, as their transactions see it.
use Rattle.std.proofs.Common.{◌≡◌, ◌≢◌, ℕ, ◌+◌, ◌≤◌, Bool, true, false, cond, ◌&&◌, List, [], ◌∷◌, length, refl, sym, ap, ◌∙◌, subst, arith, Option, Some, None, ⊎_elim, inl, inr, ◌⊎◌}
use Rattle.std.specs.Prelude.{slice_get}
use Rattle.std.specs.Option.{option_map_or}
use Rattle.std.proofs.str.Laws.{order}
use Rattle.hem_base.specs.Sets.{has_bit}
use Rattle.hem_base.specs.declared.ids.Kind.{Kind}
use Rattle.hem_base.specs.declared.ids.Kind.TheVariants.{Root, Mid, Leaf}
use Rattle.hem_base.specs.declared.ids.Message.{Message}
use Rattle.hem_base.specs.declared.ids.MsgId.{MsgId}
use Rattle.hem_base.specs.declared.ids.ObjectId.{ObjectId}
use Rattle.hem_base.specs.declared.ids.Firing.{Firing}
use Rattle.hem_syntax.specs.declared.rule.Rule.{Rule}
use Rattle.hem_syntax.specs.declared.rule.Take.TheVariants as take
use Rattle.hem_object.specs.declared.state.Lock.{Lock}
use Rattle.hem_syntax.specs.Protocol.{Protocol}
use Rattle.hem_object.specs.Local.{nobody}
use Rattle.hem_template.specs.Template.{level_fits}
use Rattle.hem_tree.specs.Tree.{Tree, kind_of, parent_of, is_child, place_among, IsTree}
use Rattle.hem_tree.proofs.Lawful.{number_is}
use Rattle.hem_fire.specs.declared.outs.Outs.{Outs}
use Rattle.hem_fire.specs.View.{requester}
use Rattle.hem_system.specs.declared.lane.Lane.{Lane}
use Rattle.hem_system.specs.declared.lane.Lane.TheVariants.{UpRequests, UpResponses, Down, Requests}
use Rattle.hem_system.specs.State.{Line, list_at, head_at, takes, is_own_child, place_of_me, request_head}
use Rattle.hem_system.proofs.Kids.{child_at}
use Rattle.hem_rows.specs.Acts.{IsThere, is_down_request, is_down_response}
use Rattle.hem_locks.specs.Edges.{count, for_kid, for_parent, awaits}
use Rattle.hem_shape.specs.Progress.{Asker, child, processor, parent, itself, IsBlank}
use Rattle.hem_shape.specs.Move.{Taking, request, parent_answer, child_answers, CanTake}
use Rattle.hem_shape.proofs.Spots.{true_false}
use Rattle.hem_numbered.specs.Numbers.{Numbers, carries, is_any, asker_of, uplock_at, downlock_at, progress_of, AreNumbers}
use Rattle.hem_numbered.specs.Bounds.{AreBounded}
use Rattle.hem_numbered.specs.Firings.{HasNumber}
use Rattle.hem_locks.proofs.Places.{within}
use Rattle.hem_locks.proofs.Clean.{awaits-few}
use Rattle.hem_system.proofs.Takers.{parent_is}
use Rattle.hem_numbered.proofs.Carried.{carries_first, carries_none, carries_some, count_any}
use Rattle.hem_numbered.proofs.TakesAs.{TakesAs, nothing_as, child_as, parent_as, answer_as, answers_as, no_child, no_named_child, no_parent, no_children, parent_here, child_here}
use Rattle.hem_numbered.proofs.Held.{held_number, held_is, held_none, child_counts, parent_counts}
use Rattle.hem_numbered.proofs.ToRequester.{response_no_request, request_no_response}

-- what a firing takes can be taken, and leaves its lists so, as its transaction sees it
pub record TakesFor (p : Protocol) (tree : Tree) (f : Firing) (outs : Outs) (line : Line) (numbers : Numbers) (is_new : ℕ → Bool) (n : ℕ) (asker : Asker) (takes : Taking) : Type 0 where
  pub can : CanTake tree f.object.0 asker takes (progress_of p tree line numbers n)
  pub lists : TakesAs p tree f outs line numbers n asker takes
  pub begins : (is_new n ≡ true) ⊎ (IsBlank (progress_of p tree line numbers n) → ⊥)

-- a firing that takes nothing that a firing sent has a new number
starts : (tree : Tree) (f : Firing) (outs : Outs) (lists : ℕ → Lane → List ℕ) (is_new : ℕ → Bool) (n : ℕ) → HasNumber tree f outs lists is_new n → ((k : ℕ) → takes tree f outs k UpRequests ≡ false) → outs.taken_parent ≡ false → outs.taken_kids ≡ nobody → is_new n ≡ true
starts tree f outs lists is_new n number me above kids = number.start none
  where
    none : (k : ℕ) (lane : Lane) → lane ≢ Requests → takes tree f outs k lane ≡ false
    none k UpRequests other = me k
    none k UpResponses other = no_children tree f outs k kids
    none k Down other = no_parent tree f outs k above
    none k Requests other = absurd (other refl)
    none k _ other = refl

-- and begins a transaction
begins : (p : Protocol) (tree : Tree) (f : Firing) (outs : Outs) (line : Line) (numbers : Numbers) (is_new : ℕ → Bool) (n : ℕ) → AreNumbers p tree line numbers is_new → HasNumber tree f outs numbers.lists is_new n → ((k : ℕ) → takes tree f outs k UpRequests ≡ false) → outs.taken_parent ≡ false → outs.taken_kids ≡ nobody → IsBlank (progress_of p tree line numbers n)
begins p tree f outs line numbers is_new n known number me above kids = known.fresh n (starts tree f outs numbers.lists is_new n number me above kids)

-- nothing
pub from_nothing : (p : Protocol) (tree : Tree) (f : Firing) (outs : Outs) (line : Line) (numbers : Numbers) (is_new : ℕ → Bool) (n : ℕ) → AreNumbers p tree line numbers is_new → HasNumber tree f outs numbers.lists is_new n → outs.taken_request ≡ false → outs.taken_parent ≡ false → outs.taken_kids ≡ nobody → TakesFor p tree f outs line numbers is_new n itself request
from_nothing p tree f outs line numbers is_new n known number me above kids =
    record {
      can = begins p tree f outs line numbers is_new n known number (λ k. no_child tree f outs k me) above kids;
      lists = nothing_as p tree f outs line numbers n itself (inr refl) (λ k. no_child tree f outs k me) above kids;
      begins = inl (starts tree f outs numbers.lists is_new n number (λ k. no_child tree f outs k me) above kids);
    }

-- the request of a child, or of a processor
pub from_requester : (p : Protocol) (tree : Tree) (f : Firing) (outs : Outs) (line : Line) (numbers : Numbers) (is_new : ℕ → Bool) (n : ℕ) → AreBounded p tree line → AreNumbers p tree line numbers is_new → HasNumber tree f outs numbers.lists is_new n → is_own_child tree f.object.0 f.me ≡ true → outs.taken_request ≡ true → outs.taken_parent ≡ false → outs.taken_kids ≡ nobody → IsThere (request_head line f.object.0 f.me) → uplock_at line f.object.0 ≡ None → downlock_at line f.object.0 ≡ None → TakesFor p tree f outs line numbers is_new n (asker_of tree f.object.0 (requester (place_of_me tree f.object.0 f.me))) request
from_requester p tree f outs line numbers is_new n bounded known number own me above kids there up down = by_me f.me refl
  where
    by_me : (named : Option ObjectId) → f.me ≡ named → TakesFor p tree f outs line numbers is_new n (asker_of tree f.object.0 (requester (place_of_me tree f.object.0 f.me))) request
    by_me None is =
        subst (λ a. TakesFor p tree f outs line numbers is_new n a request) (sym (ap (λ me. asker_of tree f.object.0 (requester (place_of_me tree f.object.0 me))) is))
        (let made : TakesFor p tree f outs line numbers is_new n processor request = record {
          can = begins p tree f outs line numbers is_new n known number (λ k. no_named_child tree f outs k is) above kids;
          lists = nothing_as p tree f outs line numbers n processor (inl refl) (λ k. no_named_child tree f outs k is) above kids;
          begins = inl (starts tree f outs numbers.lists is_new n number (λ k. no_named_child tree f outs k is) above kids);
        } in made)
    by_me (Some c) is =
        let child_own : is_child tree c.0 f.object.0 ≡ true = ap (is_own_child tree f.object.0) (sym is) ∙ own in
        let asks : asker_of tree f.object.0 (requester (place_of_me tree f.object.0 f.me)) ≡ child c.0 =
        ap (λ me. asker_of tree f.object.0 (requester (place_of_me tree f.object.0 me))) is ∙ ap (λ k. option_map_or child k processor) (child_at tree f.object.0 c.0 child_own) in
        let head : request_head line f.object.0 (Some c) ≡ Some there.0 = ap (request_head line f.object.0) (sym is) ∙ there.1 in
        let first : carries is_any n (list_at line c.0 UpRequests) (numbers.lists c.0 UpRequests) ≡ true =
        carries_first is_any n (list_at line c.0 UpRequests) (numbers.lists c.0 UpRequests) there.0 head (number.child_request c.0 (child_here tree f outs c c.0 me is child_own refl)) refl in
        subst (λ a. TakesFor p tree f outs line numbers is_new n a request) (sym asks)
        (let made : TakesFor p tree f outs line numbers is_new n (child c.0) request = record {
          can = record {
            own = child_own;
            there = first;
            up = held_none tree f.object.0 n (numbers.up f.object.0) (uplock_at line f.object.0) up;
            down = held_none tree f.object.0 n (numbers.down f.object.0) (downlock_at line f.object.0) down;
          };
          lists = child_as p tree f outs line numbers n c bounded me is child_own above kids;
          begins = inr (λ blank. true_false first (blank.asks_up c.0));
        } in made)

-- an object whose rule takes from the parent has one
pub parent_above : (tree : Tree) (o : ℕ) (kind : Kind) (rule : Rule) (id : MsgId) → IsTree tree → kind_of tree o ≡ Some kind → level_fits kind rule ≡ true → rule.take ≡ take.Parent id → (high : ℕ) × (parent_of tree o ≡ Some high)
parent_above tree o kind rule id lawful is fits takes = ⊎_elim (λ less. lawful.parents o less (within tree o kind is)) (λ none. absurd (no_root kind fits (root (omega arith)))) (order 0 o)
  where
    root : o ≡ 0 → kind ≡ Root
    root same = let here : kind_of tree 0 ≡ Some kind = ap (kind_of tree) (sym same) ∙ is in let first : kind_of tree 0 ≡ Some Root = rw lawful.root refl in let both : Some kind ≡ Some Root = sym here ∙ first in cc

    no_root : (kind : Kind) → level_fits kind rule ≡ true → kind ≡ Root → ⊥
    no_root Root fits same = let bad : false ≡ true = rw takes at fits in cc
    no_root Mid fits same = cc
    no_root Leaf fits same = cc

-- the request of the parent
pub from_parent : (p : Protocol) (tree : Tree) (f : Firing) (outs : Outs) (line : Line) (numbers : Numbers) (is_new : ℕ → Bool) (n high : ℕ) (m : Message) → AreBounded p tree line → AreNumbers p tree line numbers is_new → HasNumber tree f outs numbers.lists is_new n → parent_of tree f.object.0 ≡ Some high → outs.taken_request ≡ false → outs.taken_parent ≡ true → outs.taken_kids ≡ nobody → head_at line f.object.0 Down ≡ Some m → is_down_request p m ≡ true → downlock_at line f.object.0 ≡ None → TakesFor p tree f outs line numbers is_new n parent request
from_parent p tree f outs line numbers is_new n high m bounded known number high_is me above kids there is down =
    let own = number_is (parent_of tree f.object.0) high high_is in
    let most : count (is_down_request p) (list_at line f.object.0 Down) ≤ 1 =
    (let two = bounded.two f.object.0 high own in let one = awaits-few (place_among tree high f.object.0) (downlock_at line high) in omega (arith, two, one)) in
    let first : carries (is_down_request p) n (list_at line f.object.0 Down) (numbers.lists f.object.0 Down) ≡ true =
    carries_first (is_down_request p) n (list_at line f.object.0 Down) (numbers.lists f.object.0 Down) m there (number.parent_message f.object.0 (parent_here tree f outs f.object.0 above refl)) is in
    record {
      can = record {
        there = first;
        down = held_none tree f.object.0 n (numbers.down f.object.0) (downlock_at line f.object.0) down;
      };
      lists = parent_as p tree f outs line numbers n m most (known.lists f.object.0 Down (λ bad. cc)) me above kids there is (request_no_response p m.id is);
      begins = inr (λ blank. true_false first (blank.asks_down f.object.0));
    }

-- the answer of the parent
pub from_answer : (p : Protocol) (tree : Tree) (f : Firing) (outs : Outs) (line : Line) (numbers : Numbers) (is_new : ℕ → Bool) (n high : ℕ) (m : Message) (l : Lock) → AreBounded p tree line → AreNumbers p tree line numbers is_new → HasNumber tree f outs numbers.lists is_new n → parent_of tree f.object.0 ≡ Some high → outs.taken_request ≡ false → outs.taken_parent ≡ true → outs.taken_kids ≡ nobody → head_at line f.object.0 Down ≡ Some m → is_down_response p m ≡ true → uplock_at line f.object.0 ≡ Some l → downlock_at line f.object.0 ≡ None → TakesFor p tree f outs line numbers is_new n (asker_of tree f.object.0 l.by) parent_answer
from_answer p tree f outs line numbers is_new n high m l bounded known number high_is me above kids there is up down =
    let own = number_is (parent_of tree f.object.0) high high_is in
    let first : carries (is_down_response p) n (list_at line f.object.0 Down) (numbers.lists f.object.0 Down) ≡ true =
    carries_first (is_down_response p) n (list_at line f.object.0 Down) (numbers.lists f.object.0 Down) m there (number.parent_message f.object.0 (parent_here tree f outs f.object.0 above refl)) is in
    let some = carries_some (is_down_response p) n (list_at line f.object.0 Down) (numbers.lists f.object.0 Down) first in
    let one = bounded.one f.object.0 high own in
    let holds = (known.shapes n).below.answers_down f.object.0 first in
    let same = held_number tree f.object.0 n (numbers.up f.object.0) (uplock_at line f.object.0) holds.asker holds.held in
    record {
      can = record {
        there = first;
        up = held_is tree f.object.0 n (numbers.up f.object.0) (uplock_at line f.object.0) l up same;
        down = held_none tree f.object.0 n (numbers.down f.object.0) (downlock_at line f.object.0) down;
        no_request = carries_none is_any n (list_at line f.object.0 UpRequests) (numbers.lists f.object.0 UpRequests) (count_any (list_at line f.object.0 UpRequests) ∙ omega (arith, one, some));
        no_up = λ other held. by_up other (child_counts tree other n (numbers.up other) f.object.0 (uplock_at line other) held) some;
        no_down = λ other held. by_down other (child_counts tree other n (numbers.down other) f.object.0 (downlock_at line other) held) some;
      };
      lists = answer_as p tree f outs line numbers n (asker_of tree f.object.0 l.by) m (omega (arith, one)) (known.lists f.object.0 Down (λ bad. cc)) me above kids there is (response_no_request p m.id is);
      begins = inr (λ blank. true_false first (blank.answers_down f.object.0));
    }
  where
    by_up : (other : ℕ) → (is_child tree f.object.0 other ≡ true) × (for_kid (place_among tree other f.object.0) (uplock_at line other) ≡ 1) → 1 ≤ count (is_down_response p) (list_at line f.object.0 Down) → ⊥
    by_up other counts some = let one = bounded.one f.object.0 other counts.0 in let two = counts.1 in omega (arith, one, two, some)

    by_down : (other : ℕ) → (is_child tree f.object.0 other ≡ true) × (for_kid (place_among tree other f.object.0) (downlock_at line other) ≡ 1) → 1 ≤ count (is_down_response p) (list_at line f.object.0 Down) → ⊥
    by_down other counts some = let one = bounded.one f.object.0 other counts.0 in let two = counts.1 in omega (arith, one, two, some)

-- a message is counted
message_counts : (ms : List Message) (m : Message) → slice_get ms 0 ≡ Some m → 1 ≤ length ms
message_counts [] m at = absurd (let bad : None ≡ Some m = at in cc)
message_counts (q ∷ ms) m at = omega arith

-- the answers of the children
pub from_children : (p : Protocol) (tree : Tree) (f : Firing) (outs : Outs) (line : Line) (numbers : Numbers) (is_new : ℕ → Bool) (n one : ℕ) (l : Lock) → AreBounded p tree line → AreNumbers p tree line numbers is_new → takes tree f outs one UpResponses ≡ true → slice_get (numbers.lists one UpResponses) 0 ≡ Some n → outs.taken_request ≡ false → outs.taken_parent ≡ false → outs.taken_kids ≡ l.awaited → ((k : ℕ) → takes tree f outs k UpResponses ≡ true → IsThere (head_at line k UpResponses)) → downlock_at line f.object.0 ≡ Some l → TakesFor p tree f outs line numbers is_new n (asker_of tree f.object.0 l.by) child_answers
from_children p tree f outs line numbers is_new n one l bounded known is_taken numbered me above kids there down =
    let head = there one is_taken in
    let first : carries is_any n (list_at line one UpResponses) (numbers.lists one UpResponses) ≡ true = carries_first is_any n (list_at line one UpResponses) (numbers.lists one UpResponses) head.0 head.1 numbered refl in
    let holds = (known.shapes n).above.answers_up one first in
    let same_high : holds.high ≡ f.object.0 = (let a : Some holds.high ≡ Some f.object.0 = sym holds.above ∙ parent_is tree one f.object.0 (own one is_taken) in cc) in
    let same = held_number tree holds.high n (numbers.down holds.high) (downlock_at line holds.high) holds.lock.asker holds.lock.held in
    record {
      can = record {
        down = held_is tree f.object.0 n (numbers.down f.object.0) (downlock_at line f.object.0) l down (ap numbers.down (sym same_high) ∙ same);
        no_request = λ k is. no_request k is (has_bit l.awaited.0 (place_among tree f.object.0 k)) refl;
        no_down = λ k is held. no_down k is (has_bit l.awaited.0 (place_among tree f.object.0 k)) refl (parent_counts tree k n (numbers.down k) (downlock_at line k) held);
      };
      lists = answers_as p tree f outs line numbers n (asker_of tree f.object.0 l.by) bounded me above (λ c. ap (awaits c) down ∙ ap (λ s. cond (has_bit s.0 c) 1 0) (sym kids));
      begins = inr (λ blank. true_false first (blank.answers_up one));
    }
  where
    own : (k : ℕ) → takes tree f outs k UpResponses ≡ true → is_child tree k f.object.0 ≡ true
    own k is = left_part (is_child tree k f.object.0) (has_bit outs.taken_kids.0 (place_among tree f.object.0 k)) is
      where
        left_part : (a b : Bool) → (a && b) ≡ true → a ≡ true
        left_part true b is = refl
        left_part false b is = cc

    is_awaited : (k : ℕ) → is_child tree k f.object.0 ≡ true → has_bit l.awaited.0 (place_among tree f.object.0 k) ≡ true → takes tree f outs k UpResponses ≡ true
    is_awaited k is has = ap (λ b. b && has_bit outs.taken_kids.0 (place_among tree f.object.0 k)) is ∙ ap (λ s. has_bit s.0 (place_among tree f.object.0 k)) kids ∙ has

    at_edge : (k : ℕ) → is_child tree k f.object.0 ≡ true → count (is_down_request p) (list_at line k Down) + length (list_at line k UpResponses) + for_parent (downlock_at line k) ≤ cond (has_bit l.awaited.0 (place_among tree f.object.0 k)) 1 0
    at_edge k is = subst (λ a. count (is_down_request p) (list_at line k Down) + length (list_at line k UpResponses) + for_parent (downlock_at line k) ≤ a) (ap (awaits (place_among tree f.object.0 k)) down) (bounded.two k f.object.0 is)

    most : (k : ℕ) (b : Bool) → is_child tree k f.object.0 ≡ true → has_bit l.awaited.0 (place_among tree f.object.0 k) ≡ b → (count (is_down_request p) (list_at line k Down) ≡ 0) × (for_parent (downlock_at line k) ≡ 0)
    most k true is has =
        let two = subst (λ b. count (is_down_request p) (list_at line k Down) + length (list_at line k UpResponses) + for_parent (downlock_at line k) ≤ cond b 1 0) has (at_edge k is) in
        let head = there k (is_awaited k is has) in
        let some = message_counts (list_at line k UpResponses) head.0 head.1 in
        (omega (arith, two, some), omega (arith, two, some))
    most k false is has =
        let two = subst (λ b. count (is_down_request p) (list_at line k Down) + length (list_at line k UpResponses) + for_parent (downlock_at line k) ≤ cond b 1 0) has (at_edge k is) in
        (omega (arith, two), omega (arith, two))

    no_request : (k : ℕ) → is_child tree k f.object.0 ≡ true → (b : Bool) → has_bit l.awaited.0 (place_among tree f.object.0 k) ≡ b → carries (is_down_request p) n (list_at line k Down) (numbers.lists k Down) ≡ false
    no_request k is b has = carries_none (is_down_request p) n (list_at line k Down) (numbers.lists k Down) (most k b is has).0

    no_down : (k : ℕ) → is_child tree k f.object.0 ≡ true → (b : Bool) → has_bit l.awaited.0 (place_among tree f.object.0 k) ≡ b → for_parent (downlock_at line k) ≡ 1 → ⊥
    no_down k is b has one = let none = (most k b is has).1 in omega (arith, none, one)
