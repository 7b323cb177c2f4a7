-- A firing of each template is a move of its transaction.
use Rattle.std.proofs.Common.{◌≡◌, ◌≢◌, ℕ, Bool, true, false, ◌&&◌, refl, sym, ap, ◌∙◌, subst, Option, Some, ⊎_elim, inr}
use Rattle.std.specs.Option.{option_map_or}
use Rattle.hem_base.specs.Sets.{has_bit}
use Rattle.hem_base.specs.declared.ids.Kind.{Kind}
use Rattle.hem_base.specs.declared.ids.KidSet.{KidSet}
use Rattle.hem_base.specs.declared.ids.Firing.{Firing}
use Rattle.hem_syntax.specs.declared.rule.Rule.{Rule}
use Rattle.hem_template.specs.declared.template_name.TemplateName.{TemplateName}
use Rattle.hem_template.specs.declared.template_name.TemplateName.TheVariants.{ImmSelf, ImmDown, ImmUp, RqUp, RqUpSelf, RqUpDown, RqDownSelf, RqDownDown, RsDown, RsDownSelf, RsDownRqDown, RsUpDown, RsUpUp, RsUpSelf}
use Rattle.hem_object.specs.declared.state.By.{By}
use Rattle.hem_object.specs.declared.state.By.TheVariants.{Kid}
use Rattle.hem_syntax.specs.Protocol.{Protocol}
use Rattle.hem_object.specs.Local.{Local, nobody}
use Rattle.hem_tree.specs.Tree.{Tree, is_child, place_among}
use Rattle.hem_fire.specs.declared.outs.Outs.{Outs}
use Rattle.hem_fire.specs.declared.outs.To.TheVariants as to
use Rattle.hem_fire.specs.View.{asker, kid_asker, requester}
use Rattle.hem_fire.specs.Sends.{to_requester}
use Rattle.hem_system.specs.State.{Line, reaches, place_of_me}
use Rattle.hem_system.proofs.Kids.{at_child}
use Rattle.hem_system.proofs.Takers.{and_left, and_right}
use Rattle.hem_rows.specs.Acts.{GoesToRequester, GoesToKids}
use Rattle.hem_shape.specs.Progress.{Asker, child, processor, parent, itself}
use Rattle.hem_shape.specs.Move.{Taking, request, parent_answer, child_answers, Giving, answer, ask_up, ask_down, template_name, CanGive}
use Rattle.hem_numbered.specs.Numbers.{Numbers, asker_of, uplock_at, downlock_at, AreNumbers}
use Rattle.hem_numbered.specs.Firings.{HasNumber, IsFiring}
use Rattle.hem_numbered.proofs.GivesAs.{GivesAs, nowhere_as, nobody_reached, ask_up_as, answer_up_as, ask_down_as}
use Rattle.hem_numbered.proofs.Held.{Asks, asks_of, asks_requester, kid_asks, which_asks, child_asks}
use Rattle.hem_numbered.proofs.ToRequester.{requester_as, request_no_response}
use Rattle.hem_numbered.proofs.From.{TakesFor, from_nothing, from_requester, from_parent, from_answer, from_children, parent_above}
use Rattle.hem_numbered.proofs.Awaited.{some_taken, each_there}
use Rattle.hem_numbered.proofs.Moves.{IsMove, up_changes, down_changes}

-- the locks at the firing's object
up_here : {p : Protocol} {tree : Tree} {f : Firing} {t : TemplateName} {kind : Kind} {rule : Rule} {before after : Local} {outs : Outs} {old new : Line} → IsFiring p tree f t kind rule before after outs old new → uplock_at old f.object.0 ≡ before.up
up_here {tree = tree} {f = f} {before = before} {after = after} {outs = outs} {old = old} {new = new} c = (up_changes tree f outs before after old new c.leads).here

down_here : {p : Protocol} {tree : Tree} {f : Firing} {t : TemplateName} {kind : Kind} {rule : Rule} {before after : Local} {outs : Outs} {old new : Line} → IsFiring p tree f t kind rule before after outs old new → downlock_at old f.object.0 ≡ before.down
down_here {tree = tree} {f = f} {before = before} {after = after} {outs = outs} {old = old} {new = new} c = (down_changes tree f outs before after old new c.leads).here

-- the template where a child or a processor asks
named_asker : (tree : Tree) (o : ℕ) (by : By) (takes : Taking) (gives : Giving) (t : TemplateName) → Asks by → template_name takes processor gives ≡ Some t → ((c : ℕ) → template_name takes (child c) gives ≡ Some t) → template_name takes (asker_of tree o by) gives ≡ Some t
named_asker tree o by takes gives t asks one other =
    ⊎_elim
    (λ is. ap (λ a. template_name takes a gives) is ∙ one)
    (λ is. ap (λ a. template_name takes a gives) is.1 ∙ other is.0)
    (which_asks tree o by asks)

-- the objects to which requests go
abbrev targets_at : Tree → ℕ → KidSet → ℕ → Bool
targets_at tree o set k = is_child tree k o && has_bit set.0 (place_among tree o k)

-- requests spare the child that asked
others_spared : (tree : Tree) (o : ℕ) (by : By) (set : KidSet) → ((c : ℕ) → by ≡ Kid c → has_bit set.0 c ≡ false) → CanGive tree o (asker_of tree o by) (ask_down (targets_at tree o set))
others_spared tree o by set spares k is =
    let own = and_left (is_child tree k o) (has_bit set.0 (place_among tree o k)) is in
    let has = and_right (is_child tree k o) (has_bit set.0 (place_among tree o k)) is in (
      own,
      λ asks.
          let at = child_asks tree o k by asks in
          let place = (at_child tree o at.0 k at.2).1 in
          let bad : true ≡ false = sym has ∙ ap (has_bit set.0) place ∙ spares at.0 at.1 in
          cc,
    )

kids_can : (tree : Tree) (o : ℕ) (a : Asker) (set : KidSet) → ((k : ℕ) → a ≢ child k) → CanGive tree o a (ask_down (targets_at tree o set))
kids_can tree o a set other k is = (and_left (is_child tree k o) (has_bit set.0 (place_among tree o k)) is, other k)

-- a message that goes to nobody
silent : (p : Protocol) (tree : Tree) (f : Firing) (outs : Outs) → outs.to ≡ to.Nobody → GivesAs p tree f outs itself answer
silent p tree f outs goes = nowhere_as p tree f outs itself (inr refl) (λ k lane which. ap (λ to. reaches tree f to k lane) goes ∙ nobody_reached tree f k lane which)

-- the answer to a child or a processor
to_asker : {p : Protocol} {tree : Tree} {f : Firing} {t : TemplateName} {kind : Kind} {rule : Rule} {before after : Local} {outs : Outs} {old new : Line} → IsFiring p tree f t kind rule before after outs old new → (asked : Option By) (by : By) → Asks by → (sent : GoesToRequester p kind asked outs) → sent.by ≡ by → GivesAs p tree f outs (asker_of tree f.object.0 by) answer
to_asker {p = p} {tree = tree} {f = f} {kind = kind} {outs = outs} c asked by asks sent same = requester_as p tree f outs kind by c.lawful c.kind_is asks (sent.goes ∙ ap (λ by. to_requester (Some by)) same) sent.response

same_by : (asked : Option By) (one other : By) → asked ≡ Some one → asked ≡ Some other → one ≡ other
same_by asked one other a b = let same : Some one ≡ Some other = sym a ∙ b in cc

-- requests to children
to_children : (p : Protocol) (tree : Tree) (f : Firing) (outs : Outs) (a : Asker) (set : KidSet) → GoesToKids p set outs → GivesAs p tree f outs a (ask_down (targets_at tree f.object.0 set))
to_children p tree f outs a set sent = ask_down_as p tree f outs a set sent.goes sent.request (request_no_response p outs.message.id sent.request)

pub is_move : (p : Protocol) (tree : Tree) (f : Firing) (t : TemplateName) (kind : Kind) (rule : Rule) (before after : Local) (outs : Outs) (old new : Line) (numbers : Numbers) (is_new : ℕ → Bool) (n : ℕ) → IsFiring p tree f t kind rule before after outs old new → AreNumbers p tree old numbers is_new → HasNumber tree f outs numbers.lists is_new n → IsMove p tree f t before after outs old numbers is_new n
is_move p tree f ImmSelf kind rule before after outs old new numbers is_new n c known number =
    let acts = c.acts in
    record {
      asker = itself;
      takes = request;
      gives = answer;
      named = refl;
      taking = from_nothing p tree f outs old numbers is_new n known number acts.taken_request acts.taken_parent acts.taken_kids;
      can_give = tt;
      giving = silent p tree f outs acts.sent;
      up = acts.up_after;
      down = acts.down_after;
    }
is_move p tree f ImmDown kind rule before after outs old new numbers is_new n c known number =
    let acts = c.acts in
    let by = requester (place_of_me tree f.object.0 f.me) in
    let asks = asks_requester (place_of_me tree f.object.0 f.me) in
    record {
      asker = asker_of tree f.object.0 by;
      takes = request;
      gives = answer;
      named = named_asker tree f.object.0 by request answer ImmDown asks refl (λ c. refl);
      taking = from_requester p tree f outs old numbers is_new n c.bounded known number c.own acts.taken_request acts.taken_parent acts.taken_kids acts.there (up_here c ∙ acts.up_before) (down_here c ∙ acts.down_before);
      can_give = tt;
      giving = to_asker c (Some by) by asks acts.sent (same_by (Some by) acts.sent.by by acts.sent.asker refl);
      up = acts.up_after;
      down = acts.down_after;
    }
is_move p tree f ImmUp kind rule before after outs old new numbers is_new n c known number =
    let acts = c.acts in
    let above = parent_above tree f.object.0 kind rule c.row.taking.0 c.lawful c.kind_is c.row.level c.row.taking.1 in
    record {
      asker = parent;
      takes = request;
      gives = answer;
      named = refl;
      taking = from_parent p tree f outs old numbers is_new n above.0 acts.there.0 c.bounded known number above.1 acts.taken_request acts.taken_parent acts.taken_kids acts.there.1 acts.there.2 (down_here c ∙ acts.down_before);
      can_give = tt;
      giving = answer_up_as p tree f outs acts.sent.goes;
      up = acts.up_after;
      down = acts.down_after;
    }
is_move p tree f RqUp kind rule before after outs old new numbers is_new n c known number =
    let acts = c.acts in
    let by = requester (place_of_me tree f.object.0 f.me) in
    let asks = asks_requester (place_of_me tree f.object.0 f.me) in
    let new_lock = acts.up_after in
    record {
      asker = asker_of tree f.object.0 by;
      takes = request;
      gives = ask_up;
      named = named_asker tree f.object.0 by request ask_up RqUp asks refl (λ c. refl);
      taking = from_requester p tree f outs old numbers is_new n c.bounded known number c.own acts.taken_request acts.taken_parent acts.taken_kids acts.there (up_here c ∙ acts.up_before) (down_here c ∙ acts.down_before);
      can_give = tt;
      giving = ask_up_as p tree f outs (asker_of tree f.object.0 by) acts.sent.goes;
      up = (acts.up_before, new_lock.lock, new_lock.held, ap (asker_of tree f.object.0) (sym (same_by (Some by) by new_lock.lock.by refl new_lock.holder)));
      down = acts.down_after;
    }
is_move p tree f RqUpSelf kind rule before after outs old new numbers is_new n c known number =
    let acts = c.acts in
    let new_lock = acts.up_after in
    record {
      asker = itself;
      takes = request;
      gives = ask_up;
      named = refl;
      taking = from_nothing p tree f outs old numbers is_new n known number acts.taken_request acts.taken_parent acts.taken_kids;
      can_give = tt;
      giving = ask_up_as p tree f outs itself acts.sent.goes;
      up = (acts.up_before, new_lock.lock, new_lock.held, ap (asker_of tree f.object.0) new_lock.holder);
      down = acts.down_after;
    }
is_move p tree f RqUpDown kind rule before after outs old new numbers is_new n c known number =
    let acts = c.acts in
    let by = requester (place_of_me tree f.object.0 f.me) in
    let asks = asks_requester (place_of_me tree f.object.0 f.me) in
    let new_lock = acts.down_after in
    let sent = acts.sent in
    record {
      asker = asker_of tree f.object.0 by;
      takes = request;
      gives = ask_down (targets_at tree f.object.0 acts.targets);
      named = named_asker tree f.object.0 by request (ask_down (targets_at tree f.object.0 acts.targets)) RqUpDown asks refl (λ c. refl);
      taking = from_requester p tree f outs old numbers is_new n c.bounded known number c.own acts.taken_request acts.taken_parent acts.taken_kids acts.there (up_here c ∙ acts.up_before) (down_here c ∙ acts.down_before);
      can_give = others_spared tree f.object.0 by acts.targets (λ i is. sent.spares i (same_by (Some by) sent.by by sent.asker refl ∙ is));
      giving = to_children p tree f outs (asker_of tree f.object.0 by) acts.targets sent.kids;
      up = acts.up_after;
      down = (acts.down_before, new_lock.lock, new_lock.held, ap (asker_of tree f.object.0) (sym (same_by (Some by) by new_lock.lock.by refl new_lock.holder)));
    }
is_move p tree f RqDownSelf kind rule before after outs old new numbers is_new n c known number =
    let acts = c.acts in
    let new_lock = acts.down_after in
    record {
      asker = itself;
      takes = request;
      gives = ask_down (targets_at tree f.object.0 acts.targets);
      named = refl;
      taking = from_nothing p tree f outs old numbers is_new n known number acts.taken_request acts.taken_parent acts.taken_kids;
      can_give = kids_can tree f.object.0 itself acts.targets (λ k is. cc);
      giving = to_children p tree f outs itself acts.targets acts.sent;
      up = acts.up_after;
      down = (acts.down_before, new_lock.lock, new_lock.held, ap (asker_of tree f.object.0) new_lock.holder);
    }
is_move p tree f RqDownDown kind rule before after outs old new numbers is_new n c known number =
    let acts = c.acts in
    let above = parent_above tree f.object.0 kind rule c.row.taking.0 c.lawful c.kind_is c.row.level c.row.taking.1 in
    let new_lock = acts.down_after in
    record {
      asker = parent;
      takes = request;
      gives = ask_down (targets_at tree f.object.0 acts.targets);
      named = refl;
      taking = from_parent p tree f outs old numbers is_new n above.0 acts.there.0 c.bounded known number above.1 acts.taken_request acts.taken_parent acts.taken_kids acts.there.1 acts.there.2 (down_here c ∙ acts.down_before);
      can_give = kids_can tree f.object.0 parent acts.targets (λ k is. cc);
      giving = to_children p tree f outs parent acts.targets acts.sent;
      up = acts.up_after;
      down = (acts.down_before, new_lock.lock, new_lock.held, ap (asker_of tree f.object.0) new_lock.holder);
    }
is_move p tree f RsDown kind rule before after outs old new numbers is_new n c known number =
    let acts = c.acts in
    let above = parent_above tree f.object.0 kind rule c.row.taking.0 c.lawful c.kind_is c.row.level c.row.taking.1 in
    let held = acts.up_before in
    let by = held.0.by in
    let asks = asks_of before.up held.0 held.1 held.2 in
    record {
      asker = asker_of tree f.object.0 by;
      takes = parent_answer;
      gives = answer;
      named = named_asker tree f.object.0 by parent_answer answer RsDown asks refl (λ c. refl);
      taking = from_answer p tree f outs old numbers is_new n above.0 acts.there.0 held.0 c.bounded known number above.1 acts.taken_request acts.taken_parent acts.taken_kids acts.there.1 acts.there.2 (up_here c ∙ held.1) (down_here c ∙ acts.down_before);
      can_give = tt;
      giving = to_asker c (asker before.up) by asks acts.sent (same_by (asker before.up) acts.sent.by by acts.sent.asker held.2);
      up = acts.up_after;
      down = acts.down_after;
    }
is_move p tree f RsDownSelf kind rule before after outs old new numbers is_new n c known number =
    let acts = c.acts in
    let above = parent_above tree f.object.0 kind rule c.row.taking.0 c.lawful c.kind_is c.row.level c.row.taking.1 in
    let held = acts.up_before in
    record {
      asker = itself;
      takes = parent_answer;
      gives = answer;
      named = refl;
      taking = subst (λ a. TakesFor p tree f outs old numbers is_new n a parent_answer) (ap (asker_of tree f.object.0) held.2)
          (from_answer p tree f outs old numbers is_new n above.0 acts.there.0 held.0 c.bounded known number above.1 acts.taken_request acts.taken_parent acts.taken_kids acts.there.1 acts.there.2 (up_here c ∙ held.1) (down_here c ∙ acts.down_before));
      can_give = tt;
      giving = silent p tree f outs acts.sent;
      up = acts.up_after;
      down = acts.down_after;
    }
is_move p tree f RsDownRqDown kind rule before after outs old new numbers is_new n c known number =
    let acts = c.acts in
    let above = parent_above tree f.object.0 kind rule c.row.taking.0 c.lawful c.kind_is c.row.level c.row.taking.1 in
    let held = acts.up_before in
    let by = held.0.by in
    let asks = asks_of before.up held.0 held.1 held.2 in
    let new_lock = acts.down_after in
    let sent = acts.sent in
    record {
      asker = asker_of tree f.object.0 by;
      takes = parent_answer;
      gives = ask_down (targets_at tree f.object.0 acts.targets);
      named = named_asker tree f.object.0 by parent_answer (ask_down (targets_at tree f.object.0 acts.targets)) RsDownRqDown asks refl (λ c. refl);
      taking = from_answer p tree f outs old numbers is_new n above.0 acts.there.0 held.0 c.bounded known number above.1 acts.taken_request acts.taken_parent acts.taken_kids acts.there.1 acts.there.2 (up_here c ∙ held.1) (down_here c ∙ acts.down_before);
      can_give = others_spared tree f.object.0 by acts.targets (λ i is. sent.spares i (same_by (asker before.up) sent.by by sent.asker held.2 ∙ is));
      giving = to_children p tree f outs (asker_of tree f.object.0 by) acts.targets sent.kids;
      up = acts.up_after;
      down = (acts.down_before, new_lock.lock, new_lock.held, ap (asker_of tree f.object.0) (sym (same_by (asker before.up) by new_lock.lock.by held.2 new_lock.holder)));
    }
is_move p tree f RsUpDown kind rule before after outs old new numbers is_new n c known number =
    let acts = c.acts in
    let held = acts.down_before in
    let by = held.0.by in
    let asks = asks_of before.down held.0 held.1 held.2 in
    let some = some_taken p tree f kind rule (place_of_me tree f.object.0 f.me) before after outs old c.row.taking.0 c.fires c.row.taking.1 acts.taken_kids in
    let first = number.child_answer some.0 some.1 in
    record {
      asker = asker_of tree f.object.0 by;
      takes = child_answers;
      gives = answer;
      named = named_asker tree f.object.0 by child_answers answer RsUpDown asks refl (λ c. refl);
      taking = from_children p tree f outs old numbers is_new n first.0 held.0 c.bounded known first.1 first.2 acts.taken_request acts.taken_parent (acts.taken_kids ∙ ap (λ lock. option_map_or (λ lock. lock.awaited) lock nobody) held.1) (each_there tree f before outs old acts.taken_kids acts.there) (down_here c ∙ held.1);
      can_give = tt;
      giving = to_asker c (kid_asker before.down) by asks acts.sent (kid_asks before.down held.0 acts.sent.by held.1 acts.sent.asker);
      up = acts.up_after;
      down = acts.down_after;
    }
is_move p tree f RsUpUp kind rule before after outs old new numbers is_new n c known number =
    let acts = c.acts in
    let held = acts.down_before in
    let some = some_taken p tree f kind rule (place_of_me tree f.object.0 f.me) before after outs old c.row.taking.0 c.fires c.row.taking.1 acts.taken_kids in
    let first = number.child_answer some.0 some.1 in
    record {
      asker = parent;
      takes = child_answers;
      gives = answer;
      named = refl;
      taking = subst (λ a. TakesFor p tree f outs old numbers is_new n a child_answers) (ap (asker_of tree f.object.0) held.2)
          (from_children p tree f outs old numbers is_new n first.0 held.0 c.bounded known first.1 first.2 acts.taken_request acts.taken_parent (acts.taken_kids ∙ ap (λ lock. option_map_or (λ lock. lock.awaited) lock nobody) held.1) (each_there tree f before outs old acts.taken_kids acts.there) (down_here c ∙ held.1));
      can_give = tt;
      giving = answer_up_as p tree f outs acts.sent.goes;
      up = acts.up_after;
      down = acts.down_after;
    }
is_move p tree f RsUpSelf kind rule before after outs old new numbers is_new n c known number =
    let acts = c.acts in
    let held = acts.down_before in
    let some = some_taken p tree f kind rule (place_of_me tree f.object.0 f.me) before after outs old c.row.taking.0 c.fires c.row.taking.1 acts.taken_kids in
    let first = number.child_answer some.0 some.1 in
    record {
      asker = itself;
      takes = child_answers;
      gives = answer;
      named = refl;
      taking = subst (λ a. TakesFor p tree f outs old numbers is_new n a child_answers) (ap (asker_of tree f.object.0) held.2)
          (from_children p tree f outs old numbers is_new n first.0 held.0 c.bounded known first.1 first.2 acts.taken_request acts.taken_parent (acts.taken_kids ∙ ap (λ lock. option_map_or (λ lock. lock.awaited) lock nobody) held.1) (each_there tree f before outs old acts.taken_kids acts.there) (down_here c ∙ held.1));
      can_give = tt;
      giving = silent p tree f outs acts.sent;
      up = acts.up_after;
      down = acts.down_after;
    }
