-- Each firing keeps the numbers and the shapes of transactions, and takes messages of its own number alone.
use Rattle.std.proofs.Common.{◌≡◌, ◌≢◌, ℕ, Bool, true, false, cond, not, ◌&&◌, List, [], ◌∷◌, ◌++◌, length, drop, refl, sym, ap, ◌∙◌, subst, arith, Option, Some, None, ⊎_elim, inl, inr}
use Rattle.std.specs.Prelude.{◌==◌, slice_get}
use Rattle.hem_base.specs.declared.ids.Kind.{Kind}
use Rattle.hem_base.specs.declared.ids.Firing.{Firing}
use Rattle.hem_base.specs.declared.ids.Message.{Message}
use Rattle.hem_syntax.specs.declared.rule.Rule.{Rule}
use Rattle.hem_template.specs.declared.template_name.TemplateName.{TemplateName}
use Rattle.hem_object.specs.declared.state.Lock.{Lock}
use Rattle.hem_syntax.specs.Protocol.{Protocol}
use Rattle.hem_object.specs.Local.{Local}
use Rattle.hem_template.specs.declared.row.Taking as row
use Rattle.hem_template.specs.Template.{row_of}
use Rattle.hem_template.specs.declared.row.Taking.TheVariants.{NothingTaken, FromRequester, ParentRequest, ParentResponse, FromKids}
use Rattle.hem_tree.specs.Tree.{Tree, is_child, place_among}
use Rattle.hem_base.specs.Sets.{has_bit}
use Rattle.hem_fire.specs.declared.outs.Outs.{Outs}
use Rattle.hem_system.specs.declared.lane.Lane.{Lane}
use Rattle.hem_system.specs.declared.lane.Lane.TheVariants.{UpRequests, UpResponses, Down, Requests, Answers}
use Rattle.hem_system.specs.State.{Line, list_at, head_at, takes, reaches, heads_of}
use Rattle.hem_system.proofs.Takers.{and_left, parent_is}
use Rattle.hem_rows.specs.Acts.{takes_kids, AreHeads, IsThere}
use Rattle.hem_shape.specs.Progress.{Asker, IsBlank}
use Rattle.hem_shape.specs.Move.{Taking, request, parent_answer, child_answers, Giving, answer, ask_up, ask_down, CanTake}
use Rattle.hem_shape.specs.Shape.{HasShape}
use Rattle.hem_shape.proofs.Spots.{same_or_other, true_false}
use Rattle.hem_shape.proofs.KeepsShape.{shape_kept}
use Rattle.hem_numbered.specs.Numbers.{Numbers, numbers_after, carries, is_any, progress_of, uplock_at, downlock_at, AreNumbers}
use Rattle.hem_numbered.specs.Firings.{HasNumber, IsFiring, ChangesOnce, IsNumbered}
use Rattle.hem_rows.proofs.Choices.{both, not-true}
use Rattle.hem_numbered.proofs.Carried.{carries_first, length_after}
use Rattle.hem_numbered.proofs.Held.{held_number}
use Rattle.hem_numbered.proofs.TakesAs.{no_children}
use Rattle.hem_numbered.proofs.Awaited.{each_there}
use Rattle.hem_numbered.proofs.Others.{progress_other}
use Rattle.hem_numbered.proofs.Moves.{UpAs, DownAs, move_of, progress_moved}
use Rattle.hem_numbered.proofs.Templates.{is_move}

-- a child whose answer is taken has sent one
answer_there : (p : Protocol) (tree : Tree) (f : Firing) (before : Local) (outs : Outs) (line : Line) (taking : row.Taking) → outs.taken_kids ≡ takes_kids taking before → AreHeads p taking before (heads_of tree line f.object.0 f.me) → (k : ℕ) → takes tree f outs k UpResponses ≡ true → IsThere (head_at line k UpResponses)
answer_there p tree f before outs line FromKids kids there k is = each_there tree f before outs line kids there k is
answer_there p tree f before outs line NothingTaken kids there k is = absurd (true_false is (no_children tree f outs k kids))
answer_there p tree f before outs line FromRequester kids there k is = absurd (true_false is (no_children tree f outs k kids))
answer_there p tree f before outs line ParentRequest kids there k is = absurd (true_false is (no_children tree f outs k kids))
answer_there p tree f before outs line ParentResponse kids there k is = absurd (true_false is (no_children tree f outs k kids))

-- a message has a number
pub numbered_head : (ms : List Message) (ns : List ℕ) (m : Message) → length ns ≡ length ms → slice_get ms 0 ≡ Some m → (n : ℕ) × (slice_get ns 0 ≡ Some n)
numbered_head [] ns m same at = absurd (let bad : None ≡ Some m = at in cc)
numbered_head (q ∷ ms) [] m same at = absurd (omega (arith, same))
numbered_head (q ∷ ms) (n ∷ ns) m same at = (n, refl)

-- an answer of a child has the number of the downlock that waits for it
answer_number : (p : Protocol) (tree : Tree) (f : Firing) (outs : Outs) (line : Line) (numbers : Numbers) (is_new : ℕ → Bool) (k a : ℕ) → AreNumbers p tree line numbers is_new → takes tree f outs k UpResponses ≡ true → IsThere (head_at line k UpResponses) → slice_get (numbers.lists k UpResponses) 0 ≡ Some a → numbers.down f.object.0 ≡ a
answer_number p tree f outs line numbers is_new k a known is there numbered =
    let first : carries is_any a (list_at line k UpResponses) (numbers.lists k UpResponses) ≡ true = carries_first is_any a (list_at line k UpResponses) (numbers.lists k UpResponses) there.0 there.1 numbered refl in
    let holds = (known.shapes a).above.answers_up k first in
    let own = and_left (is_child tree k f.object.0) (has_bit outs.taken_kids.0 (place_among tree f.object.0 k)) is in
    let same : holds.high ≡ f.object.0 = (let high : Some holds.high ≡ Some f.object.0 = sym holds.above ∙ parent_is tree k f.object.0 own in cc) in
    ap numbers.down (sym same) ∙ held_number tree holds.high a (numbers.down holds.high) (downlock_at line holds.high) holds.lock.asker holds.lock.held

-- all messages that a firing takes have its number
pub takes_own_number : (p : Protocol) (tree : Tree) (f : Firing) (t : TemplateName) (kind : Kind) (rule : Rule) (before after : Local) (outs : Outs) (old new : Line) (numbers : Numbers) (is_new : ℕ → Bool) (n : ℕ) → IsFiring p tree f t kind rule before after outs old new → AreNumbers p tree old numbers is_new → HasNumber tree f outs numbers.lists is_new n → (k : ℕ) (lane : Lane) → lane ≢ Requests → takes tree f outs k lane ≡ true → slice_get (numbers.lists k lane) 0 ≡ Some n
takes_own_number p tree f t kind rule before after outs old new numbers is_new n c known number k UpRequests other is = number.child_request k is
takes_own_number p tree f t kind rule before after outs old new numbers is_new n c known number k Down other is = number.parent_message k is
takes_own_number p tree f t kind rule before after outs old new numbers is_new n c known number k Requests other is = absurd (other refl)
takes_own_number p tree f t kind rule before after outs old new numbers is_new n c known number k Answers other is = absurd (let bad : false ≡ true = is in cc)
takes_own_number p tree f t kind rule before after outs old new numbers is_new n c known number k UpResponses other is =
    let there = answer_there p tree f before outs old (row_of t).taking c.acts.taken_kids c.acts.there in
    let at = there k is in
    let a = numbered_head (list_at old k UpResponses) (numbers.lists k UpResponses) at.0 (known.lists k UpResponses other) at.1 in
    let first = number.child_answer k is in
    let one = answer_number p tree f outs old numbers is_new k a.0 known is at a.1 in
    let two = answer_number p tree f outs old numbers is_new first.0 n known first.1 (there first.0 first.1) first.2 in
    a.1 ∙ ap Some (sym one ∙ two)

-- a firing changes each lock in one way
up_once : (tree : Tree) (o : ℕ) (a : Asker) (takes : Taking) (gives : Giving) (before after : Option Lock) → UpAs tree o a takes gives before after → ChangesOnce before after
up_once tree o a request answer before after so = inl so
up_once tree o a request ask_up before after so = inr (inl so.0)
up_once tree o a request (ask_down targets) before after so = inl so
up_once tree o a parent_answer answer before after so = inr (inr so)
up_once tree o a parent_answer ask_up before after so = inr (inl so.0)
up_once tree o a parent_answer (ask_down targets) before after so = inr (inr so)
up_once tree o a child_answers answer before after so = inl so
up_once tree o a child_answers ask_up before after so = inr (inl so.0)
up_once tree o a child_answers (ask_down targets) before after so = inl so

down_once : (tree : Tree) (o : ℕ) (a : Asker) (takes : Taking) (gives : Giving) (before after : Option Lock) → DownAs tree o a takes gives before after → ChangesOnce before after
down_once tree o a request answer before after so = inl so
down_once tree o a request ask_up before after so = inl so
down_once tree o a request (ask_down targets) before after so = inr (inl so.0)
down_once tree o a parent_answer answer before after so = inl so
down_once tree o a parent_answer ask_up before after so = inl so
down_once tree o a parent_answer (ask_down targets) before after so = inr (inl so.0)
down_once tree o a child_answers answer before after so = inr (inr so)
down_once tree o a child_answers ask_up before after so = inr (inr so)
down_once tree o a child_answers (ask_down targets) before after so = inr (inl so.0)

stays_held : (before after : Option Lock) (lock : Lock) → before ≡ Some lock → after ≡ None → after ≡ before → ⊥
stays_held before after lock some none same = let bad : None ≡ Some lock = sym none ∙ same ∙ some in cc

was_free : (before : Option Lock) (lock : Lock) → before ≡ Some lock → before ≡ None → ⊥
was_free before lock some none = let bad : None ≡ Some lock = sym none ∙ some in cc

-- a lock that is freed has the number of the firing that frees it
up_freed : (p : Protocol) (tree : Tree) (line : Line) (numbers : Numbers) (n o : ℕ) (a : Asker) (takes : Taking) (gives : Giving) (before after : Option Lock) (lock : Lock) → CanTake tree o a takes (progress_of p tree line numbers n) → UpAs tree o a takes gives before after → before ≡ Some lock → after ≡ None → numbers.up o ≡ n
up_freed p tree line numbers n o a request answer before after lock can so some none = absurd (stays_held before after lock some none so)
up_freed p tree line numbers n o a request ask_up before after lock can so some none = absurd (was_free before lock some so.0)
up_freed p tree line numbers n o a request (ask_down targets) before after lock can so some none = absurd (stays_held before after lock some none so)
up_freed p tree line numbers n o a parent_answer gives before after lock can so some none = held_number tree o n (numbers.up o) (uplock_at line o) a can.up
up_freed p tree line numbers n o a child_answers answer before after lock can so some none = absurd (stays_held before after lock some none so)
up_freed p tree line numbers n o a child_answers ask_up before after lock can so some none = absurd (was_free before lock some so.0)
up_freed p tree line numbers n o a child_answers (ask_down targets) before after lock can so some none = absurd (stays_held before after lock some none so)

down_freed : (p : Protocol) (tree : Tree) (line : Line) (numbers : Numbers) (n o : ℕ) (a : Asker) (takes : Taking) (gives : Giving) (before after : Option Lock) (lock : Lock) → CanTake tree o a takes (progress_of p tree line numbers n) → DownAs tree o a takes gives before after → before ≡ Some lock → after ≡ None → numbers.down o ≡ n
down_freed p tree line numbers n o a request answer before after lock can so some none = absurd (stays_held before after lock some none so)
down_freed p tree line numbers n o a request ask_up before after lock can so some none = absurd (stays_held before after lock some none so)
down_freed p tree line numbers n o a request (ask_down targets) before after lock can so some none = absurd (was_free before lock some so.0)
down_freed p tree line numbers n o a parent_answer answer before after lock can so some none = absurd (stays_held before after lock some none so)
down_freed p tree line numbers n o a parent_answer ask_up before after lock can so some none = absurd (stays_held before after lock some none so)
down_freed p tree line numbers n o a parent_answer (ask_down targets) before after lock can so some none = absurd (was_free before lock some so.0)
down_freed p tree line numbers n o a child_answers gives before after lock can so some none = held_number tree o n (numbers.down o) (downlock_at line o) a can.down

-- so its number is that of all that it takes and of each lock that it frees
pub is_numbered : (p : Protocol) (tree : Tree) (f : Firing) (t : TemplateName) (kind : Kind) (rule : Rule) (before after : Local) (outs : Outs) (old new : Line) (numbers : Numbers) (is_new : ℕ → Bool) (n : ℕ) → IsFiring p tree f t kind rule before after outs old new → AreNumbers p tree old numbers is_new → HasNumber tree f outs numbers.lists is_new n → IsNumbered tree f outs before after numbers n
is_numbered p tree f t kind rule before after outs old new numbers is_new n c known number =
    let is = is_move p tree f t kind rule before after outs old new numbers is_new n c known number in
    record {
      takes = takes_own_number p tree f t kind rule before after outs old new numbers is_new n c known number;
      up = up_once tree f.object.0 is.asker is.takes is.gives before.up after.up is.up;
      down = down_once tree f.object.0 is.asker is.takes is.gives before.down after.down is.down;
      frees_up = λ lock some none. up_freed p tree old numbers n f.object.0 is.asker is.takes is.gives before.up after.up lock is.taking.can is.up some none;
      frees_down = λ lock some none. down_freed p tree old numbers n f.object.0 is.asker is.takes is.gives before.down after.down lock is.taking.can is.down some none;
    }

-- a test that tells numbers apart
pub differs : (x n : ℕ) → (x == n) ≡ false → x ≡ n → ⊥
differs x n is same = grind arith

-- the numbers after a firing are those of the line after it
pub numbers_kept : (p : Protocol) (tree : Tree) (f : Firing) (t : TemplateName) (kind : Kind) (rule : Rule) (before after : Local) (outs : Outs) (old new : Line) (numbers : Numbers) (is_new : ℕ → Bool) (n : ℕ) → IsFiring p tree f t kind rule before after outs old new → AreNumbers p tree old numbers is_new → HasNumber tree f outs numbers.lists is_new n → AreNumbers p tree new (numbers_after tree f outs before n t numbers) (λ x. is_new x && not (x == n))
numbers_kept p tree f t kind rule before after outs old new numbers is_new n c known number =
    let is = is_move p tree f t kind rule before after outs old new numbers is_new n c known number in
    let own = is_numbered p tree f t kind rule before after outs old new numbers is_new n c known number in
    let other : (x : ℕ) → x ≢ n → progress_of p tree new (numbers_after tree f outs before n t numbers) x ≡ progress_of p tree old numbers x =
    (λ x differs. progress_other p tree f outs before after old new numbers n t x c.leads known.lists own differs) in
    record {
      lists = λ k lane other. subst (λ ms. length (drop (cond (takes tree f outs k lane) 1 0) (numbers.lists k lane) ++ cond (reaches tree f outs.to k lane) (n ∷ []) []) ≡ length ms) (sym (c.leads.lists k lane))
          (length_after (takes tree f outs k lane) (reaches tree f outs.to k lane) outs.message n (list_at old k lane) (numbers.lists k lane) (known.lists k lane other));
      shapes = λ x. ⊎_elim
          (λ same. subst (λ x. HasShape tree (progress_of p tree new (numbers_after tree f outs before n t numbers) x)) (sym same)
          (subst (λ at. HasShape tree at) (sym (progress_moved p tree f t before after outs old new numbers is_new n c.leads known.lists is))
          (shape_kept tree (move_of is) t (progress_of p tree old numbers n) c.lawful (known.shapes n) (record { named = is.named; takes = is.taking.can; gives = is.can_give }))))
          (λ differs. subst (λ at. HasShape tree at) (sym (other x differs)) (known.shapes x))
          (same_or_other x n);
      fresh = λ x are. let parts = both (is_new x) (not (x == n)) are in subst (λ at. IsBlank at) (sym (other x (λ same. differs x n (not-true (x == n) parts.1) same))) (known.fresh x parts.0);
    }
