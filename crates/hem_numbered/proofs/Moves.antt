-- A firing, as its own transaction sees it.
use Rattle.std.proofs.Common.{◌≡◌, ◌≢◌, ℕ, Bool, true, false, cond, ◌&&◌, ◌||◌, [], ◌∷◌, ◌++◌, length, drop, refl, sym, ap, ◌∙◌, arith, Option, Some, None, ⊎_elim}
use Rattle.std.specs.Prelude.{◌==◌, option_and_then}
use Rattle.hem_base.specs.declared.ids.Firing.{Firing}
use Rattle.hem_base.specs.declared.ids.Message.{Message}
use Rattle.hem_template.specs.declared.template_name.TemplateName.{TemplateName}
use Rattle.hem_object.specs.declared.state.Lock.{Lock}
use Rattle.hem_syntax.specs.Protocol.{Protocol}
use Rattle.hem_object.specs.Local.{Local}
use Rattle.hem_tree.specs.Tree.{Tree}
use Rattle.hem_fire.specs.declared.outs.Outs.{Outs}
use Rattle.hem_system.specs.declared.lane.Lane.{Lane}
use Rattle.hem_system.specs.declared.lane.Lane.TheVariants.{UpRequests, UpResponses, Down, Requests}
use Rattle.hem_system.specs.State.{Line, list_at, takes, reaches, list_after}
use Rattle.hem_rows.specs.Acts.{is_down_request, is_down_response}
use Rattle.hem_shape.specs.Progress.{Asker, child, processor, parent, itself, Progress, set_at}
use Rattle.hem_shape.specs.Move.{Taking, request, parent_answer, child_answers, Giving, answer, ask_up, ask_down, Move, template_name, taken, recorded, given, progress_after, CanGive}
use Rattle.hem_shape.proofs.Spots.{same_or_other, set_here, set_there}
use Rattle.hem_numbered.specs.Numbers.{Numbers, numbers_after, carries, is_any, held_for, asker_of, uplock_at, downlock_at, progress_of}
use Rattle.hem_numbered.specs.Firings.{Leads}
use Rattle.hem_locks.proofs.Places.{and_true}
use Rattle.hem_numbered.proofs.Alike.{same_progress}
use Rattle.hem_numbered.proofs.Carried.{carries_after}
use Rattle.hem_numbered.proofs.TakesAs.{left}
use Rattle.hem_numbered.proofs.GivesAs.{GivesAs}
use Rattle.hem_numbered.proofs.LocksAs.{LockChanges, locks_after, locks_stay, locks_freed, locks_taken}
use Rattle.hem_numbered.proofs.From.{TakesFor}

-- what a firing that takes and gives so does to the uplock
abbrev pub UpAs : Tree → ℕ → Asker → Taking → Giving → Option Lock → Option Lock → Type 0
UpAs tree o asker takes ask_up before after = (before ≡ None) × (l : Lock) × (after ≡ Some l) × (asker_of tree o l.by ≡ asker)
UpAs tree o asker parent_answer _ before after = after ≡ None
UpAs tree o asker _ _ before after = after ≡ before

-- and to the downlock
abbrev pub DownAs : Tree → ℕ → Asker → Taking → Giving → Option Lock → Option Lock → Type 0
DownAs tree o asker takes (ask_down targets) before after = (before ≡ None) × (l : Lock) × (after ≡ Some l) × (asker_of tree o l.by ≡ asker)
DownAs tree o asker child_answers _ before after = after ≡ None
DownAs tree o asker _ _ before after = after ≡ before

-- a firing of a template as a move of its transaction
pub record IsMove (p : Protocol) (tree : Tree) (f : Firing) (t : TemplateName) (before after : Local) (outs : Outs) (line : Line) (numbers : Numbers) (is_new : ℕ → Bool) (n : ℕ) : Type 0 where
  pub asker : Asker
  pub takes : Taking
  pub gives : Giving
  pub named : template_name takes asker gives ≡ Some t
  pub taking : TakesFor p tree f outs line numbers is_new n asker takes
  pub can_give : CanGive tree f.object.0 asker gives
  pub giving : GivesAs p tree f outs asker gives
  pub up : UpAs tree f.object.0 asker takes gives before.up after.up
  pub down : DownAs tree f.object.0 asker takes gives before.down after.down

abbrev pub move_of : {p : Protocol} {tree : Tree} {f : Firing} {t : TemplateName} {before after : Local} {outs : Outs} {line : Line} {numbers : Numbers} {is_new : ℕ → Bool} {n : ℕ} → IsMove p tree f t before after outs line numbers is_new n → Move
move_of {f = f} is = record { object = f.object.0; asker = is.asker; takes = is.takes; gives = is.gives }

-- an answer changes no lock, and a request that is taken neither
pub answer_up : (o : ℕ) (asker : Asker) (at : Progress) (k : ℕ) → (given o asker answer at).up k ≡ at.up k
answer_up o (child c) at k = refl
answer_up o processor at k = refl
answer_up o parent at k = refl
answer_up o itself at k = refl

answer_down : (o : ℕ) (asker : Asker) (at : Progress) (k : ℕ) → (given o asker answer at).down k ≡ at.down k
answer_down o (child c) at k = refl
answer_down o processor at k = refl
answer_down o parent at k = refl
answer_down o itself at k = refl

pub request_up : (tree : Tree) (o : ℕ) (asker : Asker) (at : Progress) (k : ℕ) → (taken tree o asker request at).up k ≡ at.up k
request_up tree o (child c) at k = refl
request_up tree o processor at k = refl
request_up tree o parent at k = refl
request_up tree o itself at k = refl

request_down : (tree : Tree) (o : ℕ) (asker : Asker) (at : Progress) (k : ℕ) → (taken tree o asker request at).down k ≡ at.down k
request_down tree o (child c) at k = refl
request_down tree o processor at k = refl
request_down tree o parent at k = refl
request_down tree o itself at k = refl

-- what is fired is recorded, whatever is taken and given
given_fired : (o : ℕ) (asker : Asker) (gives : Giving) (at : Progress) (k : ℕ) → (given o asker gives at).fired k ≡ at.fired k
given_fired o (child c) answer at k = refl
given_fired o processor answer at k = refl
given_fired o parent answer at k = refl
given_fired o itself answer at k = refl
given_fired o asker ask_up at k = refl
given_fired o asker (ask_down targets) at k = refl

taken_fired : (tree : Tree) (o : ℕ) (asker : Asker) (takes : Taking) (at : Progress) (k : ℕ) → (taken tree o asker takes at).fired k ≡ at.fired k
taken_fired tree o (child c) request at k = refl
taken_fired tree o processor request at k = refl
taken_fired tree o parent request at k = refl
taken_fired tree o itself request at k = refl
taken_fired tree o asker parent_answer at k = refl
taken_fired tree o asker child_answers at k = refl

-- one object's value, where the others are the same
set_alike : {A : Type 0} (o : ℕ) (v : A) (f g : ℕ → A) (k : ℕ) → ((j : ℕ) → j ≢ o → f j ≡ g j) → set_at o v f k ≡ set_at o v g k
set_alike o v f g k same = ⊎_elim (λ here. set_here o v f k here ∙ sym (set_here o v g k here)) (λ there. set_there o v f k there ∙ same k there ∙ sym (set_there o v g k there)) (same_or_other k o)

-- the uplocks after a firing
up_moved : (tree : Tree) (o n : ℕ) (t : TemplateName) (asker : Asker) (takes : Taking) (gives : Giving) (at : Progress) (before after : Option Lock) (numbers : ℕ → ℕ) (old new : ℕ → Option Lock) → LockChanges o before after old new → ((k : ℕ) → held_for tree k n (numbers k) (old k) ≡ at.up k) → UpAs tree o asker takes gives before after → (k : ℕ) → locks_after tree o n before numbers new k ≡ (given o asker gives (recorded o t (taken tree o asker takes at))).up k
up_moved tree o n t asker request answer at before after numbers old new changes was so k = locks_stay tree o n before after numbers old new changes so k ∙ was k ∙ sym (answer_up o asker (recorded o t (taken tree o asker request at)) k ∙ request_up tree o asker at k)
up_moved tree o n t asker request ask_up at before after numbers old new changes was so k =
    locks_taken tree o n before after numbers old new asker so.1 changes so.0 so.2 so.3 k ∙ set_alike o (Some asker) (λ k. held_for tree k n (numbers k) (old k)) (taken tree o asker request at).up k (λ j other. was j ∙ sym (request_up tree o asker at j))
up_moved tree o n t asker request (ask_down targets) at before after numbers old new changes was so k = locks_stay tree o n before after numbers old new changes so k ∙ was k ∙ sym (request_up tree o asker at k)
up_moved tree o n t asker parent_answer answer at before after numbers old new changes was so k =
    locks_freed tree o n before after numbers old new changes so k ∙ set_alike o None (λ k. held_for tree k n (numbers k) (old k)) at.up k (λ j other. was j) ∙ sym (answer_up o asker (recorded o t (taken tree o asker parent_answer at)) k)
up_moved tree o n t asker parent_answer ask_up at before after numbers old new changes was so k =
    locks_taken tree o n before after numbers old new asker so.1 changes so.0 so.2 so.3 k ∙ set_alike o (Some asker) (λ k. held_for tree k n (numbers k) (old k)) (set_at o None at.up) k (λ j other. was j ∙ sym (set_there o None at.up j other))
up_moved tree o n t asker parent_answer (ask_down targets) at before after numbers old new changes was so k =
    locks_freed tree o n before after numbers old new changes so k ∙ set_alike o None (λ k. held_for tree k n (numbers k) (old k)) at.up k (λ j other. was j)
up_moved tree o n t asker child_answers answer at before after numbers old new changes was so k = locks_stay tree o n before after numbers old new changes so k ∙ was k ∙ sym (answer_up o asker (recorded o t (taken tree o asker child_answers at)) k)
up_moved tree o n t asker child_answers ask_up at before after numbers old new changes was so k =
    locks_taken tree o n before after numbers old new asker so.1 changes so.0 so.2 so.3 k ∙ set_alike o (Some asker) (λ k. held_for tree k n (numbers k) (old k)) at.up k (λ j other. was j)
up_moved tree o n t asker child_answers (ask_down targets) at before after numbers old new changes was so k = locks_stay tree o n before after numbers old new changes so k ∙ was k

-- the downlocks after a firing
down_moved : (tree : Tree) (o n : ℕ) (t : TemplateName) (asker : Asker) (takes : Taking) (gives : Giving) (at : Progress) (before after : Option Lock) (numbers : ℕ → ℕ) (old new : ℕ → Option Lock) → LockChanges o before after old new → ((k : ℕ) → held_for tree k n (numbers k) (old k) ≡ at.down k) → DownAs tree o asker takes gives before after → (k : ℕ) → locks_after tree o n before numbers new k ≡ (given o asker gives (recorded o t (taken tree o asker takes at))).down k
down_moved tree o n t asker request answer at before after numbers old new changes was so k = locks_stay tree o n before after numbers old new changes so k ∙ was k ∙ sym (answer_down o asker (recorded o t (taken tree o asker request at)) k ∙ request_down tree o asker at k)
down_moved tree o n t asker request ask_up at before after numbers old new changes was so k = locks_stay tree o n before after numbers old new changes so k ∙ was k ∙ sym (request_down tree o asker at k)
down_moved tree o n t asker request (ask_down targets) at before after numbers old new changes was so k =
    locks_taken tree o n before after numbers old new asker so.1 changes so.0 so.2 so.3 k ∙ set_alike o (Some asker) (λ k. held_for tree k n (numbers k) (old k)) (taken tree o asker request at).down k (λ j other. was j ∙ sym (request_down tree o asker at j))
down_moved tree o n t asker parent_answer answer at before after numbers old new changes was so k = locks_stay tree o n before after numbers old new changes so k ∙ was k ∙ sym (answer_down o asker (recorded o t (taken tree o asker parent_answer at)) k)
down_moved tree o n t asker parent_answer ask_up at before after numbers old new changes was so k = locks_stay tree o n before after numbers old new changes so k ∙ was k
down_moved tree o n t asker parent_answer (ask_down targets) at before after numbers old new changes was so k =
    locks_taken tree o n before after numbers old new asker so.1 changes so.0 so.2 so.3 k ∙ set_alike o (Some asker) (λ k. held_for tree k n (numbers k) (old k)) at.down k (λ j other. was j)
down_moved tree o n t asker child_answers answer at before after numbers old new changes was so k =
    locks_freed tree o n before after numbers old new changes so k ∙ set_alike o None (λ k. held_for tree k n (numbers k) (old k)) at.down k (λ j other. was j) ∙ sym (answer_down o asker (recorded o t (taken tree o asker child_answers at)) k)
down_moved tree o n t asker child_answers ask_up at before after numbers old new changes was so k =
    locks_freed tree o n before after numbers old new changes so k ∙ set_alike o None (λ k. held_for tree k n (numbers k) (old k)) at.down k (λ j other. was j)
down_moved tree o n t asker child_answers (ask_down targets) at before after numbers old new changes was so k =
    locks_taken tree o n before after numbers old new asker so.1 changes so.0 so.2 so.3 k ∙ set_alike o (Some asker) (λ k. held_for tree k n (numbers k) (old k)) (set_at o None at.down) k (λ j other. was j ∙ sym (set_there o None at.down j other))

-- the locks before and after
pub up_changes : (tree : Tree) (f : Firing) (outs : Outs) (before after : Local) (old new : Line) → Leads tree f outs before after old new → LockChanges f.object.0 before.up after.up (uplock_at old) (uplock_at new)
up_changes tree f outs before after old new leads =
    record {
      here = ap (λ l. option_and_then (λ l. l.up) l) leads.here;
      now = ap (λ l. option_and_then (λ l. l.up) l) leads.now;
      others = λ k other. ap (λ l. option_and_then (λ l. l.up) l) (leads.others k other);
    }

pub down_changes : (tree : Tree) (f : Firing) (outs : Outs) (before after : Local) (old new : Line) → Leads tree f outs before after old new → LockChanges f.object.0 before.down after.down (downlock_at old) (downlock_at new)
down_changes tree f outs before after old new leads =
    record {
      here = ap (λ l. option_and_then (λ l. l.down) l) leads.here;
      now = ap (λ l. option_and_then (λ l. l.down) l) leads.now;
      others = λ k other. ap (λ l. option_and_then (λ l. l.down) l) (leads.others k other);
    }

-- a list after a firing, for its own transaction
list_moved : (test : Message → Bool) (tree : Tree) (f : Firing) (outs : Outs) (old new : Line) (numbers : Numbers) (n k : ℕ) (lane : Lane) (sent : Bool) → list_at new k lane ≡ list_after tree f outs k lane (list_at old k lane) → length (numbers.lists k lane) ≡ length (list_at old k lane) → (reaches tree f outs.to k lane && test outs.message) ≡ sent → carries test n (list_at new k lane) (drop (cond (takes tree f outs k lane) 1 0) (numbers.lists k lane) ++ cond (reaches tree f outs.to k lane) (n ∷ []) []) ≡ (left test tree f outs old numbers n lane k || sent)
list_moved test tree f outs old new numbers n k lane sent leads same is =
    ap (λ ms. carries test n ms (drop (cond (takes tree f outs k lane) 1 0) (numbers.lists k lane) ++ cond (reaches tree f outs.to k lane) (n ∷ []) [])) leads
    ∙ carries_after test n (takes tree f outs k lane) (reaches tree f outs.to k lane) outs.message n (list_at old k lane) (numbers.lists k lane) same
    ∙ ap (λ b. left test tree f outs old numbers n lane k || b) (own (reaches tree f outs.to k lane) (test outs.message) (n == n) (grind arith) ∙ is)
  where
    own : (r t e : Bool) → e ≡ true → (r && (t && e)) ≡ (r && t)
    own false t e is = refl
    own true false e is = refl
    own true true e is = is

pub progress_moved : (p : Protocol) (tree : Tree) (f : Firing) (t : TemplateName) (before after : Local) (outs : Outs) (old new : Line) (numbers : Numbers) (is_new : ℕ → Bool) (n : ℕ) → Leads tree f outs before after old new → ((k : ℕ) (lane : Lane) → lane ≢ Requests → length (numbers.lists k lane) ≡ length (list_at old k lane)) → (is : IsMove p tree f t before after outs old numbers is_new n) → progress_of p tree new (numbers_after tree f outs before n t numbers) n ≡ progress_after tree (move_of is) t (progress_of p tree old numbers n)
progress_moved p tree f t before after outs old new numbers is_new n leads same is =
    let o = f.object.0 in
    let at = progress_of p tree old numbers n in
    let mid = recorded o t (taken tree o is.asker is.takes at) in
    same_progress (progress_of p tree new (numbers_after tree f outs before n t numbers) n) (progress_after tree (move_of is) t at)
    (λ k. list_moved is_any tree f outs old new numbers n k UpRequests (reaches tree f outs.to k UpRequests) (leads.lists k UpRequests) (same k UpRequests (λ bad. cc)) (and_true (reaches tree f outs.to k UpRequests))
    ∙ ap (λ b. b || reaches tree f outs.to k UpRequests) (is.taking.lists.asks_up k) ∙ is.giving.asks_up mid k)
    (λ k. list_moved is_any tree f outs old new numbers n k UpResponses (reaches tree f outs.to k UpResponses) (leads.lists k UpResponses) (same k UpResponses (λ bad. cc)) (and_true (reaches tree f outs.to k UpResponses))
    ∙ ap (λ b. b || reaches tree f outs.to k UpResponses) (is.taking.lists.answers_up k) ∙ is.giving.answers_up mid k)
    (λ k. list_moved (is_down_request p) tree f outs old new numbers n k Down (reaches tree f outs.to k Down && is_down_request p outs.message) (leads.lists k Down) (same k Down (λ bad. cc)) refl
    ∙ ap (λ b. b || (reaches tree f outs.to k Down && is_down_request p outs.message)) (is.taking.lists.asks_down k) ∙ is.giving.asks_down mid k)
    (λ k. list_moved (is_down_response p) tree f outs old new numbers n k Down (reaches tree f outs.to k Down && is_down_response p outs.message) (leads.lists k Down) (same k Down (λ bad. cc)) refl
    ∙ ap (λ b. b || (reaches tree f outs.to k Down && is_down_response p outs.message)) (is.taking.lists.answers_down k) ∙ is.giving.answers_down mid k)
    (λ k. up_moved tree o n t is.asker is.takes is.gives at before.up after.up numbers.up (uplock_at old) (uplock_at new) (up_changes tree f outs before after old new leads) (λ j. refl) is.up k)
    (λ k. down_moved tree o n t is.asker is.takes is.gives at before.down after.down numbers.down (downlock_at old) (downlock_at new) (down_changes tree f outs before after old new leads) (λ j. refl) is.down k)
    (λ k. ap (λ fired. fired k) (set_here n (set_at o (numbers.fired n o ++ t ∷ []) (numbers.fired n)) numbers.fired n refl)
    ∙ set_alike o (numbers.fired n o ++ t ∷ []) (numbers.fired n) (taken tree o is.asker is.takes at).fired k (λ j other. sym (taken_fired tree o is.asker is.takes at j))
    ∙ ap (λ now. set_at o (now ++ t ∷ []) (taken tree o is.asker is.takes at).fired k) (sym (taken_fired tree o is.asker is.takes at o))
    ∙ sym (given_fired o is.asker is.gives mid k))
