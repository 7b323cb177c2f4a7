-- What one firing does to its transaction.
use Rattle.std.specs.Prelude.{ℕ, ◌≡◌, ◌≢◌, Bool, true, false, not, ◌&&◌, ◌||◌, [], ◌∷◌, ◌++◌, Option, None, Some}
use Rattle.hem_template.specs.declared.template_name.TemplateName.{TemplateName}
use Rattle.hem_template.specs.declared.template_name.TemplateName.TheVariants.{ImmSelf, ImmDown, ImmUp, RqUp, RqUpSelf, RqUpDown, RqDownSelf, RqDownDown, RsDown, RsDownSelf, RsDownRqDown, RsUpDown, RsUpUp, RsUpSelf}
use Rattle.hem_tree.specs.Tree.{Tree, is_child}
use Rattle.hem_shape.specs.Progress.{Asker, child, processor, parent, itself, Progress, set_at, IsBlank}

-- what a firing takes: its asker's request, the answer of the parent, or the answers of the children; with an answer it frees the lock that waited for it
pub data Taking : Type 0 where
  request : Taking
  parent_answer : Taking
  child_answers : Taking

-- what a firing gives: the answer to its asker, a request to the parent, or requests to these children; with a request it takes the lock that waits for the answer
pub data Giving : Type 0 where
  answer : Giving
  ask_up : Giving
  ask_down : (ℕ → Bool) → Giving

-- a firing at an object, as its transaction sees it
pub record Move : Type 0 where
  pub object : ℕ
  pub asker : Asker
  pub takes : Taking
  pub gives : Giving

-- the template of firings that take and give so, where there is one
abbrev pub template_name : Taking → Asker → Giving → Option TemplateName
template_name request itself answer = Some ImmSelf
template_name request (child c) answer = Some ImmDown
template_name request processor answer = Some ImmDown
template_name request parent answer = Some ImmUp
template_name request (child c) ask_up = Some RqUp
template_name request processor ask_up = Some RqUp
template_name request itself ask_up = Some RqUpSelf
template_name request (child c) (ask_down targets) = Some RqUpDown
template_name request processor (ask_down targets) = Some RqUpDown
template_name request itself (ask_down targets) = Some RqDownSelf
template_name request parent (ask_down targets) = Some RqDownDown
template_name parent_answer (child c) answer = Some RsDown
template_name parent_answer processor answer = Some RsDown
template_name parent_answer itself answer = Some RsDownSelf
template_name parent_answer (child c) (ask_down targets) = Some RsDownRqDown
template_name parent_answer processor (ask_down targets) = Some RsDownRqDown
template_name child_answers (child c) answer = Some RsUpDown
template_name child_answers processor answer = Some RsUpDown
template_name child_answers parent answer = Some RsUpUp
template_name child_answers itself answer = Some RsUpSelf
template_name _ _ _ = None

-- the progress after a firing has taken its messages and freed its lock
abbrev pub taken : Tree → ℕ → Asker → Taking → Progress → Progress
taken tree o (child c) request at = record at { asks_up = set_at c false at.asks_up }
taken tree o parent request at = record at { asks_down = set_at o false at.asks_down }
taken tree o processor request at = at
taken tree o itself request at = at
taken tree o asker parent_answer at = record at { answers_down = set_at o false at.answers_down; up = set_at o None at.up }
taken tree o asker child_answers at = record at { answers_up = λ k. at.answers_up k && not (is_child tree k o); down = set_at o None at.down }

-- the progress with one more template fired at an object
abbrev pub recorded : ℕ → TemplateName → Progress → Progress
recorded o t at = record at { fired = set_at o (at.fired o ++ t ∷ []) at.fired }

-- the progress after a firing has sent its messages and taken its lock
abbrev pub given : ℕ → Asker → Giving → Progress → Progress
given o (child c) answer at = record at { answers_down = set_at c true at.answers_down }
given o parent answer at = record at { answers_up = set_at o true at.answers_up }
given o processor answer at = at
given o itself answer at = at
given o asker ask_up at = record at { asks_up = set_at o true at.asks_up; up = set_at o (Some asker) at.up }
given o asker (ask_down targets) at = record at { asks_down = λ k. at.asks_down k || targets k; down = set_at o (Some asker) at.down }

-- the progress after a firing of that template
abbrev pub progress_after : Tree → Move → TemplateName → Progress → Progress
progress_after tree m t at = given m.object m.asker m.gives (recorded m.object t (taken tree m.object m.asker m.takes at))

-- a child's request is there, and both locks are free
pub record CanTakeChild (tree : Tree) (o c : ℕ) (at : Progress) : Type 0 where
  pub own : is_child tree c o ≡ true
  pub there : at.asks_up c ≡ true
  pub up : at.up o ≡ None
  pub down : at.down o ≡ None

-- the parent's request is there, and the downlock is free
pub record CanTakeParent (o : ℕ) (at : Progress) : Type 0 where
  pub there : at.asks_down o ≡ true
  pub down : at.down o ≡ None

-- the parent's answer is there, as the only thing for which the uplock is held, and the downlock is free
pub record CanTakeAnswer (o : ℕ) (asker : Asker) (at : Progress) : Type 0 where
  pub there : at.answers_down o ≡ true
  pub up : at.up o ≡ Some asker
  pub down : at.down o ≡ None
  pub no_request : at.asks_up o ≡ false
  pub no_up : (high : ℕ) → at.up high ≢ Some (child o)
  pub no_down : (high : ℕ) → at.down high ≢ Some (child o)

-- the downlock is held, and no child still has the request or works on it
pub record CanTakeAnswers (tree : Tree) (o : ℕ) (asker : Asker) (at : Progress) : Type 0 where
  pub down : at.down o ≡ Some asker
  pub no_request : (k : ℕ) → is_child tree k o ≡ true → at.asks_down k ≡ false
  pub no_down : (k : ℕ) → is_child tree k o ≡ true → at.down k ≢ Some parent

-- a firing can take this: a start's transaction has not begun
abbrev pub CanTake : Tree → ℕ → Asker → Taking → Progress → Type 0
CanTake tree o (child c) request at = CanTakeChild tree o c at
CanTake tree o parent request at = CanTakeParent o at
CanTake tree o processor request at = IsBlank at
CanTake tree o itself request at = IsBlank at
CanTake tree o asker parent_answer at = CanTakeAnswer o asker at
CanTake tree o asker child_answers at = CanTakeAnswers tree o asker at

-- requests go to children, and not to the one that asked
abbrev pub CanGive : Tree → ℕ → Asker → Giving → Type 0
CanGive tree o asker (ask_down targets) = (k : ℕ) → targets k ≡ true → (is_child tree k o ≡ true) × (asker ≢ child k)
CanGive tree o asker _ = Unit {0}

-- a firing of that template can be made
pub record CanMove (tree : Tree) (m : Move) (t : TemplateName) (at : Progress) : Type 0 where
  pub named : template_name m.takes m.asker m.gives ≡ Some t
  pub takes : CanTake tree m.object m.asker m.takes at
  pub gives : CanGive tree m.object m.asker m.gives
