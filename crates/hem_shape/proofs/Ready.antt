-- Between what a firing takes and what it gives.
use Rattle.std.proofs.Common.{◌≡◌, ◌≢◌, ℕ, true, false, List, [], ◌∷◌, ◌++◌, refl, sym, ap, ◌∙◌, subst, Option, Some, None, ⊎_elim, inl, inr, ◌⊎◌}
use Rattle.std.specs.List.{list_all}
use Rattle.hem_template.specs.declared.template_name.TemplateName.{TemplateName}
use Rattle.hem_tree.specs.Tree.{Tree}
use Rattle.hem_shape.specs.Subtree.{InSubtree}
use Rattle.hem_shape.specs.Progress.{Asker, child, processor, parent, itself, Progress, set_at}
use Rattle.hem_shape.specs.Move.{recorded}
use Rattle.hem_shape.specs.Shape.{IsHeld, IsHeldAbove, BelongsBelow, BelongsAbove, WaitsAbove, IsUntouchedBut, AskedDownFor, asked_up_for, is_asking_up}
use Rattle.hem_shape.proofs.Spots.{same_or_other, set_here, set_there}

-- what a firing has taken leaves its object without locks and nothing on the way up; and no request and no lock elsewhere forbids the firing
pub record IsReady (tree : Tree) (at : Progress) (o : ℕ) : Type 0 where
  pub below : BelongsBelow at
  pub above : BelongsAbove tree at
  pub not_rising : (k : ℕ) → at.asks_up k ≡ false
  pub waits : (high : ℕ) (asker : Asker) → at.up high ≡ Some asker → WaitsAbove tree at.fired high asker
  pub untouched : (d k : ℕ) → at.asks_down d ≡ true → InSubtree tree k d → at.fired k ≡ []
  pub asked : (high : ℕ) (asker : Asker) → at.down high ≡ Some asker → AskedDownFor asker (at.fired high)
  pub up : at.up o ≡ None
  pub down : at.down o ≡ None
  pub outside : (d : ℕ) → at.asks_down d ≡ true → InSubtree tree o d → ⊥
  pub under : (high : ℕ) (asker : Asker) → at.up high ≡ Some asker → InSubtree tree o high → (c : ℕ) × (asker ≡ child c) × InSubtree tree o c

-- whoever asked waits for the answer
pub record StillWaits (tree : Tree) (up down : ℕ → Option Asker) (o : ℕ) (asker : Asker) : Type 0 where
  pub below : (c : ℕ) → asker ≡ child c → IsHeld (up c)
  pub above : asker ≡ parent → IsHeldAbove tree down o

pub empty_or : {A : Type 0} (xs : List A) → (xs ≡ []) ⊎ (xs ≢ [])
empty_or [] = inl refl
empty_or (x ∷ xs) = inr (λ none. cc)

pub empty_unless : {A : Type 0} (xs : List A) → (xs ≢ [] → ⊥) → xs ≡ []
empty_unless xs never = ⊎_elim (λ none. none) (λ some. absurd (never some)) (empty_or xs)

pub none_unless : (lock : Option Asker) → ((asker : Asker) → lock ≡ Some asker → ⊥) → lock ≡ None
none_unless None never = refl
none_unless (Some asker) never = absurd (never asker refl)

-- where a lock is held something has been fired
pub up_fired : (asker : Asker) (fired : List TemplateName) → fired ≡ asked_up_for asker → fired ≢ []
up_fired (child c) fired is none = cc
up_fired processor fired is none = cc
up_fired parent fired is none = cc
up_fired itself fired is none = cc

pub down_fired : (asker : Asker) (fired : List TemplateName) → AskedDownFor asker fired → fired ≢ []
down_fired (child c) fired (inl is) none = cc
down_fired (child c) fired (inr is) none = cc
down_fired processor fired (inl is) none = cc
down_fired processor fired (inr is) none = cc
down_fired parent fired is none = cc
down_fired itself fired is none = cc

-- what has been fired where the downlock is held is more than requests upward
pub down_not_up : (asker : Asker) (fired : List TemplateName) → AskedDownFor asker fired → list_all is_asking_up fired ≡ true → ⊥
down_not_up (child c) fired (inl is) all = let bad : false ≡ true = ap (list_all is_asking_up) (sym is) ∙ all in cc
down_not_up (child c) fired (inr is) all = let bad : false ≡ true = ap (list_all is_asking_up) (sym is) ∙ all in cc
down_not_up processor fired (inl is) all = let bad : false ≡ true = ap (list_all is_asking_up) (sym is) ∙ all in cc
down_not_up processor fired (inr is) all = let bad : false ≡ true = ap (list_all is_asking_up) (sym is) ∙ all in cc
down_not_up parent fired is all = let bad : false ≡ true = ap (list_all is_asking_up) (sym is) ∙ all in cc
down_not_up itself fired is all = let bad : false ≡ true = ap (list_all is_asking_up) (sym is) ∙ all in cc

up_all : (asker : Asker) → list_all is_asking_up (asked_up_for asker) ≡ true
up_all (child c) = refl
up_all processor = refl
up_all parent = refl
up_all itself = refl

-- a transaction doesn't hold both locks of an object
pub not_both : (one other : Asker) (fired : List TemplateName) → fired ≡ asked_up_for one → AskedDownFor other fired → ⊥
not_both one other fired up down = down_not_up other fired down (ap (list_all is_asking_up) up ∙ up_all one)

pub some_none : {asker : Asker} {lock : Option Asker} → lock ≡ Some asker → lock ≡ None → ⊥
some_none held free = cc

-- a held lock stays held where another lock is taken, and where one of another object is freed
pub held_more : (o : ℕ) (asker : Asker) (locks : ℕ → Option Asker) (k : ℕ) → IsHeld (locks k) → IsHeld (set_at o (Some asker) locks k)
held_more o asker locks k held =
    ⊎_elim
    (λ same. record { asker = asker; held = set_here o (Some asker) locks k same })
    (λ other. record { asker = held.asker; held = set_there o (Some asker) locks k other ∙ held.held })
    (same_or_other k o)

pub held_other : (o : ℕ) (locks : ℕ → Option Asker) (k : ℕ) → k ≢ o → IsHeld (locks k) → IsHeld (set_at o None locks k)
held_other o locks k other held = record { asker = held.asker; held = set_there o None locks k other ∙ held.held }

-- what has been fired below o is, for one firing more at o, as it was
pub untouched_more : (tree : Tree) (o : ℕ) (now : List TemplateName) (fired : ℕ → List TemplateName) (asker : Asker) → IsUntouchedBut tree fired o asker → IsUntouchedBut tree (set_at o now fired) o asker
untouched_more tree o now fired asker but k within other some = but k within other (λ none. some (set_there o now fired k other ∙ none))

-- a firing at an object that is ready
pub recorded_ready : (tree : Tree) (at : Progress) (o : ℕ) (t : TemplateName) → IsReady tree at o → IsReady tree (recorded o t at) o
recorded_ready tree at o t ready =
    let now = at.fired o ++ t ∷ [] in
    record {
      below = record { asks_up = ready.below.asks_up; answers_down = ready.below.answers_down; up = ready.below.up; down = ready.below.down };
      above = record { asks_down = ready.above.asks_down; answers_up = ready.above.answers_up; down = ready.above.down };
      not_rising = ready.not_rising;
      waits = λ high asker held. waits high asker held;
      untouched = λ d k there within. ⊎_elim (λ same. absurd (ready.outside d there (subst (λ j. InSubtree tree j d) same within))) (λ other. set_there o now at.fired k other ∙ ready.untouched d k there within) (same_or_other k o);
      asked = λ high asker held. subst (λ fired. AskedDownFor asker fired) (sym (set_there o now at.fired high (λ same. some_none held (ap at.down same ∙ ready.down)))) (ready.asked high asker held);
      up = ready.up;
      down = ready.down;
      outside = ready.outside;
      under = ready.under;
    }
  where
    waits : (high : ℕ) (asker : Asker) → at.up high ≡ Some asker → WaitsAbove tree (set_at o (at.fired o ++ t ∷ []) at.fired) high asker
    waits high asker held =
        let now = at.fired o ++ t ∷ [] in
        let old = ready.waits high asker held in
        record {
          asked = set_there o now at.fired high (λ same. some_none held (ap at.up same ∙ ready.up)) ∙ old.asked;
          child_asked = old.child_asked;
          untouched = λ k within other some. ⊎_elim
              (λ same. let way = ready.under high asker held (subst (λ j. InSubtree tree j high) same within) in (way.0, way.1, subst (λ j. InSubtree tree j way.0) (sym same) way.2))
              (λ elsewhere. old.untouched k within other (λ none. some (set_there o now at.fired k elsewhere ∙ none)))
              (same_or_other k o);
        }
