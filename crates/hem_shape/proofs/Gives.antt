-- What a firing gives, at an object that is ready, makes the shape.
use Rattle.std.proofs.Common.{◌≡◌, ◌≢◌, ℕ, Bool, true, false, ◌||◌, [], ◌∷◌, ◌++◌, refl, sym, ap, ◌∙◌, subst, Option, Some, ⊎_elim}
use Rattle.std.specs.List.{list_all}
use Rattle.hem_template.specs.declared.template_name.TemplateName.{TemplateName}
use Rattle.hem_tree.specs.Tree.{Tree, is_child}
use Rattle.hem_shape.specs.Subtree.{InSubtree}
use Rattle.hem_shape.specs.Progress.{Asker, child, processor, parent, itself, Progress, set_at}
use Rattle.hem_shape.specs.Move.{answer, given, recorded}
use Rattle.hem_shape.specs.Shape.{HasShape, IsHeld, IsHeldAbove, WaitsAbove, IsUntouchedBut, AskedDownFor, asked_up_for, is_asking_up}
use Rattle.hem_system.proofs.Takers.{parent_is}
use Rattle.hem_shape.proofs.Subtrees.{in_own}
use Rattle.hem_shape.proofs.Spots.{same_or_other, set_here, set_there, set_cases, or_cases, true_false}
use Rattle.hem_shape.proofs.Ready.{IsReady, StillWaits, held_more}

-- nothing is given
ready_shape : (tree : Tree) (at : Progress) (o : ℕ) → IsReady tree at o → HasShape tree at
ready_shape tree at o ready =
    record {
      below = ready.below;
      above = ready.above;
      rising = λ c there. absurd (true_false there (ready.not_rising c));
      waits = ready.waits;
      untouched = ready.untouched;
      asked = ready.asked;
    }

-- the answer to whoever asked
pub answer_given : (tree : Tree) (at : Progress) (o : ℕ) (asker : Asker) → IsReady tree at o → StillWaits tree at.up at.down o asker → HasShape tree (given o asker answer at)
answer_given tree at o processor ready waits = ready_shape tree at o ready
answer_given tree at o itself ready waits = ready_shape tree at o ready
answer_given tree at o (child c) ready waits =
    record {
      below = record {
        asks_up = ready.below.asks_up;
        answers_down = λ k there. ⊎_elim (λ new. subst (λ j. IsHeld (at.up j)) (sym new.0) (waits.below c refl)) (λ old. ready.below.answers_down k old.1) (set_cases c true at.answers_down k true there);
        up = ready.below.up;
        down = ready.below.down;
      };
      above = record { asks_down = ready.above.asks_down; answers_up = ready.above.answers_up; down = ready.above.down };
      rising = λ k there. absurd (true_false there (ready.not_rising k));
      waits = ready.waits;
      untouched = ready.untouched;
      asked = ready.asked;
    }
answer_given tree at o parent ready waits =
    record {
      below = record { asks_up = ready.below.asks_up; answers_down = ready.below.answers_down; up = ready.below.up; down = ready.below.down };
      above = record {
        asks_down = ready.above.asks_down;
        answers_up = λ k there. ⊎_elim (λ new. subst (λ j. IsHeldAbove tree at.down j) (sym new.0) (waits.above refl)) (λ old. ready.above.answers_up k old.1) (set_cases o true at.answers_up k true there);
        down = ready.above.down;
      };
      rising = λ k there. absurd (true_false there (ready.not_rising k));
      waits = ready.waits;
      untouched = ready.untouched;
      asked = ready.asked;
    }

-- a transaction with nothing on its way, that has only sent upward, and only below o
pub record IsOnlyBelow (tree : Tree) (at : Progress) (o : ℕ) : Type 0 where
  pub no_answers_up : (k : ℕ) → at.answers_up k ≡ false
  pub no_asks_down : (k : ℕ) → at.asks_down k ≡ false
  pub no_answers_down : (k : ℕ) → at.answers_down k ≡ false
  pub within : (k : ℕ) → at.fired k ≢ [] → InSubtree tree k o
  pub upward : (k : ℕ) → list_all is_asking_up (at.fired k) ≡ true

-- a request to the parent
pub request_given : (tree : Tree) (at : Progress) (o : ℕ) (asker : Asker) → IsReady tree at o → StillWaits tree at.up at.down o asker → IsOnlyBelow tree at o → at.fired o ≡ asked_up_for asker → IsUntouchedBut tree at.fired o asker → ((c : ℕ) → asker ≡ child c → is_child tree c o ≡ true) → HasShape tree (record at { asks_up = set_at o true at.asks_up; up = set_at o (Some asker) at.up })
request_given tree at o asker ready waits only fired but own =
    record {
      below = record {
        asks_up = λ k there. ⊎_elim (λ new. record { asker = asker; held = set_here o (Some asker) at.up k new.0 }) (λ old. absurd (true_false old.1 (ready.not_rising k))) (set_cases o true at.asks_up k true there);
        answers_down = λ k there. absurd (true_false there (only.no_answers_down k));
        up = λ high k held. ⊎_elim
            (λ new. held_more o asker at.up k (waits.below k (let same : Some asker ≡ Some (child k) = new.1 in cc)))
            (λ old. held_more o asker at.up k (ready.below.up high k old.1))
            (set_cases o (Some asker) at.up high (Some (child k)) held);
        down = λ high k held. held_more o asker at.up k (ready.below.down high k held);
      };
      above = record { asks_down = ready.above.asks_down; answers_up = ready.above.answers_up; down = ready.above.down };
      rising = λ c there. ⊎_elim (λ new. record {
        only = λ k here. ⊎_elim (λ this. this.0 ∙ sym new.0) (λ other. absurd (true_false other.1 (ready.not_rising k))) (set_cases o true at.asks_up k true here);
        no_answers_up = only.no_answers_up;
        no_asks_down = only.no_asks_down;
        no_answers_down = only.no_answers_down;
        within = λ k some. subst (λ j. InSubtree tree k j) (sym new.0) (only.within k some);
        upward = only.upward;
      }) (λ old. absurd (true_false old.1 (ready.not_rising c))) (set_cases o true at.asks_up c true there);
      waits = λ high by held. ⊎_elim
          (λ new. let same : asker ≡ by = (let locks : Some asker ≡ Some by = new.1 in cc) in
          subst (λ j. WaitsAbove tree at.fired j by) (sym new.0) (subst (λ a. WaitsAbove tree at.fired o a) same (record { asked = fired; child_asked = own; untouched = but })))
          (λ old. ready.waits high by old.1)
          (set_cases o (Some asker) at.up high (Some by) held);
      untouched = ready.untouched;
      asked = ready.asked;
    }

-- the parent's downlock stays held where another one is taken
above_more : (tree : Tree) (o : ℕ) (asker : Asker) (down : ℕ → Option Asker) (k : ℕ) → IsHeldAbove tree down k → IsHeldAbove tree (set_at o (Some asker) down) k
above_more tree o asker down k held = record { high = held.high; above = held.above; lock = held_more o asker down held.high held.lock }

-- requests to children
pub requests_given : (tree : Tree) (at : Progress) (o : ℕ) (asker : Asker) (targets : ℕ → Bool) → IsReady tree at o → StillWaits tree at.up at.down o asker → AskedDownFor asker (at.fired o) → ((k : ℕ) → targets k ≡ true → is_child tree k o ≡ true) → ((d k : ℕ) → targets d ≡ true → InSubtree tree k d → at.fired k ≡ []) → HasShape tree (record at { asks_down = λ k. at.asks_down k || targets k; down = set_at o (Some asker) at.down })
requests_given tree at o asker targets ready waits fired own new_ones =
    record {
      below = record {
        asks_up = ready.below.asks_up;
        answers_down = ready.below.answers_down;
        up = ready.below.up;
        down = λ high k held. ⊎_elim
            (λ new. (waits.below k (let same : Some asker ≡ Some (child k) = new.1 in cc)))
            (λ old. ready.below.down high k old.1)
            (set_cases o (Some asker) at.down high (Some (child k)) held);
      };
      above = record {
        asks_down = λ k there. ⊎_elim
            (λ old. above_more tree o asker at.down k (ready.above.asks_down k old))
            (λ new. record { high = o; above = parent_is tree k o (own k new); lock = record { asker = asker; held = set_here o (Some asker) at.down o refl } })
            (or_cases (at.asks_down k) (targets k) there);
        answers_up = λ k there. above_more tree o asker at.down k (ready.above.answers_up k there);
        down = λ k held. ⊎_elim
            (λ new. above_more tree o asker at.down k (subst (λ j. IsHeldAbove tree at.down j) (sym new.0) (waits.above (let same : Some asker ≡ Some parent = new.1 in cc))))
            (λ old. above_more tree o asker at.down k (ready.above.down k old.1))
            (set_cases o (Some asker) at.down k (Some parent) held);
      };
      rising = λ k there. absurd (true_false there (ready.not_rising k));
      waits = ready.waits;
      untouched = λ d k there within. ⊎_elim (λ old. ready.untouched d k old within) (λ new. new_ones d k new within) (or_cases (at.asks_down d) (targets d) there);
      asked = λ high by held. ⊎_elim
          (λ new. let same : asker ≡ by = (let locks : Some asker ≡ Some by = new.1 in cc) in
          subst (λ j. AskedDownFor by (at.fired j)) (sym new.0) (subst (λ a. AskedDownFor a (at.fired o)) same fired))
          (λ old. ready.asked high by old.1)
          (set_cases o (Some asker) at.down high (Some by) held);
    }

-- one request upward more
pub only_more : (tree : Tree) (at : Progress) (o : ℕ) (t : TemplateName) → IsOnlyBelow tree at o → at.fired o ≡ [] → is_asking_up t ≡ true → IsOnlyBelow tree (recorded o t at) o
only_more tree at o t only none up =
    let now = at.fired o ++ t ∷ [] in
    record {
      no_answers_up = only.no_answers_up;
      no_asks_down = only.no_asks_down;
      no_answers_down = only.no_answers_down;
      within = λ k some. ⊎_elim (λ same. subst (λ j. InSubtree tree j o) (sym same) (in_own tree o)) (λ other. only.within k (λ empty. some (set_there o now at.fired k other ∙ empty))) (same_or_other k o);
      upward = λ k. ⊎_elim
          (λ same. ap (list_all is_asking_up) (set_here o now at.fired k same ∙ ap (λ fired. fired ++ t ∷ []) none) ∙ one t up)
          (λ other. ap (list_all is_asking_up) (set_there o now at.fired k other) ∙ only.upward k)
          (same_or_other k o);
    }
  where
    one : (t : TemplateName) → is_asking_up t ≡ true → list_all is_asking_up (t ∷ []) ≡ true
    one t up = rw up refl
