-- A firing keeps the shape of its transaction.
use Rattle.std.proofs.Common.{◌≡◌, ℕ, Bool, true, ◌++◌, ◌||◌, [], ◌∷◌, List, refl, sym, ap, ◌∙◌, subst, Some, None, inl, inr}
use Rattle.hem_template.specs.declared.template_name.TemplateName.{TemplateName}
use Rattle.hem_template.specs.declared.template_name.TemplateName.TheVariants.{RqUp, RqUpSelf, RqUpDown, RqDownSelf, RqDownDown, RsDownRqDown}
use Rattle.hem_tree.specs.Tree.{Tree, IsTree, is_child}
use Rattle.hem_tree.proofs.Paths.{IsEarly}
use Rattle.hem_tree.proofs.Early.{lawful_early}
use Rattle.hem_shape.specs.Subtree.{InSubtree}
use Rattle.hem_shape.specs.Progress.{Asker, child, processor, parent, itself, Progress, set_at}
use Rattle.hem_shape.specs.Move.{Taking, request, parent_answer, child_answers, Giving, answer, ask_up, ask_down, Move, CanTake, CanTakeChild, CanGive, CanMove, template_name, taken, recorded, given, progress_after}
use Rattle.hem_shape.specs.Shape.{HasShape, IsUntouchedBut, AskedDownFor, asked_up_for, is_asking_up}
use Rattle.hem_system.proofs.Takers.{parent_is}
use Rattle.hem_shape.proofs.Subtrees.{in_parents, not_in_child, one_branch}
use Rattle.hem_shape.proofs.Spots.{set_here, set_there}
use Rattle.hem_shape.proofs.Ready.{IsReady, StillWaits, empty_unless, recorded_ready, untouched_more}
use Rattle.hem_shape.proofs.Gives.{IsOnlyBelow, answer_given, request_given, requests_given, only_more}
use Rattle.hem_shape.proofs.Takes.{child_taken, child_fired, child_waits, child_untouched, child_only, parent_taken, parent_fired, parent_waits, parent_untouched, start_taken, start_only, start_untouched, start_waits, answer_taken, answer_waits, answers_taken, answers_waits}

-- a firing that answers
answered : (tree : Tree) (at : Progress) (o : ℕ) (asker : Asker) (t : TemplateName) → IsReady tree at o → StillWaits tree at.up at.down o asker → HasShape tree (given o asker answer (recorded o t at))
answered tree at o asker t ready waits = answer_given tree (recorded o t at) o asker (recorded_ready tree at o t ready) waits

-- a firing that asks the parent
asked_up : (tree : Tree) (at : Progress) (o : ℕ) (asker : Asker) (t : TemplateName) → IsReady tree at o → StillWaits tree at.up at.down o asker → IsOnlyBelow tree at o → at.fired o ≡ [] → t ∷ [] ≡ asked_up_for asker → is_asking_up t ≡ true → IsUntouchedBut tree at.fired o asker → ((c : ℕ) → asker ≡ child c → is_child tree c o ≡ true) → HasShape tree (record (recorded o t at) { asks_up = set_at o true at.asks_up; up = set_at o (Some asker) at.up })
asked_up tree at o asker t ready waits only none first up but own =
    let now = at.fired o ++ t ∷ [] in
    request_given tree (recorded o t at) o asker (recorded_ready tree at o t ready) waits (only_more tree at o t only none up)
    (set_here o now at.fired o refl ∙ ap (λ fired. fired ++ t ∷ []) none ∙ first)
    (untouched_more tree o now at.fired asker but) own

-- a firing that asks children
asked_down : (tree : Tree) → IsEarly tree → (at : Progress) (o : ℕ) (asker : Asker) (t : TemplateName) (targets : ℕ → Bool) → IsReady tree at o → StillWaits tree at.up at.down o asker → AskedDownFor asker (at.fired o ++ t ∷ []) → IsUntouchedBut tree at.fired o asker → ((c : ℕ) → asker ≡ child c → is_child tree c o ≡ true) → CanGive tree o asker (ask_down targets) → HasShape tree (record (recorded o t at) { asks_down = λ k. at.asks_down k || targets k; down = set_at o (Some asker) at.down })
asked_down tree early at o asker t targets ready waits fired but own can =
    let now = at.fired o ++ t ∷ [] in
    requests_given tree (recorded o t at) o asker targets (recorded_ready tree at o t ready) waits
    (subst (λ fired. AskedDownFor asker fired) (sym (set_here o now at.fired o refl)) fired)
    (λ k is. (can k is).0)
    (λ d k is within. set_there o now at.fired k (λ same. not_in_child tree early d o (parent_is tree d o (can d is).0) (subst (λ j. InSubtree tree j d) same within)) ∙ unfired d k is within)
  where
    unfired : (d k : ℕ) → targets d ≡ true → InSubtree tree k d → at.fired k ≡ []
    unfired d k is within =
        empty_unless (at.fired k) (λ some.
        let above = parent_is tree d o (can d is).0 in
        let way = but k (in_parents tree k d o above within) (λ same. not_in_child tree early d o above (subst (λ j. InSubtree tree j d) same within)) some in
        (can d is).1 (way.1 ∙ ap child (one_branch tree early k way.0 d o (parent_is tree way.0 o (own way.0 way.1)) above way.2 within)))

-- what has been fired after one template more
after : (fired : List TemplateName) (t : TemplateName) (before : List TemplateName) (s : TemplateName) → fired ≡ before → t ≡ s → fired ++ t ∷ [] ≡ before ++ s ∷ []
after fired t before s one other = ap (λ fired. fired ++ t ∷ []) one ∙ ap (λ t. before ++ t ∷ []) other

-- a child that asked is one's own
child_own : (tree : Tree) (at : Progress) (o c : ℕ) → CanTakeChild tree o c at → (d : ℕ) → child c ≡ child d → is_child tree d o ≡ true
child_own tree at o c can d is = let same : c ≡ d = cc in subst (λ j. is_child tree j o ≡ true) same can.own

-- where a child's request has been taken nothing is on its way
child_sent : (tree : Tree) (at : Progress) (o c : ℕ) → HasShape tree at → CanTakeChild tree o c at → IsOnlyBelow tree (taken tree o (child c) request at) o
child_sent tree at o c shape can =
    let only = child_only tree at o c shape can in
    record { no_answers_up = only.no_answers_up; no_asks_down = only.no_asks_down; no_answers_down = only.no_answers_down; within = only.within; upward = only.upward }

-- a firing that answers, whatever it takes, and one that asks, by what it takes
kept : (tree : Tree) → IsEarly tree → (o : ℕ) (asker : Asker) (takes : Taking) (gives : Giving) (t : TemplateName) (at : Progress) → HasShape tree at → template_name takes asker gives ≡ Some t → CanTake tree o asker takes at → CanGive tree o asker gives → HasShape tree (given o asker gives (recorded o t (taken tree o asker takes at)))
kept tree early o (child c) request answer t at shape named can to = answered tree (taken tree o (child c) request at) o (child c) t (child_taken tree early at o c shape can) (child_waits tree at o c shape can)
kept tree early o parent request answer t at shape named can to = answered tree (taken tree o parent request at) o parent t (parent_taken tree early at o shape can) (parent_waits tree at o shape can)
kept tree early o processor request answer t at shape named can to = answered tree at o processor t (start_taken tree at o shape can) (start_waits tree at o processor (λ c is. cc) (λ is. cc))
kept tree early o itself request answer t at shape named can to = answered tree at o itself t (start_taken tree at o shape can) (start_waits tree at o itself (λ c is. cc) (λ is. cc))
kept tree early o (child c) request ask_up t at shape named can to =
    let is : t ≡ RqUp = cc in
    asked_up tree (taken tree o (child c) request at) o (child c) t (child_taken tree early at o c shape can) (child_waits tree at o c shape can)
    (child_sent tree at o c shape can) (child_fired tree early at o c shape can) (ap (λ t. t ∷ []) is) (ap is_asking_up is) (child_untouched tree at o c shape can) (child_own tree at o c can)
kept tree early o processor request ask_up t at shape named can to =
    let is : t ≡ RqUp = cc in
    asked_up tree at o processor t (start_taken tree at o shape can) (start_waits tree at o processor (λ c is. cc) (λ is. cc))
    (start_only tree at o can) (can.fired o) (ap (λ t. t ∷ []) is) (ap is_asking_up is) (start_untouched tree at o processor can) (λ c is. cc)
kept tree early o itself request ask_up t at shape named can to =
    let is : t ≡ RqUpSelf = cc in
    asked_up tree at o itself t (start_taken tree at o shape can) (start_waits tree at o itself (λ c is. cc) (λ is. cc))
    (start_only tree at o can) (can.fired o) (ap (λ t. t ∷ []) is) (ap is_asking_up is) (start_untouched tree at o itself can) (λ c is. cc)
kept tree early o (child c) request (ask_down targets) t at shape named can to =
    let is : t ≡ RqUpDown = cc in
    asked_down tree early (taken tree o (child c) request at) o (child c) t targets (child_taken tree early at o c shape can) (child_waits tree at o c shape can)
    (inl (after (at.fired o) t [] RqUpDown (child_fired tree early at o c shape can) is)) (child_untouched tree at o c shape can) (child_own tree at o c can) to
kept tree early o processor request (ask_down targets) t at shape named can to =
    let is : t ≡ RqUpDown = cc in
    asked_down tree early at o processor t targets (start_taken tree at o shape can) (start_waits tree at o processor (λ c is. cc) (λ is. cc))
    (inl (after (at.fired o) t [] RqUpDown (can.fired o) is)) (start_untouched tree at o processor can) (λ c is. cc) to
kept tree early o itself request (ask_down targets) t at shape named can to =
    let is : t ≡ RqDownSelf = cc in
    asked_down tree early at o itself t targets (start_taken tree at o shape can) (start_waits tree at o itself (λ c is. cc) (λ is. cc))
    (after (at.fired o) t [] RqDownSelf (can.fired o) is) (start_untouched tree at o itself can) (λ c is. cc) to
kept tree early o parent request (ask_down targets) t at shape named can to =
    let is : t ≡ RqDownDown = cc in
    asked_down tree early (taken tree o parent request at) o parent t targets (parent_taken tree early at o shape can) (parent_waits tree at o shape can)
    (after (at.fired o) t [] RqDownDown (parent_fired tree at o shape can) is) (parent_untouched tree at o shape can) (λ c is. cc) to
kept tree early o (child c) parent_answer answer t at shape named can to = answered tree (taken tree o (child c) parent_answer at) o (child c) t (answer_taken tree at o (child c) shape can) (answer_waits tree early at o (child c) shape can (λ is. cc))
kept tree early o processor parent_answer answer t at shape named can to = answered tree (taken tree o processor parent_answer at) o processor t (answer_taken tree at o processor shape can) (answer_waits tree early at o processor shape can (λ is. cc))
kept tree early o itself parent_answer answer t at shape named can to = answered tree (taken tree o itself parent_answer at) o itself t (answer_taken tree at o itself shape can) (answer_waits tree early at o itself shape can (λ is. cc))
kept tree early o (child c) parent_answer (ask_down targets) t at shape named can to =
    let is : t ≡ RsDownRqDown = cc in
    let waits = shape.waits o (child c) can.up in
    asked_down tree early (taken tree o (child c) parent_answer at) o (child c) t targets (answer_taken tree at o (child c) shape can) (answer_waits tree early at o (child c) shape can (λ is. cc))
    (inr (after (at.fired o) t (RqUp ∷ []) RsDownRqDown waits.asked is)) waits.untouched waits.child_asked to
kept tree early o processor parent_answer (ask_down targets) t at shape named can to =
    let is : t ≡ RsDownRqDown = cc in
    let waits = shape.waits o processor can.up in
    asked_down tree early (taken tree o processor parent_answer at) o processor t targets (answer_taken tree at o processor shape can) (answer_waits tree early at o processor shape can (λ is. cc))
    (inr (after (at.fired o) t (RqUp ∷ []) RsDownRqDown waits.asked is)) waits.untouched waits.child_asked to
kept tree early o processor child_answers answer t at shape named can to = answered tree (taken tree o processor child_answers at) o processor t (answers_taken tree at o processor shape can) (answers_waits tree early at o processor shape can)
kept tree early o (child c) child_answers answer t at shape named can to = answered tree (taken tree o (child c) child_answers at) o (child c) t (answers_taken tree at o (child c) shape can) (answers_waits tree early at o (child c) shape can)
kept tree early o parent child_answers answer t at shape named can to = answered tree (taken tree o parent child_answers at) o parent t (answers_taken tree at o parent shape can) (answers_waits tree early at o parent shape can)
kept tree early o itself child_answers answer t at shape named can to = answered tree (taken tree o itself child_answers at) o itself t (answers_taken tree at o itself shape can) (answers_waits tree early at o itself shape can)
kept tree early o _ _ _ t at shape named can to = absurd (let bad : None ≡ Some t = named in cc)

pub shape_kept : (tree : Tree) (m : Move) (t : TemplateName) (at : Progress) → IsTree tree → HasShape tree at → CanMove tree m t at → HasShape tree (progress_after tree m t at)
shape_kept tree m t at law shape can = kept tree (lawful_early tree law) m.object m.asker m.takes m.gives t at shape can.named can.takes can.gives
