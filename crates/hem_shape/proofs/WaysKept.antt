-- Each firing keeps that a transaction goes one way along each edge.
use Rattle.std.proofs.Common.{◌≡◌, ◌≢◌, ℕ, zero, suc, List, [], ◌∷◌, ◌++◌, length, refl, sym, ap, ◌∙◌, subst, arith, Some, None, ⊎_elim, inl, inr, ◌⊎◌}
use Rattle.std.specs.Prelude.{slice_get}
use Rattle.hem_template.specs.declared.template_name.TemplateName.{TemplateName}
use Rattle.hem_tree.specs.Tree.{Tree, parent_of, IsTree}
use Rattle.hem_tree.proofs.Paths.{IsEarly}
use Rattle.hem_tree.proofs.Early.{lawful_early}
use Rattle.hem_shape.specs.Progress.{Asker, child, processor, parent, itself, Progress}
use Rattle.hem_shape.specs.Move.{Taking, request, parent_answer, child_answers, Move, CanTake, CanMove, progress_after}
use Rattle.hem_shape.specs.Shape.{HasShape}
use Rattle.hem_shape.specs.Ways.{IsAmong, GoesUp, GoesDown, HasWays}
use Rattle.hem_system.proofs.Takers.{parent_is}
use Rattle.hem_shape.proofs.Subtrees.{child_in, in_early, child_in_child, parent_other}
use Rattle.hem_shape.proofs.Ready.{empty_or, up_fired, down_fired}
use Rattle.hem_shape.proofs.Takes.{child_fired, parent_fired}
use Rattle.hem_shape.proofs.Phases.{fired_still, fired_now, fired_was}

-- among one more
among_more : (moves : List Move) (m x : Move) → IsAmong moves x → IsAmong (moves ++ m ∷ []) x
among_more moves m x is = (is.0, at moves is.0 is.1)
  where
    at : (moves : List Move) (i : ℕ) → slice_get moves i ≡ Some x → slice_get (moves ++ m ∷ []) i ≡ Some x
    at [] i is = absurd (let bad : None ≡ Some x = is in cc)
    at (y ∷ moves) zero is = is
    at (y ∷ moves) (suc i) is = at moves i is

among_last : (moves : List Move) (m : Move) → IsAmong (moves ++ m ∷ []) m
among_last moves m = (length moves, at moves)
  where
    at : (moves : List Move) → slice_get (moves ++ m ∷ []) (length moves) ≡ Some m
    at [] = refl
    at (y ∷ moves) = at moves

among_cases : (moves : List Move) (m x : Move) → IsAmong (moves ++ m ∷ []) x → IsAmong moves x ⊎ (x ≡ m)
among_cases moves m x is = at moves is.0 is.1
  where
    more : (y : Move) (moves : List Move) → IsAmong moves x ⊎ (x ≡ m) → IsAmong (y ∷ moves) x ⊎ (x ≡ m)
    more y moves (inl is) = inl (suc is.0, is.1)
    more y moves (inr is) = inr is

    at : (moves : List Move) (i : ℕ) → slice_get (moves ++ m ∷ []) i ≡ Some x → IsAmong moves x ⊎ (x ≡ m)
    at [] zero is = inr (let same : m ≡ x = (let there : Some m ≡ Some x = is in cc) in sym same)
    at [] (suc i) is = absurd (let bad : None ≡ Some x = is in cc)
    at (y ∷ moves) zero is = inl (zero, is)
    at (y ∷ moves) (suc i) is = more y moves (at moves i is)

up_more : (moves : List Move) (m : Move) (o high : ℕ) → GoesUp moves o high → GoesUp (moves ++ m ∷ []) o high
up_more moves m o high goes = record { move = goes.move; among = among_more moves m goes.move goes.among; object = goes.object; takes = goes.takes; asker = goes.asker }

down_more : (moves : List Move) (m : Move) (o : ℕ) → GoesDown moves o → GoesDown (moves ++ m ∷ []) o
down_more moves m o goes = record { move = goes.move; among = among_more moves m goes.move goes.among; object = goes.object; takes = goes.takes; asker = goes.asker }

-- a request is taken only where nothing has been fired
pub request_first : (tree : Tree) → IsEarly tree → (o : ℕ) (asker : Asker) (takes : Taking) (at : Progress) → HasShape tree at → CanTake tree o asker takes at → takes ≡ request → at.fired o ≡ []
request_first tree early o (child c) request at shape can is = child_fired tree early at o c shape can
request_first tree early o parent request at shape can is = parent_fired tree at o shape can
request_first tree early o processor request at shape can is = can.fired o
request_first tree early o itself request at shape can is = can.fired o
request_first tree early o asker parent_answer at shape can is = absurd (let bad : parent_answer ≡ request = is in cc)
request_first tree early o asker child_answers at shape can is = absurd (let bad : child_answers ≡ request = is in cc)

-- an object at which a transaction fires first, below one at which it has fired, takes the parent's request
pub from_above : (tree : Tree) → IsEarly tree → (o high : ℕ) (asker : Asker) (takes : Taking) (at : Progress) → HasShape tree at → CanTake tree o asker takes at → parent_of tree o ≡ Some high → at.fired o ≡ [] → at.fired high ≢ [] → (takes ≡ request) × (asker ≡ parent)
from_above tree early o high (child c) request at shape can above first some =
    let below = parent_is tree c o can.own in
    let within = in_early tree early high c ((shape.rising c can.there).within high some) in
    let one = early.early o high above in
    let two = early.early c o below in
    absurd (omega (arith, within, one, two))
from_above tree early o high parent request at shape can above first some = (refl, refl)
from_above tree early o high processor request at shape can above first some = absurd (some (can.fired high))
from_above tree early o high itself request at shape can above first some = absurd (some (can.fired high))
from_above tree early o high asker parent_answer at shape can above first some = absurd (up_fired asker (at.fired o) (shape.waits o asker can.up).asked first)
from_above tree early o high asker child_answers at shape can above first some = absurd (down_fired asker (at.fired o) (shape.asked o asker can.down) first)

-- an object at which a transaction fires first, above one at which it has fired, takes that one's request
pub from_below : (tree : Tree) → IsEarly tree → (o high : ℕ) (asker : Asker) (takes : Taking) (at : Progress) → HasShape tree at → CanTake tree high asker takes at → parent_of tree o ≡ Some high → at.fired high ≡ [] → at.fired o ≢ [] → (takes ≡ request) × (asker ≡ child o)
from_below tree early o high (child c) request at shape can above first some =
    let within = (shape.rising c can.there).within o some in
    (refl, ap child (sym (child_in_child tree early o c high above (parent_is tree c high can.own) within)))
from_below tree early o high parent request at shape can above first some = absurd (some (shape.untouched high o can.there (child_in tree o high above)))
from_below tree early o high processor request at shape can above first some = absurd (some (can.fired o))
from_below tree early o high itself request at shape can above first some = absurd (some (can.fired o))
from_below tree early o high asker parent_answer at shape can above first some = absurd (up_fired asker (at.fired high) (shape.waits high asker can.up).asked first)
from_below tree early o high asker child_answers at shape can above first some = absurd (down_fired asker (at.fired high) (shape.asked high asker can.down) first)

-- the child that asked has fired, and the parent that asked
asker_fired : (tree : Tree) (o c : ℕ) (asker : Asker) (takes : Taking) (at : Progress) → HasShape tree at → CanTake tree o asker takes at → takes ≡ request → asker ≡ child c → at.fired c ≢ []
asker_fired tree o c (child d) request at shape can is asks =
    let held = shape.below.asks_up d can.there in
    subst (λ c. at.fired c ≢ []) (let same : d ≡ c = cc in same) (up_fired held.asker (at.fired d) (shape.waits d held.asker held.held).asked)
asker_fired tree o c parent request at shape can is asks = absurd (let bad : parent ≡ child c = asks in cc)
asker_fired tree o c processor request at shape can is asks = absurd (let bad : processor ≡ child c = asks in cc)
asker_fired tree o c itself request at shape can is asks = absurd (let bad : itself ≡ child c = asks in cc)
asker_fired tree o c asker parent_answer at shape can is asks = absurd (let bad : parent_answer ≡ request = is in cc)
asker_fired tree o c asker child_answers at shape can is asks = absurd (let bad : child_answers ≡ request = is in cc)

above_fired : (tree : Tree) (o high : ℕ) (asker : Asker) (takes : Taking) (at : Progress) → HasShape tree at → CanTake tree o asker takes at → parent_of tree o ≡ Some high → takes ≡ request → asker ≡ parent → at.fired high ≢ []
above_fired tree o high parent request at shape can above is asks =
    let held = shape.above.asks_down o can.there in
    subst (λ h. at.fired h ≢ []) (let same : held.high ≡ high = (let both : Some held.high ≡ Some high = sym held.above ∙ above in cc) in same) (down_fired held.lock.asker (at.fired held.high) (shape.asked held.high held.lock.asker held.lock.held))
above_fired tree o high (child c) request at shape can above is asks = absurd (let bad : child c ≡ parent = asks in cc)
above_fired tree o high processor request at shape can above is asks = absurd (let bad : processor ≡ parent = asks in cc)
above_fired tree o high itself request at shape can above is asks = absurd (let bad : itself ≡ parent = asks in cc)
above_fired tree o high asker parent_answer at shape can above is asks = absurd (let bad : parent_answer ≡ request = is in cc)
above_fired tree o high asker child_answers at shape can above is asks = absurd (let bad : child_answers ≡ request = is in cc)

pub ways_kept : (tree : Tree) (m : Move) (t : TemplateName) (at : Progress) (moves : List Move) → IsTree tree → HasShape tree at → CanMove tree m t at → HasWays tree at moves → HasWays tree (progress_after tree m t at) (moves ++ m ∷ [])
ways_kept tree m t at moves lawful shape can ways =
    let early = lawful_early tree lawful in
    record {
      gone = λ o high above some other. ⊎_elim
          (λ here. ⊎_elim (λ there. absurd (parent_other tree early o high above (there ∙ sym here))) (λ was. at_child early o high above here was) (fired_was tree m t at high other))
          (λ was. ⊎_elim (λ there. at_parent early o high above there was) (λ both. old o high above was both) (fired_was tree m t at high other))
          (fired_was tree m t at o some);
      made = λ x among. ⊎_elim (λ old. fired_still tree m t at x.object (ways.made x old)) (λ same. subst (λ x. (progress_after tree m t at).fired x.object ≢ []) (sym same) (fired_now tree m t at)) (among_cases moves m x among);
      up_fired = λ o high goes. fired_still tree m t at o (⊎_elim
          (λ old. ways.up_fired o high (record { move = goes.move; among = old; object = goes.object; takes = goes.takes; asker = goes.asker }))
          (λ same. asker_fired tree m.object o m.asker m.takes at shape can.takes (ap (λ (x : Move). x.takes) (sym same) ∙ goes.takes) (ap (λ (x : Move). x.asker) (sym same) ∙ goes.asker))
          (among_cases moves m goes.move goes.among));
      down_fired = λ o high above goes. fired_still tree m t at high (⊎_elim
          (λ old. ways.down_fired o high above (record { move = goes.move; among = old; object = goes.object; takes = goes.takes; asker = goes.asker }))
          (λ same. above_fired tree m.object high m.asker m.takes at shape can.takes (ap (parent_of tree) (ap (λ (x : Move). x.object) (sym same) ∙ goes.object) ∙ above) (ap (λ (x : Move). x.takes) (sym same) ∙ goes.takes) (ap (λ (x : Move). x.asker) (sym same) ∙ goes.asker))
          (among_cases moves m goes.move goes.among));
      once = λ o high above up down. ⊎_elim
          (λ old_up. ⊎_elim
          (λ old_down. ways.once o high above (record { move = up.move; among = old_up; object = up.object; takes = up.takes; asker = up.asker }) (record { move = down.move; among = old_down; object = down.object; takes = down.takes; asker = down.asker }))
          (λ now_down.
          ways.up_fired o high (record { move = up.move; among = old_up; object = up.object; takes = up.takes; asker = up.asker })
          (ap at.fired (sym (ap (λ (x : Move). x.object) (sym now_down) ∙ down.object)) ∙ request_first tree early m.object m.asker m.takes at shape can.takes (ap (λ (x : Move). x.takes) (sym now_down) ∙ down.takes)))
          (among_cases moves m down.move down.among))
          (λ now_up. ⊎_elim
          (λ old_down.
          ways.down_fired o high above (record { move = down.move; among = old_down; object = down.object; takes = down.takes; asker = down.asker })
          (ap at.fired (sym (ap (λ (x : Move). x.object) (sym now_up) ∙ up.object)) ∙ request_first tree early m.object m.asker m.takes at shape can.takes (ap (λ (x : Move). x.takes) (sym now_up) ∙ up.takes)))
          (λ now_down. let bad : child o ≡ parent = sym up.asker ∙ ap (λ (x : Move). x.asker) (now_up ∙ sym now_down) ∙ down.asker in cc)
          (among_cases moves m down.move down.among))
          (among_cases moves m up.move up.among);
    }
  where
    old : (o high : ℕ) → parent_of tree o ≡ Some high → at.fired o ≢ [] → at.fired high ≢ [] → GoesUp (moves ++ m ∷ []) o high ⊎ GoesDown (moves ++ m ∷ []) o
    old o high above some other = ⊎_elim (λ up. inl (up_more moves m o high up)) (λ down. inr (down_more moves m o down)) (ways.gone o high above some other)

    at_child : IsEarly tree → (o high : ℕ) → parent_of tree o ≡ Some high → o ≡ m.object → at.fired high ≢ [] → GoesUp (moves ++ m ∷ []) o high ⊎ GoesDown (moves ++ m ∷ []) o
    at_child early o high above here other =
        ⊎_elim
        (λ first. let it = from_above tree early m.object high m.asker m.takes at shape can.takes (ap (parent_of tree) (sym here) ∙ above) (ap at.fired (sym here) ∙ first) other in
        inr (record { move = m; among = among_last moves m; object = sym here; takes = it.0; asker = it.1 }))
        (λ some. old o high above some other)
        (empty_or (at.fired o))

    at_parent : IsEarly tree → (o high : ℕ) → parent_of tree o ≡ Some high → high ≡ m.object → at.fired o ≢ [] → GoesUp (moves ++ m ∷ []) o high ⊎ GoesDown (moves ++ m ∷ []) o
    at_parent early o high above there some =
        ⊎_elim
        (λ first. let it = from_below tree early o m.object m.asker m.takes at shape can.takes (above ∙ ap Some there) (ap at.fired (sym there) ∙ first) some in
        inl (record { move = m; among = among_last moves m; object = sym there; takes = it.0; asker = it.1 }))
        (λ other. old o high above some other)
        (empty_or (at.fired high))
