-- Each firing goes on with its transaction's role at its object, beside what the transaction has fired.
use Rattle.std.proofs.Common.{◌≡◌, ℕ, ◌+◌, ◌≤◌, true, List, [], ◌∷◌, ◌++◌, length, refl, ap, ◌∙◌, arith, Some, None, ⊎_elim, inl, inr, ◌⊎◌}
use Rattle.hem_template.specs.declared.template_name.TemplateName.{TemplateName}
use Rattle.hem_template.specs.declared.template_name.TemplateName.TheVariants.{ImmSelf, ImmDown, ImmUp, RqUp, RqUpSelf, RqUpDown, RqDownSelf, RqDownDown, RsDown, RsDownSelf, RsDownRqDown, RsUpDown, RsUpUp, RsUpSelf}
use Rattle.hem_tree.specs.Tree.{Tree, IsTree}
use Rattle.hem_tree.proofs.Paths.{IsEarly}
use Rattle.hem_tree.proofs.Early.{lawful_early}
use Rattle.hem_shape.specs.Progress.{Asker, child, processor, parent, itself, Progress, IsBlank}
use Rattle.hem_shape.specs.Move.{Taking, request, parent_answer, child_answers, Giving, answer, ask_up, ask_down, Move, CanTake, CanMove, template_name, progress_after}
use Rattle.hem_shape.specs.Shape.{HasShape, AskedDownFor}
use Rattle.hem_shape.specs.Roles.{begins_role, follows, goes_on, is_role, HasRoles, IsBeside}
use Rattle.hem_rows.proofs.Choices.{both}
use Rattle.hem_system.proofs.Takers.{parent_is}
use Rattle.hem_shape.proofs.Spots.{same_or_other, set_here, set_there}
use Rattle.hem_shape.proofs.Ready.{up_fired, down_fired}
use Rattle.hem_shape.proofs.Takes.{child_fired, parent_fired}
use Rattle.hem_shape.proofs.Phases.{fired_after}

-- how many templates can follow at most
abbrev rank : TemplateName → ℕ
rank RqUp = 2
rank RsDownRqDown = 1
rank RqUpSelf = 1
rank RqUpDown = 1
rank RqDownSelf = 1
rank RqDownDown = 1
rank _ = 0

falls_off : (t s : TemplateName) → follows t s ≡ true → rank s + 1 ≤ rank t
falls_off RqUp RsDown is = omega arith
falls_off RqUp RsDownRqDown is = omega arith
falls_off RsDownRqDown RsUpDown is = omega arith
falls_off RqUpSelf RsDownSelf is = omega arith
falls_off RqUpDown RsUpDown is = omega arith
falls_off RqDownSelf RsUpSelf is = omega arith
falls_off RqDownDown RsUpUp is = omega arith
falls_off _ _ is = cc

at_most_two : (t : TemplateName) → rank t ≤ 2
at_most_two RqUp = omega arith
at_most_two RsDownRqDown = omega arith
at_most_two RqUpSelf = omega arith
at_most_two RqUpDown = omega arith
at_most_two RqDownSelf = omega arith
at_most_two RqDownDown = omega arith
at_most_two _ = omega arith

short_rest : (t : TemplateName) (ts : List TemplateName) → goes_on t ts ≡ true → length ts ≤ rank t
short_rest t [] is = omega arith
short_rest t (s ∷ ts) is =
    let parts = both (follows t s) (goes_on s ts) is in
    let one = falls_off t s parts.0 in
    let rest = short_rest s ts parts.1 in
    omega (arith, one, rest)

-- a role is of at most three
pub at_most_three : (ts : List TemplateName) → is_role ts ≡ true → length ts ≤ 3
at_most_three [] is = omega arith
at_most_three (t ∷ ts) is =
    let rest = short_rest t ts (both (begins_role t) (goes_on t ts) is).1 in
    let two = at_most_two t in
    omega (arith, rest, two)

-- a role that has begun goes on
role_from : (fired before : List TemplateName) (t s : TemplateName) → fired ≡ before → t ≡ s → is_role (before ++ s ∷ []) ≡ true → is_role (fired ++ t ∷ []) ≡ true
role_from fired before t s one other is = ap (λ fired. is_role (fired ++ t ∷ [])) one ∙ ap (λ t. is_role (before ++ t ∷ [])) other ∙ is

-- the role at the firing's object
role_now : (tree : Tree) → IsEarly tree → (o : ℕ) (asker : Asker) (takes : Taking) (gives : Giving) (t : TemplateName) (at : Progress) → HasShape tree at → template_name takes asker gives ≡ Some t → CanTake tree o asker takes at → is_role (at.fired o ++ t ∷ []) ≡ true
role_now tree early o (child c) request answer t at shape named can = role_from (at.fired o) [] t ImmDown (child_fired tree early at o c shape can) (let is : t ≡ ImmDown = cc in is) refl
role_now tree early o (child c) request ask_up t at shape named can = role_from (at.fired o) [] t RqUp (child_fired tree early at o c shape can) (let is : t ≡ RqUp = cc in is) refl
role_now tree early o (child c) request (ask_down targets) t at shape named can = role_from (at.fired o) [] t RqUpDown (child_fired tree early at o c shape can) (let is : t ≡ RqUpDown = cc in is) refl
role_now tree early o parent request answer t at shape named can = role_from (at.fired o) [] t ImmUp (parent_fired tree at o shape can) (let is : t ≡ ImmUp = cc in is) refl
role_now tree early o parent request (ask_down targets) t at shape named can = role_from (at.fired o) [] t RqDownDown (parent_fired tree at o shape can) (let is : t ≡ RqDownDown = cc in is) refl
role_now tree early o processor request answer t at shape named can = role_from (at.fired o) [] t ImmDown (can.fired o) (let is : t ≡ ImmDown = cc in is) refl
role_now tree early o processor request ask_up t at shape named can = role_from (at.fired o) [] t RqUp (can.fired o) (let is : t ≡ RqUp = cc in is) refl
role_now tree early o processor request (ask_down targets) t at shape named can = role_from (at.fired o) [] t RqUpDown (can.fired o) (let is : t ≡ RqUpDown = cc in is) refl
role_now tree early o itself request answer t at shape named can = role_from (at.fired o) [] t ImmSelf (can.fired o) (let is : t ≡ ImmSelf = cc in is) refl
role_now tree early o itself request ask_up t at shape named can = role_from (at.fired o) [] t RqUpSelf (can.fired o) (let is : t ≡ RqUpSelf = cc in is) refl
role_now tree early o itself request (ask_down targets) t at shape named can = role_from (at.fired o) [] t RqDownSelf (can.fired o) (let is : t ≡ RqDownSelf = cc in is) refl
role_now tree early o (child c) parent_answer answer t at shape named can = role_from (at.fired o) (RqUp ∷ []) t RsDown (shape.waits o (child c) can.up).asked (let is : t ≡ RsDown = cc in is) refl
role_now tree early o processor parent_answer answer t at shape named can = role_from (at.fired o) (RqUp ∷ []) t RsDown (shape.waits o processor can.up).asked (let is : t ≡ RsDown = cc in is) refl
role_now tree early o itself parent_answer answer t at shape named can = role_from (at.fired o) (RqUpSelf ∷ []) t RsDownSelf (shape.waits o itself can.up).asked (let is : t ≡ RsDownSelf = cc in is) refl
role_now tree early o (child c) parent_answer (ask_down targets) t at shape named can = role_from (at.fired o) (RqUp ∷ []) t RsDownRqDown (shape.waits o (child c) can.up).asked (let is : t ≡ RsDownRqDown = cc in is) refl
role_now tree early o processor parent_answer (ask_down targets) t at shape named can = role_from (at.fired o) (RqUp ∷ []) t RsDownRqDown (shape.waits o processor can.up).asked (let is : t ≡ RsDownRqDown = cc in is) refl
role_now tree early o (child c) child_answers answer t at shape named can = answers (shape.asked o (child c) can.down)
  where
    answers : AskedDownFor (child c) (at.fired o) → is_role (at.fired o ++ t ∷ []) ≡ true
    answers (inl is) = role_from (at.fired o) (RqUpDown ∷ []) t RsUpDown is (let is : t ≡ RsUpDown = cc in is) refl
    answers (inr is) = role_from (at.fired o) (RqUp ∷ RsDownRqDown ∷ []) t RsUpDown is (let is : t ≡ RsUpDown = cc in is) refl
role_now tree early o processor child_answers answer t at shape named can = answers (shape.asked o processor can.down)
  where
    answers : AskedDownFor processor (at.fired o) → is_role (at.fired o ++ t ∷ []) ≡ true
    answers (inl is) = role_from (at.fired o) (RqUpDown ∷ []) t RsUpDown is (let is : t ≡ RsUpDown = cc in is) refl
    answers (inr is) = role_from (at.fired o) (RqUp ∷ RsDownRqDown ∷ []) t RsUpDown is (let is : t ≡ RsUpDown = cc in is) refl
role_now tree early o parent child_answers answer t at shape named can = role_from (at.fired o) (RqDownDown ∷ []) t RsUpUp (shape.asked o parent can.down) (let is : t ≡ RsUpUp = cc in is) refl
role_now tree early o itself child_answers answer t at shape named can = role_from (at.fired o) (RqDownSelf ∷ []) t RsUpSelf (shape.asked o itself can.down) (let is : t ≡ RsUpSelf = cc in is) refl
role_now tree early o _ _ _ t at shape named can = absurd (let bad : None ≡ Some t = named in cc)

pub roles_kept : (tree : Tree) (m : Move) (t : TemplateName) (at : Progress) → IsTree tree → HasShape tree at → CanMove tree m t at → HasRoles at → HasRoles (progress_after tree m t at)
roles_kept tree m t at lawful shape can roles =
    let now = at.fired m.object ++ t ∷ [] in
    record {
      each = λ k. ap is_role (fired_after tree m.object m.asker m.takes m.gives t at k) ∙ ⊎_elim
          (λ same. ap is_role (set_here m.object now at.fired k same) ∙ role_now tree (lawful_early tree lawful) m.object m.asker m.takes m.gives t at shape can.named can.takes)
          (λ other. ap is_role (set_there m.object now at.fired k other) ∙ roles.each k)
          (same_or_other k m.object);
    }

-- where a firing goes on, the transaction has fired there or beside
beside : (tree : Tree) (o : ℕ) (asker : Asker) (takes : Taking) (at : Progress) → HasShape tree at → CanTake tree o asker takes at → IsBlank at ⊎ IsBeside tree at o
beside tree o (child c) request at shape can =
    let held = shape.below.asks_up c can.there in
    inr (inr (inl (c, parent_is tree c o can.own, up_fired held.asker (at.fired c) (shape.waits c held.asker held.held).asked)))
beside tree o parent request at shape can =
    let above = shape.above.asks_down o can.there in
    inr (inr (inr (above.high, above.above, down_fired above.lock.asker (at.fired above.high) (shape.asked above.high above.lock.asker above.lock.held))))
beside tree o processor request at shape can = inl can
beside tree o itself request at shape can = inl can
beside tree o asker parent_answer at shape can = inr (inl (up_fired asker (at.fired o) (shape.waits o asker can.up).asked))
beside tree o asker child_answers at shape can = inr (inl (down_fired asker (at.fired o) (shape.asked o asker can.down)))

pub goes_on_beside : (tree : Tree) (m : Move) (t : TemplateName) (at : Progress) → HasShape tree at → CanMove tree m t at → IsBlank at ⊎ IsBeside tree at m.object
goes_on_beside tree m t at shape can = beside tree m.object m.asker m.takes at shape can.takes
