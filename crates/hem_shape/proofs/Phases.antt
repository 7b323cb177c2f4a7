-- Each firing goes on with the phases of its transaction.
use Rattle.std.proofs.Common.{◌≡◌, ◌≢◌, ◌<◌, arith, ℕ, true, false, List, [], ◌∷◌, ◌++◌, refl, sym, ap, ◌∙◌, subst, Some, None, ⊎_elim, inl, inr, ◌⊎◌}
use Rattle.hem_template.specs.declared.template_name.TemplateName.{TemplateName}
use Rattle.hem_template.specs.declared.template_name.TemplateName.TheVariants.{ImmSelf, ImmDown, ImmUp, RqUp, RqUpSelf, RqUpDown, RqDownSelf, RqDownDown, RsDown, RsDownSelf, RsDownRqDown, RsUpDown, RsUpUp, RsUpSelf}
use Rattle.hem_tree.specs.Tree.{Tree, parent_of, IsTree}
use Rattle.hem_tree.proofs.Paths.{IsEarly}
use Rattle.hem_tree.proofs.Early.{lawful_early}
use Rattle.hem_shape.specs.Subtree.{InSubtree}
use Rattle.hem_shape.specs.Progress.{Asker, child, processor, parent, itself, Progress, IsBlank, set_at}
use Rattle.hem_shape.specs.Move.{Taking, request, parent_answer, child_answers, Giving, answer, ask_up, ask_down, Move, CanTake, CanMove, template_name, taken, recorded, given, progress_after}
use Rattle.hem_shape.specs.Shape.{HasShape, is_asking_up}
use Rattle.hem_trace.specs.Blocks.{Each}
use Rattle.hem_shape.specs.Phases.{Made, ClimbsFrom, IsClimb, IsRooted, Rises, Falls, HasForm, IsUnbegun, HasPhases, made_by}
use Rattle.hem_system.proofs.Takers.{parent_is}
use Rattle.hem_shape.proofs.Subtrees.{child_in, in_own, in_early, in_parents, in_higher, not_in_child, parent_other}
use Rattle.hem_shape.proofs.Spots.{same_or_other, set_here, set_there, set_cases, true_false, not_false}
use Rattle.hem_shape.proofs.Ready.{up_fired, down_fired, down_not_up, some_none}

-- facts of lists
pub each_end : {A : Type 0} (P : A → Type 0) (xs : List A) (x : A) → Each P xs → P x → Each P (xs ++ x ∷ [])
each_end P [] x each it = (it, tt)
each_end P (y ∷ xs) x each it = (each.0, each_end P xs x each.1 it)

pub each_into : {A : Type 0} (P Q : A → Type 0) (xs : List A) → ((x : A) → P x → Q x) → Each P xs → Each Q xs
each_into P Q [] into each = tt
each_into P Q (x ∷ xs) into each = (into x each.0, each_into P Q xs into each.1)

pub each_both : {A : Type 0} (P Q : A → Type 0) (xs : List A) → Each P xs → Each Q xs → Each (λ x. P x × Q x) xs
each_both P Q [] p q = tt
each_both P Q (x ∷ xs) p q = ((p.0, q.0), each_both P Q xs p.1 q.1)

-- one more at the parent of the last
climb_end : (tree : Tree) (xs : List Made) (a b : Made) → IsClimb tree (xs ++ a ∷ []) → parent_of tree a.object ≡ Some b.object → IsClimb tree ((xs ++ a ∷ []) ++ b ∷ [])
climb_end tree [] a b climb above = (above, tt)
climb_end tree (x ∷ xs) a b climb above = from x xs climb
  where
    from : (x : Made) (xs : List Made) → ClimbsFrom tree x (xs ++ a ∷ []) → ClimbsFrom tree x ((xs ++ a ∷ []) ++ b ∷ [])
    from x [] climb = (climb.0, (above, tt))
    from x (y ∷ xs) climb = (climb.0, from y xs climb.1)

append_end : {A : Type 0} (xs : List A) (a : A) (ys : List A) (y : A) → (xs ++ a ∷ ys) ++ y ∷ [] ≡ xs ++ a ∷ (ys ++ y ∷ [])
append_end [] a ys y = refl
append_end (x ∷ xs) a ys y = ap (λ l. x ∷ l) (append_end xs a ys y)

-- what has been fired stays fired
fired_more : (o : ℕ) (now : List TemplateName) (fired : ℕ → List TemplateName) (k : ℕ) → now ≢ [] → fired k ≢ [] → set_at o now fired k ≢ []
fired_more o now fired k some was none =
    ⊎_elim (λ same. some (sym (set_here o now fired k same) ∙ none)) (λ other. was (sym (set_there o now fired k other) ∙ none)) (same_or_other k o)

end_some : {A : Type 0} (xs : List A) (x : A) → xs ++ x ∷ [] ≢ []
end_some [] x none = cc
end_some (y ∷ xs) x none = cc

-- an object that can fire, while the transaction only rises: it is the parent of the one that asked last
pub record RisesFrom (tree : Tree) (at : Progress) (o low : ℕ) : Type 0 where
  pub each : (k : ℕ) → at.fired k ≢ [] → InSubtree tree k o × (k ≢ o)
  pub above : parent_of tree low ≡ Some o

rises_from : (tree : Tree) → IsEarly tree → (o : ℕ) (asker : Asker) (takes : Taking) (at : Progress) (low : ℕ) → HasShape tree at → CanTake tree o asker takes at → at.asks_up low ≡ true → RisesFrom tree at o low
rises_from tree early o (child c) request at low shape can asks =
    let way = shape.rising c can.there in
    let above = parent_is tree c o can.own in
    record { each = λ k some. let within = way.within k some in (in_parents tree k c o above within, λ same. not_in_child tree early c o above (subst (λ j. InSubtree tree j c) same within)); above = ap (parent_of tree) (way.only low asks) ∙ above }
rises_from tree early o parent request at low shape can asks = absurd (true_false can.there ((shape.rising low asks).no_asks_down o))
rises_from tree early o processor request at low shape can asks = absurd (true_false asks (can.asks_up low))
rises_from tree early o itself request at low shape can asks = absurd (true_false asks (can.asks_up low))
rises_from tree early o asker parent_answer at low shape can asks = absurd (true_false can.there ((shape.rising low asks).no_answers_down o))
rises_from tree early o asker child_answers at low shape can asks = absurd (down_not_up asker (at.fired o) (shape.asked o asker can.down) ((shape.rising low asks).upward o))

-- an object that can fire, once the anchor was fired, is in the subtree of the anchor's object
falls_to : (tree : Tree) (o : ℕ) (asker : Asker) (takes : Taking) (at : Progress) (w : ℕ) → HasShape tree at → CanTake tree o asker takes at → ((k : ℕ) → at.asks_up k ≡ false) → ((k : ℕ) → at.fired k ≢ [] → InSubtree tree k w) → at.fired w ≢ [] → InSubtree tree o w
falls_to tree o (child c) request at w shape can none within some = absurd (true_false can.there (none c))
falls_to tree o parent request at w shape can none within some =
    let above = shape.above.asks_down o can.there in
    in_higher tree o above.high w above.above (within above.high (down_fired above.lock.asker (at.fired above.high) (shape.asked above.high above.lock.asker above.lock.held)))
falls_to tree o processor request at w shape can none within some = absurd (some (can.fired w))
falls_to tree o itself request at w shape can none within some = absurd (some (can.fired w))
falls_to tree o asker parent_answer at w shape can none within some = within o (up_fired asker (at.fired o) (shape.waits o asker can.up).asked)
falls_to tree o asker child_answers at w shape can none within some = within o (down_fired asker (at.fired o) (shape.asked o asker can.down))

-- a request upward is sent by a start, or where a child's request is taken
no_more_up : (tree : Tree) (o : ℕ) (asker : Asker) (takes : Taking) (t : TemplateName) (at : Progress) (w : ℕ) → template_name takes asker ask_up ≡ Some t → CanTake tree o asker takes at → ((k : ℕ) → at.asks_up k ≡ false) → at.fired w ≢ [] → ⊥
no_more_up tree o (child c) request t at w named can none some = true_false can.there (none c)
no_more_up tree o processor request t at w named can none some = some (can.fired w)
no_more_up tree o itself request t at w named can none some = some (can.fired w)
no_more_up tree o parent request t at w named can none some = let bad : None ≡ Some t = named in cc
no_more_up tree o _ _ t at w named can none some = let bad : None ≡ Some t = named in cc

-- which templates send a request upward
pub up_gives : (takes : Taking) (asker : Asker) (gives : Giving) (t : TemplateName) → template_name takes asker gives ≡ Some t → ((gives ≡ ask_up) × (is_asking_up t ≡ true)) ⊎ ((gives ≢ ask_up) × (is_asking_up t ≡ false))
up_gives request itself answer t named = let is : t ≡ ImmSelf = cc in inr ((λ same. cc), ap is_asking_up is)
up_gives request (child c) answer t named = let is : t ≡ ImmDown = cc in inr ((λ same. cc), ap is_asking_up is)
up_gives request processor answer t named = let is : t ≡ ImmDown = cc in inr ((λ same. cc), ap is_asking_up is)
up_gives request parent answer t named = let is : t ≡ ImmUp = cc in inr ((λ same. cc), ap is_asking_up is)
up_gives request (child c) ask_up t named = let is : t ≡ RqUp = cc in inl (refl, ap is_asking_up is)
up_gives request processor ask_up t named = let is : t ≡ RqUp = cc in inl (refl, ap is_asking_up is)
up_gives request itself ask_up t named = let is : t ≡ RqUpSelf = cc in inl (refl, ap is_asking_up is)
up_gives request (child c) (ask_down targets) t named = let is : t ≡ RqUpDown = cc in inr ((λ same. cc), ap is_asking_up is)
up_gives request processor (ask_down targets) t named = let is : t ≡ RqUpDown = cc in inr ((λ same. cc), ap is_asking_up is)
up_gives request itself (ask_down targets) t named = let is : t ≡ RqDownSelf = cc in inr ((λ same. cc), ap is_asking_up is)
up_gives request parent (ask_down targets) t named = let is : t ≡ RqDownDown = cc in inr ((λ same. cc), ap is_asking_up is)
up_gives parent_answer (child c) answer t named = let is : t ≡ RsDown = cc in inr ((λ same. cc), ap is_asking_up is)
up_gives parent_answer processor answer t named = let is : t ≡ RsDown = cc in inr ((λ same. cc), ap is_asking_up is)
up_gives parent_answer itself answer t named = let is : t ≡ RsDownSelf = cc in inr ((λ same. cc), ap is_asking_up is)
up_gives parent_answer (child c) (ask_down targets) t named = let is : t ≡ RsDownRqDown = cc in inr ((λ same. cc), ap is_asking_up is)
up_gives parent_answer processor (ask_down targets) t named = let is : t ≡ RsDownRqDown = cc in inr ((λ same. cc), ap is_asking_up is)
up_gives child_answers (child c) answer t named = let is : t ≡ RsUpDown = cc in inr ((λ same. cc), ap is_asking_up is)
up_gives child_answers processor answer t named = let is : t ≡ RsUpDown = cc in inr ((λ same. cc), ap is_asking_up is)
up_gives child_answers parent answer t named = let is : t ≡ RsUpUp = cc in inr ((λ same. cc), ap is_asking_up is)
up_gives child_answers itself answer t named = let is : t ≡ RsUpSelf = cc in inr ((λ same. cc), ap is_asking_up is)
up_gives _ _ _ t named = absurd (let bad : None ≡ Some t = named in cc)

-- without a request upward none is under way that wasn't before
no_asks_given : (o : ℕ) (asker : Asker) (gives : Giving) (at : Progress) (k : ℕ) → gives ≢ ask_up → at.asks_up k ≡ false → (given o asker gives at).asks_up k ≡ false
no_asks_given o (child c) answer at k other none = none
no_asks_given o processor answer at k other none = none
no_asks_given o parent answer at k other none = none
no_asks_given o itself answer at k other none = none
no_asks_given o asker ask_up at k other none = absurd (other refl)
no_asks_given o asker (ask_down targets) at k other none = none

no_asks_taken : (tree : Tree) (o : ℕ) (asker : Asker) (takes : Taking) (at : Progress) (k : ℕ) → at.asks_up k ≡ false → (taken tree o asker takes at).asks_up k ≡ false
no_asks_taken tree o (child c) request at k none = not_false (set_at c false at.asks_up k) (λ there. ⊎_elim (λ new. let bad : false ≡ true = new.1 in cc) (λ old. true_false old.1 none) (set_cases c false at.asks_up k true there))
no_asks_taken tree o processor request at k none = none
no_asks_taken tree o parent request at k none = none
no_asks_taken tree o itself request at k none = none
no_asks_taken tree o asker parent_answer at k none = none
no_asks_taken tree o asker child_answers at k none = none

-- once the one request upward is taken none is under way
asks_gone : (tree : Tree) (o : ℕ) (asker : Asker) (takes : Taking) (at : Progress) → HasShape tree at → CanTake tree o asker takes at → (k : ℕ) → (taken tree o asker takes at).asks_up k ≡ false
asks_gone tree o (child c) request at shape can k =
    not_false (set_at c false at.asks_up k) (λ there. ⊎_elim (λ new. let bad : false ≡ true = new.1 in cc) (λ old. old.0 ((shape.rising c can.there).only k old.1)) (set_cases c false at.asks_up k true there))
asks_gone tree o parent request at shape can k = not_false (at.asks_up k) (λ there. true_false can.there ((shape.rising k there).no_asks_down o))
asks_gone tree o processor request at shape can k = can.asks_up k
asks_gone tree o itself request at shape can k = can.asks_up k
asks_gone tree o asker parent_answer at shape can k = not_false (at.asks_up k) (λ there. true_false can.there ((shape.rising k there).no_answers_down o))
asks_gone tree o asker child_answers at shape can k = not_false (at.asks_up k) (λ there. down_not_up asker (at.fired o) (shape.asked o asker can.down) ((shape.rising k there).upward o))

-- what is fired after a firing
pub fired_after : (tree : Tree) (o : ℕ) (asker : Asker) (takes : Taking) (gives : Giving) (t : TemplateName) (at : Progress) (k : ℕ) → (given o asker gives (recorded o t (taken tree o asker takes at))).fired k ≡ set_at o (at.fired o ++ t ∷ []) at.fired k
fired_after tree o asker takes gives t at k = given_same o asker gives (recorded o t (taken tree o asker takes at)) k ∙ taken_same tree o asker takes at k
  where
    given_same : (o : ℕ) (asker : Asker) (gives : Giving) (at : Progress) (k : ℕ) → (given o asker gives at).fired k ≡ at.fired k
    given_same o (child c) answer at k = refl
    given_same o processor answer at k = refl
    given_same o parent answer at k = refl
    given_same o itself answer at k = refl
    given_same o asker ask_up at k = refl
    given_same o asker (ask_down targets) at k = refl

    taken_same : (tree : Tree) (o : ℕ) (asker : Asker) (takes : Taking) (at : Progress) (k : ℕ) → (recorded o t (taken tree o asker takes at)).fired k ≡ set_at o (at.fired o ++ t ∷ []) at.fired k
    taken_same tree o (child c) request at k = refl
    taken_same tree o processor request at k = refl
    taken_same tree o parent request at k = refl
    taken_same tree o itself request at k = refl
    taken_same tree o asker parent_answer at k = refl
    taken_same tree o asker child_answers at k = refl

-- where a firing sends no request upward, none is under way after it
pub none_after : (tree : Tree) (m : Move) (t : TemplateName) (at : Progress) → HasShape tree at → CanTake tree m.object m.asker m.takes at → m.gives ≢ ask_up → (k : ℕ) → (progress_after tree m t at).asks_up k ≡ false
none_after tree m t at shape can other k = no_asks_given m.object m.asker m.gives (recorded m.object t (taken tree m.object m.asker m.takes at)) k other (asks_gone tree m.object m.asker m.takes at shape can k)

-- where it sends one, that is under way
pub asks_after : (tree : Tree) (m : Move) (t : TemplateName) (at : Progress) → m.gives ≡ ask_up → (progress_after tree m t at).asks_up m.object ≡ true
asks_after tree m t at same =
    let mid = recorded m.object t (taken tree m.object m.asker m.takes at) in
    ap (λ gives. (given m.object m.asker gives mid).asks_up m.object) same ∙ set_here m.object true mid.asks_up m.object refl

-- what was fired stays fired, and the new firing's object has fired
pub fired_still : (tree : Tree) (m : Move) (t : TemplateName) (at : Progress) (k : ℕ) → at.fired k ≢ [] → (progress_after tree m t at).fired k ≢ []
fired_still tree m t at k some none = fired_more m.object (at.fired m.object ++ t ∷ []) at.fired k (end_some (at.fired m.object) t) some (sym (fired_after tree m.object m.asker m.takes m.gives t at k) ∙ none)

pub fired_now : (tree : Tree) (m : Move) (t : TemplateName) (at : Progress) → (progress_after tree m t at).fired m.object ≢ []
fired_now tree m t at none = end_some (at.fired m.object) t (sym (set_here m.object (at.fired m.object ++ t ∷ []) at.fired m.object refl) ∙ sym (fired_after tree m.object m.asker m.takes m.gives t at m.object) ∙ none)

-- an object that has fired after a firing had fired before it, or is the firing's
pub fired_was : (tree : Tree) (m : Move) (t : TemplateName) (at : Progress) (k : ℕ) → (progress_after tree m t at).fired k ≢ [] → (k ≡ m.object) ⊎ (at.fired k ≢ [])
fired_was tree m t at k some =
    ⊎_elim (λ same. inl same) (λ other. inr (λ none. some (fired_after tree m.object m.asker m.takes m.gives t at k ∙ set_there m.object (at.fired m.object ++ t ∷ []) at.fired k other ∙ none))) (same_or_other k m.object)

-- what has been fired hangs together after a firing: it hung together under low, whose parent fires now, or the firing is beside
rooted_first : (tree : Tree) (m : Move) (t : TemplateName) (at : Progress) → IsBlank at → IsRooted tree (progress_after tree m t at).fired m.object
rooted_first tree m t at blank =
    record {
      within = λ k some. subst (λ j. InSubtree tree j m.object) (sym (only k some)) (in_own tree m.object);
      parents = λ k some other. absurd (other (only k some));
    }
  where
    only : (k : ℕ) → (progress_after tree m t at).fired k ≢ [] → k ≡ m.object
    only k some = ⊎_elim (λ same. same) (λ was. absurd (was (blank.fired k))) (fired_was tree m t at k some)

rooted_up : (tree : Tree) (m : Move) (t : TemplateName) (at : Progress) (low : ℕ) → IsRooted tree at.fired low → parent_of tree low ≡ Some m.object → IsRooted tree (progress_after tree m t at).fired m.object
rooted_up tree m t at low rooted above =
    record {
      within = λ k some. ⊎_elim (λ same. subst (λ j. InSubtree tree j m.object) (sym same) (in_own tree m.object)) (λ was. in_parents tree k low m.object above (rooted.within k was)) (fired_was tree m t at k some);
      parents = λ k some other. ⊎_elim (λ same. absurd (other same)) (λ was. higher k was) (fired_was tree m t at k some);
    }
  where
    higher : (k : ℕ) → at.fired k ≢ [] → (high : ℕ) × (parent_of tree k ≡ Some high) × ((progress_after tree m t at).fired high ≢ [])
    higher k was =
        ⊎_elim
        (λ same. (m.object, ap (parent_of tree) same ∙ above, fired_now tree m t at))
        (λ other. let old = rooted.parents k was other in (old.0, old.1, fired_still tree m t at old.0 old.2))
        (same_or_other k low)

rooted_beside : (tree : Tree) (m : Move) (t : TemplateName) (at : Progress) (w : ℕ) → IsRooted tree at.fired w → InSubtree tree m.object w → ((m.object ≢ w) → (high : ℕ) × (parent_of tree m.object ≡ Some high) × (at.fired high ≢ [])) → IsRooted tree (progress_after tree m t at).fired w
rooted_beside tree m t at w rooted here higher =
    record {
      within = λ k some. ⊎_elim (λ same. subst (λ j. InSubtree tree j w) (sym same) here) (λ was. rooted.within k was) (fired_was tree m t at k some);
      parents = λ k some other. ⊎_elim
          (λ same. let it = higher (λ is. other (same ∙ is)) in (it.0, ap (parent_of tree) same ∙ it.1, fired_still tree m t at it.0 it.2))
          (λ was. let old = rooted.parents k was other in (old.0, old.1, fired_still tree m t at old.0 old.2))
          (fired_was tree m t at k some);
    }

-- once the anchor was fired, the parent of a firing's object has fired, but for the anchor's
parent_has_fired : (tree : Tree) (o : ℕ) (asker : Asker) (takes : Taking) (at : Progress) (w : ℕ) → HasShape tree at → CanTake tree o asker takes at → ((k : ℕ) → at.asks_up k ≡ false) → IsRooted tree at.fired w → at.fired w ≢ [] → o ≢ w → (high : ℕ) × (parent_of tree o ≡ Some high) × (at.fired high ≢ [])
parent_has_fired tree o (child c) request at w shape can none rooted some other = absurd (true_false can.there (none c))
parent_has_fired tree o parent request at w shape can none rooted some other =
    let above = shape.above.asks_down o can.there in
    (above.high, above.above, down_fired above.lock.asker (at.fired above.high) (shape.asked above.high above.lock.asker above.lock.held))
parent_has_fired tree o processor request at w shape can none rooted some other = absurd (some (can.fired w))
parent_has_fired tree o itself request at w shape can none rooted some other = absurd (some (can.fired w))
parent_has_fired tree o asker parent_answer at w shape can none rooted some other = rooted.parents o (up_fired asker (at.fired o) (shape.waits o asker can.up).asked) other
parent_has_fired tree o asker child_answers at w shape can none rooted some other = rooted.parents o (down_fired asker (at.fired o) (shape.asked o asker can.down)) other

-- the first firing of a transaction
begun : (tree : Tree) (m : Move) (t : TemplateName) (at : Progress) (made : List Made) → HasShape tree at → CanMove tree m t at → IsUnbegun at made → HasPhases tree (progress_after tree m t at) (made ++ made_by m t ∷ [])
begun tree m t at made shape can unbegun =
    ⊎_elim
    (λ up. inr (inl (record {
      before = [];
      last = made_by m t;
      parts = ap (λ l. l ++ made_by m t ∷ []) unbegun.none;
      asks = asks_after tree m t at up.0;
      climb = subst (λ l. IsClimb tree (l ++ made_by m t ∷ [])) (sym unbegun.none) tt;
      rooted = rooted_first tree m t at unbegun.blank;
      upward = subst (λ l. Each (λ x. x.upward ≡ true) (l ++ made_by m t ∷ [])) (sym unbegun.none) (up.1, tt);
      fired = subst (λ l. Each (λ x. (progress_after tree m t at).fired x.object ≢ []) (l ++ made_by m t ∷ [])) (sym unbegun.none) (fired_now tree m t at, tt);
    })))
    (λ turn. inr (inr (record {
      form = record { up = []; anchor = made_by m t; rest = []; parts = ap (λ l. l ++ made_by m t ∷ []) unbegun.none; turns = turn.1; before = tt; after = tt; climb = tt };
      no_asks = none_after tree m t at shape can.takes turn.0;
      rooted = rooted_first tree m t at unbegun.blank;
      some = fired_now tree m t at;
    })))
    (up_gives m.takes m.asker m.gives t can.named)

-- one firing more while it rises
risen : (tree : Tree) → IsEarly tree → (m : Move) (t : TemplateName) (at : Progress) (made : List Made) → HasShape tree at → CanMove tree m t at → Rises tree at made → HasPhases tree (progress_after tree m t at) (made ++ made_by m t ∷ [])
risen tree early m t at made shape can rises =
    let from = rises_from tree early m.object m.asker m.takes at rises.last.object shape can.takes rises.asks in
    let climb : IsClimb tree (made ++ made_by m t ∷ []) =
    subst (λ l. IsClimb tree (l ++ made_by m t ∷ [])) (sym rises.parts) (climb_end tree rises.before rises.last (made_by m t) (subst (λ l. IsClimb tree l) rises.parts rises.climb) from.above) in
    ⊎_elim
    (λ up. inr (inl (record {
      before = made;
      last = made_by m t;
      parts = refl;
      asks = asks_after tree m t at up.0;
      climb = climb;
      rooted = rooted_up tree m t at rises.last.object rises.rooted from.above;
      upward = each_end (λ x. x.upward ≡ true) made (made_by m t) rises.upward up.1;
      fired = each_end (λ x. (progress_after tree m t at).fired x.object ≢ []) made (made_by m t) (each_into (λ x. at.fired x.object ≢ []) (λ x. (progress_after tree m t at).fired x.object ≢ []) made (λ x some. fired_still tree m t at x.object some) rises.fired) (fired_now tree m t at);
    })))
    (λ turn. inr (inr (record {
      form = record {
        up = made;
        anchor = made_by m t;
        rest = [];
        parts = refl;
        turns = turn.1;
        before = each_into (λ x. (x.upward ≡ true) × (at.fired x.object ≢ [])) (λ x. (x.upward ≡ true) × InSubtree tree x.object m.object × (x.object ≢ m.object)) made (λ x both. let low = from.each x.object both.1 in (both.0, low.0, low.1))
            (each_both (λ x. x.upward ≡ true) (λ x. at.fired x.object ≢ []) made rises.upward rises.fired);
        after = tt;
        climb = climb;
      };
      no_asks = none_after tree m t at shape can.takes turn.0;
      rooted = rooted_up tree m t at rises.last.object rises.rooted from.above;
      some = fired_now tree m t at;
    })))
    (up_gives m.takes m.asker m.gives t can.named)

-- one firing more after the anchor
fallen : (tree : Tree) (m : Move) (t : TemplateName) (at : Progress) (made : List Made) → HasShape tree at → CanMove tree m t at → Falls tree at made → HasPhases tree (progress_after tree m t at) (made ++ made_by m t ∷ [])
fallen tree m t at made shape can falls =
    let here = falls_to tree m.object m.asker m.takes at falls.form.anchor.object shape can.takes falls.no_asks falls.rooted.within falls.some in
    ⊎_elim
    (λ up. absurd (no_more_up tree m.object m.asker m.takes t at falls.form.anchor.object (ap (λ gives. template_name m.takes m.asker gives) (sym up.0) ∙ can.named) can.takes falls.no_asks falls.some))
    (λ turn. inr (inr (record {
      form = record {
        up = falls.form.up;
        anchor = falls.form.anchor;
        rest = falls.form.rest ++ made_by m t ∷ [];
        parts = ap (λ l. l ++ made_by m t ∷ []) falls.form.parts ∙ append_end falls.form.up falls.form.anchor falls.form.rest (made_by m t);
        turns = falls.form.turns;
        before = falls.form.before;
        after = each_end (λ x. (x.upward ≡ false) × InSubtree tree x.object falls.form.anchor.object) falls.form.rest (made_by m t) falls.form.after (turn.1, here);
        climb = falls.form.climb;
      };
      no_asks = none_after tree m t at shape can.takes turn.0;
      rooted = rooted_beside tree m t at falls.form.anchor.object falls.rooted here (λ other. parent_has_fired tree m.object m.asker m.takes at falls.form.anchor.object shape can.takes falls.no_asks falls.rooted falls.some other);
      some = fired_still tree m t at falls.form.anchor.object falls.some;
    })))
    (up_gives m.takes m.asker m.gives t can.named)

pub phases_go_on : (tree : Tree) (m : Move) (t : TemplateName) (at : Progress) (made : List Made) → IsTree tree → HasShape tree at → CanMove tree m t at → HasPhases tree at made → HasPhases tree (progress_after tree m t at) (made ++ made_by m t ∷ [])
phases_go_on tree m t at made lawful shape can (inl unbegun) = begun tree m t at made shape can unbegun
phases_go_on tree m t at made lawful shape can (inr (inl rises)) = risen tree (lawful_early tree lawful) m t at made shape can rises
phases_go_on tree m t at made lawful shape can (inr (inr falls)) = fallen tree m t at made shape can falls

-- what a transaction has made so far has a form
pub form_of : (tree : Tree) (at : Progress) (made : List Made) → HasPhases tree at made → HasForm tree made
form_of tree at made (inl unbegun) = inl (subst (λ l. Each (λ m. m.upward ≡ true) l × IsClimb tree l) (sym unbegun.none) (tt, tt))
form_of tree at made (inr (inl rises)) = inl (rises.upward, rises.climb)
form_of tree at made (inr (inr falls)) = inr falls.form

-- a transaction that hasn't begun has a shape
pub blank_shape : (tree : Tree) (at : Progress) → IsBlank at → HasShape tree at
blank_shape tree at blank =
    record {
      below = record {
        asks_up = λ k there. absurd (true_false there (blank.asks_up k));
        answers_down = λ k there. absurd (true_false there (blank.answers_down k));
        up = λ o k held. absurd (some_none held (blank.up o));
        down = λ o k held. absurd (some_none held (blank.down o));
      };
      above = record {
        asks_down = λ k there. absurd (true_false there (blank.asks_down k));
        answers_up = λ k there. absurd (true_false there (blank.answers_up k));
        down = λ k held. absurd (some_none held (blank.down k));
      };
      rising = λ c there. absurd (true_false there (blank.asks_up c));
      waits = λ o asker held. absurd (some_none held (blank.up o));
      untouched = λ o k there within. absurd (true_false there (blank.asks_down o));
      asked = λ o asker held. absurd (some_none held (blank.down o));
    }

-- of two objects that have fired the later one's parent has fired
pub fired_parent : (tree : Tree) → IsEarly tree → (at : Progress) (made : List Made) (o earlier : ℕ) → HasPhases tree at made → earlier < o → at.fired o ≢ [] → at.fired earlier ≢ [] → (high : ℕ) × (parent_of tree o ≡ Some high) × (at.fired high ≢ [])
fired_parent tree early at made o earlier (inl unbegun) less some other = absurd (some (unbegun.blank.fired o))
fired_parent tree early at made o earlier (inr (inl rises)) less some other = rises.rooted.parents o some (λ same. let least = in_early tree early earlier rises.last.object (rises.rooted.within earlier other) in omega (arith, less, least, same))
fired_parent tree early at made o earlier (inr (inr falls)) less some other = falls.rooted.parents o some (λ same. let least = in_early tree early earlier falls.form.anchor.object (falls.rooted.within earlier other) in omega (arith, less, least, same))

-- in a climb each stands strictly below the last
pub climb_below : (tree : Tree) → IsEarly tree → (up : List Made) (a : Made) → IsClimb tree (up ++ a ∷ []) → Each (λ m. InSubtree tree m.object a.object × (m.object ≢ a.object)) up
climb_below tree early [] a climb = tt
climb_below tree early (x ∷ up) a climb = from x up climb
  where
    from : (x : Made) (up : List Made) → ClimbsFrom tree x (up ++ a ∷ []) → Each (λ m. InSubtree tree m.object a.object × (m.object ≢ a.object)) (x ∷ up)
    from x [] climb = ((child_in tree x.object a.object climb.0, λ same. parent_other tree early x.object a.object climb.0 (sym same)), tt)
    from x (y ∷ up) climb =
        let rest = from y up climb.1 in
        let within = in_higher tree x.object y.object a.object climb.0 rest.0.0 in
        ((within, λ same. not_in_child tree early x.object y.object climb.0 (subst (λ w. InSubtree tree y.object w) (sym same) rest.0.0)), rest)
