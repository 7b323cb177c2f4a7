-- Where requests upward stand right before what follows, the firings of a transaction at an object stand together.
use Rattle.std.proofs.Common.{◌≡◌, ◌≢◌, ℕ, Bool, true, false, ◌||◌, List, [], ◌∷◌, ◌++◌, refl, sym, ap, ◌∙◌, subst, arith, Some, None, ⊎_elim, inl, inr, ◌⊎◌}
use Rattle.std.specs.Prelude.{◌==◌, slice_get, option_and_then}
use Rattle.std.proofs.lemmas.Bool.{eqb-true}
use Rattle.hem_base.specs.declared.ids.Kind.{Kind}
use Rattle.hem_base.specs.declared.ids.Firing.{Firing}
use Rattle.hem_syntax.specs.declared.rule.Rule.{Rule}
use Rattle.hem_template.specs.declared.template_name.TemplateName.{TemplateName}
use Rattle.hem_syntax.specs.Protocol.{Protocol}
use Rattle.hem_object.specs.Local.{Local}
use Rattle.hem_tree.specs.Tree.{Tree, IsTree}
use Rattle.hem_tree.proofs.Early.{lawful_early}
use Rattle.hem_fire.specs.declared.outs.Outs.{Outs}
use Rattle.hem_system.specs.State.{State, Line, line_after}
use Rattle.hem_trace.specs.Order.{Entry}
use Rattle.hem_law.specs.Orders.{stands_in, is_ahead}
use Rattle.hem_law.specs.Printed.{rows_of}
use Rattle.hem_locks.proofs.States.{IsMade}
use Rattle.hem_shape.specs.Progress.{Asker, Progress, set_at}
use Rattle.hem_shape.specs.Move.{Taking, request, parent_answer, child_answers, CanTake, template_name}
use Rattle.hem_shape.specs.Shape.{HasShape}
use Rattle.hem_shape.proofs.Spots.{same_or_other, set_there, true_false, or_cases}
use Rattle.hem_shape.proofs.Ready.{some_none}
use Rattle.hem_shape.proofs.Phases.{fired_still, fired_now, fired_was, none_after, up_gives}
use Rattle.hem_shape.proofs.WaysKept.{request_first}
use Rattle.hem_numbered.specs.Numbers.{Numbers, lock_number, held_for, uplock_at, downlock_at, progress_of}
use Rattle.hem_numbered.specs.Histories.{made_in, AreKnown}
use Rattle.hem_numbered.specs.Quiet.{IsQuiet}
use Rattle.hem_numbered.specs.Grouped.{is_broken, KeepsAdjacent, HoldsLock, IsEntry}
use Rattle.hem_law.proofs.Rows.{ahead-former}
use Rattle.hem_numbered.proofs.Broken.{EndsUp, broken_more, broken_now}
use Rattle.hem_numbered.proofs.Held.{held_parts, held_number}
use Rattle.hem_numbered.proofs.Histories.{IsStep, by_line, upward_is}
use Rattle.hem_numbered.proofs.Moves.{move_of}
use Rattle.hem_numbered.proofs.Needs.{request_needs, answer_needs}
use Rattle.hem_numbered.proofs.QuietKept.{quiet_kept}
use Rattle.hem_numbered.proofs.QuietWaits.{Fired, quiet_own, lock_here}
use Rattle.hem_numbered.proofs.RowFacts.{row_here, row_there, stands_more, ahead_more}

-- rows so far: who stands in them, that behind a transaction that holds a lock of the object no other stands, and that each transaction stands together
pub record IsGrouped (p : Protocol) (tree : Tree) (s : State) (all : ℕ → Numbers) (past : List Entry) : Type 0 where
  pub quiet : (l : ℕ) (line : Line) → slice_get s l ≡ Some line → (x : ℕ) → IsQuiet p tree line (all l) x
  pub there : (l : ℕ) (line : Line) → slice_get s l ≡ Some line → (o x : ℕ) → stands_in (rows_of past l o) x ≡ true → (all l).fired x o ≢ []
  pub back : (l : ℕ) (line : Line) → slice_get s l ≡ Some line → (o x : ℕ) → (all l).fired x o ≢ [] → stands_in (rows_of past l o) x ≡ true
  pub rising : (l : ℕ) (line : Line) → slice_get s l ≡ Some line → (t k : ℕ) → (progress_of p tree line (all l) t).asks_up k ≡ true → EndsUp past t ⊎ (is_broken past t ≡ true)
  pub open_end : (l : ℕ) (line : Line) → slice_get s l ≡ Some line → (o t u : ℕ) → HoldsLock (progress_of p tree line (all l) t) o → is_ahead (rows_of past l o) t u ≡ true → (u ≡ t) ⊎ (is_broken past t ≡ true)
  pub grouped : (l o t u : ℕ) → is_ahead (rows_of past l o) t u ≡ true → is_ahead (rows_of past l o) u t ≡ true → t ≡ u

-- a firing at an object whose downlock a transaction holds is of that transaction
down_own : (p : Protocol) (tree : Tree) (f : Firing) (t : TemplateName) (kind : Kind) (rule : Rule) (before after : Local) (outs : Outs) (old new : Line) (numbers : Numbers) (is_new first : ℕ → Bool) (n x : ℕ) (a : Asker) → Fired p tree f t kind rule before after outs old new numbers is_new first n → (progress_of p tree old numbers x).down f.object.0 ≡ Some a → x ≡ n
down_own p tree f t kind rule before after outs old new numbers is_new first n x a it holds = by_takes it.move.takes refl it.move.taking.can
  where
    held_here : before.down ≡ None → ⊥
    held_here free =
        let lock = held_parts tree f.object.0 x (numbers.down f.object.0) (downlock_at old f.object.0) a holds in
        lock_here old (downlock_at old f.object.0) lock.0 before.down lock.1 (ap (λ l. option_and_then (λ (l : Local). l.down) l) it.firing.leads.here) free

    by_takes : (takes : Taking) → it.move.takes ≡ takes → CanTake tree f.object.0 it.move.asker takes (progress_of p tree old numbers n) → x ≡ n
    by_takes request is can = absurd (held_here (request_needs p tree f t kind rule before after outs old new it.move.asker it.move.gives it.firing (ap (λ takes. template_name takes it.move.asker it.move.gives) (sym is) ∙ it.move.named)).down)
    by_takes parent_answer is can = absurd (held_here (answer_needs p tree f t kind rule before after outs old new it.move.asker it.move.gives it.firing (ap (λ takes. template_name takes it.move.asker it.move.gives) (sym is) ∙ it.move.named)))
    by_takes child_answers is can = sym (held_number tree f.object.0 x (numbers.down f.object.0) (downlock_at old f.object.0) a holds) ∙ held_number tree f.object.0 n (numbers.down f.object.0) (downlock_at old f.object.0) it.move.asker can.down

-- a transaction that fires again at an object holds a lock of it
pub again_holds : (tree : Tree) → IsTree tree → (o : ℕ) (asker : Asker) (takes : Taking) (at : Progress) → HasShape tree at → CanTake tree o asker takes at → at.fired o ≢ [] → HoldsLock at o
again_holds tree lawful o asker request at shape can some = absurd (some (request_first tree (lawful_early tree lawful) o asker request at shape can refl))
again_holds tree lawful o asker parent_answer at shape can some = inl (asker, can.up)
again_holds tree lawful o asker child_answers at shape can some = inr (asker, can.down)

pub grouped_kept : (p : Protocol) (tree : Tree) (owner : ℕ → ℕ) (s mid : State) (all : ℕ → Numbers) (is_new : ℕ → Bool) (past : List Entry) (x : Entry) (it : IsMade p tree s x.event.firing mid) (first : ℕ → Bool) → AreKnown p tree owner s all is_new past → KeepsAdjacent past x → IsEntry p tree x → (step : IsStep p tree owner it.line mid all is_new past x.event.firing it.effect x.place x.number first) → IsGrouped p tree s all past → IsGrouped p tree mid (set_at x.event.firing.line.0 step.now all) (past ++ x ∷ [])
grouped_kept p tree owner s mid all is_new past x it first known adjacent entry step group =
    record {
      quiet = λ l' line at y. by_line p tree s mid x.event.firing it all step.now (λ l line numbers. IsQuiet p tree line numbers y)
          (quiet_kept p tree x.event.firing step.of.t step.of.kind step.of.rule step.of.before it.effect.after it.effect.outs it.line (line_after tree x.event.firing it.effect it.line) (all x.event.firing.line.0) step.now is_new first x.number (made_in x.number past) fired step.moved step.others (known.phases x.event.firing.line.0 x.number it.line it.there step.own_line) (λ y. group.quiet x.event.firing.line.0 it.line it.there y) y)
          (λ l line differs at. group.quiet l line at y) l' line at;
      there = λ l' line at k y. by_line p tree s mid x.event.firing it all step.now (λ l line numbers. stands_in (rows_of (past ++ x ∷ []) l k) y ≡ true → numbers.fired y k ≢ [])
          (λ stands. there_own k y stands)
          (λ l' line differs at stands. group.there l' line at k y (ap (λ row. stands_in row y) (sym (row_there past x l' k (inl (λ same. differs (sym same))))) ∙ stands)) l' line at;
      back = λ l' line at k y. by_line p tree s mid x.event.firing it all step.now (λ l line numbers. numbers.fired y k ≢ [] → stands_in (rows_of (past ++ x ∷ []) l k) y ≡ true)
          (λ some. back_own k y some)
          (λ l' line differs at some. ap (λ row. stands_in row y) (row_there past x l' k (inl (λ same. differs (sym same)))) ∙ group.back l' line at k y some) l' line at;
      rising = λ l' line at t k. by_line p tree s mid x.event.firing it all step.now (λ l line numbers. (progress_of p tree line numbers t).asks_up k ≡ true → EndsUp (past ++ x ∷ []) t ⊎ (is_broken (past ++ x ∷ []) t ≡ true))
          (λ asks. rising_own t k asks)
          (λ l' line differs at asks. inr (still_broken t (λ same. differs (sym (known.owned l' t line at (λ blank. true_false asks (blank.asks_up k))) ∙ ap owner same ∙ step.own_line)) (group.rising l' line at t k asks))) l' line at;
      open_end = λ l' line at k t u. by_line p tree s mid x.event.firing it all step.now (λ l line numbers. HoldsLock (progress_of p tree line numbers t) k → is_ahead (rows_of (past ++ x ∷ []) l k) t u ≡ true → (u ≡ t) ⊎ (is_broken (past ++ x ∷ []) t ≡ true))
          (λ holds ahead. open_own k t u holds ahead)
          (λ l' line differs at holds ahead. more_broken t u (group.open_end l' line at k t u holds (ap (λ row. is_ahead row t u) (sym (row_there past x l' k (inl (λ same. differs (sym same))))) ∙ ahead))) l' line at;
      grouped = λ l' k t u one other. grouped_own l' k t u one other (same_or_other l' x.event.firing.line.0) (same_or_other k x.event.firing.object.0);
    }
  where
    fired : Fired p tree x.event.firing step.of.t step.of.kind step.of.rule step.of.before it.effect.after it.effect.outs it.line (line_after tree x.event.firing it.effect it.line) (all x.event.firing.line.0) is_new first x.number
    fired = record { firing = step.of.is; locks = known.locks.line x.event.firing.line.0 it.line it.there; known = known.numbers x.event.firing.line.0 it.line it.there; move = step.move }

    still_broken : (t : ℕ) → t ≢ x.number → EndsUp past t ⊎ (is_broken past t ≡ true) → is_broken (past ++ x ∷ []) t ≡ true
    still_broken t differs which = ⊎_elim (λ ends. broken_now past x t ends (λ same. differs (sym same))) (λ broken. broken_more past x t broken) which

    more_broken : (t u : ℕ) → (u ≡ t) ⊎ (is_broken past t ≡ true) → (u ≡ t) ⊎ (is_broken (past ++ x ∷ []) t ≡ true)
    more_broken t u which = ⊎_elim (λ same. inl same) (λ broken. inr (broken_more past x t broken)) which

    number_true : (y : ℕ) → y ≡ x.number → (x.number == y) ≡ true
    number_true y same = grind arith

    or_left : (a b : Bool) → a ≡ true → (a || b) ≡ true
    or_left a b is = ap (λ a. a || b) is

    or_right : (a b : Bool) → b ≡ true → (a || b) ≡ true
    or_right true b is = refl
    or_right false b is = is

    row_now : (k : ℕ) → k ≡ x.event.firing.object.0 → rows_of (past ++ x ∷ []) x.event.firing.line.0 k ≡ rows_of past x.event.firing.line.0 k ++ x.number ∷ []
    row_now k here = row_here past x x.event.firing.line.0 k refl (sym here)

    row_else : (k : ℕ) → k ≢ x.event.firing.object.0 → rows_of (past ++ x ∷ []) x.event.firing.line.0 k ≡ rows_of past x.event.firing.line.0 k
    row_else k other = row_there past x x.event.firing.line.0 k (inr (λ same. other (sym same)))

    still_fired : (k y : ℕ) → (all x.event.firing.line.0).fired y k ≢ [] → step.now.fired y k ≢ []
    still_fired k y some none =
        ⊎_elim
        (λ same. fired_still tree (move_of step.move) step.of.t (progress_of p tree it.line (all x.event.firing.line.0) x.number) k (λ empty. some (ap (λ y. (all x.event.firing.line.0).fired y k) same ∙ empty)) (ap (λ (at : Progress). at.fired k) (sym step.moved) ∙ ap (λ y. step.now.fired y k) (sym same) ∙ none))
        (λ differs. some (ap (λ (at : Progress). at.fired k) (sym (step.others y differs)) ∙ none))
        (same_or_other y x.number)

    there_own : (k y : ℕ) → stands_in (rows_of (past ++ x ∷ []) x.event.firing.line.0 k) y ≡ true → step.now.fired y k ≢ []
    there_own k y stands =
        ⊎_elim
        (λ here. ⊎_elim
        (λ old. still_fired k y (group.there x.event.firing.line.0 it.line it.there k y old))
        (λ last none. fired_now tree (move_of step.move) step.of.t (progress_of p tree it.line (all x.event.firing.line.0) x.number) (ap (λ (at : Progress). at.fired x.event.firing.object.0) (sym step.moved) ∙ ap (λ k. step.now.fired x.number k) (sym here) ∙ ap (λ y. step.now.fired y k) (eqb-true x.number y last) ∙ none))
        (or_cases (stands_in (rows_of past x.event.firing.line.0 k) y) (x.number == y) (sym (stands_more (rows_of past x.event.firing.line.0 k) x.number y) ∙ ap (λ row. stands_in row y) (sym (row_now k here)) ∙ stands)))
        (λ other. still_fired k y (group.there x.event.firing.line.0 it.line it.there k y (ap (λ row. stands_in row y) (sym (row_else k other)) ∙ stands)))
        (same_or_other k x.event.firing.object.0)

    stands_keep : (k y : ℕ) → stands_in (rows_of past x.event.firing.line.0 k) y ≡ true → stands_in (rows_of (past ++ x ∷ []) x.event.firing.line.0 k) y ≡ true
    stands_keep k y stands =
        ⊎_elim
        (λ here. ap (λ row. stands_in row y) (row_now k here) ∙ stands_more (rows_of past x.event.firing.line.0 k) x.number y ∙ or_left (stands_in (rows_of past x.event.firing.line.0 k) y) (x.number == y) stands)
        (λ other. ap (λ row. stands_in row y) (row_else k other) ∙ stands)
        (same_or_other k x.event.firing.object.0)

    back_own : (k y : ℕ) → step.now.fired y k ≢ [] → stands_in (rows_of (past ++ x ∷ []) x.event.firing.line.0 k) y ≡ true
    back_own k y some =
        ⊎_elim
        (λ same. ⊎_elim
        (λ here. ap (λ row. stands_in row y) (row_now k here) ∙ stands_more (rows_of past x.event.firing.line.0 k) x.number y ∙ or_right (stands_in (rows_of past x.event.firing.line.0 k) y) (x.number == y) (number_true y same))
        (λ was. stands_keep k y (group.back x.event.firing.line.0 it.line it.there k y (λ none. was (ap (λ y. (all x.event.firing.line.0).fired y k) (sym same) ∙ none))))
        (fired_was tree (move_of step.move) step.of.t (progress_of p tree it.line (all x.event.firing.line.0) x.number) k (λ none. some (ap (λ y. step.now.fired y k) same ∙ ap (λ (at : Progress). at.fired k) step.moved ∙ none))))
        (λ differs. stands_keep k y (group.back x.event.firing.line.0 it.line it.there k y (λ none. some (ap (λ (at : Progress). at.fired k) (step.others y differs) ∙ none))))
        (same_or_other y x.number)

    rising_own : (t k : ℕ) → (progress_of p tree (line_after tree x.event.firing it.effect it.line) step.now t).asks_up k ≡ true → EndsUp (past ++ x ∷ []) t ⊎ (is_broken (past ++ x ∷ []) t ≡ true)
    rising_own t k asks =
        ⊎_elim
        (λ same. ⊎_elim
        (λ up. inl (record { first = past; last = x; parts = refl; number = sym same; upward = entry.upward ∙ upward_is p tree x.event.firing step.of.kind step.of.rule step.of.t step.of.is.kind_is step.of.named step.of.template ∙ up.1 }))
        (λ down. absurd (true_false asks (ap (λ t. (progress_of p tree (line_after tree x.event.firing it.effect it.line) step.now t).asks_up k) same ∙ ap (λ (at : Progress). at.asks_up k) step.moved ∙ none_after tree (move_of step.move) step.of.t (progress_of p tree it.line (all x.event.firing.line.0) x.number) ((known.numbers x.event.firing.line.0 it.line it.there).shapes x.number) step.move.taking.can down.0 k)))
        (up_gives step.move.takes step.move.asker step.move.gives step.of.t step.move.named))
        (λ differs. inr (still_broken t differs (group.rising x.event.firing.line.0 it.line it.there t k (ap (λ (at : Progress). at.asks_up k) (sym (step.others t differs)) ∙ asks))))
        (same_or_other t x.number)

    same_up : (k t : ℕ) → k ≢ x.event.firing.object.0 → (progress_of p tree (line_after tree x.event.firing it.effect it.line) step.now t).up k ≡ (progress_of p tree it.line (all x.event.firing.line.0) t).up k
    same_up k t other =
        ap (λ a. held_for tree k t a (uplock_at (line_after tree x.event.firing it.effect it.line) k)) (ap (λ (numbers : Numbers). numbers.up k) step.now_is ∙ set_there x.event.firing.object.0 (lock_number step.of.before.up x.number ((all x.event.firing.line.0).up x.event.firing.object.0)) (all x.event.firing.line.0).up k other)
        ∙ ap (λ l. held_for tree k t ((all x.event.firing.line.0).up k) (option_and_then (λ (l : Local). l.up) l)) (step.of.is.leads.others k other)

    same_down : (k t : ℕ) → k ≢ x.event.firing.object.0 → (progress_of p tree (line_after tree x.event.firing it.effect it.line) step.now t).down k ≡ (progress_of p tree it.line (all x.event.firing.line.0) t).down k
    same_down k t other =
        ap (λ a. held_for tree k t a (downlock_at (line_after tree x.event.firing it.effect it.line) k)) (ap (λ (numbers : Numbers). numbers.down k) step.now_is ∙ set_there x.event.firing.object.0 (lock_number step.of.before.down x.number ((all x.event.firing.line.0).down x.event.firing.object.0)) (all x.event.firing.line.0).down k other)
        ∙ ap (λ l. held_for tree k t ((all x.event.firing.line.0).down k) (option_and_then (λ (l : Local). l.down) l)) (step.of.is.leads.others k other)

    own_end : (u : ℕ) → is_ahead (rows_of past x.event.firing.line.0 x.event.firing.object.0) x.number u ≡ true → u ≡ x.number
    own_end u ahead =
        let some = group.there x.event.firing.line.0 it.line it.there x.event.firing.object.0 x.number (ahead-former (rows_of past x.event.firing.line.0 x.event.firing.object.0) x.number u ahead) in
        let holds = again_holds tree step.of.is.lawful x.event.firing.object.0 step.move.asker step.move.takes (progress_of p tree it.line (all x.event.firing.line.0) x.number) ((known.numbers x.event.firing.line.0 it.line it.there).shapes x.number) step.move.taking.can some in
        ⊎_elim (λ same. same) (λ broken. absurd (true_false broken adjacent)) (group.open_end x.event.firing.line.0 it.line it.there x.event.firing.object.0 x.number u holds ahead)

    other_holds : (t : ℕ) → t ≢ x.number → HoldsLock (progress_of p tree it.line (all x.event.firing.line.0) t) x.event.firing.object.0 → is_broken (past ++ x ∷ []) t ≡ true
    other_holds t differs holds =
        ⊎_elim
        (λ up.
        let own = known.owned x.event.firing.line.0 t it.line it.there (λ blank. some_none up.1 (blank.up x.event.firing.object.0)) in
        ⊎_elim
        (λ unbegun. absurd (some_none up.1 (unbegun.blank.up x.event.firing.object.0)))
        (λ begun. ⊎_elim
        (λ rises. still_broken t differs (group.rising x.event.firing.line.0 it.line it.there t rises.last.object rises.asks))
        (λ falls. absurd (differs (quiet_own p tree x.event.firing step.of.t step.of.kind step.of.rule step.of.before it.effect.after it.effect.outs it.line (line_after tree x.event.firing it.effect it.line) (all x.event.firing.line.0) is_new first x.number t up.0 fired up.1 (group.quiet x.event.firing.line.0 it.line it.there t (record { no_asks = falls.no_asks; some = falls.form.anchor.object; fired = falls.some }) x.event.firing.object.0 up.0 up.1)).1))
        begun)
        (known.phases x.event.firing.line.0 t it.line it.there own))
        (λ down. absurd (differs (down_own p tree x.event.firing step.of.t step.of.kind step.of.rule step.of.before it.effect.after it.effect.outs it.line (line_after tree x.event.firing it.effect it.line) (all x.event.firing.line.0) is_new first x.number t down.0 fired down.1)))
        holds

    open_own : (k t u : ℕ) → HoldsLock (progress_of p tree (line_after tree x.event.firing it.effect it.line) step.now t) k → is_ahead (rows_of (past ++ x ∷ []) x.event.firing.line.0 k) t u ≡ true → (u ≡ t) ⊎ (is_broken (past ++ x ∷ []) t ≡ true)
    open_own k t u holds ahead =
        ⊎_elim
        (λ here. ⊎_elim
        (λ same. ⊎_elim
        (λ old. inl (own_end u (ap (λ t. is_ahead (rows_of past x.event.firing.line.0 x.event.firing.object.0) t u) (sym same) ∙ ap (λ k. is_ahead (rows_of past x.event.firing.line.0 k) t u) (sym here) ∙ old) ∙ sym same))
        (λ last. inl (sym last.1 ∙ sym same))
        (ahead_more (rows_of past x.event.firing.line.0 k) x.number t u (ap (λ row. is_ahead row t u) (sym (row_now k here)) ∙ ahead)))
        (λ differs. inr (other_holds t differs (subst (λ k. HoldsLock (progress_of p tree it.line (all x.event.firing.line.0) t) k) here (subst (λ at. HoldsLock at k) (step.others t differs) holds))))
        (same_or_other t x.number))
        (λ other. more_broken t u (group.open_end x.event.firing.line.0 it.line it.there k t u
        (⊎_elim (λ up. inl (up.0, sym (same_up k t other) ∙ up.1)) (λ down. inr (down.0, sym (same_down k t other) ∙ down.1)) holds)
        (ap (λ row. is_ahead row t u) (sym (row_else k other)) ∙ ahead)))
        (same_or_other k x.event.firing.object.0)

    grouped_own : (l' k t u : ℕ) → is_ahead (rows_of (past ++ x ∷ []) l' k) t u ≡ true → is_ahead (rows_of (past ++ x ∷ []) l' k) u t ≡ true → (l' ≡ x.event.firing.line.0) ⊎ (l' ≢ x.event.firing.line.0) → (k ≡ x.event.firing.object.0) ⊎ (k ≢ x.event.firing.object.0) → t ≡ u
    grouped_own l' k t u one other (inr elsewhere) at =
        let same = row_there past x l' k (inl (λ is. elsewhere (sym is))) in
        group.grouped l' k t u (ap (λ row. is_ahead row t u) (sym same) ∙ one) (ap (λ row. is_ahead row u t) (sym same) ∙ other)
    grouped_own l' k t u one other (inl line) (inr elsewhere) =
        let same = row_there past x l' k (inr (λ is. elsewhere (sym is))) in
        group.grouped l' k t u (ap (λ row. is_ahead row t u) (sym same) ∙ one) (ap (λ row. is_ahead row u t) (sym same) ∙ other)
    grouped_own l' k t u one other (inl line) (inl here) =
        let row : rows_of past l' k ≡ rows_of past x.event.firing.line.0 x.event.firing.object.0 = ap (λ l. rows_of past l k) line ∙ ap (λ k. rows_of past x.event.firing.line.0 k) here in
        let now = row_here past x l' k (sym line) (sym here) in
        ⊎_elim
        (λ old. ⊎_elim
        (λ older. group.grouped l' k t u old older)
        (λ last. sym last.1 ∙ sym (own_end u (ap (λ t. is_ahead (rows_of past x.event.firing.line.0 x.event.firing.object.0) t u) last.1 ∙ ap (λ row. is_ahead row t u) (sym row) ∙ old)))
        (ahead_more (rows_of past l' k) x.number u t (ap (λ row. is_ahead row u t) (sym now) ∙ other)))
        (λ last. ⊎_elim
        (λ older. own_end t (ap (λ u. is_ahead (rows_of past x.event.firing.line.0 x.event.firing.object.0) u t) last.1 ∙ ap (λ row. is_ahead row u t) (sym row) ∙ older) ∙ last.1)
        (λ later. sym later.1 ∙ last.1)
        (ahead_more (rows_of past l' k) x.number u t (ap (λ row. is_ahead row u t) (sym now) ∙ other)))
        (ahead_more (rows_of past l' k) x.number t u (ap (λ row. is_ahead row t u) (sym now) ∙ one))
