-- A firing of a history keeps what is known of it.
use Rattle.std.proofs.Common.{◌≡◌, ◌≢◌, ℕ, Bool, true, false, cond, not, ◌&&◌, List, [], ◌∷◌, ◌++◌, map, drop, refl, sym, ap, ◌∙◌, subst, arith, Some, ⊎_elim, inl, inr, ◌⊎◌}
use Rattle.std.specs.Prelude.{◌==◌, slice_get, Ok}
use Rattle.std.specs.Option.{option_map_or}
use Rattle.std.proofs.lemmas.List.Elements.{filter-append}
use Rattle.std.proofs.lemmas.Option.{slice_get_within}
use Rattle.hem_base.specs.declared.ids.Firing.{Firing}
use Rattle.hem_base.specs.declared.ids.Kind.{Kind}
use Rattle.hem_syntax.specs.declared.rule.Rule.{Rule}
use Rattle.hem_template.specs.declared.template_name.TemplateName.{TemplateName}
use Rattle.hem_template.specs.declared.template_name.TemplateName.TheVariants.{ImmSelf, ImmDown, ImmUp, RqUp, RqUpSelf, RqUpDown, RqDownSelf, RqDownDown, RsDown, RsDownSelf, RsDownRqDown, RsUpDown, RsUpUp, RsUpSelf}
use Rattle.hem_syntax.specs.Protocol.{Protocol, rule_named}
use Rattle.hem_template.specs.Template.{template_of}
use Rattle.hem_tree.specs.Tree.{Tree, kind_of, level_of, IsTree}
use Rattle.hem_fire.specs.declared.outs.Outs.{Outs}
use Rattle.hem_system.specs.declared.lane.Lane.{Lane}
use Rattle.hem_system.specs.declared.lane.Lane.TheVariants.{Requests}
use Rattle.hem_system.specs.State.{State, Line, Effect, takes, reaches, fire, line_after}
use Rattle.hem_system.proofs.Sets.{get_set_here, get_set_other}
use Rattle.hem_system.specs.Events.{Event, event_of as event_by}
use Rattle.hem_trace.specs.Order.{Entry, entries_in, is_upward}
use Rattle.hem_template.specs.Waiting.{is_upward_template}
use Rattle.hem_rows.specs.Rows.{AllHaveTemplates}
use Rattle.hem_locks.proofs.States.{IsMade, fires-keeps}
use Rattle.hem_shape.specs.Progress.{IsBlank, set_at}
use Rattle.hem_shape.specs.Move.{progress_after}
use Rattle.hem_shape.specs.Shape.{is_asking_up}
use Rattle.hem_shape.specs.Phases.{Made, HasForm, HasPhases, made_by}
use Rattle.hem_shape.proofs.Spots.{same_or_other, set_here, set_there, not_false}
use Rattle.hem_shape.proofs.Phases.{phases_go_on, form_of}
use Rattle.hem_numbered.specs.Numbers.{Numbers, numbers_after, progress_of, AreNumbers}
use Rattle.hem_numbered.specs.Firings.{HasNumber}
use Rattle.hem_numbered.specs.Histories.{made_of, made_in, AreKnown}
use Rattle.hem_rows.proofs.Choices.{both}
use Rattle.hem_numbered.proofs.Others.{progress_other}
use Rattle.hem_numbered.proofs.Moves.{IsMove, move_of, progress_moved}
use Rattle.hem_numbered.proofs.Templates.{is_move}
use Rattle.hem_numbered.proofs.Kept.{is_numbered, numbers_kept}
use Rattle.hem_numbered.proofs.LineSteps.{FiringOf, firing_of}

abbrev pub entry_by : Protocol → Tree → ℕ → ℕ → Firing → Effect → Entry
entry_by p tree place n f e = record { place = place; event = event_by f e; number = n; level = level_of tree f.object.0; upward = is_upward p tree f }

-- whether a firing sends a request up, by its template
template_upward : (t : TemplateName) → is_upward_template (Ok t) ≡ is_asking_up t
template_upward ImmSelf = refl
template_upward ImmDown = refl
template_upward ImmUp = refl
template_upward RqUp = refl
template_upward RqUpSelf = refl
template_upward RqUpDown = refl
template_upward RqDownSelf = refl
template_upward RqDownDown = refl
template_upward RsDown = refl
template_upward RsDownSelf = refl
template_upward RsDownRqDown = refl
template_upward RsUpDown = refl
template_upward RsUpUp = refl
template_upward RsUpSelf = refl

pub upward_is : (p : Protocol) (tree : Tree) (f : Firing) (kind : Kind) (rule : Rule) (t : TemplateName) → kind_of tree f.object.0 ≡ Some kind → rule_named p kind f.rule ≡ Some rule → template_of p kind rule ≡ Ok t → is_upward p tree f ≡ is_asking_up t
upward_is p tree f kind rule t there named is =
    ap (λ kind. option_map_or (λ kind. option_map_or (λ rule. is_upward_template (template_of p kind rule)) (rule_named p kind f.rule) false) kind false) there
    ∙ ap (λ rule. option_map_or (λ rule. is_upward_template (template_of p kind rule)) rule false) named
    ∙ ap is_upward_template is ∙ template_upward t

-- what a transaction made, with one entry more
made_own : (n : ℕ) (past : List Entry) (x : Entry) → x.number ≡ n → made_in n (past ++ x ∷ []) ≡ made_in n past ++ made_of x ∷ []
made_own n past x same =
    ap (map made_of) (filter-append (λ e. e.number == n) past (x ∷ []) ∙ ap (λ b. entries_in n past ++ cond b (x ∷ []) []) (let is : (x.number == n) ≡ true = grind arith in is))
    ∙ map_end (entries_in n past)
  where
    map_end : (xs : List Entry) → map made_of (xs ++ x ∷ []) ≡ map made_of xs ++ made_of x ∷ []
    map_end [] = refl
    map_end (y ∷ xs) = ap (λ ms. made_of y ∷ ms) (map_end xs)

made_other : (n : ℕ) (past : List Entry) (x : Entry) → x.number ≢ n → made_in n (past ++ x ∷ []) ≡ made_in n past
made_other n past x other =
    ap (map made_of) (filter-append (λ e. e.number == n) past (x ∷ []) ∙ ap (λ b. entries_in n past ++ cond b (x ∷ []) []) (let is : (x.number == n) ≡ false = grind arith in is) ∙ append_none (entries_in n past))
  where
    append_none : (xs : List Entry) → xs ++ [] ≡ xs
    append_none [] = refl
    append_none (y ∷ xs) = ap (λ ms. y ∷ ms) (append_none xs)

-- numbers with a weaker or a stronger test of the new ones
fewer_new : (p : Protocol) (tree : Tree) (line : Line) (numbers : Numbers) (is_new other : ℕ → Bool) → ((x : ℕ) → other x ≡ true → is_new x ≡ true) → AreNumbers p tree line numbers is_new → AreNumbers p tree line numbers other
fewer_new p tree line numbers is_new other less known = record { lists = known.lists; shapes = known.shapes; fresh = λ x is. known.fresh x (less x is) }

more_new : (tree : Tree) (f : Firing) (outs : Outs) (lists : ℕ → Lane → List ℕ) (is_new other : ℕ → Bool) (n : ℕ) → ((x : ℕ) → is_new x ≡ true → other x ≡ true) → HasNumber tree f outs lists is_new n → HasNumber tree f outs lists other n
more_new tree f outs lists is_new other n more number = record { child_request = number.child_request; parent_message = number.parent_message; child_answer = number.child_answer; start = λ free. more n (number.start free) }

-- a fact of each line after a firing: of the firing's line, and of the others
pub by_line : (p : Protocol) (tree : Tree) (s mid : State) (f : Firing) (it : IsMade p tree s f mid) (all : ℕ → Numbers) (now : Numbers) (P : ℕ → Line → Numbers → Type 0) → P f.line.0 (line_after tree f it.effect it.line) now → ((l : ℕ) (line : Line) → l ≢ f.line.0 → slice_get s l ≡ Some line → P l line (all l)) → (l : ℕ) (line : Line) → slice_get mid l ≡ Some line → P l line (set_at f.line.0 now all l)
by_line p tree s mid f it all now P own others l line at =
    ⊎_elim
    (λ same.
    let here : slice_get mid f.line.0 ≡ Some (line_after tree f it.effect it.line) = ap (λ s. slice_get s f.line.0) (sym it.after) ∙ get_set_here s f.line.0 (line_after tree f it.effect it.line) (slice_get_within s f.line.0 it.line it.there) in
    let line_is : line_after tree f it.effect it.line ≡ line = (let both : Some (line_after tree f it.effect it.line) ≡ Some line = sym here ∙ ap (slice_get mid) (sym same) ∙ at in cc) in
    subst (λ l. P l line (set_at f.line.0 now all l)) (sym same)
    (subst (λ numbers. P f.line.0 line numbers) (sym (set_here f.line.0 now all f.line.0 refl))
    (subst (λ line. P f.line.0 line now) line_is own)))
    (λ other.
    subst (λ numbers. P l line numbers) (sym (set_there f.line.0 now all l other))
    (others l line other (sym (get_set_other s f.line.0 l (line_after tree f it.effect it.line) other) ∙ ap (λ s. slice_get s l) it.after ∙ at)))
    (same_or_other l f.line.0)

-- what a firing of a history shows
pub record IsStep (p : Protocol) (tree : Tree) (owner : ℕ → ℕ) (line : Line) (mid : State) (all : ℕ → Numbers) (is_new : ℕ → Bool) (past : List Entry) (f : Firing) (e : Effect) (place n : ℕ) (first : ℕ → Bool) : Type 0 where
  pub of : FiringOf p tree line f e
  pub move : IsMove p tree f of.t of.before e.after e.outs line (all f.line.0) first n
  pub now : Numbers
  pub now_is : now ≡ numbers_after tree f e.outs of.before n of.t (all f.line.0)
  pub moved : progress_of p tree (line_after tree f e line) now n ≡ progress_after tree (move_of move) of.t (progress_of p tree line (all f.line.0) n)
  pub others : (y : ℕ) → y ≢ n → progress_of p tree (line_after tree f e line) now y ≡ progress_of p tree line (all f.line.0) y
  pub lists : (k : ℕ) (lane : Lane) → now.lists k lane ≡ drop (cond (takes tree f e.outs k lane) 1 0) ((all f.line.0).lists k lane) ++ cond (reaches tree f e.outs.to k lane) (n ∷ []) []
  pub known : AreKnown p tree owner mid (set_at f.line.0 now all) (λ y. is_new y && not (y == n)) (past ++ entry_by p tree place n f e ∷ [])
  pub takes : (k : ℕ) (lane : Lane) → lane ≢ Requests → takes tree f e.outs k lane ≡ true → slice_get ((all f.line.0).lists k lane) 0 ≡ Some n
  pub own_line : owner n ≡ f.line.0
  pub begins : (first n ≡ true) ⊎ (is_new n ≡ false)

pub known_step : (p : Protocol) (tree : Tree) (owner : ℕ → ℕ) (s mid : State) (all : ℕ → Numbers) (is_new : ℕ → Bool) (past : List Entry) (f : Firing) (place n : ℕ) (first : ℕ → Bool) → IsTree tree → AllHaveTemplates p → fire p tree s f ≡ Some mid → (it : IsMade p tree s f mid) → AreKnown p tree owner s all is_new past → HasNumber tree f it.effect.outs (all f.line.0).lists first n → ((y : ℕ) → first y ≡ true → (is_new y ≡ true) × (owner y ≡ f.line.0)) → IsStep p tree owner it.line mid all is_new past f it.effect place n first
known_step p tree owner s mid all is_new past f place n first lawful templates fires it known number news =
    let l = f.line.0 in
    let x = entry_by p tree place n f it.effect in
    let new = line_after tree f it.effect it.line in
    let of = firing_of p tree it.line f it.effect lawful templates (known.locks.line l it.line it.there) it.possible in
    let before = known.numbers l it.line it.there in
    let strict = fewer_new p tree it.line (all l) is_new first (λ y is. (news y is).0) before in
    let loose = more_new tree f it.effect.outs (all l).lists first is_new n (λ y is. (news y is).0) number in
    let move = is_move p tree f of.t of.kind of.rule of.before it.effect.after it.effect.outs it.line new (all l) first n of.is strict number in
    let own = is_numbered p tree f of.t of.kind of.rule of.before it.effect.after it.effect.outs it.line new (all l) is_new n of.is before loose in
    let now = numbers_after tree f it.effect.outs of.before n of.t (all l) in
    let owned : owner n ≡ l = ⊎_elim (λ is. (news n is).1) (λ begun. known.owned l n it.line it.there begun) move.taking.begins in
    let other : (y : ℕ) → y ≢ n → progress_of p tree new now y ≡ progress_of p tree it.line (all l) y =
    (λ y differs. progress_other p tree f it.effect.outs of.before it.effect.after it.line new (all l) n of.t y of.is.leads before.lists own differs) in
    let moved : progress_of p tree new now n ≡ progress_after tree (move_of move) of.t (progress_of p tree it.line (all l) n) =
    progress_moved p tree f of.t of.before it.effect.after it.effect.outs it.line new (all l) first n of.is.leads before.lists move in
    let made_is : made_of x ≡ made_by (move_of move) of.t = ap (λ up. let m : Made = record { object = f.object.0; upward = up } in m) (upward_is p tree f of.kind of.rule of.t of.is.kind_is of.named of.template) in
    let phases : HasPhases tree (progress_of p tree new now n) (made_in n (past ++ x ∷ [])) =
    subst (λ at. HasPhases tree at (made_in n (past ++ x ∷ []))) (sym moved)
    (subst (λ made. HasPhases tree (progress_after tree (move_of move) of.t (progress_of p tree it.line (all l) n)) made) (sym (made_own n past x refl ∙ ap (λ m. made_in n past ++ m ∷ []) made_is))
    (phases_go_on tree (move_of move) of.t (progress_of p tree it.line (all l) n) (made_in n past) lawful (before.shapes n) (record { named = move.named; takes = move.taking.can; gives = move.can_give }) (known.phases l n it.line it.there owned))) in
    record {
      of = of;
      move = move;
      now = now;
      now_is = refl;
      moved = moved;
      others = other;
      lists = λ k lane. refl;
      known = record {
        locks = fires-keeps p tree s mid f lawful templates fires known.locks;
        numbers = by_line p tree s mid f it all now (λ l line numbers. AreNumbers p tree line numbers (λ y. is_new y && not (y == n)))
            (numbers_kept p tree f of.t of.kind of.rule of.before it.effect.after it.effect.outs it.line new (all l) is_new n of.is before loose)
            (λ l line differs at. fewer_new p tree line (all l) is_new (λ y. is_new y && not (y == n)) (λ y is. (both (is_new y) (not (y == n)) is).0) (known.numbers l line at));
        owned = λ l' y line at. by_line p tree s mid f it all now (λ l line numbers. (IsBlank (progress_of p tree line numbers y) → ⊥) → owner y ≡ l)
            (λ begun. ⊎_elim (λ same. ap owner same ∙ owned) (λ differs. known.owned l y it.line it.there (λ blank. begun (subst (λ at. IsBlank at) (sym (other y differs)) blank))) (same_or_other y n))
            (λ l line differs at begun. known.owned l y line at begun) l' line at;
        phases = λ l' y line at. by_line p tree s mid f it all now (λ l line numbers. owner y ≡ l → HasPhases tree (progress_of p tree line numbers y) (made_in y (past ++ x ∷ [])))
            (λ here. ⊎_elim
            (λ same. subst (λ y. HasPhases tree (progress_of p tree new now y) (made_in y (past ++ x ∷ []))) (sym same) phases)
            (λ differs. subst (λ at. HasPhases tree at (made_in y (past ++ x ∷ []))) (sym (other y differs)) (subst (λ made. HasPhases tree (progress_of p tree it.line (all l) y) made) (sym (made_other y past x (λ same. differs (sym same)))) (known.phases l y it.line it.there here)))
            (same_or_other y n))
            (λ l' line differs at here. subst (λ made. HasPhases tree (progress_of p tree line (all l') y) made) (sym (made_other y past x (λ same. differs (sym here ∙ ap owner (sym same) ∙ owned)))) (known.phases l' y line at here)) l' line at;
        forms = λ y. ⊎_elim
            (λ same. subst (λ y. HasForm tree (made_in y (past ++ x ∷ []))) (sym same) (form_of tree (progress_of p tree new now n) (made_in n (past ++ x ∷ [])) phases))
            (λ differs. subst (λ made. HasForm tree made) (sym (made_other y past x (λ same. differs (sym same)))) (known.forms y))
            (same_or_other y n);
      };
      takes = own.takes;
      own_line = owned;
      begins = ⊎_elim (λ is. inl is) (λ begun. inr (not_false (is_new n) (λ is. begun (before.fresh n is)))) move.taking.begins;
    }
