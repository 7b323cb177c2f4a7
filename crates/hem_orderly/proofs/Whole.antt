-- Histories have whole windows.
use Rattle.std.proofs.Common.{◌≡◌, ℕ, ◌+◌, ◌<◌, Bool, true, not, ◌&&◌, List, [], ◌∷◌, ◌++◌, length, refl, sym, ap, ◌∙◌, subst, arith, inl, inr, ◌⊎◌}
use Rattle.std.specs.Prelude.{◌==◌, nat_lt}
use Rattle.hem_base.specs.declared.ids.Firing.{Firing}
use Rattle.hem_template.specs.declared.template_name.TemplateName.{TemplateName}
use Rattle.hem_template.specs.declared.template_name.TemplateName.TheVariants.{ImmSelf, ImmDown, ImmUp, RqUp, RqUpSelf, RqUpDown, RqDownSelf, RqDownDown, RsDown, RsDownSelf, RsDownRqDown, RsUpDown, RsUpUp, RsUpSelf}
use Rattle.hem_syntax.specs.Protocol.{Protocol}
use Rattle.hem_syntax.specs.Lawful.{IsProtocol}
use Rattle.hem_tree.specs.Tree.{Tree, IsTree}
use Rattle.hem_work.specs.Work.{Work}
use Rattle.hem_system.specs.State.{State, Runs, line_after, start}
use Rattle.hem_trace.specs.Blocks.{Each}
use Rattle.hem_system.specs.Events.{Event}
use Rattle.hem_trace.specs.History.{events}
use Rattle.hem_trace.specs.Tags.{numbers_of}
use Rattle.hem_trace.specs.Order.{Entry, is_upward, entries_from, entries_of, anchor_of, is_moved}
use Rattle.hem_law.specs.Normal.{OnlyUp}
use Rattle.hem_law.specs.Lines.{line_firings}
use Rattle.hem_law.specs.Printed.{firings_in}
use Rattle.hem_law.specs.Windows.{HasWholeWindows}
use Rattle.hem_law.proofs.ListFacts.{each-map}
use Rattle.hem_rows.specs.Rows.{AllHaveTemplates}
use Rattle.hem_locks.specs.Allowed.{HasTemplate}
use Rattle.hem_locks.proofs.States.{start-holds}
use Rattle.hem_windows.proofs.Windows.{window_of}
use Rattle.hem_shape.specs.Progress.{set_at}
use Rattle.hem_shape.specs.Shape.{is_asking_up}
use Rattle.hem_shape.proofs.Spots.{set_here}
use Rattle.hem_numbered.specs.Numbers.{Numbers, no_numbers, progress_of}
use Rattle.hem_numbered.proofs.Histories.{entry_by, upward_is}
use Rattle.hem_numbered.proofs.OnlyUp.{rising_from}
use Rattle.hem_numbered.proofs.Starts.{start_idle, known_start}
use Rattle.hem_numbered.proofs.Whole.{line_at, owners, history_rises}
use Rattle.hem_orderly.specs.Anchors.{HasAnchor, HaveAnchors}
use Rattle.hem_orderly.specs.Waits.{Waits, EachWaits, TellsUpward}
use Rattle.hem_rows.proofs.Choices.{both}
use Rattle.hem_orderly.proofs.Anchors.{have_anchors}
use Rattle.hem_orderly.proofs.Steps.{IsAt, entries_on, Next, next}
use Rattle.hem_orderly.proofs.Rising.{asks_next}
use Rattle.hem_orderly.proofs.Climbs.{line_now, climbs}
use Rattle.hem_orderly.proofs.Blocks.{whole_blocks}
use Rattle.hem_orderly.proofs.Cut.{cut}

-- the two templates that send a request up
asking : (t : TemplateName) → is_asking_up t ≡ true → (t ≡ RqUp) ⊎ (t ≡ RqUpSelf)
asking ImmSelf up = cc
asking ImmDown up = cc
asking ImmUp up = cc
asking RqUp up = inl refl
asking RqUpSelf up = inr refl
asking RqUpDown up = cc
asking RqDownSelf up = cc
asking RqDownDown up = cc
asking RsDown up = cc
asking RsDownSelf up = cc
asking RsDownRqDown up = cc
asking RsUpDown up = cc
asking RsUpUp up = cc
asking RsUpSelf up = cc

-- a firing of the one or the other
upward_firing : (p : Protocol) (tree : Tree) (f : Firing) (t : TemplateName) → HasTemplate p tree f t → (t ≡ RqUp) ⊎ (t ≡ RqUpSelf) → HasTemplate p tree f RqUp ⊎ HasTemplate p tree f RqUpSelf
upward_firing p tree f t has (inl is) = inl (subst (HasTemplate p tree f) is has)
upward_firing p tree f t has (inr is) = inr (subst (HasTemplate p tree f) is has)

-- after each request that is moved its object makes whole blocks up to the anchor
each_waits : (p : Protocol) (tree : Tree) (owner : ℕ → ℕ) (h : List Firing) (s new : State) (all : ℕ → Numbers) (is_new : ℕ → Bool) (past : List Entry) (place : ℕ) (es : List Entry) → IsAt p tree owner h s new all is_new past place → Each (OnlyUp es) (entries_on p tree h s all place) → HaveAnchors es (entries_on p tree h s all place) → EachWaits p tree es (entries_on p tree h s all place)
each_waits p tree owner [] s new all is_new past place es at only_up anchors = tt
each_waits p tree owner (f ∷ h) s new all is_new past place es at only_up anchors =
    let it = next p tree owner f h s new all is_new past place at in
    let only = subst (Each (OnlyUp es)) it.entries only_up in
    let have = subst (HaveAnchors es) it.entries anchors in
    subst (EachWaits p tree es) (sym it.entries)
    (one it only.1 have.0, each_waits p tree owner h it.mid new (set_at f.line.0 it.step.now all) (λ y. is_new y && not (y == it.n)) (past ++ entry_by p tree place it.n f it.it.effect ∷ []) (place + 1) es it.rest only.1 have.1)
  where
    one : (it : Next p tree owner f h s new all is_new past place)
        → Each (OnlyUp es) (entries_on p tree h it.mid (set_at f.line.0 it.step.now all) (place + 1))
        → (is_moved es (entry_by p tree place it.n f it.it.effect) ≡ true → HasAnchor es (entry_by p tree place it.n f it.it.effect) (entries_on p tree h it.mid (set_at f.line.0 it.step.now all) (place + 1)))
        → is_moved es (entry_by p tree place it.n f it.it.effect) ≡ true → Waits p tree es (entry_by p tree place it.n f it.it.effect) (entries_on p tree h it.mid (set_at f.line.0 it.step.now all) (place + 1))
    one it only anchor moved =
        let rest = entries_on p tree h it.mid (set_at f.line.0 it.step.now all) (place + 1) in
        let of = it.step.of in
        let upward : is_upward p tree f ≡ true = (both (is_upward p tree f) (nat_lt place (anchor_of es it.n)) moved).0 in
        let asks : is_asking_up of.t ≡ true = sym (upward_is p tree f of.kind of.rule of.t of.is.kind_is of.named of.template) ∙ upward in
        let has = upward_firing p tree f of.t (record { kind = of.kind; rule = of.rule; kind_is = of.is.kind_is; named = of.named; template = of.template }) (asking of.t asks) in
        let to = anchor moved in
        let climb = climbs p tree owner h it.mid new (set_at f.line.0 it.step.now all) (λ y. is_new y && not (y == it.n)) (past ++ entry_by p tree place it.n f it.it.effect ∷ []) (place + 1) f.line.0 (anchor_of es it.n) it.n f.object.0 (line_after tree f it.it.effect it.it.line)
        it.rest (line_now p tree s it.mid f it.it) it.step.own_line
        (ap (λ numbers. (progress_of p tree (line_after tree f it.it.effect it.it.line) numbers it.n).asks_up f.object.0) (set_here f.line.0 it.step.now all f.line.0 refl)
        ∙ asks_next p tree owner it.mid all is_new (λ y. y == place) past it.it.line f it.it.effect place it.n it.step asks)
        (record {
          only_up = each-map (OnlyUp es) (λ y. y.number ≡ it.n → y.place < anchor_of es it.n → y.upward ≡ true) rest (λ y up same less. up (subst (λ n. y.place < anchor_of es n) (sym same) less)) only;
          anchor = to.anchor;
          among = to.among;
          number = to.number;
          place = to.place;
        }) in
        record {
          others = climb.before;
          later = climb.anchor ∷ climb.later;
          parts = climb.parts;
          early = climb.early;
          late = climb.late;
          upward = upward;
          whole = whole_blocks p tree f.line.0 f.object.0 climb.before climb.templated
              (window_of p tree it.it.line climb.new f climb.anchor.event.firing it.it.effect climb.effect (line_firings f.line.0 (firings_in climb.before)) at.lawful at.templates (at.known.locks.line f.line.0 it.it.line it.it.there) has it.it.possible climb.sends climb.runs climb.possible climb.taken);
        }

-- entries say of their firings whether they send a request up
tells_from : (p : Protocol) (tree : Tree) (k : ℕ) (es : List Event) (ns : List ℕ) → Each (TellsUpward p tree) (entries_from p tree k es ns)
tells_from p tree k [] ns = tt
tells_from p tree k (e ∷ es) [] = tt
tells_from p tree k (e ∷ es) (n ∷ ns) = (refl, tells_from p tree (k + 1) es ns)

-- in each history
pub history_waits : (p : Protocol) (tree : Tree) (work : Work) (h : List Firing) (s : State) → IsProtocol p → IsTree tree → AllHaveTemplates p → Runs p tree (start p tree work) h s → EachWaits p tree (entries_of p tree (start p tree work) h) (entries_of p tree (start p tree work) h)
history_waits p tree work h s protocol lawful templates runs =
    let first = start p tree work in
    let made = events p tree first h in
    let es = entries_of p tree first h in
    each_waits p tree (line_at made) h first s (λ l. no_numbers) (λ y. true) [] 0 es
    (record {
      lawful = lawful;
      templates = templates;
      known = known_start p tree (line_at made) first (start-holds p tree work protocol lawful) (start_idle p tree work);
      runs = runs.leads;
      late = λ y late. refl;
      fits = owners [] made 0 refl;
    })
    (history_rises p tree work h s protocol lawful templates runs)
    (have_anchors es [] es refl (rising_from p tree 0 made (numbers_of tree made)))

-- so each history has whole windows
pub history_windows : (p : Protocol) (tree : Tree) (work : Work) (h : List Firing) (s : State) → IsProtocol p → IsTree tree → AllHaveTemplates p → Runs p tree (start p tree work) h s → HasWholeWindows p tree (entries_of p tree (start p tree work) h)
history_windows p tree work h s protocol lawful templates runs =
    let made = events p tree (start p tree work) h in
    let es = entries_of p tree (start p tree work) h in
    record {
      windows = λ l o.
          let it = cut p tree es l o (length es) es (omega arith) (history_waits p tree work h s protocol lawful templates runs) (tells_from p tree 0 made (numbers_of tree made)) in
          (it.windows, it.made, it.placed, it.whole);
    }
