-- What the invariant of locks says of lines and firings, with nothing left to the reader.
use Rattle.std.proofs.Common.{◌≡◌, refl, ap, sym, ◌∙◌, ℕ, zero, suc, Bool, true, List, [], ◌∷◌, length, arith, Option, Some, None}
use Rattle.std.specs.Prelude.{slice_get, is_none}
use Rattle.std.specs.List.{list_all}
use Rattle.std.proofs.lemmas.Bool.{eqb-true}
use Rattle.std.proofs.lemmas.Option.{slice_get_within}
use Rattle.hem_base.specs.declared.ids.ObjectId.{ObjectId}
use Rattle.hem_base.specs.declared.ids.Message.{Message}
use Rattle.hem_base.specs.declared.ids.Firing.{Firing}
use Rattle.hem_base.specs.declared.ids.Kind.{Kind}
use Rattle.hem_base.specs.declared.ids.Kind.TheVariants.{Root, Mid, Leaf}
use Rattle.hem_object.specs.declared.state.Lock.{Lock}
use Rattle.hem_syntax.specs.Protocol.{Protocol}
use Rattle.hem_object.specs.Local.{Local}
use Rattle.hem_template.specs.Template.{row_of}
use Rattle.hem_template.specs.declared.row.Taking.{Taking}
use Rattle.hem_template.specs.declared.row.Taking.TheVariants.{NothingTaken, FromRequester, ParentRequest, ParentResponse, FromKids}
use Rattle.hem_tree.specs.Tree.{Tree, IsTree, parent_of, place_among}
use Rattle.hem_tree.proofs.Early.{lawful_early}
use Rattle.hem_system.specs.State.{Cell, Line, State, Effect, effect_of, heads_of, local_at, place_of_me}
use Rattle.hem_system.specs.Quiet.{holds_none, has_no_message, is_idle, is_quiet}
use Rattle.hem_rows.specs.Acts.{is_down_response, takes_me, IsNamed}
use Rattle.hem_rows.specs.Rows.{AllHaveTemplates}
use Rattle.hem_locks.specs.Acted.{IsActed}
use Rattle.hem_locks.specs.Edges.{count, LocksHold, AllLocksHold}
use Rattle.hem_locks.specs.Allowed.{HasTemplate, FreesDownlock, ServesItsParent}
use Rattle.hem_locks.specs.Clean.{AreFew, AreInLine, AreCleanAt, IsStill, LineIsStill, HoldsNone}
use Rattle.hem_rows.proofs.Choices.{both}
use Rattle.hem_tree.proofs.Lawful.{get_within}
use Rattle.hem_locks.proofs.Acted.{acted}
use Rattle.hem_locks.proofs.Clean.{few, is_empty}
use Rattle.hem_locks.proofs.Allowed.{down_freed, waiting_serves, requests_clean}
use Rattle.hem_locks.proofs.Still.{none_held}

-- the parent of an object that is on the line is there too
pub parent_there : (p : Protocol) (tree : Tree) (line : Line) (o high : ℕ) (cell : Cell) → IsTree tree → parent_of tree o ≡ Some high → slice_get line o ≡ Some cell → (upper : Cell) × (slice_get line high ≡ Some upper)
parent_there p tree line o high cell lawful parent at =
    let early = (lawful_early tree lawful).early o high parent in
    let inside = slice_get_within line o cell at in
    get_within line high (omega arith)

-- the lists of each object's edge are short
pub few_messages : (p : Protocol) (tree : Tree) (line : Line) (o : ℕ) (cell : Cell) → IsTree tree → LocksHold p tree line → slice_get line o ≡ Some cell → AreFew cell
few_messages p tree line o cell lawful holds at = by_parent (parent_of tree o) refl
  where
    by_parent : (parent : Option ℕ) → parent_of tree o ≡ parent → AreFew cell
    by_parent None is =
        let top = (holds.objects.object o cell at).top is in
        record { up_requests = rw top.up_requests (omega arith); up_responses = rw top.up_responses (omega arith); down = rw top.down (omega arith) }
    by_parent (Some high) is =
        let upper = parent_there p tree line o high cell lawful is at in
        few p (place_among tree high o) upper.0 cell (holds.edges.edge o high upper.0 cell is upper.1 at)

-- the template of a firing's rule
pub has_template : {p : Protocol} {tree : Tree} {line : Line} {f : Firing} {e : Effect} → (it : IsActed p tree line f e) → HasTemplate p tree f it.template
has_template it = record { kind = it.kind; rule = it.rule; kind_is = it.kind_is; named = it.named; template = it.has_template }

-- a held downlock allows only the firing that frees it
pub held_downlock : (p : Protocol) (tree : Tree) (line : Line) (f : Firing) (e : Effect) (local : Local) (lock : Lock) → AllHaveTemplates p → effect_of p tree line f ≡ Some e → local_at line f.object.0 ≡ Some local → local.down ≡ Some lock → FreesDownlock p tree f lock e
held_downlock p tree line f e local lock templates possible at held =
    let it = acted p tree line f e templates possible in
    let both : Some it.local ≡ Some local = sym it.there ∙ at in
    let same : it.local ≡ local = cc in
    let freed = down_freed p it.kind it.template (place_of_me tree f.object.0 f.me) it.local (heads_of tree line f.object.0 f.me) e.after e.outs lock (ap (λ (l : Local). l.down) same ∙ held) it.acts in
    record { template = it.template; of = has_template it; frees = freed.frees; free = freed.free }

-- an object that waits for its parent's response, which isn't there yet, only serves its parent
pub waiting_object : (p : Protocol) (tree : Tree) (line : Line) (f : Firing) (e : Effect) (cell : Cell) (lock : Lock) → IsTree tree → AllHaveTemplates p → LocksHold p tree line → effect_of p tree line f ≡ Some e → slice_get line f.object.0 ≡ Some cell → cell.local.up ≡ Some lock → count (is_down_response p) cell.down ≡ 0 → ServesItsParent p tree f
waiting_object p tree line f e cell lock lawful templates holds possible at held none = by_parent (parent_of tree f.object.0) refl
  where
    it : IsActed p tree line f e
    it = acted p tree line f e templates possible

    by_parent : (parent : Option ℕ) → parent_of tree f.object.0 ≡ parent → ServesItsParent p tree f
    by_parent None is = absurd (let free = ((holds.objects.object f.object.0 cell at).top is).uplock in cc)
    by_parent (Some high) is =
        let upper = parent_there p tree line f.object.0 high cell lawful is at in
        record { template = it.template; of = has_template it; serves = waiting_serves p tree line f e high upper.0 cell lock holds.edges it is upper.1 at held none }

-- a child is named only where its request is taken
named-taken : (kind : Kind) (taking : Taking) (me : Option ℕ) (c : ℕ) → IsNamed kind taking me → me ≡ Some c → takes_me taking ≡ true
named-taken Leaf taking me c named is = cc
named-taken Root FromRequester me c named is = refl
named-taken Mid FromRequester me c named is = refl
named-taken Root NothingTaken me c named is = cc
named-taken Root ParentRequest me c named is = cc
named-taken Root ParentResponse me c named is = cc
named-taken Root FromKids me c named is = cc
named-taken Mid NothingTaken me c named is = cc
named-taken Mid ParentRequest me c named is = cc
named-taken Mid ParentResponse me c named is = cc
named-taken Mid FromKids me c named is = cc

-- where a child's request is taken, the child and all that work below it are clean
pub clean_path : (p : Protocol) (tree : Tree) (line : Line) (f : Firing) (e : Effect) (child : ObjectId) (lows : List ℕ) → AllHaveTemplates p → LocksHold p tree line → effect_of p tree line f ≡ Some e → f.me ≡ Some child → AreInLine tree line child.0 lows → AreCleanAt line (child.0 ∷ lows)
clean_path p tree line f e child lows templates holds possible is works =
    let it = acted p tree line f e templates possible in
    let place : place_of_me tree f.object.0 f.me ≡ Some (place_among tree f.object.0 child.0) = ap (place_of_me tree f.object.0) is in
    let taken = it.acts.taken_request ∙ named-taken it.kind (row_of it.template).taking _ _ it.acts.named place in
    requests_clean p tree line f e child lows holds.edges it taken is works

-- where nothing is under way on a line, no lock is held
pub still_line : (p : Protocol) (tree : Tree) (line : Line) (o : ℕ) (cell : Cell) → IsTree tree → LocksHold p tree line → LineIsStill line → slice_get line o ≡ Some cell → HoldsNone cell
still_line p tree line o cell lawful holds still at = none_held p tree line lawful holds still o cell at

-- a test of all that another follows from
all_from : {A : Type 0} (test goal : A → Bool) (xs : List A) → ((i : ℕ) (x : A) → slice_get xs i ≡ Some x → test x ≡ true → goal x ≡ true) → list_all test xs ≡ true → list_all goal xs ≡ true
all_from test goal [] follows all = refl
all_from test goal (x ∷ xs) follows all =
    let parts = both (test x) (list_all test xs) all in
    rw (follows 0 x refl parts.0, all_from test goal xs (λ i y at. follows (suc i) y at) parts.1) refl

-- what passes a test of all
one_of : {A : Type 0} (test : A → Bool) (xs : List A) (i : ℕ) (x : A) → list_all test xs ≡ true → slice_get xs i ≡ Some x → test x ≡ true
one_of test [] i x all at = cc
one_of test (y ∷ xs) zero x all at = let same : y ≡ x = cc in ap test (sym same) ∙ (both (test y) (list_all test xs) all).0
one_of test (y ∷ xs) (suc i) x all at = one_of test xs i x (both (test y) (list_all test xs) all).1 at

none_there : (ms : List Message) → holds_none ms ≡ true → ms ≡ []
none_there ms none = is_empty ms (eqb-true (length ms) 0 none)

still_cell : (cell : Cell) → has_no_message cell ≡ true → IsStill cell
still_cell cell none =
    let a = both _ _ none in
    let b = both _ _ a.0 in
    let c = both _ _ b.0 in
    record { up_requests = none_there cell.up_requests c.0; up_responses = none_there cell.up_responses c.1; down = none_there cell.down b.1 }

-- so a state without messages is quiet
pub quiet_state : (p : Protocol) (tree : Tree) (s : State) → IsTree tree → AllLocksHold p tree s → list_all (list_all has_no_message) s ≡ true → is_quiet s ≡ true
quiet_state p tree s lawful holds none =
    all_from (list_all has_no_message) (list_all is_idle) s
    (λ l line at none.
    let still : LineIsStill line = record { object = λ o cell there. still_cell cell (one_of has_no_message line o cell none there) } in
    all_from has_no_message is_idle line
    (λ o cell there none.
    let free = still_line p tree line o cell lawful (holds.line l line at) still there in
    let up : is_none cell.local.up ≡ true = ap is_none free.uplock in
    let down : is_none cell.local.down ≡ true = ap is_none free.downlock in
    rw (none, up, down) refl)
    none)
    none
