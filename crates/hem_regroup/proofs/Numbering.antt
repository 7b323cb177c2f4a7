-- Histories as numbered firings.
use Rattle.std.proofs.Common.{◌≡◌, refl, sym, ap, ◌∙◌, subst, ℕ, zero, suc, ◌+◌, ◌<◌, ◌≤◌, Bool, true, false, cond, List, [], ◌∷◌, length, map, get_or, Some, arith, ⊎_elim}
use Rattle.std.specs.Prelude.{◌==◌, slice_get}
use Rattle.std.proofs.lemmas.Bool.{eqb-true, or_cases, true≢false}
use Rattle.std.proofs.lemmas.List.{length-map}
use Rattle.hem_base.specs.declared.ids.Firing.{Firing}
use Rattle.hem_syntax.specs.Protocol.{Protocol}
use Rattle.hem_tree.specs.Tree.{Tree, kind_of}
use Rattle.hem_work.specs.Work.{Work}
use Rattle.hem_system.specs.State.{State, Line, Effect, LineStep, start, run, fire, local_at, own_effect, effect_of, heads_of, line_after, line_step_of}
use Rattle.hem_system.specs.Events.{Event}
use Rattle.hem_trace.specs.History.{events}
use Rattle.hem_trace.specs.Tags.{numbers_of}
use Rattle.hem_trace.specs.Blocks.{Each}
use Rattle.hem_trace.specs.Order.{Entry, entries_from, transactions_of}
use Rattle.hem_trace.proofs.Senders.{numbers-by-senders}
use Rattle.hem_trace.proofs.SendersOnce.{start-channels}
use Rattle.hem_rows.proofs.Choices.{if_some, if_mapped}
use Rattle.hem_locks.proofs.Places.{within}
use Rattle.hem_law.specs.Orders.{stands_in}
use Rattle.hem_law.proofs.AllLines.{all-firings, made-on}
use Rattle.hem_law.proofs.NormalRun.{start-fresh}
use Rattle.hem_law.proofs.Transactions.{are-transactions}
use Rattle.hem_serial.specs.Histories.{entries, printed_blocks}
use Rattle.hem_regroup.specs.declared.numbered.Numbered.{Numbered}
use Rattle.hem_regroup.specs.Normal.{numbered_of, all_numbered, normal_members, ArePlaced}
use Rattle.hem_regroup.specs.Printed.{blocks_of}
use Rattle.hem_regroup.specs.Starts.{starts, AreAmong, AreStarted}
use Rattle.hem_regroup.specs.Numbering.{numbered_at, numbered_by}
use Rattle.hem_regroup.specs.Ranks.{firsts, AreFirst}
use Rattle.hem_regroup.specs.Histories.{IsNumberedHistory}
use Rattle.hem_regroup.proofs.AtPlaces.{each_there}
use Rattle.hem_regroup.proofs.NumberedPlaces.{no_firing, numbered_there}
use Rattle.hem_regroup.proofs.ByRank.{starts-firsts}
use Rattle.hem_regroup.proofs.Started.{transactions-same, printed-numbered}

-- each firing is at an object of the tree
step-within : (p : Protocol) (tree : Tree) (line : Line) (f : Firing) (step : LineStep) → line_step_of p tree line f ≡ Some step → f.object.0 < length tree
step-within p tree line f step is =
    let made = if_mapped (λ e. record { effect = e; next = line_after tree f e line }) (effect_of p tree line f) step is in
    let at = if_some (λ local. own_effect p tree f local (heads_of tree line f.object.0 f.me)) (local_at line f.object.0) made.0 made.1 in
    let kind = some_kind at.0 made.0 at.2 in
    within tree f.object.0 kind.0 kind.1
  where
    some_kind : (local : _) (e : Effect) → own_effect p tree f local (heads_of tree line f.object.0 f.me) ≡ Some e → (kind : _) × (kind_of tree f.object.0 ≡ Some kind)
    some_kind local e is = let it = if_some _ (kind_of tree f.object.0) e is in (it.0, it.1)

pub run-within : (p : Protocol) (tree : Tree) (s : State) (h : List Firing) (new : State) → run p tree s h ≡ Some new → Each (λ f. f.object.0 < length tree) h
run-within p tree s [] new ran = tt
run-within p tree s (f ∷ h) new ran =
    let one = if_some (λ next. run p tree next h) (fire p tree s f) new ran in
    let on = made-on p tree s f one.0 one.1 in
    (step-within p tree on.line f on.step on.made, run-within p tree one.0 h new one.2)

-- the numbered firings of entries
numbered-from : (p : Protocol) (tree : Tree) (k : ℕ) (es : List Event) (numbers : List ℕ) → all_numbered (entries_from p tree k es numbers) ≡ numbered_by p tree (map (λ e. e.firing) es) numbers
numbered-from p tree k [] numbers = refl
numbered-from p tree k (e ∷ es) [] = refl
numbered-from p tree k (e ∷ es) (n ∷ numbers) = ap (λ xs. numbered_at p tree e.firing n ∷ xs) (numbered-from p tree (k + 1) es numbers)

-- those of a history
pub numbered-history : (p : Protocol) (tree : Tree) (h : List Firing) (numbers : List ℕ) (it : IsNumberedHistory p tree h numbers) → numbered_by p tree h numbers ≡ all_numbered (entries p tree it.work h)
numbered-history p tree h numbers it =
    let es = events p tree (start p tree it.work) h in
    ap (λ h. numbered_by p tree h numbers) (sym (all-firings p tree (start p tree it.work) h it.end it.history.runs.leads))
    ∙ ap (numbered_by p tree (map (λ e. e.firing) es)) it.are
    ∙ sym (numbered-from p tree 0 es (numbers_of tree es))

pub one-each : (p : Protocol) (tree : Tree) (h : List Firing) (numbers : List ℕ) → IsNumberedHistory p tree h numbers → length numbers ≡ length h
one-each p tree h numbers it =
    let es = events p tree (start p tree it.work) h in
    ap length it.are
    ∙ (numbers-by-senders p tree (start p tree it.work) it.end h (start-channels p tree it.work) it.history.runs).one_each
    ∙ sym (length-map es (λ e. e.firing))
    ∙ ap length (all-firings p tree (start p tree it.work) h it.end it.history.runs.leads)

-- entries stand at their places
placed-from : (p : Protocol) (tree : Tree) (k : ℕ) (es : List Event) (numbers : List ℕ) → ArePlaced k (entries_from p tree k es numbers)
placed-from p tree k [] numbers = tt
placed-from p tree k (e ∷ es) [] = tt
placed-from p tree k (e ∷ es) (n ∷ numbers) = (refl, placed-from p tree (k + 1) es numbers)

placed : (p : Protocol) (tree : Tree) (work : Work) (h : List Firing) → ArePlaced 0 (entries p tree work h)
placed p tree work h = let es = events p tree (start p tree work) h in placed-from p tree 0 es (numbers_of tree es)

-- each one's transaction begins among them
among-entries : (left : List ℕ) (es : List Entry) → Each (λ x. stands_in left x.number ≡ true) es → AreAmong (all_numbered es) left
among-entries left [] all = tt
among-entries left (e ∷ es) all = (all.0, among-entries left es all.1)

pub history-started : (p : Protocol) (tree : Tree) (h : List Firing) (numbers : List ℕ) → IsNumberedHistory p tree h numbers → AreStarted (numbered_by p tree h numbers)
history-started p tree h numbers it =
    let es = entries p tree it.work h in
    let are = are-transactions p tree (start p tree it.work) h it.end (start-fresh p tree it.work) it.history.runs.leads in
    subst (λ all. AreStarted all) (sym (numbered-history p tree h numbers it))
    (subst (λ left. AreAmong (all_numbered es) left) (transactions-same 0 es (placed p tree it.work h)) (among-entries (transactions_of es) es are.begun))

-- each number is the place of its first firing
least-at : (k : ℕ) (es : List Entry) (j : ℕ) (x : Numbered) → ArePlaced k es → Each (λ e. e.number ≤ e.place) es → slice_get (all_numbered es) j ≡ Some x → x.number ≤ k + j
least-at k [] j x placed least there = absurd cc
least-at k (e ∷ es) zero x placed least there =
    let same : numbered_of e ≡ x = cc in
    let number = ap (λ x. x.number) same in
    let at = placed.0 in
    let low = least.0 in
    omega (arith, number, at, low)
least-at k (e ∷ es) (suc j) x placed least there = let it = least-at (k + 1) es j x placed.1 least.1 there in omega (arith, it)

-- an entry's number that stands among the first ones is the number at its place
first-at : (k : ℕ) (numbers : List ℕ) (u : ℕ) → stands_in (firsts k numbers) u ≡ true → (j : ℕ) × (u ≡ k + j) × (get_or numbers j 0 ≡ u)
first-at k [] u there = absurd (true≢false (sym there))
first-at k (n ∷ numbers) u there = by_test (k == n) refl there (first-at (k + 1) numbers u)
  where
    by_test : (b : Bool) → (k == n) ≡ b → stands_in (cond b (n ∷ firsts (k + 1) numbers) (firsts (k + 1) numbers)) u ≡ true → (stands_in (firsts (k + 1) numbers) u ≡ true → (j : ℕ) × (u ≡ k + 1 + j) × (get_or numbers j 0 ≡ u)) → (j : ℕ) × (u ≡ k + j) × (get_or (n ∷ numbers) j 0 ≡ u)
    by_test true is there rest =
        ⊎_elim
        (λ here. let same = eqb-true n u here in let at = eqb-true k n is in (0, omega (arith, same, at), same))
        (λ later. let it = rest later in (suc it.0, (let at = it.1 in omega (arith, at)), it.2))
        (or_cases (n == u) (stands_in (firsts (k + 1) numbers) u) there)
    by_test false is there rest = let it = rest there in (suc it.0, (let at = it.1 in omega (arith, at)), it.2)

pub first_each : (p : Protocol) (tree : Tree) (h : List Firing) (numbers : List ℕ) → IsNumberedHistory p tree h numbers → AreFirst numbers
first_each p tree h numbers it =
    let es = entries p tree it.work h in
    let are = are-transactions p tree (start p tree it.work) h it.end (start-fresh p tree it.work) it.history.runs.leads in
    let each = one-each p tree h numbers it in
    let started = history-started p tree h numbers it in
    record {
      least = λ k inside. let low = least-at 0 es k (numbered_at p tree (get_or h k no_firing) (get_or numbers k 0)) (placed p tree it.work h) are.least
          (ap (λ xs. slice_get xs k) (sym (numbered-history p tree h numbers it)) ∙ numbered_there p tree h numbers k no_firing each (omega (arith, inside, each))) in omega (arith, low);
      same = λ k inside.
          let there = each_there (λ x. stands_in (starts 0 (numbered_by p tree h numbers)) x.number ≡ true) (numbered_by p tree h numbers) k (numbered_at p tree (get_or h k no_firing) (get_or numbers k 0)) (numbered_there p tree h numbers k no_firing each (omega (arith, inside, each))) started in
          let at = first-at 0 numbers (get_or numbers k 0) (ap (λ ns. stands_in ns (get_or numbers k 0)) (sym (starts-firsts p tree 0 h numbers each)) ∙ there) in
          let zero_plus : get_or numbers k 0 ≡ at.0 = let is = at.1 in omega (arith, is) in
          ap (λ j. get_or numbers j 0) zero_plus ∙ at.2;
    }

-- and their blocks are those of the history
pub history-blocks : (p : Protocol) (tree : Tree) (h : List Firing) (numbers : List ℕ) (all : List Numbered) (it : IsNumberedHistory p tree h numbers) → all ≡ numbered_by p tree h numbers → blocks_of (normal_members all) (starts 0 all) ≡ printed_blocks p tree it.work h
history-blocks p tree h numbers all it are =
    ap (λ all. blocks_of (normal_members all) (starts 0 all)) (are ∙ numbered-history p tree h numbers it)
    ∙ sym (printed-numbered (entries p tree it.work h) (placed p tree it.work h))
