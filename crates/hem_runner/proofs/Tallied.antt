-- What the workers hold at the end of a run is what the run comes to.
use Rattle.std.proofs.Common.{◌≡◌, refl, ap, sym, ◌∙◌, subst, ℕ, zero, suc, ◌+◌, ◌<◌, arith, Bool, true, false, List, [], ◌∷◌, map, length, Option, Some, None}
use Rattle.std.specs.Prelude.{slice_get, slice_index_or, sum, sum_by, option_map, option_and_then, is_none, IfOk, IfSome}
use Rattle.std.specs.Option.{option_map_or, ok_or}
use Rattle.std.specs.List.{list_all}
use Rattle.std.proofs.lemmas.List.Sums.{sum_by-cons, sum-map}
use Rattle.std.proofs.lemmas.List.Folds.{list_all-map}
use Rattle.hem_ends.specs.Ends.{Ends}
use Rattle.hem_base.specs.declared.ids.Firing.{Firing}
use Rattle.hem_base.specs.declared.ids.Stamped.{Stamped}
use Rattle.hem_syntax.specs.Protocol.{Protocol}
use Rattle.hem_syntax.specs.Lawful.{IsProtocol}
use Rattle.hem_check.specs.Discipline.{IsDisciplined}
use Rattle.hem_check.proofs.Clauses.{templated}
use Rattle.hem_tree.specs.Tree.{Tree, IsLawful}
use Rattle.hem_tree.proofs.Lawful.{get_within}
use Rattle.hem_work.specs.Work.{Work}
use Rattle.hem_work.specs.Lawful.{IsLawfulWork}
use Rattle.hem_system.specs.declared.lane.Lane.TheVariants.{Answers}
use Rattle.hem_system.specs.State.{Cell, Line, State, start, list_of, cell_at}
use Rattle.hem_system.specs.Quiet.{holds_none, has_no_message, has_no_lock, is_idle, is_quiet}
use Rattle.hem_rows.proofs.Choices.{both, if_mapped}
use Rattle.hem_locks.specs.Edges.{AllLocksHold}
use Rattle.hem_locks.specs.Clean.{HoldsNone}
use Rattle.hem_locks.proofs.States.{reached-holds}
use Rattle.hem_law.proofs.NormalRun.{start-fresh}
use Rattle.hem_law.proofs.LineParts.{length-map_each}
use Rattle.hem_bound.specs.Sums.{total}
use Rattle.hem_bound.proofs.Sums.{total_none, total_same, total_same_below, total_swap}
use Rattle.hem_parts.proofs.AllRun.{there-too}
use Rattle.hem_parts.proofs.Order.{in-order-sorted, in-order-permutes}
use Rattle.hem_parts.specs.Merged.{in_order}
use Rattle.hem_merge.specs.Journals.{all_of}
use Rattle.hem_turns.specs.OnLine.{OnLine, asked}
use Rattle.hem_worker.specs.Workers.{Worker, AreChanged}
use Rattle.hem_crew.specs.Crew.{line_of, IsCrew, journals_of}
use Rattle.hem_crew.specs.Held.{held_cell, held}
use Rattle.hem_crew.specs.Rounds.{IsStill as DoesNothing}
use Rattle.hem_crew.proofs.Kept.{maps-same, rounds-keep}
use Rattle.hem_crew.proofs.Tied.{held_line, each-at}
use Rattle.hem_crew.proofs.Merging.{start-lines}
use Rattle.hem_idle.proofs.IdleRound.{on-line}
use Rattle.hem_runner.specs.Rounds.{IsAtEnd}
use Rattle.hem_runner.specs.Runs.{channel_slots, IsRun}
use Rattle.hem_runner.specs.Tally.{answers_at, answers_on, answers_in, IsTally, is_at_rest, all_at_rest, answered_by, all_answered}
use Rattle.hem_runner.proofs.Histories.{run-held}
use Rattle.hem_runner.specs.declared.tallies.Tally.{Tally}
use Rattle.hem_runner.proofs.Unlocked.{nothing-under-way}

-- what passes a test of all, by its place
one-passes : {A : Type 0} (test : A → Bool) (xs : List A) (i : ℕ) (x : A) → list_all test xs ≡ true → slice_get xs i ≡ Some x → test x ≡ true
one-passes test [] i x all at = cc
one-passes test (y ∷ xs) zero x all at = let same : y ≡ x = cc in ap test (sym same) ∙ (both (test y) (list_all test xs) all).0
one-passes test (y ∷ xs) (suc i) x all at = one-passes test xs i x (both (test y) (list_all test xs) all).1 at

all-pass : {A : Type 0} (test : A → Bool) (xs : List A) → ((i : ℕ) (x : A) → slice_get xs i ≡ Some x → test x ≡ true) → list_all test xs ≡ true
all-pass test [] each = refl
all-pass test (x ∷ xs) each = rw (each 0 x refl, all-pass test xs (λ i y at. each (suc i) y at)) refl

same-truth : (a b : Bool) → (a ≡ true → b ≡ true) → (b ≡ true → a ≡ true) → a ≡ b
same-truth true b one two = sym (one refl)
same-truth false true one two = two refl
same-truth false false one two = refl

index-there : {A : Type 0} (xs : List A) (i : ℕ) (x d : A) → slice_get xs i ≡ Some x → slice_index_or xs i d ≡ x
index-there [] i x d at = cc
index-there (y ∷ xs) zero x d at = cc
index-there (y ∷ xs) (suc i) x d at = index-there xs i x d at

-- a lock that a test finds free is free
free-lock : {A : Type 0} (lock : Option A) → is_none lock ≡ true → lock ≡ None
free-lock None free = refl
free-lock (Some x) free = cc

no-request : (cell : Cell) → has_no_message cell ≡ true → holds_none cell.requests ≡ true
no-request cell none = (both _ _ none).1

-- how many answers an object has on a line
abbrev answers_of : OnLine → ℕ
answers_of line = length line.answers

-- what is told of each element alone is the same of all
alls-same : {A : Type 0} (test : A → Bool) (old new : List A) → map test new ≡ map test old → list_all test new ≡ list_all test old
alls-same test old new same = sym (list_all-map (λ b. b) test new) ∙ ap (list_all (λ b. b)) same ∙ list_all-map (λ b. b) test old

sums-same : {A : Type 0} (f : A → ℕ) (old new : List A) → map f new ≡ map f old → sum_by f new ≡ sum_by f old
sums-same f old new same = sym (sum-map f new) ∙ ap sum same ∙ sum-map f old

-- workers that do nothing stay at rest, and keep their answers
module _ (p : Protocol) (old new : List Worker) (still : AreChanged (λ o. DoesNothing p) old new) where
  -- what is told of each line alone, and doesn't speak of its ends, is the same
  each-same : {B : Type 0} (f : OnLine → B) → ((line : OnLine) (ends : Ends) → f (record line { ends = ends }) ≡ f line) → (o : ℕ) (a b : Worker) → slice_get old o ≡ Some a → slice_get new o ≡ Some b → map f b.lines ≡ map f a.lines
  each-same f free o a b here there =
      let lines = (still.each o a b here there).lines in
      maps-same f a.lines b.lines lines.count (λ l x y at this. ap f (lines.each l x y at this).same ∙ free x y.ends)

  still-rest : all_at_rest new ≡ all_at_rest old
  still-rest =
      alls-same (λ (w : Worker). list_all is_at_rest w.lines) old new
      (maps-same (λ (w : Worker). list_all is_at_rest w.lines) old new still.count (λ o a b here there. alls-same is_at_rest a.lines b.lines (each-same is_at_rest (λ line ends. refl) o a b here there)))

  still-answered : all_answered new ≡ all_answered old
  still-answered =
      sums-same (λ (w : Worker). answered_by w.lines) old new
      (maps-same (λ (w : Worker). answered_by w.lines) old new still.count (λ o a b here there. sums-same answers_of a.lines b.lines (each-same answers_of (λ line ends. refl) o a b here there)))

-- a sum with its first number apart
total-more : (n : ℕ) (f : ℕ → ℕ) → total (suc n) f ≡ f 0 + total n (λ i. f (suc i))
total-more zero f = omega arith
total-more (suc n) f = let rest = total-more n f in omega (arith, rest)

-- a sum over a list, by the places of its elements
by-places : {A : Type 0} (f : A → ℕ) (xs : List A) → total (length xs) (λ i. option_map_or f (slice_get xs i) 0) ≡ sum_by f xs
by-places f [] = refl
by-places f (x ∷ xs) =
    let more = total-more (length xs) (λ i. option_map_or f (slice_get (x ∷ xs) i) 0) in
    let rest = by-places f xs in
    let split = sum_by-cons f x xs in
    omega (arith, more, rest, split)

-- the answers of workers that have so many lines, by line and object
crew-answered : (crew : List Worker) (n : ℕ) → ((o : ℕ) (w : Worker) → slice_get crew o ≡ Some w → length w.lines ≡ n) → total (length crew) (λ o. total n (λ l. option_map_or answers_of (line_of crew l o) 0)) ≡ all_answered crew
crew-answered crew n each =
    total_same (length crew) (λ o. total n (λ l. option_map_or answers_of (line_of crew l o) 0)) (λ o. option_map_or (λ (w : Worker). answered_by w.lines) (slice_get crew o) 0) (λ o. by_worker o (slice_get crew o) refl)
    ∙ by-places (λ (w : Worker). answered_by w.lines) crew
  where
    by_worker : (o : ℕ) (found : Option Worker) → slice_get crew o ≡ found → total n (λ l. option_map_or answers_of (option_and_then (λ (w : Worker). slice_get w.lines l) found) 0) ≡ option_map_or (λ (w : Worker). answered_by w.lines) found 0
    by_worker o None at = total_none n
    by_worker o (Some w) at = ap (λ m. total m (λ l. option_map_or answers_of (slice_get w.lines l) 0)) (sym (each o w at)) ∙ by-places answers_of w.lines

module _ (p : Protocol) (tree : Tree) (work : Work) (protocol : IsProtocol p) (disciplined : IsDisciplined p) (lawful : IsLawful tree) (fits : IsLawfulWork p tree work) (crew : List Worker) (end : IsAtEnd p tree (start p tree work) work.self_count channel_slots crew) where
  abbrev begun : State
  begun = start p tree work

  abbrev state : State
  state = held tree end.idle begun

  idle-crew : IsCrew p tree begun work.self_count channel_slots end.idle
  idle-crew = rounds-keep p tree begun work.self_count channel_slots false end.known end.idle end.is end.round

  -- the journals, put in order, are a history to the state that the idle crew holds
  abbrev stamped : List Stamped
  stamped = in_order (λ s. s) (all_of (journals_of work.lines crew))

  abbrev history : List Firing
  history = map (λ s. s.firing) stamped

  ran : IsRun p tree work history state
  ran =
      run-held p tree work (journals_of work.lines crew) history protocol disciplined lawful fits
      (record { crew = crew; ended = end; are = refl })
      (record { stamped = stamped; same = in-order-permutes (λ s. s) (all_of (journals_of work.lines crew)); sorted = in-order-sorted (λ s. s) (all_of (journals_of work.lines crew)); firings = refl })

  -- an object on a line of that state, and what its worker has of the line
  record IsHeld (l o : ℕ) (cell : Cell) : Type 0 where
    now : OnLine
    there : line_of end.idle l o ≡ Some now
    local : cell.local ≡ now.local
    requests : cell.requests ≡ asked now
    answers : cell.answers ≡ now.answers

  sized : (l : ℕ) (line : Line) → slice_get begun l ≡ Some line → length line ≡ length tree
  sized l line at = (start-fresh p tree work).sized l line at

  -- each object of each line of the start has a worker that has the line
  has-line : (l o : ℕ) (line : Line) (cell : Cell) → slice_get begun l ≡ Some line → slice_get line o ≡ Some cell → (now : OnLine) × (line_of end.idle l o ≡ Some now)
  has-line l o line cell at here =
      let count = idle-crew.count in
      let size = sized l line at in
      let w = there-too line end.idle o cell (count ∙ sym size) here in
      let now = there-too begun w.0.lines l line (idle-crew.each o w.0 w.1).lines at in
      (now.0, ap (option_and_then (λ (w : Worker). slice_get w.lines l)) w.1 ∙ now.1)

  held-so : (l o : ℕ) (cell : Cell) (now : OnLine) → line_of end.idle l o ≡ Some now → IsHeld l o (held_cell tree end.idle l o cell)
  held-so l o cell now there =
      record {
        now = now;
        there = there;
        local = ap (λ found. option_map_or (λ (line : OnLine). line.local) found cell.local) there;
        requests = ap (λ found. option_map_or asked found []) there;
        answers = ap (λ found. option_map_or (λ (line : OnLine). line.answers) found []) there;
      }

  held-at : (l o : ℕ) (line : Line) (cell : Cell) → slice_get state l ≡ Some line → slice_get line o ≡ Some cell → IsHeld l o cell
  held-at l o line cell at here =
      let first = if_mapped (held_line tree end.idle l) (slice_get begun l) line (sym (each-at (held_line tree end.idle) begun l) ∙ at) in
      let inner : slice_get (held_line tree end.idle l first.0) o ≡ Some cell = ap (λ (line : Line). slice_get line o) first.2 ∙ here in
      let was = if_mapped (held_cell tree end.idle l o) (slice_get first.0 o) cell (sym (each-at (held_cell tree end.idle l) first.0 o) ∙ inner) in
      let now = has-line l o first.0 was.0 first.1 was.1 in
      subst (IsHeld l o) was.2 (held-so l o was.0 now.0 now.1)

  locks : AllLocksHold p tree state
  locks = reached-holds p tree work history state protocol lawful.shape (templated p disciplined) ran.runs

  -- where all workers are at rest, the state is quiet
  quiet-by-rest : all_at_rest end.idle ≡ true → is_quiet state ≡ true
  quiet-by-rest rest = all-pass (list_all is_idle) state (λ l line at. all-pass is_idle line (λ o cell here. idle-there l line at o cell here))
    where
      resting : (l o : ℕ) (now : OnLine) → line_of end.idle l o ≡ Some now → is_at_rest now ≡ true
      resting l o now there =
          let it = on-line end.idle l o now there in
          one-passes is_at_rest it.worker.lines l now (one-passes (λ (w : Worker). list_all is_at_rest w.lines) end.idle o it.worker rest it.there) it.line

      unlocked : (l o : ℕ) (cell : Cell) → IsHeld l o cell → has_no_lock cell.local ≡ true
      unlocked l o cell it = ap has_no_lock it.local ∙ (both (has_no_lock it.now.local) (holds_none (asked it.now)) (resting l o it.now it.there)).0

      none-held : (l o : ℕ) (cell : Cell) → IsHeld l o cell → HoldsNone cell
      none-held l o cell it =
          let free = both _ _ (unlocked l o cell it) in
          record { uplock = free-lock cell.local.up free.0; downlock = free-lock cell.local.down free.1 }

      idle-there : (l : ℕ) (line : Line) → slice_get state l ≡ Some line → (o : ℕ) (cell : Cell) → slice_get line o ≡ Some cell → is_idle cell ≡ true
      idle-there l line at o cell here =
          let it = held-at l o line cell at here in
          let under = nothing-under-way p tree line lawful.shape (locks.line l line at) (λ k other there. none-held l k other (held-at l k line other at there)) in
          let still = under.object o cell here in
          let asks : holds_none cell.requests ≡ true = ap holds_none it.requests ∙ (both (has_no_lock it.now.local) (holds_none (asked it.now)) (resting l o it.now it.there)).1 in
          let a : holds_none cell.up_requests ≡ true = ap holds_none still.up_requests in
          let b : holds_none cell.up_responses ≡ true = ap holds_none still.up_responses in
          let c : holds_none cell.down ≡ true = ap holds_none still.down in
          rw (a, b, c, asks, unlocked l o cell it) refl

  -- and where it is quiet, they are at rest
  rest-by-quiet : is_quiet state ≡ true → all_at_rest end.idle ≡ true
  rest-by-quiet quiet = all-pass (λ (w : Worker). list_all is_at_rest w.lines) end.idle (λ o w here. all-pass is_at_rest w.lines (λ l now at. rest-there o w here l now at))
    where
      rest-there : (o : ℕ) (w : Worker) → slice_get end.idle o ≡ Some w → (l : ℕ) (now : OnLine) → slice_get w.lines l ≡ Some now → is_at_rest now ≡ true
      rest-there o w here l now at =
          let line = there-too w.lines begun l now (sym (idle-crew.each o w here).lines) at in
          let count = idle-crew.count in
          let cell = there-too end.idle line.0 o w (sized l line.0 line.1 ∙ sym count) here in
          let found : line_of end.idle l o ≡ Some now = ap (option_and_then (λ (w : Worker). slice_get w.lines l)) here ∙ at in
          let in_state : slice_get state l ≡ Some (held_line tree end.idle l line.0) = each-at (held_line tree end.idle) begun l ∙ ap (option_map (held_line tree end.idle l)) line.1 in
          let in_line : slice_get (held_line tree end.idle l line.0) o ≡ Some (held_cell tree end.idle l o cell.0) = each-at (held_cell tree end.idle l) line.0 o ∙ ap (option_map (held_cell tree end.idle l o)) cell.1 in
          let idle = one-passes is_idle (held_line tree end.idle l line.0) o (held_cell tree end.idle l o cell.0) (one-passes (list_all is_idle) state l (held_line tree end.idle l line.0) quiet in_state) in_line in
          let parts = both (has_no_message (held_cell tree end.idle l o cell.0)) (has_no_lock (held_cell tree end.idle l o cell.0).local) idle in
          let asks = no-request (held_cell tree end.idle l o cell.0) parts.0 in
          let lock : has_no_lock now.local ≡ true = sym (ap (λ f. has_no_lock (option_map_or (λ (line : OnLine). line.local) f cell.0.local)) found) ∙ parts.1 in
          let none : holds_none (asked now) ≡ true = sym (ap (λ f. holds_none (option_map_or asked f [])) found) ∙ asks in
          rw (lock, none) refl

  -- the answers in that state are those of the workers
  answers-there : (l o : ℕ) (line : Line) → slice_get begun l ≡ Some line → o < length tree → answers_at state l o ≡ option_map_or answers_of (line_of end.idle l o) 0
  answers-there l o line at inside =
      let size = sized l line at in
      let cell = get_within line o (omega (arith, size, inside)) in
      let now = has-line l o line cell.0 at cell.1 in
      let in_state : slice_get state l ≡ Some (held_line tree end.idle l line) = each-at (held_line tree end.idle) begun l ∙ ap (option_map (held_line tree end.idle l)) at in
      let in_line : slice_get (held_line tree end.idle l line) o ≡ Some (held_cell tree end.idle l o cell.0) = each-at (held_cell tree end.idle l) line o ∙ ap (option_map (held_cell tree end.idle l o)) cell.1 in
      let found : cell_at state l o ≡ Some (held_cell tree end.idle l o cell.0) = ap (option_and_then (λ (line : Line). slice_get line o)) in_state ∙ in_line in
      ap (λ found. option_map_or (λ (cell : Cell). length (list_of cell Answers)) found 0) found ∙ ap (λ found. length (option_map_or (λ (line : OnLine). line.answers) found [])) now.1 ∙ sym (ap (λ found. option_map_or answers_of found 0) now.1)

  line-answers : (l : ℕ) → l < work.lines → answers_on state l ≡ total (length tree) (λ o. option_map_or answers_of (line_of end.idle l o) 0)
  line-answers l inside =
      let lines = start-lines p tree work in
      let line = get_within begun l (omega (arith, lines, inside)) in
      let in_state : slice_get state l ≡ Some (held_line tree end.idle l line.0) = each-at (held_line tree end.idle) begun l ∙ ap (option_map (held_line tree end.idle l)) line.1 in
      let is : slice_index_or state l [] ≡ held_line tree end.idle l line.0 = index-there state l (held_line tree end.idle l line.0) [] in_state in
      let size : length (slice_index_or state l []) ≡ length tree = ap length is ∙ length-map_each (held_cell tree end.idle l) 0 line.0 ∙ sized l line.0 line.1 in
      ap (λ n. total n (answers_at state l)) size
      ∙ total_same_below (length tree) (answers_at state l) (λ o. option_map_or answers_of (line_of end.idle l o) 0) (λ o there. answers-there l o line.0 line.1 there)

  answers-same : answers_in state ≡ all_answered end.idle
  answers-same =
      let lines : length state ≡ work.lines = length-map_each (held_line tree end.idle) 0 begun ∙ start-lines p tree work in
      ap (λ n. total n (answers_on state)) lines
      ∙ total_same_below work.lines (answers_on state) (λ l. total (length tree) (λ o. option_map_or answers_of (line_of end.idle l o) 0)) line-answers
      ∙ total_swap work.lines (length tree) (λ l o. option_map_or answers_of (line_of end.idle l o) 0)
      ∙ ap (λ n. total n (λ o. total work.lines (λ l. option_map_or answers_of (line_of end.idle l o) 0))) (sym idle-crew.count)
      ∙ crew-answered end.idle work.lines (λ o w at. (idle-crew.each o w at).lines ∙ start-lines p tree work)

  -- so what the workers come to is what the history comes to
  pub tallied : IsTally p tree work (all_at_rest crew) (all_answered crew)
  tallied =
      let still = end.settled.still in
      record {
        journal = history;
        end = state;
        run = ran;
        quiet_is = still-rest p end.idle crew still ∙ same-truth (all_at_rest end.idle) (is_quiet state) quiet-by-rest rest-by-quiet;
        answers_are = still-answered p end.idle crew still ∙ sym answers-same;
      }

-- and what is told of them is the tally
pub tally-told : {E : Type 0} (p : Protocol) (tree : Tree) (work : Work) (crew : List Worker) (found : Option Tally) (e : E) → IsTally p tree work (all_at_rest crew) (all_answered crew) → IfSome found (λ t. t.quiet ≡ all_at_rest crew) → IfSome found (λ t. t.answers ≡ all_answered crew) → IfOk (ok_or found e) (λ t. IsTally p tree work t.quiet t.answers)
tally-told p tree work crew None e is rest count = tt
tally-told p tree work crew (Some t) e is rest count = record { journal = is.journal; end = is.end; run = is.run; quiet_is = rest ∙ is.quiet_is; answers_are = count ∙ is.answers_are }
