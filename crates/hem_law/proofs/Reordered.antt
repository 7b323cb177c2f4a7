-- Entries in another order that keeps each object run to the same state.
use Rattle.std.proofs.Common.{◌≡◌, ◌≢◌, refl, ap, sym, ◌∙◌, subst, ℕ, ◌<◌, true, List, [], ◌∷◌, map, length, Option, Some, None}
use Rattle.std.specs.Prelude.{◌==◌, filter, slice_get, option_map}
use Rattle.std.proofs.lemmas.Option.{slice_get_within}
use Rattle.std.proofs.lemmas.Simd.{map-map}
use Rattle.hem_base.specs.declared.ids.Firing.{Firing}
use Rattle.hem_syntax.specs.Protocol.{Protocol}
use Rattle.hem_tree.specs.Tree.{Tree}
use Rattle.hem_system.specs.declared.lane.Lane.{Lane}
use Rattle.hem_system.specs.declared.lane.Lane.TheVariants.{Requests}
use Rattle.hem_object.specs.Local.{Local}
use Rattle.hem_system.specs.State.{State, Line, Cell, local_at, takes, reaches, taker_of, sender_of, run_line, run}
use Rattle.hem_system.specs.Events.{Event}
use Rattle.hem_trace.specs.History.{Channel, takes_from, sends_to, events, line_events}
use Rattle.hem_trace.specs.Tags.{no_tags}
use Rattle.hem_trace.specs.Order.{Entry}
use Rattle.hem_law.specs.Lists.{IsPairwise, IsBelow, IsMatched}
use Rattle.hem_law.specs.Chains.{firings, IsChain}
use Rattle.hem_law.specs.Leads.{Leads}
use Rattle.hem_law.specs.Parts.{at_object, part_of, takers, senders, IsRearranged}
use Rattle.hem_law.specs.Lines.{line_firings, LineRuns}
use Rattle.hem_law.specs.Normal.{IsEarlier, InOrder, AreNumbered}
use Rattle.hem_law.specs.Orders.{stands_in}
use Rattle.hem_law.specs.Printed.{event_of, firings_in, on_line, entries_at, rows_of, IsFresh, EntriesRun, KeepsObjects}
use Rattle.hem_law.proofs.ListFacts.{pairwise-filter}
use Rattle.hem_law.proofs.Filters.{filter-map, filter-both}
use Rattle.hem_law.proofs.AllLines.{lines-run, run-lines, events-line, all-firings, same-events}
use Rattle.hem_law.proofs.Projection.{projection}
use Rattle.hem_law.proofs.Merge.{own-events, senders-part, takers-part}
use Rattle.hem_law.proofs.Rearranged.{rearranged-runs}
use Rattle.hem_law.proofs.NormalOrder.{in_order-ordered}
use Rattle.hem_law.proofs.Matched.{below-matched}
use Rattle.hem_law.proofs.Numbered.{numbered-below, matched-numbered}

-- the firings of a line are those of its entries
pub line-firings : (l : ℕ) (es : List Entry) → line_firings l (firings_in es) ≡ firings (map event_of (on_line l es))
line-firings l es = filter-map (λ f. f.line.0 == l) (λ x. x.event.firing) es ∙ sym (map-map (λ e. e.firing) event_of (on_line l es))

-- entries of a line lead from its start to its end
line-leads : (p : Protocol) (tree : Tree) (s : State) (es : List Entry) (new : State) (l : ℕ) (line end : Line) → EntriesRun p tree s es new → length line ≡ length tree → slice_get s l ≡ Some line → run_line p tree line (line_firings l (firings_in es)) ≡ Some end → Leads p tree line (map event_of (on_line l es)) end
line-leads p tree s es new l line end entries size at ran =
    let whole = projection p tree line (line_firings l (firings_in es)) end size ran in
    let same : line_events p tree line (line_firings l (firings_in es)) ≡ map event_of (on_line l es) = sym (events-line p tree s (firings_in es) new l line entries.runs at) ∙ ap (filter (λ e. e.firing.line.0 == l)) entries.same ∙ filter-map (λ e. e.firing.line.0 == l) event_of es in
    subst (λ x. Leads p tree line x end) same whole

-- a channel's senders and takers on its line
line-senders : (tree : Tree) (l k : ℕ) (lane : Lane) (es : List Entry) → filter (λ x. sends_to tree (record { line = l; object = k; lane = lane }) x.event) es ≡ senders event_of tree k lane (on_line l es)
line-senders tree l k lane es = filter-both (λ x. reaches tree x.event.firing x.event.outs.to k lane) (λ x. x.event.firing.line.0 == l) es

line-takers : (tree : Tree) (l k : ℕ) (lane : Lane) (es : List Entry) → filter (λ x. takes_from tree (record { line = l; object = k; lane = lane }) x.event) es ≡ takers event_of tree k lane (on_line l es)
line-takers tree l k lane es = filter-both (λ x. takes tree x.event.firing x.event.outs k lane) (λ x. x.event.firing.line.0 == l) es

line-below : (tree : Tree) (l k : ℕ) (lane : Lane) (es : List Entry) → lane ≢ Requests → IsPairwise InOrder es → AreNumbered tree no_tags es → IsBelow IsEarlier (senders event_of tree k lane (on_line l es)) (takers event_of tree k lane (on_line l es))
line-below tree l k lane es other pairs numbered =
    let c : Channel = record { line = l; object = k; lane = lane } in
    subst (λ ss. IsBelow IsEarlier ss (takers event_of tree k lane (on_line l es))) (line-senders tree l k lane es)
    (subst (λ ts. IsBelow IsEarlier (filter (λ x. sends_to tree c x.event) es) ts) (line-takers tree l k lane es) (numbered-below tree c es other pairs numbered))

not_requests : (tree : Tree) (k o : ℕ) (lane : Lane) → sender_of tree k lane ≡ Some o → lane ≢ Requests
not_requests tree k o lane is same = let none : sender_of tree k Requests ≡ Some o = ap (sender_of tree k) (sym same) ∙ is in cc

-- the line to which a line leads is there
line-end : (p : Protocol) (tree : Tree) (line : Line) (h : List Firing) (new : Option Line) (runs : LineRuns p tree (Some line) h new) → new ≡ Some runs.0
line-end p tree line h new runs = runs.2

-- the entries at an object are a chain from its local state on one line to that on the other
pub entries-chain : (p : Protocol) (tree : Tree) (s : State) (es : List Entry) (new : State) → IsFresh tree s → EntriesRun p tree s es new → (l o : ℕ) (line end : Line) → slice_get s l ≡ Some line → slice_get new l ≡ Some end → IsChain p tree (local_at line o) (map event_of (entries_at l o es)) (local_at end o)
entries-chain p tree s es new fresh entries l o line end at to =
    let runs = subst (λ x. LineRuns p tree x (line_firings l (firings_in es)) (slice_get new l)) at (run-lines p tree s (firings_in es) new entries.runs l) in
    let same : runs.0 ≡ end = (let both : Some runs.0 ≡ Some end = sym runs.2 ∙ to in cc) in
    let leads = line-leads p tree s es new l line end entries (fresh.sized l line at) at (runs.1 ∙ ap Some same) in
    subst (λ x. IsChain p tree (local_at line o) x (local_at end o)) (own-events event_of o (on_line l es)) (leads.chains o)

-- only objects of the tree have entries
pub entries-inside : (p : Protocol) (tree : Tree) (s : State) (es : List Entry) (new : State) → IsFresh tree s → EntriesRun p tree s es new → (l o t : ℕ) → stands_in (rows_of es l o) t ≡ true → o < length tree
entries-inside p tree s es new fresh entries l o t is = by_line (slice_get s l) refl (run-lines p tree s (firings_in es) new entries.runs l)
  where
    none_on : (xs : List Entry) → firings (map event_of xs) ≡ [] → stands_in (map (λ x. x.number) (at_object event_of o xs)) t ≡ true → ⊥
    none_on [] none stands = cc
    none_on (x ∷ xs) none stands = cc

    by_line : (line : Option Line) → slice_get s l ≡ line → LineRuns p tree line (line_firings l (firings_in es)) (slice_get new l) → o < length tree
    by_line None at runs = absurd (none_on (on_line l es) (sym (line-firings l es) ∙ runs.0) is)
    by_line (Some line) at runs =
        subst (λ n. o < n) (fresh.sized l line at) (first line (entries_at l o es) (local_at runs.0 o) (entries-chain p tree s es new fresh entries l o line runs.0 at runs.2) is)
      where
        first : (line : Line) (xs : List Entry) (end : Option Local) → IsChain p tree (local_at line o) (map event_of xs) end → stands_in (map (λ x. x.number) xs) t ≡ true → o < length line
        first line [] end chain stands = cc
        first line (x ∷ xs) end chain stands = let it = found (slice_get line o) chain.1.now chain.1.here in slice_get_within line o it.0 it.1
          where
            found : (cell : Option Cell) (now : Local) → option_map (λ c. c.local) cell ≡ Some now → (c : Cell) × (cell ≡ Some c)
            found None now is = cc
            found (Some c) now is = (c, refl)

-- a channel has the same senders and takers
same-senders : (p : Protocol) (tree : Tree) (s : State) (es gs : List Entry) (new : State) → KeepsObjects p tree s es gs new → (c : Channel) → filter (λ x. sends_to tree c x.event) gs ≡ filter (λ x. sends_to tree c x.event) es
same-senders p tree s es gs new keeps c =
    line-senders tree c.line c.object c.lane gs
    ∙ senders-part event_of tree c.object c.lane (λ o. entries_at c.line o gs) (on_line c.line gs) (λ o. refl)
    ∙ by_part (sender_of tree c.object c.lane)
    ∙ sym (senders-part event_of tree c.object c.lane (λ o. entries_at c.line o es) (on_line c.line es) (λ o. refl))
    ∙ sym (line-senders tree c.line c.object c.lane es)
  where
    by_part : (o : Option ℕ) → senders event_of tree c.object c.lane (part_of (λ o. entries_at c.line o gs) o) ≡ senders event_of tree c.object c.lane (part_of (λ o. entries_at c.line o es) o)
    by_part None = refl
    by_part (Some o) = keeps.senders_same c.line o c.object c.lane

same-takers : (p : Protocol) (tree : Tree) (s : State) (es gs : List Entry) (new : State) → KeepsObjects p tree s es gs new → (c : Channel) → filter (λ x. takes_from tree c x.event) gs ≡ filter (λ x. takes_from tree c x.event) es
same-takers p tree s es gs new keeps c =
    line-takers tree c.line c.object c.lane gs
    ∙ takers-part event_of tree c.object c.lane (λ o. entries_at c.line o gs) (on_line c.line gs) (λ o. refl)
    ∙ by_part (taker_of tree c.object c.lane)
    ∙ sym (takers-part event_of tree c.object c.lane (λ o. entries_at c.line o es) (on_line c.line es) (λ o. refl))
    ∙ sym (line-takers tree c.line c.object c.lane es)
  where
    by_part : (o : Option ℕ) → takers event_of tree c.object c.lane (part_of (λ o. entries_at c.line o gs) o) ≡ takers event_of tree c.object c.lane (part_of (λ o. entries_at c.line o es) o)
    by_part None = refl
    by_part (Some o) = keeps.takers_same c.line o c.object c.lane

-- so each taker has its sender before it in the other order too
pub keeps-matched : (p : Protocol) (tree : Tree) (s : State) (es gs : List Entry) (new : State) → KeepsObjects p tree s es gs new → EntriesRun p tree s es new → IsPairwise InOrder gs → (c : Channel) → c.lane ≢ Requests → IsMatched (λ x. takes_from tree c x.event) (λ x. sends_to tree c x.event) IsEarlier [] gs
keeps-matched p tree s es gs new keeps entries pairs c other =
    below-matched (λ x. takes_from tree c x.event) (λ x. sends_to tree c x.event) IsEarlier [] gs (in_order-ordered gs pairs)
    (subst (λ ss. IsBelow IsEarlier ss (filter (λ x. takes_from tree c x.event) gs)) (sym (same-senders p tree s es gs new keeps c))
    (subst (λ ts. IsBelow IsEarlier (filter (λ x. sends_to tree c x.event) es) ts) (sym (same-takers p tree s es gs new keeps c)) (numbered-below tree c es other entries.in_order entries.numbered)))

-- entries in another order that keeps each object, and each transaction's order
module _ (p : Protocol) (tree : Tree) (s : State) (es gs : List Entry) (new : State) (fresh : IsFresh tree s) (entries : EntriesRun p tree s es new) (pairs : IsPairwise InOrder gs) (keeps : KeepsObjects p tree s es gs new) where
  line-rearranged : (l : ℕ) (line end : Line) → slice_get s l ≡ Some line → slice_get new l ≡ Some end → run_line p tree line (line_firings l (firings_in es)) ≡ Some end → IsRearranged event_of IsEarlier p tree line (on_line l es) (on_line l gs) end
  line-rearranged l line end at to ran =
      let leads = line-leads p tree s es new l line end entries (fresh.sized l line at) at ran in
      record {
        runs = leads;
        chains = λ o. keeps.chains l o line end at to;
        takers_same = keeps.takers_same l;
        senders_same = keeps.senders_same l;
        sent_before = λ k lane o is.
            let other = not_requests tree k o lane is in
            ([], sym (ap length (fresh.empty l k lane line other at)), line-below tree l k lane es other entries.in_order entries.numbered);
        ordered = in_order-ordered (on_line l gs) (pairwise-filter InOrder (λ x. x.event.firing.line.0 == l) gs pairs);
      }

  -- where a line isn't there, no entry is on it
  nothing-there : (l : ℕ) → line_firings l (firings_in es) ≡ [] → line_firings l (firings_in gs) ≡ []
  nothing-there l none = line-firings l gs ∙ ap (λ x. firings (map event_of x)) (keeps.lines l (empty (on_line l es) (sym (line-firings l es) ∙ none)))
    where
      empty : (xs : List Entry) → firings (map event_of xs) ≡ [] → xs ≡ []
      empty [] is = refl
      empty (x ∷ xs) is = cc

  line-runs : (l : ℕ) → LineRuns p tree (slice_get s l) (line_firings l (firings_in gs)) (slice_get new l)
  line-runs l = by_line (slice_get s l) refl (run-lines p tree s (firings_in es) new entries.runs l)
    where
      by_line : (line : Option Line) → slice_get s l ≡ line → LineRuns p tree line (line_firings l (firings_in es)) (slice_get new l) → LineRuns p tree line (line_firings l (firings_in gs)) (slice_get new l)
      by_line None at runs = (nothing-there l runs.0, runs.1)
      by_line (Some line) at runs =
          let it = rearranged-runs event_of IsEarlier p tree line (on_line l es) (on_line l gs) runs.0 (line-rearranged l line runs.0 at runs.2 runs.1) in
          (runs.0, ap (run_line p tree line) (line-firings l gs) ∙ it.0, runs.2)

  reordered-run : run p tree s (firings_in gs) ≡ Some new
  reordered-run = lines-run p tree s (firings_in gs) new line-runs

  reordered-events : events p tree s (firings_in gs) ≡ map event_of gs
  reordered-events =
      let ran = reordered-run in
      same-events (events p tree s (firings_in gs)) (map event_of gs) (all-firings p tree s (firings_in gs) new ran ∙ sym (map-map (λ e. e.firing) event_of gs)) (λ l. by_line l ran (slice_get s l) refl (run-lines p tree s (firings_in es) new entries.runs l))
    where
      no_events : (xs : List Event) → map (λ e. e.firing) xs ≡ [] → xs ≡ []
      no_events [] is = refl
      no_events (x ∷ xs) is = cc

      by_line : (l : ℕ) → run p tree s (firings_in gs) ≡ Some new → (line : Option Line) → slice_get s l ≡ line → LineRuns p tree line (line_firings l (firings_in es)) (slice_get new l) → filter (λ e. e.firing.line.0 == l) (events p tree s (firings_in gs)) ≡ filter (λ e. e.firing.line.0 == l) (map event_of gs)
      by_line l ran None at runs =
          let none = nothing-there l runs.0 in
          no_events (filter (λ e. e.firing.line.0 == l) (events p tree s (firings_in gs))) (sym (filter-map (λ f. f.line.0 == l) (λ e. e.firing) (events p tree s (firings_in gs))) ∙ ap (line_firings l) (all-firings p tree s (firings_in gs) new ran) ∙ none)
          ∙ sym (no_events (filter (λ e. e.firing.line.0 == l) (map event_of gs)) (sym (filter-map (λ f. f.line.0 == l) (λ e. e.firing) (map event_of gs)) ∙ ap (line_firings l) (map-map (λ e. e.firing) event_of gs) ∙ none))
      by_line l ran (Some line) at runs =
          let it = rearranged-runs event_of IsEarlier p tree line (on_line l es) (on_line l gs) runs.0 (line-rearranged l line runs.0 at runs.2 runs.1) in
          events-line p tree s (firings_in gs) new l line ran at ∙ ap (line_events p tree line) (line-firings l gs) ∙ it.1 ∙ sym (filter-map (λ e. e.firing.line.0 == l) event_of gs)

  -- they run to the same state
  pub reordered-entries : EntriesRun p tree s gs new
  reordered-entries = record { runs = reordered-run; same = reordered-events; in_order = pairs; numbered = matched-numbered tree no_tags gs (λ c. []) (λ c. refl) (keeps-matched p tree s es gs new keeps entries pairs) }
