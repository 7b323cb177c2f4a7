-- The normal order keeps each object, where what happens at it is windows.
use Rattle.std.proofs.Common.{◌≡◌, ◌≢◌, refl, ap, sym, ◌∙◌, subst, ℕ, ◌<◌, true, List, [], ◌∷◌, map, arith, Option, Some, None}
use Rattle.std.specs.Prelude.{◌==◌, filter, flat_map, slice_get, IsPermutation}
use Rattle.std.proofs.lemmas.Bool.{eqb-true}
use Rattle.hem_base.specs.declared.ids.Firing.{Firing}
use Rattle.hem_syntax.specs.Protocol.{Protocol}
use Rattle.hem_object.specs.Local.{Local}
use Rattle.hem_tree.specs.Tree.{Tree}
use Rattle.hem_system.specs.State.{State, Line, local_at, run}
use Rattle.hem_trace.specs.Blocks.{Each}
use Rattle.hem_trace.specs.Tags.{no_tags}
use Rattle.hem_trace.specs.Order.{Entry, transactions_of, entries_of, normal}
use Rattle.hem_law.specs.Lists.{IsPairwise}
use Rattle.hem_law.specs.Chains.{IsChain}
use Rattle.hem_law.specs.Lines.{line_firings, LineRuns}
use Rattle.hem_law.specs.Parts.{at_object, takers, senders}
use Rattle.hem_law.specs.Normal.{AreRising, OnlyUp, AreNumbered}
use Rattle.hem_law.specs.Printed.{event_of, firings_in, on_line, entries_at, IsFresh, AreTransactions, EntriesRun, KeepsObjects}
use Rattle.hem_law.specs.Windows.{Window, as_made, as_moved, ArePlaced, AreWindows, HasWindows}
use Rattle.hem_law.proofs.ListFacts.{each-map, each-passes, each-both, pairwise-filter}
use Rattle.hem_law.proofs.AllLines.{run-lines}
use Rattle.hem_law.proofs.NormalSame.{normal-same}
use Rattle.hem_law.proofs.NormalRun.{entries-run, normal-lines, normal-run}
use Rattle.hem_law.proofs.Transactions.{are-transactions}
use Rattle.hem_law.proofs.WindowChains.{windows-chain}
use Rattle.hem_law.proofs.WindowLanes.{windows-takers, windows-senders}
use Rattle.hem_law.proofs.WindowOrder.{normal-windows}
use Rattle.hem_law.proofs.Reordered.{line-firings}

-- the numbers of the transactions are different
starts-apart : (es : List Entry) → AreRising es → Each (λ x. (x.place == x.number) ≡ true) es → IsPairwise (λ t u. t ≢ u) (map (λ x. x.number) es)
starts-apart [] rising starts = tt
starts-apart (x ∷ es) rising starts = (
  mapped es (each-map (λ y. (x.place < y.place) × ((y.place == y.number) ≡ true)) (λ y. x.number ≢ y.number) es (λ y it same. let a = eqb-true x.place x.number starts.0 in let b = eqb-true y.place y.number it.1 in let less = it.0 in absurd (omega arith)) (each-both (λ y. x.place < y.place) (λ y. (y.place == y.number) ≡ true) es rising.0 starts.1)),
  starts-apart es rising.1 starts.1,
)
  where
    mapped : (ys : List Entry) → Each (λ y. x.number ≢ y.number) ys → Each (λ u. x.number ≢ u) (map (λ y. y.number) ys)
    mapped [] all = tt
    mapped (y ∷ ys) all = (all.0, mapped ys all.1)

-- the normal order of transactions has their entries
pub normal-permutation : (tree : Tree) (es : List Entry) → AreTransactions tree es → IsPermutation es (normal es)
normal-permutation tree es are =
    normal-same (transactions_of es) es are.begun
    (starts-apart (filter (λ x. x.place == x.number) es) (pairwise-filter (λ s t. s.place < t.place) (λ x. x.place == x.number) es are.rising) (each-passes (λ x. x.place == x.number) es))
    are.rising

-- where no line is, no entry is
no-entries : (p : Protocol) (tree : Tree) (s : State) (es : List Entry) (new : State) (l : ℕ) → EntriesRun p tree s es new → slice_get s l ≡ None → on_line l es ≡ []
no-entries p tree s es new l entries none =
    let runs = subst (λ x. LineRuns p tree x (line_firings l (firings_in es)) (slice_get new l)) none (run-lines p tree s (firings_in es) new entries.runs l) in
    empty (on_line l es) (sym (line-firings l es) ∙ runs.0)
  where
    empty : (xs : List Entry) → map (λ e. e.firing) (map event_of xs) ≡ [] → xs ≡ []
    empty [] is = refl
    empty (x ∷ xs) is = cc

-- the normal order keeps each object
pub normal-keeps : (p : Protocol) (tree : Tree) (s : State) (es : List Entry) (new : State) → AreTransactions tree es → EntriesRun p tree s es new → HasWindows p tree s es new → KeepsObjects p tree s es (normal es) new
normal-keeps p tree s es new are entries has =
    record {
      chains = λ l o line end at to. let it = has.windows l o line end at to in subst (λ xs. IsChain p tree (local_at line o) (map event_of xs) (local_at end o)) (sym (moved l o it.0 it.1 it.2)) (windows-chain p tree it.0 (local_at line o) (local_at end o) it.3);
      takers_same = λ l o k lane. by_line l o (takers event_of tree k lane) (λ it before after windows. windows-takers p tree k lane it before after windows) (slice_get s l) refl (run-lines p tree s (firings_in es) new entries.runs l);
      senders_same = λ l o k lane. by_line l o (senders event_of tree k lane) (λ it before after windows. windows-senders p tree k lane it before after windows) (slice_get s l) refl (run-lines p tree s (firings_in es) new entries.runs l);
      lines = normal-lines es;
    }
  where
    moved : (l o : ℕ) (ws : List Window) → entries_at l o es ≡ flat_map as_made ws → ArePlaced es ws → entries_at l o (normal es) ≡ flat_map as_moved ws
    moved l o ws made placed = normal-windows es l o ws are.rising (normal-permutation tree es are) made placed

    by_line : (l o : ℕ) (pass : List Entry → List Entry) → ((ws : List Window) (before after : Option Local) → AreWindows p tree before ws after → pass (flat_map as_moved ws) ≡ pass (flat_map as_made ws)) → (line : Option Line) → slice_get s l ≡ line → LineRuns p tree line (line_firings l (firings_in es)) (slice_get new l) → pass (entries_at l o (normal es)) ≡ pass (entries_at l o es)
    by_line l o pass same None at runs =
        let none = no-entries p tree s es new l entries at in
        ap (λ xs. pass (at_object event_of o xs)) (normal-lines es l none ∙ sym none)
    by_line l o pass same (Some line) at runs =
        let it = has.windows l o line runs.0 at runs.2 in
        ap pass (moved l o it.0 it.1 it.2) ∙ same it.0 (local_at line o) (local_at runs.0 o) it.3 ∙ ap pass (sym it.1)

-- so the normal order of a history runs to its state
pub normal-history : (p : Protocol) (tree : Tree) (s : State) (h : List Firing) (new : State) → IsFresh tree s → run p tree s h ≡ Some new → AreNumbered tree no_tags (entries_of p tree s h) → Each (OnlyUp (entries_of p tree s h)) (entries_of p tree s h) → HasWindows p tree s (entries_of p tree s h) new → EntriesRun p tree s (normal (entries_of p tree s h)) new
normal-history p tree s h new fresh ran numbered up has =
    normal-run p tree s h new fresh ran numbered up
    (normal-keeps p tree s (entries_of p tree s h) new (are-transactions p tree s h new fresh ran) (entries-run p tree s h new fresh ran numbered) has)
