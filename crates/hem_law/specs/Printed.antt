-- What the printed order of a history's transactions asks of the history and of its normal order.
use Rattle.std.specs.Prelude.{ℕ, ◌==◌, ◌≡◌, ◌≢◌, ◌≤◌, ◌&&◌, true, false, List, [], length, map, filter, Some, slice_get, is_none}
use Rattle.hem_base.specs.declared.ids.Firing.{Firing}
use Rattle.hem_base.specs.declared.ids.LineId.{LineId}
use Rattle.hem_syntax.specs.Protocol.{Protocol}
use Rattle.hem_tree.specs.Tree.{Tree}
use Rattle.hem_system.specs.declared.lane.Lane.{Lane}
use Rattle.hem_system.specs.declared.lane.Lane.TheVariants.{Requests}
use Rattle.hem_system.specs.State.{State, Line, local_at, list_at, run}
use Rattle.hem_system.specs.Events.{Event}
use Rattle.hem_trace.specs.History.{events, channels_taken}
use Rattle.hem_trace.specs.Tags.{no_tags}
use Rattle.hem_trace.specs.Blocks.{Each}
use Rattle.hem_trace.specs.Order.{Entry, transactions_of, normal}
use Rattle.hem_law.specs.Lists.{IsPairwise}
use Rattle.hem_law.specs.Chains.{IsChain}
use Rattle.hem_law.specs.Parts.{at_object, takers, senders}
use Rattle.hem_law.specs.Normal.{InOrder, AreRising, AreNumbered}
use Rattle.hem_law.specs.Orders.{stands_in, RowsAgree}

-- the event of an entry
abbrev pub event_of : Entry → Event
event_of x = x.event

-- the firings of entries
abbrev pub firings_in : List Entry → List Firing
firings_in es = map (λ x. x.event.firing) es

-- the entries of a line
abbrev pub on_line : ℕ → List Entry → List Entry
on_line l es = filter (λ x. x.event.firing.line.0 == l) es

-- the entries at an object of a line
abbrev pub entries_at : ℕ → ℕ → List Entry → List Entry
entries_at l o es = at_object event_of o (on_line l es)

-- for each object of a line the numbers of the transactions that fire there, in the order of their firings
abbrev pub rows_of : List Entry → ℕ → ℕ → List ℕ
rows_of es l o = map (λ x. x.number) (entries_at l o es)

-- an event takes messages, and no processor's request
pub record TakesMessages (tree : Tree) (e : Event) : Type 0 where
  pub some : channels_taken tree e ≢ []
  pub no_request : (e.outs.taken_request && is_none e.firing.me) ≡ false

-- the entries of a history: each transaction is on one line, and begins at the place that is its number with an event that takes no message, and its later events take messages
pub record AreTransactions (tree : Tree) (es : List Entry) : Type 0 where
  pub rising : AreRising es
  pub begun : Each (λ x. stands_in (transactions_of es) x.number ≡ true) es
  pub least : Each (λ x. x.number ≤ x.place) es
  pub starts : Each (λ x. x.place ≡ x.number → channels_taken tree x.event ≡ []) es
  pub goes_on : Each (λ x. x.place ≢ x.number → TakesMessages tree x.event) es
  pub line_of : ℕ → LineId
  pub one_line : Each (λ x. x.event.firing.line ≡ line_of x.number) es

-- a state of which each line has each object, and no channel has a message
pub record IsFresh (tree : Tree) (s : State) : Type 0 where
  pub sized : (l : ℕ) (line : Line) → slice_get s l ≡ Some line → length line ≡ length tree
  pub empty : (l k : ℕ) (lane : Lane) (line : Line) → lane ≢ Requests → slice_get s l ≡ Some line → list_at line k lane ≡ []

-- entries run from one state to the other: their events are those of the run, each transaction's keep their order, and each has the number of all messages that it takes
pub record EntriesRun (p : Protocol) (tree : Tree) (s : State) (es : List Entry) (new : State) : Type 0 where
  pub runs : run p tree s (firings_in es) ≡ Some new
  pub same : events p tree s (firings_in es) ≡ map event_of es
  pub in_order : IsPairwise InOrder es
  pub numbered : AreNumbered tree no_tags es

-- entries in another order: at each object they lead to the same local state, and take from each list and send to it in the same order; and no line has entries that had none
pub record KeepsObjects (p : Protocol) (tree : Tree) (s : State) (es gs : List Entry) (new : State) : Type 0 where
  pub chains : (l o : ℕ) (line end : Line) → slice_get s l ≡ Some line → slice_get new l ≡ Some end → IsChain p tree (local_at line o) (map event_of (entries_at l o gs)) (local_at end o)
  pub takers_same : (l o k : ℕ) (lane : Lane) → takers event_of tree k lane (entries_at l o gs) ≡ takers event_of tree k lane (entries_at l o es)
  pub senders_same : (l o k : ℕ) (lane : Lane) → senders event_of tree k lane (entries_at l o gs) ≡ senders event_of tree k lane (entries_at l o es)
  pub lines : (l : ℕ) → on_line l es ≡ [] → on_line l gs ≡ []

-- the normal order of a history's entries runs, and its transactions stand together at each object, in one order at parent and child
pub record NormalRuns (p : Protocol) (tree : Tree) (s : State) (es : List Entry) (new : State) : Type 0 where
  pub entries : EntriesRun p tree s (normal es) new
  pub rows : (l : ℕ) → RowsAgree tree (rows_of (normal es) l)
