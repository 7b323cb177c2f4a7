-- The numbers of events by who sent what they take.
use Rattle.std.specs.Prelude.{ℕ, ◌<◌, ◌≡◌, ◌≢◌, List, [], length, Some, slice_get}
use Rattle.hem_tree.specs.Tree.{Tree}
use Rattle.hem_system.specs.declared.lane.Lane.{Lane}
use Rattle.hem_system.specs.declared.lane.Lane.TheVariants.{Requests}
use Rattle.hem_system.specs.State.{State}
use Rattle.hem_system.specs.Laws.{list_in}
use Rattle.hem_system.specs.Events.{Event}
use Rattle.hem_trace.specs.History.{Channel, channels_taken, sender}

-- no list of the state has a message but the requests
abbrev pub ChannelsAreEmpty : State → Type 0
ChannelsAreEmpty s = (l k : ℕ) (lane : Lane) → lane ≢ Requests → list_in s l k lane ≡ []

-- the numbers of events by their senders: an event that takes from no channel has its own place, any other the number of the earlier event that sent what it takes, and of several messages the least awaited child's
pub record AreNumbersBySenders (tree : Tree) (es : List Event) (numbers : List ℕ) : Type 0 where
  pub one_each : length numbers ≡ length es
  pub own : (i : ℕ) (e : Event) → slice_get es i ≡ Some e → channels_taken tree e ≡ [] → slice_get numbers i ≡ Some i
  pub sent : (i : ℕ) (e : Event) (c : Channel) → slice_get es i ≡ Some e → slice_get (channels_taken tree e) 0 ≡ Some c → (j : ℕ) × (sender tree es i c ≡ Some j) × (j < i) × (slice_get numbers i ≡ slice_get numbers j)
