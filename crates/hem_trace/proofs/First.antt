-- The first event of a history, and the number of an event that takes nothing.
use Rattle.std.proofs.Common.{◌≡◌, refl, ℕ, List, [], ◌∷◌, Option, Some}
use Rattle.hem_base.specs.declared.ids.Firing.{Firing}
use Rattle.hem_syntax.specs.Protocol.{Protocol}
use Rattle.hem_tree.specs.Tree.{Tree}
use Rattle.hem_system.specs.State.{State, Step, step_of}
use Rattle.hem_system.specs.Events.{Event, event_of}
use Rattle.hem_trace.specs.History.{events, channels_taken}
use Rattle.hem_trace.specs.Tags.{Tags, number_at}

-- the first event of a history whose first firing is possible
pub events-step : (p : Protocol) (tree : Tree) (s : State) (f : Firing) (h : List Firing) (step : Step) → step_of p tree s f ≡ Some step → events p tree s (f ∷ h) ≡ event_of f step.effect ∷ events p tree step.next h
events-step p tree s f h step is = rw (is, events) refl

-- an event that takes nothing has its place as its number
pub number-own : (tree : Tree) (tags : Tags) (k : ℕ) (e : Event) → channels_taken tree e ≡ [] → number_at tree tags k e ≡ k
number-own tree tags k e none = rw (none, number_at) refl
