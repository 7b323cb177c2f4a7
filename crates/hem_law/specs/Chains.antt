-- What one object does in a run, apart from all others.
use Rattle.std.specs.Prelude.{ℕ, ◌==◌, ◌≡◌, List, [], ◌∷◌, map, filter, Option, Some}
use Rattle.hem_base.specs.declared.ids.Firing.{Firing}
use Rattle.hem_syntax.specs.Protocol.{Protocol}
use Rattle.hem_object.specs.Local.{Local}
use Rattle.hem_tree.specs.Tree.{Tree, children_of}
use Rattle.hem_fire.specs.OneFire.{Heads}
use Rattle.hem_system.specs.declared.lane.Lane.TheVariants.{UpResponses}
use Rattle.hem_system.specs.State.{own_effect}
use Rattle.hem_system.specs.Events.{Event}
use Rattle.hem_trace.specs.History.{head_seen}

-- the firings of events
abbrev pub firings : List Event → List Firing
firings es = map (λ e. e.firing) es

-- the events at an object
abbrev pub own_events : ℕ → List Event → List Event
own_events o es = filter (λ e. e.firing.object.0 == o) es

-- the heads of an object's lists, as far as an event took them
abbrev pub heads_seen : Tree → Event → Heads
heads_seen tree e =
    record {
      request = e.took.request;
      parent = e.took.parent;
      kids = map (λ k. head_seen tree e k UpResponses) (children_of tree e.firing.object.0);
    }

-- the event is possible at its object with what it took, and leaves this local state
pub record ChainStep (p : Protocol) (tree : Tree) (start : Option Local) (e : Event) (next : Local) : Type 0 where
  pub now : Local
  pub here : start ≡ Some now
  pub fires : own_effect p tree e.firing now (heads_seen tree e) ≡ Some (record { after = next; took = e.took; outs = e.outs })

-- the events of one object are possible one after another, and lead from the first local state to the last
abbrev pub IsChain : Protocol → Tree → Option Local → List Event → Option Local → Type 0
IsChain p tree start [] end = start ≡ end
IsChain p tree start (e ∷ es) end = (next : Local) × ChainStep p tree start e next × IsChain p tree (Some next) es end
