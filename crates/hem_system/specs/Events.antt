-- Firings that were made, with what they took and sent.
use Rattle.std.specs.Prelude.{Option, option_map}
use Rattle.hem_base.specs.declared.ids.Firing.{Firing}
use Rattle.hem_syntax.specs.Protocol.{Protocol}
use Rattle.hem_fire.specs.declared.outs.Outs.{Outs}
use Rattle.hem_fire.specs.OneFire.{Heads}
use Rattle.hem_tree.specs.Tree.{Tree}
use Rattle.hem_system.specs.State.{State, Effect, step_of}

-- a firing that was made, with the heads that it took, and what it took and sent
pub record Event : Type 0 where
  pub firing : Firing
  pub took : Heads
  pub outs : Outs

-- the event of a firing with an effect
abbrev pub event_of : Firing → Effect → Event
event_of f effect = record { firing = f; took = effect.took; outs = effect.outs }

-- the event of a firing in a state, where it is possible
abbrev pub event_in : Protocol → Tree → State → Firing → Option Event
event_in p tree s f = option_map (λ step. event_of f step.effect) (step_of p tree s f)
