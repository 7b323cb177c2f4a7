-- A list of messages that is taken from its front.
use Rattle.std.specs.Prelude.{List, Bool}
use Rattle.hem_base.specs.declared.ids.Message.{Message}

-- the messages that are left, and whether there is room for one more without taking memory
pub record Queue : Type 0 where
  pub messages : List Message
  pub room : Bool
