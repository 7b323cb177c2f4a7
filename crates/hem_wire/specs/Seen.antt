-- What a contract sees of an end, whatever the end is.
use Rattle.std.specs.Prelude.{ℕ, Bool, List}
use Rattle.hem_base.specs.declared.ids.Carried.{Carried}
use Rattle.hem_wire.specs.Channel.{Channel}

-- the sending end: its channel, all that was put, how many free slots it knows of beside a reserved one, and whether one is reserved
pub record Giving : Type 0 where
  pub channel : Channel
  pub sent : List Carried
  pub free : ℕ
  pub reserved : Bool

-- the receiving end: its channel, all that was taken, and the messages that it knows to wait
pub record Getting : Type 0 where
  pub channel : Channel
  pub received : List Carried
  pub known : List Carried
