-- A channel, and the words that the contracts of its two ends use.
use Rattle.std.specs.Prelude.{◌≡◌, ℕ, ◌+◌, Bool, true, false, List, ◌++◌, length}
use denote.RawPtr.{Ptr}
use Rattle.hem_base.specs.declared.ids.Carried.{Carried}

-- which channel it is: how many messages it has room for, and where it lies
pub record Channel : Type 0 where
  pub slots : ℕ
  pub words : Ptr
  pub place : Ptr
  pub names : ℕ × ℕ

-- how many slots an end may fill: those that it knows to be free, and the reserved one
abbrev pub open_slots : ℕ → Bool → ℕ
open_slots free true = free + 1
open_slots free false = free

-- after a settle: what was sent is what was received and what the receiving end knows, and every slot that holds nothing is known to be free
pub record IsSettled (slots : ℕ) (sent : List Carried) (free : ℕ) (reserved : Bool) (received known : List Carried) : Type 0 where
  pub all : sent ≡ received ++ known
  pub exact : open_slots free reserved + length known ≡ slots
