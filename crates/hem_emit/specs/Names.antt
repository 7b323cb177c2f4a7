-- The registers and queues of modules that a protocol is translated to. Objects go by their number in the tree.
use Rattle.std.specs.Prelude.{ℕ, ◌==◌, Bool, true, false, ◌&&◌}
use Rattle.hem_syntax.specs.declared.rule.Side.{Side}
use Rattle.hem_template.specs.Template.{same_side}
use Rattle.hem_system.specs.declared.lane.Lane.{Lane}
use Rattle.hem_system.specs.declared.lane.Lane.TheVariants.{UpRequests, UpResponses, Down, Requests, Answers}
use Rattle.hem_module.specs.Step.{Names}

-- what is kept of a lock: whose it is, and the id and the value of its request
pub data Part : Type 0 where
  origin : Part
  asked : Part
  kept : Part

-- a field of an object by its place, an object's value, a part of a lock of an object, the directory entry of a child, and whether a child is awaited
pub data Reg : Type 0 where
  field : ℕ → ℕ → Reg
  val : ℕ → Reg
  lock : Side → Part → ℕ → Reg
  entry : ℕ → Reg
  awaits : ℕ → Reg

-- a queue is a list of an object
pub record Queue : Type 0 where
  pub object : ℕ
  pub lane : Lane

-- whether two parts are the same
abbrev pub same_part : Part → Part → Bool
same_part origin origin = true
same_part asked asked = true
same_part kept kept = true
same_part _ _ = false

-- whether two lists of an object are the same
abbrev pub same_lane : Lane → Lane → Bool
same_lane UpRequests UpRequests = true
same_lane UpResponses UpResponses = true
same_lane Down Down = true
same_lane Requests Requests = true
same_lane Answers Answers = true
same_lane _ _ = false

-- whether two registers are the same
abbrev pub same_reg : Reg → Reg → Bool
same_reg (field i o) (field j u) = i == j && o == u
same_reg (val o) (val u) = o == u
same_reg (lock a p o) (lock b q u) = same_side a b && same_part p q && o == u
same_reg (entry c) (entry d) = c == d
same_reg (awaits c) (awaits d) = c == d
same_reg _ _ = false

-- whether two queues are the same
abbrev pub same_queue : Queue → Queue → Bool
same_queue a b = a.object == b.object && same_lane a.lane b.lane

-- which names are the same
abbrev pub names : Names Reg Queue
names = record { same_reg = same_reg; same_queue = same_queue }
