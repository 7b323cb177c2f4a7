-- Registers and queues as the code has them.
use Rattle.hem_syntax.specs.declared.rule.Side.TheVariants.{Up, Down}
use Rattle.hem_system.specs.declared.lane.Lane.TheVariants as lane
use Rattle.hem_translate.specs.declared.tables.Part.{Part as Kept}
use Rattle.hem_translate.specs.declared.tables.Part.TheVariants as part
use Rattle.hem_translate.specs.declared.tables.Reg.{Reg as Register}
use Rattle.hem_translate.specs.declared.tables.Reg.TheVariants as register
use Rattle.hem_translate.specs.declared.tables.Queue.{Queue as List}
use Rattle.hem_translate.specs.declared.tables.Queue.TheVariants as list
use Rattle.hem_emit.specs.Names.{Part, origin, asked, kept, Reg, field, val, lock, entry, awaits, Queue}

-- a part of a lock, a register and a queue by the names of the definitions
abbrev pub part_of : Kept → Part
part_of part.Origin = origin
part_of part.Asked = asked
part_of part.Kept = kept

abbrev pub reg_of : Register → Reg
reg_of (register.Field i o) = field i o
reg_of (register.Val o) = val o
reg_of (register.Up t o) = lock Up (part_of t) o
reg_of (register.Down t o) = lock Down (part_of t) o
reg_of (register.Entry c) = entry c
reg_of (register.Awaits c) = awaits c

abbrev pub queue_of : List → Queue
queue_of (list.UpRequests o) = record { object = o; lane = lane.UpRequests }
queue_of (list.UpResponses o) = record { object = o; lane = lane.UpResponses }
queue_of (list.Down o) = record { object = o; lane = lane.Down }
queue_of (list.Requests o) = record { object = o; lane = lane.Requests }
queue_of (list.Answers o) = record { object = o; lane = lane.Answers }
