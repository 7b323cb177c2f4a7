-- A protocol on a tree as modules that can be written: registers and queues have names, and rules name them by their places.
use Rattle.std.specs.Prelude.{ℕ, List, [], ◌++◌, map, codes, decimal}
use Rattle.hem_syntax.specs.declared.rule.Side.{Side}
use Rattle.hem_syntax.specs.declared.rule.Side.TheVariants.{Up, Down}
use Rattle.hem_syntax.specs.Protocol.{Protocol}
use Rattle.hem_tree.specs.Tree.{Tree}
use Rattle.hem_system.specs.declared.lane.Lane.{Lane}
use Rattle.hem_system.specs.declared.lane.Lane.TheVariants as lane
use Rattle.hem_system.specs.State.{Line, list_at, first_line}
use Rattle.hem_module.specs.declared.rules.ModAtom.{ModAtom}
use Rattle.hem_module.specs.declared.rules.ModAtom.TheVariants as atom
use Rattle.hem_module.specs.declared.rules.ModClause.{ModClause}
use Rattle.hem_module.specs.declared.rules.ModValue.{ModValue}
use Rattle.hem_module.specs.declared.rules.ModValue.TheVariants as value
use Rattle.hem_module.specs.declared.rules.Act.{Act}
use Rattle.hem_module.specs.declared.rules.Act.TheVariants as act
use Rattle.hem_module.specs.declared.rules.Action as written
use Rattle.hem_module.specs.declared.rules.ModRule as written_rule
use Rattle.hem_module.specs.Module as names
use Rattle.hem_module.specs.Module.{equals, differs, has_head, number, read, head_value, deq, put, enq}
use Rattle.hem_module.specs.Modules.{Modules}
use Rattle.hem_module.specs.States.{State}
use Rattle.hem_emit.specs.Names.{Part, origin, asked, kept, Reg, field, val, lock, entry, awaits, Queue}
use Rattle.hem_emit.specs.Place.{Test, Clause, Amount, Deed, Action}
use Rattle.hem_emit.specs.Layout.{registers, queues}
use Rattle.hem_emit.specs.Emit.{emitted_rules}
use Rattle.hem_emit.specs.Image.{number_of}
use Rattle.hem_emit.specs.Numbering.{reg_number, queue_number}

-- the letters of a lock's registers: u for the uplock, d for the downlock, then o, i and v for origin, id and value
abbrev pub lock_letters : Side → Part → List ℕ
lock_letters Up origin = codes "uo_"
lock_letters Up asked = codes "ui_"
lock_letters Up kept = codes "uv_"
lock_letters Down origin = codes "do_"
lock_letters Down asked = codes "di_"
lock_letters Down kept = codes "dv_"

-- the letters of a list of an object
abbrev pub lane_letters : Lane → List ℕ
lane_letters lane.UpRequests = codes "qr_"
lane_letters lane.UpResponses = codes "qs_"
lane_letters lane.Down = codes "qd_"
lane_letters lane.Requests = codes "xr_"
lane_letters lane.Answers = codes "xa_"

-- the name of a register
abbrev pub name_of_reg : Reg → List ℕ
name_of_reg (field i o) = codes "f" ++ decimal i ++ codes "_" ++ decimal o
name_of_reg (val o) = codes "v_" ++ decimal o
name_of_reg (lock side part o) = lock_letters side part ++ decimal o
name_of_reg (entry c) = codes "d_" ++ decimal c
name_of_reg (awaits c) = codes "w_" ++ decimal c

-- the name of a queue
abbrev pub name_of_queue : Queue → List ℕ
name_of_queue q = lane_letters q.lane ++ decimal q.object

-- what a register holds at the start: what it holds in the image of a line at the start
abbrev pub start_of : Protocol → Tree → Reg → ℕ
start_of p tree r = number_of tree (first_line p tree (λ o. [])) r

-- a register as it is written: its name and what it holds at the start
abbrev pub written_register : Protocol → Tree → Reg → List ℕ × ℕ
written_register p tree r = (name_of_reg r, start_of p tree r)

-- a test, a clause, a number, a deed, an action and a rule as they are written
abbrev pub written_test : Protocol → Tree → Test → ModAtom
written_test p tree (equals r n) = atom.Is (reg_number p tree r) n
written_test p tree (differs r n) = atom.Not (reg_number p tree r) n
written_test p tree (has_head q id) = atom.Head (queue_number tree q) (record { 0 = id })

abbrev pub written_clause : Protocol → Tree → Clause → ModClause
written_clause p tree clause = record { atoms = map (written_test p tree) clause }

abbrev pub written_amount : Protocol → Tree → Amount → ModValue
written_amount p tree (number n) = value.Number n
written_amount p tree (read r) = value.Reg (reg_number p tree r)
written_amount p tree (head_value q) = value.Front (queue_number tree q)

abbrev pub written_deed : Protocol → Tree → Deed → Act
written_deed p tree (deq q) = act.Deq (queue_number tree q)
written_deed p tree (put r a) = act.Set (reg_number p tree r) (written_amount p tree a)
written_deed p tree (enq q id a) = act.Enq (queue_number tree q) (record { 0 = id }) (written_amount p tree a)

abbrev pub written_action : Protocol → Tree → Action → written.Action
written_action p tree a = record { cond = map (written_test p tree) a.tests; act = written_deed p tree a.deed }

abbrev pub written_as : Protocol → Tree → names.ModRule Reg Queue → written_rule.ModRule
written_as p tree rule =
    record {
      object = rule.object;
      name = rule.name;
      from = rule.child;
      spontaneous = rule.spontaneous;
      clauses = map (written_clause p tree) rule.clauses;
      actions = map (written_action p tree) rule.actions;
    }

-- the modules of a protocol on a tree
abbrev pub modules_of : Protocol → Tree → Modules
modules_of p tree =
    record {
      name = p.name;
      regs = map (written_register p tree) (registers p tree);
      queues = map name_of_queue (queues tree);
      rules = map (written_as p tree) (emitted_rules p tree);
    }

-- the image of a line as a state of modules
abbrev pub state_of : Protocol → Tree → Line → State
state_of p tree line =
    record {
      regs = map (number_of tree line) (registers p tree);
      queues = map (λ q. list_at line q.object q.lane) (queues tree);
    }
