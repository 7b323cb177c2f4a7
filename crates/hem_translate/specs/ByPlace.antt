-- Rules as they are written, by the places of registers and queues.
use Rattle.std.specs.Prelude.{ℕ, List, map, position, unwrap_or}
use Rattle.hem_syntax.specs.Protocol.{Protocol}
use Rattle.hem_tree.specs.Tree.{Tree}
use Rattle.hem_module.specs.declared.rules.ModAtom.{ModAtom}
use Rattle.hem_module.specs.declared.rules.ModAtom.TheVariants as atom
use Rattle.hem_module.specs.declared.rules.ModClause.{ModClause}
use Rattle.hem_module.specs.declared.rules.ModValue.{ModValue}
use Rattle.hem_module.specs.declared.rules.ModValue.TheVariants as value
use Rattle.hem_module.specs.declared.rules.Act.{Act}
use Rattle.hem_module.specs.declared.rules.Act.TheVariants as act
use Rattle.hem_module.specs.declared.rules.Action as written
use Rattle.hem_module.specs.declared.rules.ModRule as written_rule
use Rattle.hem_module.specs.Module as names
use Rattle.hem_module.specs.Module.{equals, differs, has_head, number, read, head_value, deq, put, enq}
use Rattle.hem_emit.specs.Names.{Reg, Queue, same_reg, same_queue}
use Rattle.hem_emit.specs.Place.{Test, Clause, Amount, Deed, Action}
use Rattle.hem_emit.specs.Layout.{registers, queues}

-- registers and queues in text order
pub record Places : Type 0 where
  pub regs : List Reg
  pub queues : List Queue

-- the place of a register and of a queue
abbrev pub reg_at : Places → Reg → ℕ
reg_at l r = unwrap_or (position (same_reg r) l.regs) 0

abbrev pub queue_at : Places → Queue → ℕ
queue_at l q = unwrap_or (position (same_queue q) l.queues) 0

-- a test, a clause, a number, a deed, an action and a rule as they are written, by places
abbrev pub test_at : Places → Test → ModAtom
test_at l (equals r n) = atom.Is (reg_at l r) n
test_at l (differs r n) = atom.Not (reg_at l r) n
test_at l (has_head q id) = atom.Head (queue_at l q) (record { 0 = id })

abbrev pub clause_at : Places → Clause → ModClause
clause_at l clause = record { atoms = map (test_at l) clause }

abbrev pub amount_at : Places → Amount → ModValue
amount_at l (number n) = value.Number n
amount_at l (read r) = value.Reg (reg_at l r)
amount_at l (head_value q) = value.Front (queue_at l q)

abbrev pub deed_at : Places → Deed → Act
deed_at l (deq q) = act.Deq (queue_at l q)
deed_at l (put r a) = act.Set (reg_at l r) (amount_at l a)
deed_at l (enq q id a) = act.Enq (queue_at l q) (record { 0 = id }) (amount_at l a)

abbrev pub action_at : Places → Action → written.Action
action_at l a = record { cond = map (test_at l) a.tests; act = deed_at l a.deed }

abbrev pub rule_by_places : Places → names.ModRule Reg Queue → written_rule.ModRule
rule_by_places l rule =
    record {
      object = rule.object;
      name = rule.name;
      from = rule.child;
      spontaneous = rule.spontaneous;
      clauses = map (clause_at l) rule.clauses;
      actions = map (action_at l) rule.actions;
    }

-- the places of a protocol on a tree
abbrev pub places_of : Protocol → Tree → Places
places_of p tree = record { regs = registers p tree; queues = queues tree }
