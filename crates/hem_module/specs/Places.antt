-- Rules of modules as rules over places: registers and queues are named by their places in text order.
use Rattle.std.specs.Prelude.{ℕ, ◌==◌, map}
use Rattle.hem_module.specs.declared.rules.ModAtom.{ModAtom}
use Rattle.hem_module.specs.declared.rules.ModAtom.TheVariants as atom
use Rattle.hem_module.specs.declared.rules.ModClause.{ModClause}
use Rattle.hem_module.specs.declared.rules.ModValue.{ModValue}
use Rattle.hem_module.specs.declared.rules.ModValue.TheVariants as value
use Rattle.hem_module.specs.declared.rules.Act.{Act}
use Rattle.hem_module.specs.declared.rules.Act.TheVariants as act
use Rattle.hem_module.specs.declared.rules.Action as written
use Rattle.hem_module.specs.declared.rules.ModRule as stated
use Rattle.hem_module.specs.Module.{Test, equals, differs, has_head, Clause, Amount, number, read, head_value, Deed, deq, put, enq, Action, ModRule}
use Rattle.hem_module.specs.Step.{Names}

-- which places are the same
abbrev pub places : Names ℕ ℕ
places = record { same_reg = λ a b. a == b; same_queue = λ a b. a == b }

abbrev pub test_of : ModAtom → Test ℕ ℕ
test_of (atom.Is r n) = equals r n
test_of (atom.Not r n) = differs r n
test_of (atom.Head q id) = has_head q id.0

abbrev pub clause_of : ModClause → Clause ℕ ℕ
clause_of c = map test_of c.atoms

abbrev pub amount_of : ModValue → Amount ℕ ℕ
amount_of (value.Number n) = number n
amount_of (value.Reg r) = read r
amount_of (value.Front q) = head_value q

abbrev pub deed_of : Act → Deed ℕ ℕ
deed_of (act.Deq q) = deq q
deed_of (act.Set r v) = put r (amount_of v)
deed_of (act.Enq q id v) = enq q id.0 (amount_of v)

abbrev pub action_of : written.Action → Action ℕ ℕ
action_of a = record { tests = map test_of a.cond; deed = deed_of a.act }

abbrev pub rule_of : stated.ModRule → ModRule ℕ ℕ
rule_of r =
    record {
      object = r.object;
      name = r.name;
      child = r.from;
      spontaneous = r.spontaneous;
      clauses = map clause_of r.clauses;
      actions = map action_of r.actions;
    }
