-- What all modules keep: names that may be declared, none twice, and rules apart that name only what is there.
use Rattle.std.specs.Prelude.{ℕ, ◌==◌, ◌&&◌, Bool, true, false, not, nat_lt, List, [], ◌∷◌, ◌++◌, map, length, Option, None, Some, IsTrue}
use Rattle.std.specs.List.{list_any, list_all}
use Rattle.std.specs.Str.{bytes_eq}
use Rattle.hem_syntax.specs.Lawful.{is_declarable, are_distinct}
use Rattle.hem_module.specs.declared.rules.ModAtom.{ModAtom}
use Rattle.hem_module.specs.declared.rules.ModAtom.TheVariants as atom
use Rattle.hem_module.specs.declared.rules.ModClause.{ModClause}
use Rattle.hem_module.specs.declared.rules.ModValue.{ModValue}
use Rattle.hem_module.specs.declared.rules.ModValue.TheVariants as value
use Rattle.hem_module.specs.declared.rules.Act.{Act}
use Rattle.hem_module.specs.declared.rules.Act.TheVariants as act
use Rattle.hem_module.specs.declared.rules.Action.{Action}
use Rattle.hem_module.specs.declared.rules.ModRule.{ModRule}
use Rattle.hem_module.specs.Modules.{Modules}

-- no two of a list are the same
abbrev pub are_apart : {A : Type 0} → (A → A → Bool) → List A → Bool
are_apart same [] = true
are_apart same (x ∷ xs) = not (list_any (same x) xs) && are_apart same xs

-- how many registers and queues there are
pub record Counts : Type 0 where
  pub regs : ℕ
  pub queues : ℕ

-- a register is there, and a queue is there
abbrev pub has_reg : Counts → ℕ → Bool
has_reg n r = nat_lt r n.regs

abbrev pub has_queue : Counts → ℕ → Bool
has_queue n q = nat_lt q n.queues

-- what a test, a clause, a value, an act, an action and a rule name is there
abbrev pub has_atom : Counts → ModAtom → Bool
has_atom n (atom.Is r v) = has_reg n r
has_atom n (atom.Not r v) = has_reg n r
has_atom n (atom.Head q id) = has_queue n q

abbrev pub has_clause : Counts → ModClause → Bool
has_clause n c = list_all (has_atom n) c.atoms

abbrev pub has_value : Counts → ModValue → Bool
has_value n (value.Number v) = true
has_value n (value.Reg r) = has_reg n r
has_value n (value.Front q) = has_queue n q

abbrev pub has_act : Counts → Act → Bool
has_act n (act.Deq q) = has_queue n q
has_act n (act.Set r v) = has_reg n r && has_value n v
has_act n (act.Enq q id v) = has_queue n q && has_value n v

abbrev pub has_action : Counts → Action → Bool
has_action n a = list_all (has_atom n) a.cond && has_act n a.act

abbrev pub has_rule : Counts → ModRule → Bool
has_rule n r = list_all (has_clause n) r.clauses && list_all (has_action n) r.actions

-- whether two rules name the same child, or both none
abbrev pub same_child : Option ℕ → Option ℕ → Bool
same_child None None = true
same_child (Some a) (Some b) = a == b
same_child _ _ = false

-- two rules have the same object, name and child
abbrev pub same_rule : ModRule → ModRule → Bool
same_rule a b = a.object == b.object && bytes_eq a.name b.name && same_child a.from b.from

-- how many registers and queues modules have
abbrev pub counts_of : Modules → Counts
counts_of m = record { regs = length m.regs; queues = length m.queues }

-- the names of registers and queues, which share one name space
abbrev pub place_names : Modules → List (List ℕ)
place_names m = map (λ r. r.0) m.regs ++ m.queues

-- modules that may be written
pub record IsModules (m : Modules) : Type 0 where
  pub name : IsTrue (is_declarable m.name)
  pub names : IsTrue (list_all is_declarable (place_names m))
  pub names_apart : IsTrue (are_distinct (place_names m))
  pub rule_names : IsTrue (list_all (λ r. is_declarable r.name) m.rules)
  pub rules_apart : IsTrue (are_apart same_rule m.rules)
  pub there : IsTrue (list_all (has_rule (counts_of m)) m.rules)
