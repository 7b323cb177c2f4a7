-- Modules as they are written: names, registers with their first numbers, queues, and rules in text order.
use Rattle.std.specs.Prelude.{ℕ, List}
use Rattle.hem_module.specs.declared.rules.ModRule.{ModRule}

-- modules: their name, the registers' names and first numbers, the queues' names, and the rules
pub record Modules : Type 0 where
  pub name : List ℕ
  pub regs : List (List ℕ × ℕ)
  pub queues : List (List ℕ)
  pub rules : List ModRule
