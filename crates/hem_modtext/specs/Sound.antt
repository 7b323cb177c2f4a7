-- What stays true of modules while they are read.
use Rattle.std.specs.Prelude.{◌≡◌, true, map, IsTrue}
use Rattle.std.specs.List.{list_all}
use Rattle.std.specs.Option.{option_map_or}
use Rattle.hem_syntax.specs.Lawful.{is_declarable}
use Rattle.hem_module.specs.declared.rules.ModRule.{ModRule}
use Rattle.hem_module.specs.Lawful.{Counts, IsModules, counts_of, has_atom, has_clause, has_act, has_action}
use Rattle.hem_modtext.specs.declared.key.RuleKey.{RuleKey}
use Rattle.hem_modtext.specs.Draft.{Read, modules_of}

-- by what a rule is told apart
abbrev pub key_of : ModRule → RuleKey
key_of r = record { object = r.object; name = r.name; from = r.from }

-- how many registers and queues have been read
abbrev pub counts_in : Read → Counts
counts_in e = counts_of (modules_of e)

-- what has been read are modules, the keys are those of the rules, and what the next rule names so far is there
pub record IsSound (e : Read) : Type 0 where
  pub modules : IsModules (modules_of e)
  pub rule_name : IsTrue (is_declarable e.rule_name)
  pub keys : e.keys ≡ map key_of e.rules
  pub clauses : IsTrue (list_all (has_clause (counts_in e)) e.clauses)
  pub actions : IsTrue (list_all (has_action (counts_in e)) e.actions)
  pub cond : IsTrue (list_all (has_atom (counts_in e)) e.cond)
  pub atom : IsTrue (option_map_or (has_atom (counts_in e)) e.atom true)
  pub act : IsTrue (option_map_or (has_act (counts_in e)) e.act true)
