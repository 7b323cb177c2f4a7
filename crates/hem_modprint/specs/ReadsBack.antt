-- What it means that the canonical text of modules reads as these modules.
use Rattle.std.specs.Prelude.{ℕ, ◌&&◌, Bool, true, Option, IsTrue, nat_le, ◌++◌, fold}
use Rattle.std.specs.List.{list_all}
use Rattle.std.specs.Option.{option_map_or}
use Rattle.hem_text.specs.declared.text.Place.{Place}
use Rattle.hem_text.specs.Tokens.{tokens_from, advance}
use Rattle.hem_syntax.specs.Protocol.{Text}
use Rattle.hem_module.specs.declared.rules.ModAtom.{ModAtom}
use Rattle.hem_module.specs.declared.rules.ModAtom.TheVariants as atom
use Rattle.hem_module.specs.declared.rules.ModValue.{ModValue}
use Rattle.hem_module.specs.declared.rules.ModValue.TheVariants as value
use Rattle.hem_module.specs.declared.rules.Act.{Act}
use Rattle.hem_module.specs.declared.rules.Act.TheVariants as act
use Rattle.hem_module.specs.declared.rules.ModClause.{ModClause}
use Rattle.hem_module.specs.declared.rules.Action.{Action}
use Rattle.hem_module.specs.declared.rules.ModRule.{ModRule}
use Rattle.hem_module.specs.Modules.{Modules}
use Rattle.hem_modtext.specs.Limits.{most_id, most_number}
use Rattle.hem_modtext.specs.ModulesReading.{ReadsModules}
use Rattle.hem_modprint.specs.ModulesText.{modules_text}

-- a number has 64 bits at most, and one of an object, of a child and of a message 32
abbrev pub fits : ℕ → Bool
fits n = nat_le n most_number

abbrev pub fits_id : ℕ → Bool
fits_id n = nat_le n most_id

-- the numbers of a test, a clause, a value, an act, an action, a child and a rule are such
abbrev pub fits_test : ModAtom → Bool
fits_test (atom.Is r n) = fits n
fits_test (atom.Not r n) = fits n
fits_test (atom.Head q id) = fits_id id.0

abbrev pub fits_clause : ModClause → Bool
fits_clause c = list_all fits_test c.atoms

abbrev pub fits_value : ModValue → Bool
fits_value (value.Number n) = fits n
fits_value v = true

abbrev pub fits_act : Act → Bool
fits_act (act.Deq q) = true
fits_act (act.Set r v) = fits_value v
fits_act (act.Enq q id v) = fits_id id.0 && fits_value v

abbrev pub fits_action : Action → Bool
fits_action a = list_all fits_test a.cond && fits_act a.act

abbrev pub fits_child : Option ℕ → Bool
fits_child child = option_map_or fits_id child true

abbrev pub fits_rule : ModRule → Bool
fits_rule r = fits_id r.object && fits_child r.from && list_all fits_clause r.clauses && list_all fits_action r.actions

-- all numbers of the modules are such, as those of the program are by their types
pub record HasNumbers (m : Modules) : Type 0 where
  pub registers : IsTrue (list_all (λ r. fits r.1) m.regs)
  pub rules : IsTrue (list_all fits_rule m.rules)

-- the canonical text of the modules reads as these, wherever it stands and whatever follows
abbrev pub ReadsBack : Modules → Type 0
ReadsBack m = (place : Place) (tail : Text) → ReadsModules (tokens_from 0 place (modules_text m ++ tail)) (tokens_from 0 (fold advance place (modules_text m)) tail) m
