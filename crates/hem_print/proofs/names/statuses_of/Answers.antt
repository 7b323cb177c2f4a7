use Rattle.std.proofs.Common.{sym, ◌∙◌, subst, List, ℕ}
use Rattle.std.specs.Prelude.{IsTrue}
use Rattle.std.specs.List.{list_all}
use Rattle.hem_syntax.specs.Lawful.{is_declarable}
use Rattle.hem_syntax.proofs.DeclaredNames.{statuses_declarable}
use Rattle.hem_print.proofs.names.statuses_of.Goals as goal

pub returns-clause-declarable : goal.returns-clause-declarable
returns-clause-declarable c =
    subst (λ (names : List (List ℕ)). IsTrue (list_all is_declarable names)) (sym (c.as_slice.ensures ∙ c.statuses.ensures)) (statuses_declarable c.args.p.now c.part-root.ensures.lawful)
