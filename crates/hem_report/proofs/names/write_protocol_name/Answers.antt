use Rattle.std.proofs.Common.{sym, subst, List, ℕ}
use Rattle.std.specs.Prelude.{IsTrue}
use Rattle.hem_base.specs.Words.{is_word_text}
use Rattle.hem_syntax.proofs.DeclaredNames.{declarable_word}
use Rattle.hem_report.proofs.names.write_protocol_name.Goals as goal

pub name-requires : goal.name-requires
name-requires c = subst (λ (name : List ℕ). IsTrue (is_word_text name)) (sym c.name-name.ensures) (declarable_word c.args.p.now.name c.part-root.ensures.lawful.name)
