use Rattle.std.proofs.Common.{sym, subst, List, ℕ, map}
use Rattle.std.specs.Prelude.{IsTrue}
use Rattle.std.specs.List.{list_all}
use Rattle.hem_base.specs.Words.{is_word_text}
use Rattle.hem_syntax.specs.declared.rule.Class.{Class}
use Rattle.hem_syntax.specs.Lawful.{is_declarable}
use Rattle.hem_syntax.proofs.DeclaredNames.{declarable_word, messages_declarable}
use Rattle.hem_print.proofs.protocol.write_declarations.Goals as goal

pub write_name-requires : goal.write_name-requires
write_name-requires c = subst (λ (name : List ℕ). IsTrue (is_word_text name)) (sym c.name.ensures) (declarable_word c.args.p.now.name c.part-root.ensures.lawful.name)

pub write_messages-requires : goal.write_messages-requires
write_messages-requires c =
    subst (λ (messages : List (List ℕ × Class)). IsTrue (list_all is_declarable (map (λ m. m.0) messages))) (sym c.messages.ensures) (messages_declarable c.args.p.now c.part-root.ensures.lawful)
