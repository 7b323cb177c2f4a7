use Rattle.std.proofs.Common.{sym, subst, List, ℕ, map, ◌∙◌}
use Rattle.std.specs.Prelude.{IsTrue}
use Rattle.std.specs.List.{list_all}
use Rattle.hem_base.specs.Words.{is_word_text}
use Rattle.hem_syntax.specs.Lawful.{is_declarable}
use Rattle.hem_syntax.proofs.DeclaredNames.{declarable_word}
use Rattle.hem_modprint.proofs.Words.{registers_declarable, queues_declarable}
use Rattle.hem_module.specs.declared.rules.ModRule.{ModRule}
use Rattle.hem_modprint.specs.ReadsBack.{fits, fits_rule}
use Rattle.hem_modprint.proofs.Back.{reads_back}
use Rattle.hem_modprint.proofs.modules.modules_text.Goals as goal

pub name-requires-2 : goal.name-requires-2
name-requires-2 c = subst (λ (name : List ℕ). IsTrue (is_word_text name)) (sym c.name.ensures) (declarable_word c.args.m.now.name c.rules-rules.ensures.lawful.name)

pub write_registers-requires : goal.write_registers-requires
write_registers-requires c = subst (λ (l : List (List ℕ × ℕ)). IsTrue (list_all is_declarable (map (λ r. r.0) l))) (sym c.regs.ensures) (registers_declarable c.args.m.now c.rules-rules.ensures.lawful)

pub write_queues-requires : goal.write_queues-requires
write_queues-requires c = subst (λ (l : List (List ℕ)). IsTrue (list_all is_declarable l)) (sym (c.as_slice.ensures ∙ c.queues.ensures)) (queues_declarable c.args.m.now c.rules-rules.ensures.lawful)

pub returns-clause-reads_back : goal.returns-clause-reads_back
returns-clause-reads_back c =
    reads_back c.args.m.now c.rules-rules.ensures.lawful (record {
      registers = subst (λ (l : List (List ℕ × ℕ)). IsTrue (list_all (λ r. fits r.1) l)) c.regs.ensures c.in_ok-write_registers.ensures.fits;
      rules = subst (λ (l : List ModRule). IsTrue (list_all fits_rule l)) c.rules-rules.ensures.rules c.in_ok-write_rules.ensures.fits;
    })
