use Rattle.std.proofs.Common.{sym, subst, ◌∙◌}
use Rattle.hem_module.specs.Lawful.{IsModules}
use Rattle.hem_translate.proofs.modules.modules_over.Goals as goal

pub make-requires : goal.make-requires
make-requires c = subst IsModules (sym (λ i. record { name = (c.copied.ensures ∙ c.name.ensures) i; regs = c.in_ok-regs.ensures i; queues = c.in_ok-queues.ensures i; rules = c.in_ok-rules.ensures i })) c.requires.lawful
