use Rattle.std.proofs.Common.{ap, ◌∙◌}
use Rattle.hem_module.specs.Lawful.{are_apart}
use Rattle.hem_emit.specs.Names.{same_reg, same_queue}
use Rattle.hem_translate.proofs.modules.rules_over.Goals as goal

pub of-requires-clause-regs : goal.of-requires-clause-regs
of-requires-clause-regs c = ap (are_apart same_reg) c.requires.regs ∙ c.registers_and_queues_have_one_place_each.ensures.registers_apart c.args.p.now c.args.tree.now

pub of-requires-clause-queues : goal.of-requires-clause-queues
of-requires-clause-queues c = ap (are_apart same_queue) c.requires.lists ∙ c.registers_and_queues_have_one_place_each.ensures.queues_apart c.args.tree.now

pub rules_of-requires : goal.rules_of-requires
rules_of-requires c = c.in_ok-places.ensures ∙ (λ i. record { regs = c.requires.regs i; queues = c.requires.lists i })
