use Rattle.std.proofs.Common.{◌++◌, ◌∷◌, [], ap, ◌∙◌}
use Rattle.std.proofs.lemmas.Result.{on_ok_weaker}
use Rattle.hem_module.specs.States.{State}
use Rattle.hem_translate.proofs.line_image.push_queue.Goals as goal

pub returns-clause-regs : goal.returns-clause-regs
returns-clause-regs c = on_ok_weaker c.push_queue.result (λ e. ap (λ (m : State). m.regs) e) c.push_queue.ensures.ok

pub returns-clause-queues : goal.returns-clause-queues
returns-clause-queues c = on_ok_weaker c.push_queue.result (λ e. ap (λ (m : State). m.queues) e ∙ ap (λ ms. c.args.state.now.queues ++ ms ∷ []) c.messages_at.ensures) c.push_queue.ensures.ok
