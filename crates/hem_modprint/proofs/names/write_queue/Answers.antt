use Rattle.hem_modprint.proofs.Words.{queue_word}
use Rattle.hem_modprint.proofs.names.write_queue.Goals as goal

pub name-requires : goal.name-requires
name-requires c = queue_word c.args.m.now c.queues.result.now c.args.queue c.in-Some.name.now c.rules-rules.ensures.lawful c.queues.ensures c.in-Some.ensures
