use Rattle.hem_modprint.proofs.Words.{queue_word}
use Rattle.hem_modprint.proofs.plays.write_contents_at.Goals as goal

pub write_contents-requires : goal.write_contents-requires
write_contents-requires c = queue_word c.args.m.now c.queues.result.now c.args.place c.in-Some.name.now c.rules-rules.ensures.lawful c.queues.ensures c.in-Some.ensures
