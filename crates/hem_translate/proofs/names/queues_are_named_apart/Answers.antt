use Rattle.hem_translate.proofs.NamedApart.{queues_once}
use Rattle.hem_translate.proofs.names.queues_are_named_apart.Goals as goal

pub returns : goal.returns
returns c = queues_once c.modules_may_be_written.ensures c.args.tree.now c.objects-objects.ensures.lawful
