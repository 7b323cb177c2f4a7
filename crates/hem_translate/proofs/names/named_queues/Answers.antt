use Rattle.std.proofs.Common.{ap, ◌∙◌, map, take}
use Rattle.hem_syntax.specs.Names.{is_in}
use Rattle.hem_emit.specs.Written.{name_of_queue}
use Rattle.hem_translate.specs.Places.{queue_of}
use Rattle.hem_translate.proofs.NamedApart.{new_queue}
use Rattle.hem_translate.proofs.names.named_queues.Goals as goal

pub push-requires : goal.push-requires
push-requires c =
    let queues = c.args.queues.now in
    let i = c.loop-queue.queue-index in
    ap (λ names. is_in names c.queue_name.result) c.loop-queue.invariant
    ∙ ap (is_in (map (λ q. name_of_queue (queue_of q)) (take i queues))) c.queue_name.ensures
    ∙ new_queue queues i _ c.requires c.loop-queue-test.true
