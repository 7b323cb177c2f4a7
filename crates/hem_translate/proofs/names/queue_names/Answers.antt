use Rattle.std.proofs.Common.{◌≡◌, ap, sym, ◌∙◌, subst, map, IfOk}
use Rattle.hem_syntax.specs.Lawful.{are_distinct}
use Rattle.hem_emit.specs.Written.{name_of_queue}
use Rattle.hem_translate.specs.Places.{queue_of}
use Rattle.hem_translate.proofs.NamedApart.{map_map}
use Rattle.hem_translate.proofs.names.queue_names.Goals as goal

pub named_queues-requires : goal.named_queues-requires
named_queues-requires c = ap are_distinct (sym (map_map name_of_queue queue_of c.args.queues.now) ∙ ap (map name_of_queue) c.requires) ∙ c.queues_are_named_apart.ensures

pub returns : goal.returns
returns c = subst (λ xs. IfOk c.named_queues.result (λ n. n ≡ xs)) (sym (map_map name_of_queue queue_of c.args.queues.now) ∙ ap (map name_of_queue) c.requires) c.named_queues.ensures
