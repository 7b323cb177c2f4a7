use Rattle.std.proofs.Common.{ap, ◌∙◌}
use Rattle.std.specs.Prelude.{unwrap_or}
use Rattle.hem_emit.specs.Names.{same_queue}
use Rattle.hem_translate.specs.Places.{queue_of}
use Rattle.hem_translate.specs.ByPlace.{Places, queue_at}
use Rattle.hem_translate.proofs.Found.{position_as, queue_alike}
use Rattle.hem_translate.proofs.site.Places.queue.Goals as goal

pub returns : goal.returns
returns c =
    c.unwrap_or.ensures
    ∙ ap (λ o. unwrap_or o 0) (c.get_index_of.ensures.index ∙ position_as _ (same_queue (queue_of c.args.q)) queue_of (queue_alike c.args.q) c.self.inside.queues.keys)
    ∙ ap (λ (l : Places). queue_at l (queue_of c.args.q)) c.self.view_is
