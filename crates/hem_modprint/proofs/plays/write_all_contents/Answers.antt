use Rattle.hem_modprint.specs.PlayText.{queue_part}
use Rattle.hem_modprint.proofs.Numbered.{numbered_at}
use Rattle.hem_modprint.proofs.plays.write_all_contents.Goals as goal

pub loop-place-preserved : goal.loop-place-preserved
loop-place-preserved c = numbered_at (queue_part c.args.s.now) _ c.loop-place.output c.write_contents_at.new.output c.args.m.now.queues c.loop-place.place c.in_ok-write_contents_at.ensures c.loop-place.invariant
