use Rattle.hem_modprint.specs.PlayText.{register_part}
use Rattle.hem_modprint.proofs.Numbered.{numbered_at}
use Rattle.hem_modprint.proofs.plays.write_all_held.Goals as goal

pub loop-place-preserved : goal.loop-place-preserved
loop-place-preserved c = numbered_at (register_part c.args.s.now) _ c.loop-place.output c.write_held_at.new.output c.args.m.now.regs c.loop-place.place c.in_ok-write_held_at.ensures c.loop-place.invariant
