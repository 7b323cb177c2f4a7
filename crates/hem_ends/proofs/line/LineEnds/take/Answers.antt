use Rattle.std.proofs.Common.{refl}
use Rattle.hem_ends.proofs.line.LineEnds.take.Goals as goal

pub returns : goal.returns
returns g c = rw (← c.self.view_is) (record { up_requests = refl; up_responses = refl; down = c.take_there.ensures; kids = c.take_from_all.ensures })
