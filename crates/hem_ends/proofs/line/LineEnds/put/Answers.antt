use Rattle.std.proofs.Common.{refl}
use Rattle.hem_ends.proofs.line.LineEnds.put.Goals as goal

pub put_to_all-requires-after_bounds : goal.put_to_all-requires-after_bounds
put_to_all-requires-after_bounds g c κs within = rw (← c.self.view_is) at c.requires.kids

pub returns : goal.returns
returns g c =
    rw (← c.self.view_is)
    (record {
      up_requests = rw c.goes_up_request.ensures at c.put_there.ensures;
      up_responses = rw c.goes_up_response.ensures at c.put_there-2.ensures;
      down = refl;
      kids = c.put_to_all.ensures;
    })
