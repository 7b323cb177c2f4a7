use Rattle.std.proofs.Common.{◌∙◌, ◌<◌, length}
use Rattle.hem_object.specs.Guard.{is_requester}
use Rattle.hem_object.proofs.Entries.{set_at-more, length-cond_set}
use Rattle.hem_object.proofs.local.Local.set_requester.Goals as goal

pub loop-place-preserved : goal.loop-place-preserved
loop-place-preserved c =
    let place = c.loop-place.place in
    let dir = c.loop-place.self.dir in
    let within : place < length dir = rw c.loop-place.invariant.size c.loop-place-test.true in
    record {
      goes_on = rw c.set_entry.ensures (set_at-more c.args.status (is_requester c.args.view.now) dir place _ within c.is_requester.ensures ∙ c.loop-place.invariant.goes_on);
      size = rw c.set_entry.ensures (length-cond_set c.args.status dir place c.is_requester.result ∙ c.loop-place.invariant.size);
      rest = rw c.set_entry.ensures c.loop-place.invariant.rest;
    }
