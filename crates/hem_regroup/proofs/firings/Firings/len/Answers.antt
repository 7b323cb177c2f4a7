use Rattle.std.proofs.Common.{◌∙◌, sym, ap, length}
use Rattle.hem_regroup.proofs.NumberedPlaces.{numbered_size}
use Rattle.hem_regroup.proofs.firings.Firings.len.Goals as goal

pub returns : goal.returns
returns c =
    let all = c.self.inside in
    sym (numbered_size all.protocol.now all.tree.now all.history.now all.numbers.now c.self.invariant.2) ∙ ap length c.self.view_is
