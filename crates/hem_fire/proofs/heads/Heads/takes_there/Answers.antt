use Rattle.std.proofs.Common.{refl, ◌∙◌, sym}
use Rattle.hem_fire.proofs.FirstHead.{takes_there-kids}
use Rattle.hem_fire.proofs.heads.Heads.takes_there.Goals as goal

pub returns-then-awaits_some : goal.returns-then-awaits_some
returns-then-awaits_some c =
    let kids = takes_there-kids c.in-Kids.id c.args.local.now c.args.self.now _ _ c.awaited_of-awaited.ensures c.awaits_some.ensures in
    c.responses_there.ensures ∙ sym (rw c.in-Kids.is (kids ∙ rw c.if-awaits_some.true refl))

pub returns-else-awaits_some : goal.returns-else-awaits_some
returns-else-awaits_some c =
    let kids = takes_there-kids c.in-Kids.id c.args.local.now c.args.self.now _ _ c.awaited_of-awaited.ensures c.awaits_some.ensures in
    c.if-awaits_some.false ∙ sym (rw c.in-Kids.is (kids ∙ rw c.if-awaits_some.false refl))
