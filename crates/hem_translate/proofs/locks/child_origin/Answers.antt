use Rattle.std.proofs.Common.{ap, ◌∙◌, ◌+◌}
use Rattle.hem_translate.proofs.Statuses.{child_number}
use Rattle.hem_translate.proofs.locks.child_origin.Goals as goal

pub returns : goal.returns
returns c = ap (λ n. 3 + n) (c.from.ensures ∙ c.child.ensures ∙ child_number 0 c.args.site.now.kids c.args.place)
