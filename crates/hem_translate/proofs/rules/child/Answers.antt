use Rattle.std.proofs.Common.{◌∙◌}
use Rattle.hem_translate.proofs.Statuses.{child_number}
use Rattle.hem_translate.proofs.rules.child.Goals as goal

pub returns : goal.returns
returns c = c.child.ensures ∙ child_number 0 c.args.site.now.kids c.args.place
