use Rattle.std.proofs.Common.{sym, ◌∙◌}
use Rattle.hem_translate.specs.Places.{reg_of}
use Rattle.hem_translate.proofs.FirstNumbers.{starts_as}
use Rattle.hem_translate.proofs.starts.start.Goals as goal

pub returns : goal.returns
returns c = c.first_number.ensures ∙ sym (starts_as c.args.p.now c.args.tree.now (reg_of c.args.reg))
