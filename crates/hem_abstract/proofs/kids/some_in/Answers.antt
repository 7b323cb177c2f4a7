use Rattle.std.proofs.Common.{sym, rules, ◌<◌, ◌^◌}
use Rattle.hem_abstract.proofs.BitSets.{some-in}
use Rattle.hem_abstract.proofs.kids.some_in.Goals as goal

pub returns : goal.returns
returns c = let small : c.args.kids.0 < 2 ^ 8 = search rules in sym (some-in c.args.kids c.args.set small)
