use Rattle.std.proofs.Common.{sym}
use Rattle.hem_walk.proofs.Begun.{not_there}
use Rattle.hem_walk.proofs.working.Walking.first_at.Goals as goal

pub returns-in-None : goal.returns-in-None
returns-in-None c = sym (not_there c.args.p.now c.args.tree.now c.args.work.now.self_count c.args.self.now.journal c.args.self.now.system c.args.line.0 c.args.object.0 c.in-None.ensures.none)
