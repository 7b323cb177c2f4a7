use Rattle.std.proofs.Common.{subst}
use Rattle.hem_walk.specs.Working.{NoneReady}
use Rattle.hem_walk.proofs.Positions.{turns_round, nones_left}
use Rattle.hem_walk.proofs.working.Walking.choose.Goals as goal

pub returns-in-None-clause-some : goal.returns-in-None-clause-some
returns-in-None-clause-some c =
    let after = subst (NoneReady c.args.p.now c.args.tree.now c.args.work.now.self_count c.args.self.now.journal c.args.self.now.system c.args.from) c.positions-end.ensures c.in-None.ensures.none in
    turns_round c.args.p.now c.args.tree.now c.args.work.now.self_count c.args.self.now.journal c.args.self.now.system c.args.from c.first_between-in-None.result c.requires.within after c.first_between-in-None.ensures.some

pub returns-in-None-clause-none : goal.returns-in-None-clause-none
returns-in-None-clause-none c =
    let after = subst (NoneReady c.args.p.now c.args.tree.now c.args.work.now.self_count c.args.self.now.journal c.args.self.now.system c.args.from) c.positions-end.ensures c.in-None.ensures.none in
    nones_left c.args.p.now c.args.tree.now c.args.work.now.self_count c.args.self.now.journal c.args.self.now.system c.args.from c.first_between-in-None.result after c.first_between-in-None.ensures.none
