use Rattle.std.proofs.Common.{◌≡◌, sym, subst, ℕ, arith, List, length}
use Rattle.hem_system.specs.State.{start}
use Rattle.hem_worker.specs.Workers.{Worker}
use Rattle.hem_crew.specs.Crew.{IsCrew}
use Rattle.hem_wiring.specs.Wiring.{AreBare}
use Rattle.hem_wiring.proofs.Crews.{bare_crew, whole_crew}
use Rattle.hem_wiring.proofs.crew.make_crew.Goals as goal

pub loop-line-init : goal.loop-line-init
loop-line-init g c =
    bare_crew c.args.p.now c.args.tree.now c.args.work.now.self_count c.args.slots c.in_ok-crew.crew
    (subst (λ (k : ℕ). AreBare c.args.tree.now k (length c.args.tree.now) c.in_ok-crew.crew) c.self_count.ensures c.in_ok-crew.ensures)

pub returns : goal.returns
returns g c =
    let all : c.loop-line.line ≡ c.args.work.now.lines = omega (arith, c.lines-line-end.ensures) in
    subst (λ (crew : List Worker). IsCrew c.args.p.now c.args.tree.now (start c.args.p.now c.args.tree.now c.args.work.now) c.args.work.now.self_count c.args.slots crew) (sym c.into_vec.ensures)
    (whole_crew c.args.p.now c.args.tree.now c.args.work.now c.loop-line.line c.args.work.now.self_count c.args.slots c.loop-line.crew all c.loop-line.invariant)
