use Rattle.std.proofs.Common.{ap, sym, ◌∙◌, subst, ◌+◌, ◌<◌, length}
use Rattle.std.specs.Prelude.{◌^◌}
use Rattle.hem_ends.specs.Ends.{Ends}
use Rattle.hem_worker.specs.Workers.{Worker}
use Rattle.hem_worker.proofs.RoundsRun.{added-worker}
use Rattle.hem_worker.proofs.worker.Worker.add_line.Goals as goal

pub invariant_of-self-2 : goal.invariant_of-self-2
invariant_of-self-2 g c =
    added-worker c.push.result c.self.inside.children c.self.inside.lines c.push.new.self c.in_ok-line.line c.push.ensures.ok c.push.ensures.err c.self.invariant
    (subst (λ n. n + 1 < 2 ^ 32) (sym (ap (λ (w : Worker). length w.lines) c.self.view_is)) c.requires.few)
    (ap (λ (e : Ends). length e.kids) c.in_ok-line.ensures.ends ∙ c.requires.kids ∙ sym (ap (λ (w : Worker). length w.children) c.self.view_is))
