use Rattle.std.proofs.Common.{◌≡◌, sym, ◌∙◌, subst, List, Some}
use Rattle.std.specs.Prelude.{slice_get}
use Rattle.hem_worker.specs.Workers.{Worker}
use Rattle.hem_runner.specs.Runs.{channel_slots}
use Rattle.hem_runner.proofs.Ending.{end-lines}
use Rattle.hem_runner.proofs.running.history_of.Goals as goal

pub take_journals-requires-after_bounds : goal.take_journals-requires-after_bounds
take_journals-requires-after_bounds g c κs within = λ o w at.
    end-lines c.args.p.now c.args.tree.now c.args.work.now c.args.work.now.self_count channel_slots c.in_ok-crew.crew.items c.in_ok-crew.ensures o w (subst (λ (crew : List Worker). slice_get crew o ≡ Some w) c.as_mut_slice.ensures.value at)
    ∙ sym c.lines.ensures
