use Rattle.std.proofs.Common.{◌∙◌, sym, ap, length}
use Rattle.std.proofs.lemmas.List.{length-map}
use Rattle.hem_work.specs.Work.{requests_of}
use Rattle.hem_tree.specs.Tree.{below}
use Rattle.hem_system.specs.State.{first_line}
use Rattle.hem_tree.proofs.Lawful.{length_below}
use Rattle.hem_transactions.proofs.replay.numbered_replay.Goals as goal

pub replay_from-requires-clause-size : goal.replay_from-requires-clause-size
replay_from-requires-clause-size c =
    let work = c.args.work.now in
    c.in_ok-lines.ensures.size
    ∙ c.lines.ensures
    ∙ sym (ap length c.in_ok-system.ensures ∙ length-map (below work.lines) (λ l. first_line c.args.p.now c.args.tree.now (requests_of work l)) ∙ length_below work.lines)
