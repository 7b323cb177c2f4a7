use Rattle.hem_merge.specs.Journals.{IsMerged}
use Rattle.hem_runner.specs.Runs.{IsWholeHistory}
use Rattle.hem_runner.proofs.Histories.{if-ok-more, whole-history}
use Rattle.hem_runner.proofs.running.merged.Goals as goal

pub returns : goal.returns
returns c =
    if-ok-more (λ history. IsMerged c.args.journals.now history.items) (λ history. IsWholeHistory c.args.p.now c.args.tree.now c.args.work.now history.items) c.merge.result
    (λ history is. whole-history c.args.p.now c.args.tree.now c.args.work.now c.args.journals.now history.items c.part-part.ensures.lawful c.requires.disciplined c.objects-objects.ensures.lawful c.requires.lawful c.requires.last is)
    c.merge.ensures.merged
