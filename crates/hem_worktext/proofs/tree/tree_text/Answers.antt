use Rattle.hem_worktext.proofs.TreeBack.{tree_back}
use Rattle.hem_worktext.proofs.tree.tree_text.Goals as goal

pub returns-clause-reads_back : goal.returns-clause-reads_back
returns-clause-reads_back c = tree_back c.args.tree.now c.objects-objects.ensures.lawful
