use Rattle.hem_cli.proofs.Delivered.{delivered_writes}
use Rattle.hem_cli.proofs.Whole.{delivered_whole, delivered_usage}
use Rattle.hem_cli.proofs.top.hem.Goals as goal

pub returns-in-Ok-clause-written : goal.returns-in-Ok-clause-written
returns-in-Ok-clause-written g c = delivered_writes _ _ _ _ _ _ _ _ _ _ c.in-Ok.ensures.says c.deliver.ensures.whole

pub returns-in-Ok-clause-complete : goal.returns-in-Ok-clause-complete
returns-in-Ok-clause-complete g c = delivered_whole _ _ _ _ _ _ _ _ _ _ _ c.in-Ok.ensures.says c.deliver.ensures.whole

pub returns-in-Ok-clause-words : goal.returns-in-Ok-clause-words
returns-in-Ok-clause-words g c = delivered_usage _ _ _ _ _ _ _ _ _ _ c.in-Ok.ensures.says c.deliver.ensures.whole
