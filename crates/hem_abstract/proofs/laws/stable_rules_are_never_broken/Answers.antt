use Rattle.hem_abstract.proofs.StableNever.{stable-never}
use Rattle.hem_abstract.proofs.laws.stable_rules_are_never_broken.Goals as goal

pub returns : goal.returns
returns c = stable-never
