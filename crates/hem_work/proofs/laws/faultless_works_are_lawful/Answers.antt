use Rattle.hem_work.proofs.Fits.{lawful_work}
use Rattle.hem_work.proofs.laws.faultless_works_are_lawful.Goals as goal

pub returns : goal.returns
returns c = lawful_work
