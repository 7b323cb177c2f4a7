use Rattle.hem_abstract.proofs.PartnersKeep.{alone-leaves, pair-leaves}
use Rattle.hem_abstract.proofs.laws.partners_keep_requests.Goals as goal

pub returns : goal.returns
returns c = record { at_once = alone-leaves; passed_on = pair-leaves }
