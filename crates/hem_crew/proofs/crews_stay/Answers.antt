use Rattle.hem_crew.proofs.Kept.{rounds-keep, settles-keep, journals-stay}
use Rattle.hem_crew.proofs.crews_stay.Goals as goal

pub returns : goal.returns
returns c = record { rounds = rounds-keep; settles = settles-keep; journals = journals-stay }
