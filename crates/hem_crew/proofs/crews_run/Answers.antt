use Rattle.hem_crew.proofs.Merging.{crew-runs, crew-within}
use Rattle.hem_crew.proofs.crews_run.Goals as goal

pub returns : goal.returns
returns c = record { runs = crew-runs; within = crew-within }
