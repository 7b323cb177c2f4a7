use Rattle.hem_invariants.proofs.LocalKept.{fired-formed, fired-sends}
use Rattle.hem_invariants.proofs.firings_keep_well_formed.Goals as goal

pub returns : goal.returns
returns c = record { leaves = fired-formed; sends = fired-sends }
