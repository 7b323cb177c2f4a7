use Rattle.hem_system.proofs.Own.{changes_its_own}
use Rattle.hem_system.proofs.laws.firings_change_their_own.Goals as goal

pub returns : goal.returns
returns c p tree old new f fires = changes_its_own fires
