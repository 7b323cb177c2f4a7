use Rattle.hem_numbered.proofs.RowsAgreed.{rows_agree}
use Rattle.hem_numbered.proofs.adjacent_histories_agree.Goals as goal

pub returns : goal.returns
returns c = rows_agree
