use Rattle.hem_cli.proofs.Once.{one_status, one_text}
use Rattle.hem_cli.proofs.laws.words_and_bytes_have_one_answer.Goals as goal

pub returns : goal.returns
returns c = record { status = one_status; text = one_text }
