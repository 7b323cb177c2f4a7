use Rattle.hem_madetext.proofs.DocumentBack.{document_back}
use Rattle.hem_madetext.proofs.MadeBack.{generated_back}
use Rattle.hem_madetext.proofs.made_documents_read_back.Goals as goal

pub returns : goal.returns
returns c = record { every = document_back; generated = generated_back }
