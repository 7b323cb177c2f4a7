use Rattle.hem_document.proofs.ReadOnce.{protocol_exact, tree_exact, work_exact, document_exact}
use Rattle.hem_document.proofs.PlayOnce.{play_exact}
use Rattle.hem_document.proofs.laws.documents_are_read_once.Goals as goal

pub returns-clause-protocol : goal.returns-clause-protocol
returns-clause-protocol c = protocol_exact

pub returns-clause-tree : goal.returns-clause-tree
returns-clause-tree c = tree_exact

pub returns-clause-work : goal.returns-clause-work
returns-clause-work c = work_exact

pub returns-clause-history : goal.returns-clause-history
returns-clause-history c = document_exact

pub returns-clause-play : goal.returns-clause-play
returns-clause-play c = play_exact
