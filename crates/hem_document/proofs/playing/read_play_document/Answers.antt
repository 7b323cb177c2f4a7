use Rattle.std.proofs.lemmas.Result.{err_from_is_err_and}
use Rattle.hem_document.specs.Playing.{ReadsToFeed, IsFaultToFeed}
use Rattle.hem_document.proofs.FaultsInTurn.{in_parts}
use Rattle.hem_document.proofs.playing.read_play_document.Goals as goal

pub returns-in_err-document-clause-text : goal.returns-in_err-document-clause-text
returns-in_err-document-clause-text c =
    let p = err_from_is_err_and c.from_residual.result c.from_residual.ensures.1 in
    rw (p.1, p.2)
    (in_parts ReadsToFeed IsFaultToFeed c.args.bytes.now c.new-cursor.result _ c.new-cursor.ensures c.in_err-document.ensures.text)
