use Rattle.std.proofs.Common.{inl}
use Rattle.std.proofs.lemmas.Result.{err_from_is_err_and}
use Rattle.hem_document.specs.Fronts.{IsFaultToWork, IsFaultToHistory}
use Rattle.hem_document.proofs.FaultsInTurn.{of_fault}
use Rattle.hem_document.proofs.reading.read_to_history.Goals as goal

pub returns-in_err-setup-clause-text : goal.returns-in_err-setup-clause-text
returns-in_err-setup-clause-text c =
    let p = err_from_is_err_and c.from_residual.result c.from_residual.ensures.1 in
    rw (p.1, p.2)
    (of_fault (IsFaultToWork c.args.cursor.now.tokens c.args.cursor.now.end) (IsFaultToHistory c.args.cursor.now.tokens c.args.cursor.now.end) _ (λ f here. inl here) c.in_err-setup.ensures.text)
