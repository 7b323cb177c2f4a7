use Rattle.std.proofs.Common.{◌∙◌, ap}
use Rattle.std.specs.List.{prefix_len}
use Rattle.std.proofs.lemmas.List.{take_rest}
use Rattle.hem_base.specs.Words.{is_word_byte}
use Rattle.hem_text.proofs.OneLook.{run_is}
use Rattle.hem_text.proofs.piece.run_at.Goals as goal

pub returns-clause-same : goal.returns-clause-same
returns-clause-same c =
    let digits = c.digits_len-digits.result in
    run_is c.args.bytes.now digits c.run_len-others.result c.kind_of_run-kind.result c.requires.some c.requires.word c.digits_len-digits.ensures.same
    (c.run_len-others.ensures.same ∙ ap (prefix_len is_word_byte) (take_rest c.args.bytes.now digits)) c.kind_of_run-kind.ensures
