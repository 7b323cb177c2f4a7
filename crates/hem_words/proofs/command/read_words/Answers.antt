use Rattle.std.proofs.Common.{◌∙◌, map, string_bytes}
use Rattle.hem_words.proofs.Taken.{are_taken, value_given, all_given}
use Rattle.hem_words.proofs.command.read_words.Goals as goal

pub returns-in-Ok-clause-taken : goal.returns-in-Ok-clause-taken
returns-in-Ok-clause-taken c =
    are_taken _ (map (λ s. string_bytes s) c.args.words.now) c.in_ok-command.ensures c.in-Ok.ensures.kinds

pub returns-in-Ok-clause-given : goal.returns-in-Ok-clause-given
returns-in-Ok-clause-given c =
    let words = map (λ s. string_bytes s) c.args.words.now in
    all_given words _ _ _ _ _
    (c.get_str.ensures ∙ value_given _ words c.in-Ok.matches _ c.in_ok-command.ensures c.in-Ok.ensures.matches)
    (c.get_str-in-Ok.ensures ∙ value_given _ words c.in-Ok.matches _ c.in_ok-command.ensures c.in-Ok.ensures.matches)
    (c.get_str-in-Ok-2.ensures ∙ value_given _ words c.in-Ok.matches _ c.in_ok-command.ensures c.in-Ok.ensures.matches)
    c.is_there.ensures
    (c.get_str-in-Ok-3.ensures ∙ value_given _ words c.in-Ok.matches _ c.in_ok-command.ensures c.in-Ok.ensures.matches)
