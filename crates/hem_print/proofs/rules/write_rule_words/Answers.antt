use Rattle.std.proofs.Common.{ap, ◌∙◌, ◌++◌}
use Rattle.std.proofs.lemmas.Result.{on_ok_weaker}
use Rattle.hem_base.specs.declared.words.Reserved.TheVariants as word
use Rattle.hem_print.specs.Canonical.{plain, words_text, take_words, need_words, led, atom_words, assign_words, free_words, lock_words, send_words}
use Rattle.hem_syntax.specs.Protocol.{part}
use Rattle.hem_print.proofs.Led.{rule_chain}
use Rattle.hem_print.proofs.rules.write_rule_words.Goals as goal

pub returns : goal.returns
returns c =
    on_ok_weaker c.write_word-3.result
    (λ e. rule_chain c.args.output.now c.write_word.new.output c.write_take.new.output c.write_word-2.new.output c.write_need.new.output c.write_guard.new.output c.write_sets.new.output c.write_free.new.output c.write_lock.new.output c.write_send.new.output c.write_word-3.new.output
    (plain word.Take) (take_words c.args.p.now c.args.rule.now.take)
    (plain word.Need) (need_words c.args.rule.now.need)
    (led (plain word.When) (atom_words c.args.p.now (part c.args.p.now c.args.kind)) c.args.rule.now.guard)
    (led (plain word.Set) (assign_words c.args.p.now (part c.args.p.now c.args.kind)) c.args.rule.now.sets)
    (free_words c.args.rule.now.free) (lock_words c.args.rule.now.lock) (send_words c.args.p.now c.args.rule.now.send)
    (plain word.End)
    c.in_ok-write_word.ensures c.in_ok-write_take.ensures c.in_ok-write_word-2.ensures c.in_ok-write_need.ensures
    (c.in_ok-write_guard.ensures ∙ ap (λ xs. c.write_need.new.output ++ words_text (led (plain word.When) (atom_words c.args.p.now (part c.args.p.now c.args.kind)) xs)) c.as_slice.ensures)
    (c.in_ok-write_sets.ensures ∙ ap (λ xs. c.write_guard.new.output ++ words_text (led (plain word.Set) (assign_words c.args.p.now (part c.args.p.now c.args.kind)) xs)) c.as_slice-2.ensures)
    c.in_ok-write_free.ensures c.in_ok-write_lock.ensures c.in_ok-write_send.ensures e)
    c.write_word-3.ensures
