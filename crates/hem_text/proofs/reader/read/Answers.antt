use Rattle.std.proofs.Common.{◌≡◌, true, false}
use Rattle.hem_text.specs.Grammars.{state}
use Rattle.hem_text.proofs.FirstFaults.{along_more, refused_first, ended_first, is_part}
use Rattle.hem_text.proofs.reader.read.Goals as goal

pub loop-ahead-preserved : goal.loop-ahead-preserved
loop-ahead-preserved g c =
    along_more g.L.Language.grammar (state c.args.env.now c.args.stack.now) c.args.cursor.now c.loop-ahead.ahead (state c.loop-ahead.env c.loop-ahead.stack) c.loop-ahead.invariant c.in-Some.token c.next.new.self
    (state c.step.new.env c.step.new.stack) c.in-Some.ensures.token c.in-Some.ensures.moved c.in-Ok.ensures.ok

pub returns-in-Err-clause-text : goal.returns-in-Err-clause-text
returns-in-Err-clause-text g c =
    rw (c.refused_at.ensures, c.place.ensures)
    (refused_first g.L.Language.grammar (state c.args.env.now c.args.stack.now) c.args.cursor.now c.loop-ahead.ahead (state c.loop-ahead.env c.loop-ahead.stack) c.loop-ahead.invariant c.in-Some.token c.in-Err.refusal c.in-Some.ensures.token
    (λ empty. let h : false ≡ true = rw c.loop-ahead-test.true at (c.is_empty.ensures.1 empty) in cc) c.in-Err.ensures.refused)

pub returns-in-None-clause-text : goal.returns-in-None-clause-text
returns-in-None-clause-text g c =
    rw c.end.ensures
    (ended_first g.L.Language.grammar (state c.args.env.now c.args.stack.now) c.args.cursor.now c.loop-ahead.ahead (state c.loop-ahead.env c.loop-ahead.stack) c.loop-ahead.invariant c.in-None.ensures.token (λ empty. let h : false ≡ true = rw c.loop-ahead-test.true at (c.is_empty.ensures.1 empty) in cc))

pub returns-clause-ok : goal.returns-clause-ok
returns-clause-ok g c =
    is_part g.L.Language.grammar (state c.args.env.now c.args.stack.now) c.args.cursor.now c.loop-ahead.ahead (state c.loop-ahead.env c.loop-ahead.stack) c.loop-ahead.invariant (c.is_empty.ensures.0 c.loop-ahead-test.false)
