use Rattle.std.proofs.Common.{Some, None, ap, subst}
use Rattle.hem_parser.specs.ProtocolReading.{IsUsedAs}
use Rattle.hem_parser.proofs.Using.{second, behind, reads_used, fails_used, ends_used}
use Rattle.hem_parser.proofs.reading.used.Goals as goal

pub returns-in_default-clause-text : goal.returns-in_default-clause-text
returns-in_default-clause-text c =
    rw c.end-place.ensures (ends_used c.args.cursor.now.tokens c.requires c.args.cursor.now.end (second c.args.cursor.now c.next-use.new.self None (rw c.from_here-ahead.ensures at c.next-use.ensures.moved) c.in_default.ensures.token))

pub returns-in-Some-2-clause-ok : goal.returns-in-Some-2-clause-ok
returns-in-Some-2-clause-ok c =
    let moved = rw c.from_here-ahead.ensures at c.next-use.ensures.moved in
    reads_used c.args.cursor.now.tokens c.requires c.in-Some.token c.next.new.self.tokens c.in-Some-2.p (second c.args.cursor.now c.next-use.new.self (Some c.in-Some.token) moved c.in-Some.ensures.token)
    (ap (λ u. u.tokens) (behind c.args.cursor.now c.next-use.new.self c.next.new.self moved c.in-Some.ensures.moved)) (subst (λ o. IsUsedAs c.in-Some.token o) c.in-Some-2.is c.in_ok-p.ensures)

pub returns-in-None-clause-text : goal.returns-in-None-clause-text
returns-in-None-clause-text c =
    let moved = rw c.from_here-ahead.ensures at c.next-use.ensures.moved in
    rw c.place-place.ensures
    (fails_used c.args.cursor.now.tokens c.requires c.in-Some.token c.args.cursor.now.end c.use_cause-cause.result (second c.args.cursor.now c.next-use.new.self (Some c.in-Some.token) moved c.in-Some.ensures.token)
    (subst (λ o. IsUsedAs c.in-Some.token o) c.in-None.is c.in_ok-p.ensures) c.use_cause-cause.ensures)
