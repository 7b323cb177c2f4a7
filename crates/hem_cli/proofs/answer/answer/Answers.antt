use Rattle.std.proofs.Common.{◌≤◌, refl, ap, arith, length, map, string_bytes, Err}
use Rattle.hem_words.specs.Job.{AsksFor, IsGood}
use Rattle.hem_cli.proofs.Said.{asked_of, past, said, read_says}
use Rattle.hem_cli.proofs.answer.answer.Goals as goal

pub returns-in-Ok-clause-says : goal.returns-in-Ok-clause-says
returns-in-Ok-clause-says g c =
    let few : length c.in-Ok.bytes.items ≤ 33554432 = omega (arith, c.in-Ok.ensures.within) in
    let words = map (λ s. string_bytes s) c.args.words.now in
    let asks = asked_of (¬ IsGood words) (AsksFor words) c.in_ok-asked.field-0 c.in-Some.asked c.in-Some.is c.in_ok-asked.ensures in
    read_says words c.in-Some.asked _ _ _ _ c.in-Ok.bytes.items c.asked_reply.result asks few c.in-Ok.ensures.all (rw c.deref.ensures.value at c.asked_reply.ensures.answers)

pub returns-in-Err-Fault-clause-says : goal.returns-in-Err-Fault-clause-says
returns-in-Err-Fault-clause-says g c =
    let words = map (λ s. string_bytes s) c.args.words.now in
    let asks = asked_of (¬ IsGood words) (AsksFor words) c.in_ok-asked.field-0 c.in-Some.asked c.in-Some.is c.in_ok-asked.ensures in
    said words _ _ _ c.reply_to.result _ _ c.reply_to.ensures.status c.reply_to.ensures.text (c.in-Some.asked, asks, c.in-Err-Fault.ensures.fault (ap Err c.in-Err-Fault.field-0-is), refl)

pub returns-in-Err-TooLong-clause-says : goal.returns-in-Err-TooLong-clause-says
returns-in-Err-TooLong-clause-says g c =
    let words = map (λ s. string_bytes s) c.args.words.now in
    let asks = asked_of (¬ IsGood words) (AsksFor words) c.in_ok-asked.field-0 c.in-Some.asked c.in-Some.is c.in_ok-asked.ensures in
    said words _ _ _ c.reply_to-in-Err-TooLong.result _ _ c.reply_to-in-Err-TooLong.ensures.status c.reply_to-in-Err-TooLong.ensures.text
    (past (g.S.Source.left c.args.source.now) (g.S.Source.left c.read_all.new.source) 33554432 _ _ (ap Err c.in-Err-TooLong.field-0-is) (λ bytes more. (c.in-Some.asked, asks, more, refl)) c.in-Err-TooLong.ensures.too_long)
