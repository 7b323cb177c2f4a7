use Rattle.hem_print.proofs.Reading.{reads_back}
use Rattle.hem_print.proofs.law.reads_back.Goals as goal

pub returns : goal.returns
returns c = record { this = reads_back c.args.p.now c.part-root.ensures.lawful; every = λ q good. reads_back q good }
