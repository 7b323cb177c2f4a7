use Rattle.std.proofs.Common.{◌<◌, ℕ, arith}
use Rattle.hem_worktext.specs.ReadsBack.{HasNumbers}
use Rattle.hem_worktext.specs.WorkText.{head_text, entries_of, objects_of}
use Rattle.hem_worktext.proofs.Steps.{text_below, each_below}
use Rattle.hem_worktext.proofs.WorkBack.{work_back}
use Rattle.hem_worktext.proofs.work.work_text.Goals as goal

pub loop-o-preserved : goal.loop-o-preserved
loop-o-preserved c = record {
  text = text_below (entries_of c.args.p.now c.args.work.now) c.loop-o.o (head_text c.args.work.now) c.loop-o.output c.write_entries.new.output c.loop-o.invariant.text c.in_ok-write_entries.ensures.text;
  numbers = each_below (HasNumbers c.args.work.now) c.loop-o.o c.loop-o.invariant.numbers c.in_ok-write_entries.ensures.numbers;
}

pub returns-clause-reads_back : goal.returns-clause-reads_back
returns-clause-reads_back c = λ tree place tail good lawful.
    let all : (o : ℕ) → o < objects_of c.args.work.now → HasNumbers c.args.work.now o = λ o lt. c.loop-o.invariant.numbers o (omega (arith, lt, c.loop-o-test.false, c.in_ok-o-end.ensures)) in
    work_back c.args.p.now tree c.args.work.now c.part-root.ensures.lawful good lawful all place tail
