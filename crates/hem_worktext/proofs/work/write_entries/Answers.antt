use Rattle.std.proofs.Common.{subst, ap, ◌∙◌, ◌++◌}
use Rattle.hem_work.specs.Work.{requests_of}
use Rattle.hem_worktext.specs.ReadsBack.{AreNumbers}
use Rattle.hem_worktext.specs.WorkText.{entry_if_any}
use Rattle.hem_worktext.proofs.Steps.{text_below, each_below}
use Rattle.hem_worktext.proofs.work.write_entries.Goals as goal

pub loop-line-preserved : goal.loop-line-preserved
loop-line-preserved c = record {
  text = text_below (λ line. entry_if_any c.args.p.now c.args.o line (requests_of c.args.work.now line c.args.o)) c.loop-line.line c.args.output.now c.loop-line.output c.write_entry_if_any.new.output c.loop-line.invariant.text
      (c.in_ok-write_entry_if_any.ensures.text ∙ ap (λ ms. c.loop-line.output ++ entry_if_any c.args.p.now c.args.o c.loop-line.line ms) c.requests.ensures);
  numbers = each_below (λ line. AreNumbers (requests_of c.args.work.now line c.args.o)) c.loop-line.line c.loop-line.invariant.numbers (subst AreNumbers c.requests.ensures c.in_ok-write_entry_if_any.ensures.numbers);
}
