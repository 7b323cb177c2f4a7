use Rattle.std.proofs.Common.{◌∙◌, ap, ◌+◌, length, ◌∷◌, []}
use Rattle.std.proofs.lemmas.List.{length-append}
use Rattle.hem_trace.specs.Tags.{no_tags}
use Rattle.hem_transactions.proofs.OnLines.{more_lists, more_carry}
use Rattle.hem_transactions.proofs.lines.no_messages.Goals as goal

pub loop-line-preserved : goal.loop-line-preserved
loop-line-preserved c =
    let lines = c.loop-line.lines in
    let new = c.in_ok-line.line in
    let pushed = c.in_ok-push.ensures.ok in
    let size = c.loop-line.invariant.size in
    let more = ap length pushed ∙ length-append lines (new ∷ []) in
    record {
      size = more ∙ ap (λ n. n + 1) size;
      lists = more_lists c.args.tree.now lines c.push.new.self new pushed c.loop-line.invariant.lists (c.in_ok-line.ensures.size c.args.tree.now c.objects-objects.ensures.count);
      none = more_carry no_tags lines c.push.new.self new pushed c.loop-line.invariant.none c.in_ok-line.ensures.none;
    }
