use Rattle.std.proofs.Common.{◌<◌, ◌∙◌, length, get_or, [], sym, ap, subst, arith}
use Rattle.hem_work.specs.declared.made.LeafRequest.{LeafRequest}
use Rattle.hem_work.specs.Entries.{CanPick, with_request}
use Rattle.hem_work.proofs.Generated.{line_is, leaf_is, row_is, rows_longer, request_is, number_is, table_length}
use Rattle.hem_work.proofs.made.rows_with.Goals as goal

pub add_request-requires-clause-line : goal.add_request-requires-clause-line
add_request-requires-clause-line c =
    let can : CanPick c.args.choices.now c.args.objects = c.requires.picks (omega (arith, c.loop-k-test.true)) in
    let here = request_is c.args.choices.now c.args.seed c.loop-k.k c.loop-k.generator c.next_request-request.new.generator _ c.next_request-request.result c.loop-k.invariant.number c.next_request-request.ensures.steps (omega (arith, c.from.ensures)) c.next_request-request.ensures.request in
    let lt = line_is c.args.work.now c.args.choices.now c.args.seed c.loop-k.k c.args.objects can c.requires.lines in
    let long = ap length c.loop-k.invariant.rows ∙ table_length c.args.work.now _ c.args.objects in
    let same = ap (λ (r : LeafRequest). r.line) here in
    omega (arith, lt, long, same)

pub add_request-requires-clause-leaf : goal.add_request-requires-clause-leaf
add_request-requires-clause-leaf c =
    let can : CanPick c.args.choices.now c.args.objects = c.requires.picks (omega (arith, c.loop-k-test.true)) in
    let here = request_is c.args.choices.now c.args.seed c.loop-k.k c.loop-k.generator c.next_request-request.new.generator _ c.next_request-request.result c.loop-k.invariant.number c.next_request-request.ensures.steps (omega (arith, c.from.ensures)) c.next_request-request.ensures.request in
    let lt = leaf_is c.args.work.now c.args.choices.now c.args.seed c.loop-k.k c.args.objects can c.requires.lines in
    let long = row_is c.args.work.now c.args.choices.now c.args.seed c.loop-k.k c.args.objects can c.requires.lines c.loop-k.rows c.loop-k.invariant.rows in
    subst (λ (r : LeafRequest). r.leaf < length (get_or c.loop-k.rows r.line [])) (sym here) (omega (arith, lt, long))

pub loop-k-preserved : goal.loop-k-preserved
loop-k-preserved c =
    let can : CanPick c.args.choices.now c.args.objects = c.requires.picks (omega (arith, c.loop-k-test.true)) in
    let here = request_is c.args.choices.now c.args.seed c.loop-k.k c.loop-k.generator c.next_request-request.new.generator _ c.next_request-request.result c.loop-k.invariant.number c.next_request-request.ensures.steps (omega (arith, c.from.ensures)) c.next_request-request.ensures.request in
    record {
      rows = rows_longer c.args.work.now c.args.choices.now c.args.seed c.loop-k.k c.args.objects can c.requires.lines c.loop-k.rows c.add_request.new.rows c.loop-k.invariant.rows (c.in_ok-add_request.ensures ∙ ap (λ r. with_request c.loop-k.rows r) here);
      number = number_is c.args.seed c.loop-k.k c.loop-k.generator c.next_request-request.new.generator c.loop-k.invariant.number c.next_request-request.ensures.steps;
    }
