use Rattle.std.proofs.Common.{sym, subst}
use Rattle.hem_syntax.specs.Lawful.{IsProtocol}
use Rattle.hem_regroup.proofs.Handed.{history_of, numbered_of, told}
use Rattle.hem_regroup.proofs.replayed.replay_and_regroup.Goals as goal

pub blocks_of_history-requires : goal.blocks_of_history-requires
blocks_of_history-requires g c =
    let p = c.protocol-p.result.now in
    let tree = c.args.tree.now in
    let work = c.args.work.now in
    let h = c.args.history.now in
    numbered_of p tree work h c.in_ok-end.field-0.numbers.items _
    (history_of p tree work h _ (subst IsProtocol (sym c.protocol-p.ensures.same) c.known.ensures.protocol) c.protocol-p.ensures.disciplined c.known.ensures.shape c.in_ok-end.ensures.runs)
    c.in_ok-end.ensures.numbers

pub returns-clause-printed_order : goal.returns-clause-printed_order
returns-clause-printed_order g c =
    (told c.protocol-p.result.now c.args.a.now c.args.tree.now c.args.work.now c.args.history.now c.in_ok-end.field-0.numbers.items _ c.in_ok-blocks.blocks.items c.protocol-p.ensures.same c.known.ensures.protocol c.protocol-p.ensures.disciplined c.known.ensures.shape c.in_ok-end.ensures.runs
    c.in_ok-end.ensures.numbers
    (λ it. c.in_ok-blocks.ensures it)).printed

pub returns-clause-serial : goal.returns-clause-serial
returns-clause-serial g c =
    (told c.protocol-p.result.now c.args.a.now c.args.tree.now c.args.work.now c.args.history.now c.in_ok-end.field-0.numbers.items _ c.in_ok-blocks.blocks.items c.protocol-p.ensures.same c.known.ensures.protocol c.protocol-p.ensures.disciplined c.known.ensures.shape c.in_ok-end.ensures.runs
    c.in_ok-end.ensures.numbers
    (λ it. c.in_ok-blocks.ensures it)).serial

pub returns-clause-same_firings : goal.returns-clause-same_firings
returns-clause-same_firings g c =
    (told c.protocol-p.result.now c.args.a.now c.args.tree.now c.args.work.now c.args.history.now c.in_ok-end.field-0.numbers.items _ c.in_ok-blocks.blocks.items c.protocol-p.ensures.same c.known.ensures.protocol c.protocol-p.ensures.disciplined c.known.ensures.shape c.in_ok-end.ensures.runs
    c.in_ok-end.ensures.numbers
    (λ it. c.in_ok-blocks.ensures it)).same
