use Rattle.std.proofs.Common.{sym}
use Rattle.hem_text.specs.Grammars.{is_plain}
use Rattle.hem_text.proofs.Ways.{all_found, all_none, all_pass}
use Rattle.hem_text.proofs.machine.only_plain.Goals as goal

pub returns-then-not-is_plain_in : goal.returns-then-not-is_plain_in
returns-then-not-is_plain_in g c =
    let gr = g.L.Language.grammar in
    all_found gr (λ x. is_plain (gr.stands x)) c.args.stack.now c.loop-depth.depth c.at-symbol.result c.at-symbol.ensures c.if-not-is_plain_in.ensures c.loop-depth.invariant

pub returns-then-not-can_pass : goal.returns-then-not-can_pass
returns-then-not-can_pass g c =
    let gr = g.L.Language.grammar in
    all_none gr (λ x. is_plain (gr.stands x)) c.args.stack.now c.loop-depth.depth c.at-symbol.result c.at-symbol.ensures c.if-not-is_plain_in.ensures (sym c.if-not-can_pass.ensures) c.loop-depth.invariant

pub loop-depth-preserved : goal.loop-depth-preserved
loop-depth-preserved g c =
    let gr = g.L.Language.grammar in
    all_pass gr (λ x. is_plain (gr.stands x)) c.args.stack.now c.loop-depth.depth c.at-symbol.result c.at-symbol.ensures c.if-not-is_plain_in.ensures (sym c.if-not-can_pass.ensures) c.loop-depth.invariant
