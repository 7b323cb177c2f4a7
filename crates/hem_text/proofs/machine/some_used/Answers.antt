use Rattle.std.proofs.Common.{sym}
use Rattle.hem_text.specs.Grammars.{is_used}
use Rattle.hem_text.proofs.Ways.{any_found, any_none, any_pass}
use Rattle.hem_text.proofs.machine.some_used.Goals as goal

pub returns-then-is_used_in : goal.returns-then-is_used_in
returns-then-is_used_in g c =
    let gr = g.L.Language.grammar in
    any_found gr (λ x. is_used (gr.stands x)) c.args.stack.now c.loop-depth.depth c.at-symbol.result c.at-symbol.ensures c.if-is_used_in.ensures c.loop-depth.invariant

pub returns-then-not-can_pass : goal.returns-then-not-can_pass
returns-then-not-can_pass g c =
    let gr = g.L.Language.grammar in
    any_none gr (λ x. is_used (gr.stands x)) c.args.stack.now c.loop-depth.depth c.at-symbol.result c.at-symbol.ensures c.if-is_used_in.ensures (sym c.if-not-can_pass.ensures) c.loop-depth.invariant

pub loop-depth-preserved : goal.loop-depth-preserved
loop-depth-preserved g c =
    let gr = g.L.Language.grammar in
    any_pass gr (λ x. is_used (gr.stands x)) c.args.stack.now c.loop-depth.depth c.at-symbol.result c.at-symbol.ensures c.if-is_used_in.ensures (sym c.if-not-can_pass.ensures) c.loop-depth.invariant
