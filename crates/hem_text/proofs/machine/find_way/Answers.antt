use Rattle.std.proofs.Common.{◌≡◌, ◌+◌, cond, refl, sym}
use Rattle.hem_text.specs.Grammars.{comes_again, heads}
use Rattle.hem_text.proofs.Ways.{found_way, no_way, pass_way, find_passes}
use Rattle.hem_text.proofs.machine.find_way.Goals as goal
use Rattle.hem_text.proofs.machine.find_way.Goals.{then-comes_again, else-comes_again}

pub returns-in-Some-clause-way : goal.returns-in-Some-clause-way
returns-in-Some-clause-way g c =
    let t = c.args.token.now in
    let k : c.if-comes_again.past ≡ cond (comes_again c.at-symbol.result) c.loop-depth.depth (c.loop-depth.depth + 1) = elim c.if-comes_again.branch [
      | then-comes_again w ↦ rw (w.past-is, ← w.if-comes_again.ensures) refl
      | else-comes_again w ↦ rw (w.past-is, ← w.if-comes_again.ensures) refl
    ] in
    found_way g.L.Language.grammar c.args.env.now t c.args.stack.now c.loop-depth.depth c.at-symbol.result c.in-Some.terminal c.if-comes_again.past c.at-symbol.ensures c.in-Some.ensures c.loop-depth.invariant k

pub returns-in-Some-clause-spelled : goal.returns-in-Some-clause-spelled
returns-in-Some-clause-spelled g c =
    let t = c.args.token.now in
    let gr = g.L.Language.grammar in
    find_passes (λ x. gr.spells c.args.env.now x t) (heads gr c.at-symbol.result) c.in-Some.terminal (sym c.in-Some.ensures)

pub returns-then-not-can_pass-clause-way : goal.returns-then-not-can_pass-clause-way
returns-then-not-can_pass-clause-way g c =
    let t = c.args.token.now in
    no_way g.L.Language.grammar c.args.env.now t c.args.stack.now c.loop-depth.depth c.at-symbol.result c.at-symbol.ensures c.in_default.ensures (sym c.if-not-can_pass.ensures) c.loop-depth.invariant

pub loop-depth-preserved : goal.loop-depth-preserved
loop-depth-preserved g c =
    let t = c.args.token.now in
    pass_way g.L.Language.grammar c.args.env.now t c.args.stack.now c.loop-depth.depth c.at-symbol.result c.at-symbol.ensures c.in_default.ensures (sym c.if-not-can_pass.ensures) c.loop-depth.invariant
