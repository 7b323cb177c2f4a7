use Rattle.std.proofs.Common.{◌≡◌, drop}
use Rattle.hem_text.specs.Grammars.{way_at, state}
use Rattle.hem_text.proofs.machine.find_way.Given as goal

abbrev pub invariant-loop-depth : goal.invariant-loop-depth
invariant-loop-depth g l =
    let gr = g.L.Language.grammar in
    way_at gr (state l.env (drop l.depth l.stack)) l.token ≡ way_at gr (state l.env l.stack) l.token
