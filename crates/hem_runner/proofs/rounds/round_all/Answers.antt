use Rattle.std.proofs.Common.{rules}
use Rattle.std.proofs.lemmas.Option.{slice_get-get_or}
use Rattle.std.specs.Prelude.{nat_lt}
use denote.Param.Send.{sendable}
use Rattle.hem_crew.specs.Rounds.{IsTurn}
use Rattle.hem_runner.proofs.Shares.{turned-round}
use Rattle.hem_runner.proofs.rounds.round_all.Goals as goal

pub turn_all-requires-after_bounds : goal.turn_all-requires-after_bounds
turn_all-requires-after_bounds g c κs within = λ k d lt p same. (rw same (c.requires.burst, c.requires.room k _ (slice_get-get_or c.args.crew.now k d lt)), search (rules, sendable))

pub returns : goal.returns
returns g c = turned-round _ _ c.args.p.now (λ x y n t. let h : IsTurn c.args.p.now (nat_lt 0 n) t.argument.now t.after_call.now = t.call in rw (← t.argument_is, ← t.left) h) _ _ _ c.turn_all.ensures
