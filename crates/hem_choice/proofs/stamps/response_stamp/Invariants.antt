use Rattle.std.proofs.Common.{◌≡◌, cond}
use Rattle.hem_base.specs.Sets.{has_bit}
use Rattle.hem_choice.specs.Choices.{greatest, response_stamps, stamp_in}
use Rattle.hem_choice.proofs.Places.{greatest_left}
use Rattle.hem_choice.proofs.stamps.response_stamp.Given as goal

abbrev pub invariant-loop-place : goal.invariant-loop-place
invariant-loop-place l = greatest_left (λ k kid. cond (has_bit l.set.0 k) (stamp_in kid.response) 0) l.greatest l.place l.kids ≡ greatest (response_stamps l.set l.kids)
