use Rattle.std.proofs.Common.{◌≡◌, take, map}
use Rattle.hem_system.specs.State.{head_at}
use Rattle.hem_system.specs.Steps.{heads_in}
use Rattle.hem_system.specs.Cells.{line_of}
use Rattle.hem_system.specs.declared.lane.Lane.TheVariants.{UpResponses}
use Rattle.hem_system.proofs.possible.response_heads.Given as goal

-- the heads of the children so far
abbrev pub invariant-loop-place : goal.invariant-loop-place
invariant-loop-place l = l.heads.items ≡ heads_in l.kids (map (λ id. head_at (line_of l.cells) id.0 UpResponses) (take l.place l.children))
