use Rattle.std.proofs.Common.{◌≡◌, drop}
use Rattle.std.specs.Prelude.{option_map}
use Rattle.hem_abstract.specs.Stable.{abstract_states, first_breach}
use Rattle.hem_abstract.specs.First.{first_with}
use Rattle.hem_abstract.specs.Named.{named}
use Rattle.hem_abstract.specs.Places.{partners_at}
use Rattle.hem_abstract.proofs.stability.unstable.Given as goal

-- the first breach is at one of the rules that are left
abbrev pub invariant-loop-down : goal.invariant-loop-down
invariant-loop-down l =
    first_with (λ d. option_map (named l.up.name) (first_breach (abstract_states l.p l.kind) l.up (partners_at l.p l.kind d))) (drop l.down-index l.rules)
    ≡ first_with (λ d. option_map (named l.up.name) (first_breach (abstract_states l.p l.kind) l.up (partners_at l.p l.kind d))) l.rules
