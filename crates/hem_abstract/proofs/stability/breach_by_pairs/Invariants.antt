use Rattle.std.proofs.Common.{◌≡◌, drop, cond, [], ◌∷◌}
use Rattle.std.specs.Prelude.{option_map}
use Rattle.hem_abstract.specs.Partners.{pair}
use Rattle.hem_abstract.specs.Stable.{abstract_states, is_of, is_rs_up_up, first_breach}
use Rattle.hem_abstract.specs.First.{first_with}
use Rattle.hem_abstract.specs.Named.{named}
use Rattle.hem_abstract.proofs.stability.breach_by_pairs.Given as goal

-- the first breach is with one of the rules that are left
abbrev pub invariant-loop-second : goal.invariant-loop-second
invariant-loop-second l =
    first_with (λ r. option_map (named l.up.name) (first_breach (abstract_states l.p l.kind) l.up (cond (is_of l.p l.kind is_rs_up_up r) (pair l.down r ∷ []) []))) (drop l.second-index l.rules)
    ≡ first_with (λ r. option_map (named l.up.name) (first_breach (abstract_states l.p l.kind) l.up (cond (is_of l.p l.kind is_rs_up_up r) (pair l.down r ∷ []) []))) l.rules
