use Rattle.std.proofs.Common.{ap, sym, ◌∙◌, Option, cond, [], ◌∷◌}
use Rattle.std.specs.Prelude.{option_map}
use Rattle.hem_syntax.specs.declared.rule.Rule.{Rule}
use Rattle.hem_abstract.specs.declared.breach.Breach.{Breach as Told}
use Rattle.hem_abstract.specs.Partners.{pair}
use Rattle.hem_abstract.specs.Stable.{abstract_states, is_of, is_rs_up_up, first_breach}
use Rattle.hem_abstract.specs.First.{first_with}
use Rattle.hem_abstract.specs.Named.{named}
use Rattle.hem_abstract.proofs.Turns.{ends-here, ends-without}
use Rattle.hem_abstract.proofs.Breaches.{pairs-first}
use Rattle.hem_abstract.proofs.stability.breach_by_pairs.Goals as goal

pub returns-in-Some : goal.returns-in-Some
returns-in-Some c =
    let give : Rule → Option Told = (λ r. option_map (named c.args.up.now.name) (first_breach (abstract_states c.args.p.now c.args.kind) c.args.up.now (cond (is_of c.args.p.now c.args.kind is_rs_up_up r) (pair c.args.down.now r ∷ []) []))) in
    ends-here give c.rules-rules.result.now c.loop-second.second-index c.second-item.result c.in-Some.breach c.loop-second-test.true (sym c.in-Some.is ∙ c.breach_with.ensures ∙ ap give c.second-item.is) c.loop-second.invariant
    ∙ ap (first_with give) c.rules-rules.ensures
    ∙ sym (pairs-first c.args.p.now c.args.kind c.args.up.now c.args.down.now c.args.up.now.name)

pub returns : goal.returns
returns c =
    let give : Rule → Option Told = (λ r. option_map (named c.args.up.now.name) (first_breach (abstract_states c.args.p.now c.args.kind) c.args.up.now (cond (is_of c.args.p.now c.args.kind is_rs_up_up r) (pair c.args.down.now r ∷ []) []))) in
    ends-without give c.rules-rules.result.now c.loop-second.second-index c.loop-second-test.false c.loop-second.invariant
    ∙ ap (first_with give) c.rules-rules.ensures
    ∙ sym (pairs-first c.args.p.now c.args.kind c.args.up.now c.args.down.now c.args.up.now.name)
