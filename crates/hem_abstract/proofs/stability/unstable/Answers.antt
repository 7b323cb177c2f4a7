use Rattle.std.proofs.Common.{ap, sym, ◌∙◌, Option}
use Rattle.std.specs.Prelude.{option_map}
use Rattle.hem_syntax.specs.declared.rule.Rule.{Rule}
use Rattle.hem_abstract.specs.declared.breach.Breach.{Breach as Told}
use Rattle.hem_abstract.specs.Stable.{abstract_states, first_breach}
use Rattle.hem_abstract.specs.First.{first_with}
use Rattle.hem_abstract.specs.Named.{named}
use Rattle.hem_abstract.specs.Places.{partners_at}
use Rattle.hem_abstract.proofs.Turns.{ends-here, ends-without}
use Rattle.hem_abstract.proofs.Breaches.{unstable-first}
use Rattle.hem_abstract.proofs.stability.unstable.Goals as goal

pub returns-in-Some : goal.returns-in-Some
returns-in-Some c =
    let give : Rule → Option Told = (λ d. option_map (named c.args.up.now.name) (first_breach (abstract_states c.args.p.now c.args.kind) c.args.up.now (partners_at c.args.p.now c.args.kind d))) in
    ends-here give c.rules-rules.result.now c.loop-down.down-index c.down-item.result c.in-Some.breach c.loop-down-test.true (sym c.in-Some.is ∙ c.breach_at.ensures ∙ ap give c.down-item.is) c.loop-down.invariant
    ∙ ap (first_with give) c.rules-rules.ensures
    ∙ sym (unstable-first c.args.p.now c.args.kind c.args.up.now c.args.up.now.name)

pub returns : goal.returns
returns c =
    let give : Rule → Option Told = (λ d. option_map (named c.args.up.now.name) (first_breach (abstract_states c.args.p.now c.args.kind) c.args.up.now (partners_at c.args.p.now c.args.kind d))) in
    ends-without give c.rules-rules.result.now c.loop-down.down-index c.loop-down-test.false c.loop-down.invariant
    ∙ ap (first_with give) c.rules-rules.ensures
    ∙ sym (unstable-first c.args.p.now c.args.kind c.args.up.now c.args.up.now.name)
