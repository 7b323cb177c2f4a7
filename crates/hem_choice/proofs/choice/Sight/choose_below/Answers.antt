use Rattle.std.proofs.Common.{sym, ◌∙◌, ℕ, Option, Some, length, rules}
use Rattle.hem_abstract.proofs.Turns.{number-none, number-some}
use Rattle.hem_choice.specs.Choices.{Choice, choice_with}
use Rattle.hem_choice.proofs.Failing.{nobody_named}
use Rattle.hem_choice.proofs.choice.Sight.choose_below.Goals as goal

pub returns-then-not-names_child : goal.returns-then-not-names_child
returns-then-not-names_child c = nobody_named c.args.p.now c.args.kind c.args.local.now c.args.self.now c.args.rule.now (sym c.names_child.ensures ∙ c.if-not-names_child.true)

pub returns-in-Some : goal.returns-in-Some
returns-in-Some c =
    let give : ℕ → Option Choice = λ place. choice_with c.args.p.now c.args.kind c.args.local.now c.args.self.now c.args.rule.now (Some place) in
    number-some give (length c.args.self.now.look.kids) c.loop-place.place _ (search rules) c.loop-place.invariant (search rules)

pub loop-place-preserved : goal.loop-place-preserved
loop-place-preserved c =
    let give : ℕ → Option Choice = λ place. choice_with c.args.p.now c.args.kind c.args.local.now c.args.self.now c.args.rule.now (Some place) in
    number-none give c.loop-place.place c.loop-place.invariant (search rules)
