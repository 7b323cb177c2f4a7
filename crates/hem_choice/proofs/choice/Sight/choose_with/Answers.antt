use Rattle.std.proofs.Common.{ap, sym, ◌∙◌}
use Rattle.hem_fire.specs.Plans.{plan_of}
use Rattle.hem_choice.specs.Choices.{choice_by, is_spent, heads_of}
use Rattle.hem_choice.proofs.Places.{with-plan, without-plan}
use Rattle.hem_choice.proofs.choice.Sight.choose_with.Goals as goal

pub returns-in-Some : goal.returns-in-Some
returns-in-Some c =
    c.choose_by.ensures
    ∙ with-plan (is_spent c.args.self.now c.args.rule.now.take) (plan_of c.args.p.now c.args.kind c.args.rule.now c.args.me c.args.local.now (heads_of c.args.self.now c.args.me)) c.in-Some.plan (choice_by c.args.self.now c.args.rule.now c.args.me)
    (sym c.is_spent.ensures ∙ c.if-is_spent.false)
    (sym (c.of.ensures ∙ ap (plan_of c.args.p.now c.args.kind c.args.rule.now c.args.me c.args.local.now) c.put_heads.ensures) ∙ c.in-Some.is)

pub returns-in-None : goal.returns-in-None
returns-in-None c =
    without-plan (is_spent c.args.self.now c.args.rule.now.take) (plan_of c.args.p.now c.args.kind c.args.rule.now c.args.me c.args.local.now (heads_of c.args.self.now c.args.me)) (choice_by c.args.self.now c.args.rule.now c.args.me)
    (sym c.is_spent.ensures ∙ c.if-is_spent.false)
    (sym (c.of.ensures ∙ ap (plan_of c.args.p.now c.args.kind c.args.rule.now c.args.me c.args.local.now) c.put_heads.ensures) ∙ c.in-None.is)
