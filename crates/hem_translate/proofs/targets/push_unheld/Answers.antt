use Rattle.std.proofs.Common.{◌≡◌, ◌++◌, ap, ◌∙◌, subst, OnOk, map, Some}
use Rattle.hem_emit.specs.Clauses.{entry_in, not_held_for}
use Rattle.hem_translate.specs.ByPlace.{test_at}
use Rattle.hem_translate.specs.Targets.{aimed}
use Rattle.hem_translate.proofs.Spreads.{aimed_after}
use Rattle.hem_translate.proofs.targets.push_unheld.Goals as goal

pub returns : goal.returns
returns c = subst (λ xs. OnOk c.push_kid.result (c.push_kid.new.targets ≡ c.args.targets.now ++ xs)) (ap (λ f. map (aimed c.args.kid.now (Some f)) (map (test_at c.args.l.now) (entry_in c.args.site.now c.args.set c.args.kid.now))) c.not_held-first.ensures ∙ aimed_after c.args.l.now c.args.kid.now (not_held_for c.args.site.now c.args.side c.args.kid.now) (entry_in c.args.site.now c.args.set c.args.kid.now)) c.push_kid.ensures
