use Rattle.std.proofs.Common.{◌≡◌, ◌++◌, subst, OnOk}
use Rattle.hem_emit.specs.Clauses.{entry_in}
use Rattle.hem_translate.proofs.Spreads.{aimed_alone}
use Rattle.hem_translate.proofs.targets.push_one.Goals as goal

pub returns : goal.returns
returns c = subst (λ xs. OnOk c.push_kid.result (c.push_kid.new.targets ≡ c.args.targets.now ++ xs)) (aimed_alone c.args.l.now c.args.kid.now (entry_in c.args.site.now c.args.set c.args.kid.now)) c.push_kid.ensures
