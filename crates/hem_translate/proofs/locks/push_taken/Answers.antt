use Rattle.std.proofs.Common.{◌≡◌, ◌++◌, subst, OnOk}
use Rattle.hem_translate.proofs.Spreads.{lock_joined}
use Rattle.hem_translate.proofs.locks.push_taken.Goals as goal

pub returns : goal.returns
returns c = subst (λ xs. OnOk c.push_parts.result (c.push_parts.new.actions ≡ c.args.actions.now ++ xs)) (lock_joined c.args.l.now c.args.p.now c.args.site.now c.args.me c.args.rule.now c.args.side c.args.by c.args.targets.now c.requires) c.push_parts.ensures
