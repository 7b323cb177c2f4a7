use Rattle.std.proofs.Common.{◌≡◌, ◌++◌, ◌∷◌, [], subst, OnOk, map}
use Rattle.hem_emit.specs.Clauses.{entry_in}
use Rattle.hem_translate.specs.Targets.{target_at}
use Rattle.hem_translate.proofs.Statuses.{map_spread}
use Rattle.hem_translate.proofs.targets.push_kids.Goals as goal

pub returns : goal.returns
returns c = subst (λ xs. OnOk c.push_each.result (c.push_each.new.targets ≡ c.args.targets.now ++ xs)) (map_spread (target_at c.args.l.now) (λ k. map (λ test. (k, test ∷ [])) (entry_in c.args.site.now c.args.set k)) c.args.kids.now) c.push_each.ensures
