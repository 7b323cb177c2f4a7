use Rattle.std.proofs.Common.{◌≡◌, ◌++◌, subst, OnOk}
use Rattle.hem_emit.specs.Clauses.{entry_in}
use Rattle.hem_translate.specs.ByPlace.{test_at}
use Rattle.hem_translate.proofs.Statuses.{map_spread}
use Rattle.hem_translate.proofs.clauses.push_entries.Goals as goal

pub returns : goal.returns
returns c = subst (λ xs. OnOk c.push_each_entry.result (c.push_each_entry.new.atoms ≡ c.args.atoms.now ++ xs)) (map_spread (test_at c.args.l.now) (entry_in c.args.site.now c.args.set) c.args.kids.now) c.push_each_entry.ensures
