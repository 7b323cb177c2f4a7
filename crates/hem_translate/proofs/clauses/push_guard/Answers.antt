use Rattle.std.proofs.Common.{◌≡◌, ◌++◌, subst, OnOk}
use Rattle.hem_translate.specs.Askers.{asker_is}
use Rattle.hem_emit.specs.Clauses.{atom_clauses}
use Rattle.hem_translate.specs.ByPlace.{clause_at}
use Rattle.hem_translate.proofs.Statuses.{map_spread}
use Rattle.hem_translate.proofs.clauses.push_guard.Goals as goal

pub returns : goal.returns
returns c = subst (λ xs. OnOk c.push_each_atom.result (c.push_each_atom.new.clauses ≡ c.args.clauses.now ++ xs)) (map_spread (clause_at c.args.l.now) (atom_clauses c.args.site.now (asker_is c.args.who)) c.args.guard.now) c.push_each_atom.ensures
