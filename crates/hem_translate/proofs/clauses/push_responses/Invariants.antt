use Rattle.std.proofs.Common.{◌≡◌, ◌++◌, ◌∷◌, [], map, drop}
use Rattle.hem_module.specs.Module.{equals, has_head}
use Rattle.hem_emit.specs.Names.{awaits}
use Rattle.hem_emit.specs.Clauses.{responses_of}
use Rattle.hem_translate.specs.ByPlace.{clause_at}
use Rattle.hem_translate.proofs.clauses.push_responses.Given as goal

-- the clauses so far and those of the children that are left are all
abbrev pub invariant-loop-kid : goal.invariant-loop-kid
invariant-loop-kid l = l.clauses ++ map (clause_at l.l) (map (λ k. equals (awaits k.1) 0 ∷ has_head (responses_of k) l.id.0 ∷ []) (drop l.kid-index l.kids)) ≡ l.fn.clauses ++ map (clause_at l.l) (map (λ k. equals (awaits k.1) 0 ∷ has_head (responses_of k) l.id.0 ∷ []) l.kids)
