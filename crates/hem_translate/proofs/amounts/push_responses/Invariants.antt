use Rattle.std.proofs.Common.{◌≡◌, ◌++◌, map, drop}
use Rattle.hem_module.specs.Module.{head_value}
use Rattle.hem_emit.specs.Clauses.{responses_of}
use Rattle.hem_emit.specs.Actions.{is_first_awaited}
use Rattle.hem_translate.specs.Amounts.{counted_at}
use Rattle.hem_translate.proofs.amounts.push_responses.Given as goal

-- the amounts so far and those of the children that are left are all
abbrev pub invariant-loop-kid : goal.invariant-loop-kid
invariant-loop-kid l = l.amounts ++ map (counted_at l.l) (map (λ k. (is_first_awaited l.site k, head_value (responses_of k))) (drop l.kid-index l.kids)) ≡ l.fn.amounts ++ map (counted_at l.l) (map (λ k. (is_first_awaited l.site k, head_value (responses_of k))) l.kids)
