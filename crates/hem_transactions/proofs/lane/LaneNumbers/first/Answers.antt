use Rattle.std.proofs.Common.{◌≡◌, ◌∙◌, sym, ap, ℕ, List, [], None}
use Rattle.std.specs.Prelude.{slice_get, unwrap_or}
use Rattle.std.proofs.lemmas.Option.{unwrap_or-slice_get}
use Rattle.hem_transactions.specs.Carried.{numbers_at}
use Rattle.hem_transactions.proofs.lane.LaneNumbers.first.Goals as goal

-- an object that isn't there has no message
absent : (lists now : List (List ℕ)) (k : ℕ) → lists ≡ now → slice_get lists k ≡ None → None ≡ slice_get (numbers_at now k) 0
absent lists now k is none =
    sym (ap (λ xs. slice_get xs 0) (sym (unwrap_or-slice_get now k []) ∙ ap (λ found. unwrap_or found []) (ap (λ xs. slice_get xs k) (sym is) ∙ none)))

pub returns-in-None : goal.returns-in-None
returns-in-None c = absent c.self.inside.queues c.args.self.now c.args.object.0 c.self.view_is (sym c.in-None.ensures)
