-- A history that runs doesn't stop before its end.
use Rattle.std.proofs.Common.{◌≡◌, sym, ap, ◌∙◌, ℕ, zero, suc, List, [], ◌∷◌, None, Some}
use Rattle.std.specs.Prelude.{take, slice_get, option_and_then}
use Rattle.std.proofs.lemmas.Option.{same_Some, none-some}
use Rattle.hem_base.specs.declared.ids.Firing.{Firing}
use Rattle.hem_syntax.specs.Protocol.{Protocol}
use Rattle.hem_tree.specs.Tree.{Tree}
use Rattle.hem_system.specs.State.{State, Runs, fire, run}
use Rattle.hem_system.specs.Replays.{IsIllegal}
use Rattle.hem_invariants.proofs.Choices.{if_some}

stops_not : (p : Protocol) (tree : Tree) (h : List Firing) (place : ℕ) (f : Firing) (s end now : State) → run p tree s h ≡ Some end → slice_get h place ≡ Some f → run p tree s (take place h) ≡ Some now → fire p tree now f ≡ None → ⊥
stops_not p tree [] place f s end now runs there ran stops = cc
stops_not p tree (g ∷ h) zero f s end now runs there ran stops =
    let first = if_some (λ next. run p tree next h) (fire p tree s g) end runs in
    none-some first.0 (sym stops ∙ ap (fire p tree now) (sym (same_Some g f there)) ∙ ap (λ s. fire p tree s g) (sym (same_Some s now ran)) ∙ first.1)
stops_not p tree (g ∷ h) (suc place) f s end now runs there ran stops =
    let first = if_some (λ next. run p tree next h) (fire p tree s g) end runs in
    stops_not p tree h place f first.0 end now first.2 there (sym (ap (option_and_then (λ next. run p tree next (take place h))) first.1) ∙ ran) stops

pub runs_whole : (p : Protocol) (tree : Tree) (s end now : State) (h : List Firing) (place : ℕ) → Runs p tree s h end → IsIllegal p tree s h place now → ⊥
runs_whole p tree s end now h place runs illegal = stops_not p tree h place illegal.firing s end now runs.leads illegal.there illegal.runs.leads illegal.stops
