-- Turns one after another.
use Rattle.std.proofs.Common.{◌≡◌, ◌∙◌, sym, ap, ℕ, zero, suc, ◌+◌, arith, Some, None, Option}
use Rattle.std.specs.Prelude.{option_and_then}
use Rattle.hem_module.specs.declared.rules.ModRule.{ModRule}
use Rattle.hem_module.specs.Modules.{Modules}
use Rattle.hem_module.specs.States.{State, stepped}
use Rattle.hem_module.specs.Turns.{first_rule, turns}

turn_more : (n : ℕ) (m : Modules) (s t : State) (rule : ModRule) → turns n m s ≡ Some t → first_rule m t ≡ Some rule → turns (suc n) m s ≡ Some (stepped t rule)
turn_more zero m s t rule is first =
    let same : s ≡ t = cc is in
    let first_of : first_rule m s ≡ Some rule = ap (first_rule m) same ∙ first in
    ap (option_and_then (λ r. Some (stepped s r))) first_of ∙ ap (λ u. Some (stepped u rule)) same
turn_more (suc n) m s t rule is first = go (first_rule m s) is (λ r after. turn_more n m (stepped s r) t rule after first)
  where
    go : (o : Option ModRule) → option_and_then (λ r. turns n m (stepped s r)) o ≡ Some t → ((r : ModRule) → turns n m (stepped s r) ≡ Some t → turns (suc n) m (stepped s r) ≡ Some (stepped t rule)) → option_and_then (λ r. turns (suc n) m (stepped s r)) o ≡ Some (stepped t rule)
    go None is step = absurd (let clash : None ≡ Some t = is in cc clash)
    go (Some r) is step = step r is

-- a turn more
pub next_turn : (n : ℕ) (m : Modules) (s t u : State) (rule : ModRule) → turns n m s ≡ Some t → Some rule ≡ first_rule m t → u ≡ stepped t rule → turns (n + 1) m s ≡ Some u
next_turn n m s t u rule is first leads =
    let e : n + 1 ≡ suc n = omega arith in
    ap (λ k. turns k m s) e ∙ turn_more n m s t rule is (sym first) ∙ ap Some (sym leads)
