-- Playing modules: at each turn the first rule in text order that isn't spontaneous and can fire.
use Rattle.std.specs.Prelude.{ℕ, zero, suc, ◌≡◌, ◌≤◌, Bool, false, not, ◌&&◌, find, Option, Some, is_none, option_and_then}
use Rattle.hem_module.specs.declared.rules.ModRule.{ModRule}
use Rattle.hem_module.specs.declared.turns.Played.{Played}
use Rattle.hem_module.specs.Modules.{Modules}
use Rattle.hem_module.specs.States.{State, can_fire, stepped}

-- a rule that is played: one that isn't spontaneous and can fire
abbrev pub can_play : State → ModRule → Bool
can_play s rule = not rule.spontaneous && can_fire s rule

-- the first such rule in text order
abbrev pub first_rule : Modules → State → Option ModRule
first_rule m s = find (can_play s) m.rules

-- the state after so many turns, where each has a rule
abbrev pub turns : ℕ → Modules → State → Option State
turns zero m s = Some s
turns (suc n) m s = option_and_then (λ rule. turns n m (stepped s rule)) (first_rule m s)

-- so many firings are made at most, and they lead to the new state; fewer only where no rule is left there, and `stuck` says whether one is
pub record IsPlayed (m : Modules) (old : State) (most : ℕ) (new : State) (played : Played) : Type 0 where
  pub turns : turns played.fired m old ≡ Some new
  pub few : played.fired ≤ most
  pub stuck : played.stuck ≡ is_none (first_rule m new)
  pub all : played.stuck ≡ false → played.fired ≡ most

-- the new state is reached by at most so many turns
pub record IsReached (m : Modules) (old : State) (most : ℕ) (new : State) : Type 0 where
  pub count : ℕ
  pub few : count ≤ most
  pub turns : turns count m old ≡ Some new
