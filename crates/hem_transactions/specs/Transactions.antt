-- How often a transaction fires at an object.
use Rattle.std.specs.Prelude.{ℕ, ◌≤◌, ◌==◌, ◌&&◌, List}
use Rattle.std.specs.List.{count_by, zip}
use Rattle.hem_base.specs.declared.ids.Firing.{Firing}
use Rattle.hem_system.specs.Ended.{is_at}

-- how many firings of a history are at object o of line l and of the transaction with that number, where these are the firings' numbers
abbrev pub firings_at : List Firing → List ℕ → ℕ → ℕ → ℕ → ℕ
firings_at h numbers l o number = count_by (λ x. is_at l o x.0 && x.1 == number) (zip h numbers)

-- each transaction has at most three firings at each object of each line
pub record FireAtMostThrice (h : List Firing) (numbers : List ℕ) : Type 0 where
  pub few : (l o number : ℕ) → firings_at h numbers l o number ≤ 3
