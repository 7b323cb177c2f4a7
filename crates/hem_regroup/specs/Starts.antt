-- Which transactions there are among numbered firings.
use Rattle.std.specs.Prelude.{ℕ, ◌==◌, ◌≡◌, ◌+◌, true, cond, List, [], ◌∷◌}
use Rattle.hem_regroup.specs.declared.numbered.Numbered.{Numbered}
use Rattle.hem_trace.specs.Blocks.{Each}
use Rattle.hem_law.specs.Orders.{stands_in}

-- the numbers of the transactions that begin among firings, the first of which stands at place k: each is the place of its first firing
abbrev pub starts : ℕ → List Numbered → List ℕ
starts k [] = []
starts k (x ∷ xs) = cond (k == x.number) (x.number ∷ starts (k + 1) xs) (starts (k + 1) xs)

-- the number of each firing is among these
abbrev pub AreAmong : List Numbered → List ℕ → Type 0
AreAmong xs left = Each (λ x. stands_in left x.number ≡ true) xs

-- each firing's transaction begins among them
abbrev pub AreStarted : List Numbered → Type 0
AreStarted all = AreAmong all (starts 0 all)
