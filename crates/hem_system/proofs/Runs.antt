-- Runs of histories.
use Rattle.std.proofs.Common.{◌≡◌, ◌∙◌, refl, sym, List, [], ◌∷◌, ◌++◌, Option, Some, None}
use Rattle.std.specs.Prelude.{option_and_then}
use Rattle.hem_base.specs.declared.ids.Firing.{Firing}
use Rattle.hem_syntax.specs.Protocol.{Protocol}
use Rattle.hem_tree.specs.Tree.{Tree}
use Rattle.hem_system.specs.State.{State, Runs, fire, run}

-- the same after a first step, where that is there
and_then-append : (p : Protocol) (tree : Tree) (h g : List Firing) → ((s : State) → run p tree s (h ++ g) ≡ option_and_then (λ mid. run p tree mid g) (run p tree s h)) → (next : Option State) → option_and_then (λ mid. run p tree mid (h ++ g)) next ≡ option_and_then (λ mid. run p tree mid g) (option_and_then (λ mid. run p tree mid h) next)
and_then-append p tree h g rest None = refl
and_then-append p tree h g rest (Some next) = rest next

-- a run of two lists is a run of the second from where the first led
pub run-append : (p : Protocol) (tree : Tree) (s : State) (h g : List Firing) → run p tree s (h ++ g) ≡ option_and_then (λ mid. run p tree mid g) (run p tree s h)
run-append p tree s [] g = refl
run-append p tree s (f ∷ h) g = and_then-append p tree h g (λ next. run-append p tree next h g) (fire p tree s f)

-- a run goes on by one firing
pub Runs-snoc : {p : Protocol} {tree : Tree} {s mid new : State} {h : List Firing} (f : Firing) → Runs p tree s h mid → fire p tree mid f ≡ Some new → Runs p tree s (h ++ f ∷ []) new
Runs-snoc {p = p} {tree = tree} {s = s} {h = h} f ran leads =
    record { leads = rw (run-append p tree s h (f ∷ []), ran.leads, leads) refl }

-- a history that runs leads to one state
pub run_once : {p : Protocol} {tree : Tree} {s one other : State} {h : List Firing} → Runs p tree s h one → Runs p tree s h other → one ≡ other
run_once a b = let both = sym a.leads ∙ b.leads in cc
