-- The bound on self firings, and the states in which a run within it ends.
use Rattle.std.specs.Prelude.{ℕ, ◌≡◌, ◌≤◌, ◌==◌, ◌&&◌, Bool, true, false, List, count_by, Some}
use Rattle.std.specs.Option.{option_map_or}
use Rattle.hem_base.specs.declared.ids.Firing.{Firing}
use Rattle.hem_syntax.specs.declared.rule.Take.{Take}
use Rattle.hem_syntax.specs.declared.rule.Take.TheVariants.{Nothing}
use Rattle.hem_syntax.specs.Protocol.{Protocol, rule_named}
use Rattle.hem_tree.specs.Tree.{Tree, kind_of}
use Rattle.hem_system.specs.State.{State, fire}

-- whether a take is of nothing
abbrev pub takes_nothing : Take → Bool
takes_nothing Nothing = true
takes_nothing _ = false

-- whether a firing is of a self rule: one that takes nothing
abbrev pub is_self : Protocol → Tree → Firing → Bool
is_self p tree f =
    option_map_or (λ kind. option_map_or (λ rule. takes_nothing rule.take) (rule_named p kind f.rule) false)
    (kind_of tree f.object.0) false

-- whether a firing is at that object on that line
abbrev pub is_at : ℕ → ℕ → Firing → Bool
is_at line object f = f.line.0 == line && f.object.0 == object

-- how many self firings an object made on a line
abbrev pub self_firings : Protocol → Tree → List Firing → ℕ → ℕ → ℕ
self_firings p tree h line object = count_by (λ f. is_at line object f && is_self p tree f) h

-- each object has made at most k self firings on each line
abbrev pub Within : Protocol → Tree → List Firing → ℕ → Type 0
Within p tree h k = (line object : ℕ) → self_firings p tree h line object ≤ k

-- after the history the state is an end: only self firings are possible, at objects and lines that have made all of their k
abbrev pub Ended : Protocol → Tree → List Firing → State → ℕ → Type 0
Ended p tree h s k =
    (f : Firing) (next : State) → fire p tree s f ≡ Some next
    → (is_self p tree f ≡ true) × (self_firings p tree h f.line.0 f.object.0 ≡ k)
