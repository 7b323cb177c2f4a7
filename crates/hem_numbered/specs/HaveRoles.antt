-- The roles of the transactions of entries.
use Rattle.std.specs.Prelude.{ℕ, ◌≡◌, Bool, true, false, List, map, Option, Some}
use Rattle.std.specs.List.{list_any}
use Rattle.hem_template.specs.declared.template_name.TemplateName.{TemplateName}
use Rattle.hem_template.specs.declared.template_name.TemplateName.TheVariants.{ImmUp, RqUp, RqUpSelf, RqDownDown}
use Rattle.hem_syntax.specs.Protocol.{Protocol}
use Rattle.hem_tree.specs.Tree.{Tree}
use Rattle.hem_trace.specs.Order.{Entry, entries_in}
use Rattle.hem_law.specs.Printed.{entries_at}
use Rattle.hem_trace.specs.Templates.{template_at}
use Rattle.hem_shape.specs.Roles.{is_role}

-- the entries of a transaction at an object of a line
abbrev pub fired_at : ℕ → ℕ → ℕ → List Entry → List Entry
fired_at l o t es = entries_in t (entries_at l o es)

-- the templates of entries, where they have one
abbrev pub templates_of : Protocol → Tree → List Entry → List (Option TemplateName)
templates_of p tree es = map (λ x. template_at p tree x.event.firing) es

-- the templates that each transaction fires at an object are a role there, or the first of one
abbrev pub HaveRoles : Protocol → Tree → List Entry → Type 0
HaveRoles p tree es = (l o t : ℕ) → (ts : List TemplateName) × (templates_of p tree (fired_at l o t es) ≡ map Some ts) × (is_role ts ≡ true)

-- whether a template sends a request to the parent
abbrev pub asks_above : Option TemplateName → Bool
asks_above (Some RqUp) = true
asks_above (Some RqUpSelf) = true
asks_above _ = false

-- whether a template takes a request of the parent
abbrev pub serves_above : Option TemplateName → Bool
serves_above (Some ImmUp) = true
serves_above (Some RqDownDown) = true
serves_above _ = false

-- each transaction goes one way along each edge: at no object does it both send a request to the parent and take one of the parent
abbrev pub GoOneWay : Protocol → Tree → List Entry → Type 0
GoOneWay p tree es =
    (l o t : ℕ) → list_any asks_above (templates_of p tree (fired_at l o t es)) ≡ true → list_any serves_above (templates_of p tree (fired_at l o t es)) ≡ true → ⊥
