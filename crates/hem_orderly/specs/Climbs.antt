-- How a request goes up to its transaction's anchor.
use Rattle.std.specs.Prelude.{ℕ, ◌≡◌, ◌<◌, ◌≤◌, true, List, ◌∷◌, ◌++◌, Some}
use Rattle.hem_template.specs.declared.template_name.TemplateName.{TemplateName}
use Rattle.hem_syntax.specs.Protocol.{Protocol}
use Rattle.hem_tree.specs.Tree.{Tree}
use Rattle.hem_system.specs.State.{Line, Effect, effect_of, run_line}
use Rattle.hem_trace.specs.Blocks.{Each}
use Rattle.hem_trace.specs.Order.{Entry}
use Rattle.hem_law.specs.Lines.{line_firings}
use Rattle.hem_law.specs.Printed.{firings_in}
use Rattle.hem_trace.specs.Templates.{template_at}
use Rattle.hem_windows.specs.Pending.{takes_of, top_after, SendsOn}
use Rattle.hem_orderly.specs.Anchors.{IsIn}

-- the rule of a firing has a template
abbrev pub IsTemplated : Protocol → Tree → Entry → Type 0
IsTemplated p tree x = (t : TemplateName) × (template_at p tree x.event.firing ≡ Some t)

-- up to the anchor at place a each firing on line l that takes the request of top sends it on, and the anchor takes it last
pub record Climbs (p : Protocol) (tree : Tree) (l a top : ℕ) (line : Line) (xs : List Entry) : Type 0 where
  pub before : List Entry
  pub anchor : Entry
  pub later : List Entry
  pub parts : xs ≡ before ++ anchor ∷ later
  pub early : Each (λ y. y.place < a) before
  pub late : Each (λ y. a ≤ y.place) (anchor ∷ later)
  pub templated : Each (IsTemplated p tree) before
  pub sends : SendsOn p tree top (line_firings l (firings_in before))
  pub new : Line
  pub runs : run_line p tree line (line_firings l (firings_in before)) ≡ Some new
  pub effect : Effect
  pub possible : effect_of p tree new anchor.event.firing ≡ Some effect
  pub taken : takes_of (top_after top (line_firings l (firings_in before))) anchor.event.firing ≡ true

-- what a transaction needs on its way to its anchor: before the anchor it only sends upward, and the anchor comes
pub record IsUnderWay (a x : ℕ) (xs : List Entry) : Type 0 where
  pub only_up : Each (λ y. y.number ≡ x → y.place < a → y.upward ≡ true) xs
  pub anchor : Entry
  pub among : IsIn anchor xs
  pub number : anchor.number ≡ x
  pub place : anchor.place ≡ a
