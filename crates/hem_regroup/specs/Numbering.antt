-- Histories as numbered firings.
use Rattle.std.specs.Prelude.{ℕ, ◌≡◌, Bool, false, List, [], ◌∷◌, slice_index_or}
use Rattle.std.specs.Option.{option_map_or}
use Rattle.hem_base.specs.declared.ids.Kind.{Kind}
use Rattle.hem_base.specs.declared.ids.Kind.TheVariants.{Root, Mid, Leaf}
use Rattle.hem_base.specs.declared.ids.RuleId.{RuleId}
use Rattle.hem_base.specs.declared.ids.Firing.{Firing}
use Rattle.hem_syntax.specs.Protocol.{Protocol, rule_named}
use Rattle.hem_template.specs.Template.{template_of}
use Rattle.hem_template.specs.Waiting.{is_upward_template}
use Rattle.hem_tree.specs.Tree.{Tree, level_of}
use Rattle.hem_trace.specs.Order.{is_upward}
use Rattle.hem_regroup.specs.declared.numbered.Numbered.{Numbered}
use Rattle.hem_regroup.specs.declared.upward.UpwardRules.{UpwardRules}

-- a firing with the number of its transaction
abbrev pub numbered_at : Protocol → Tree → Firing → ℕ → Numbered
numbered_at p tree f number = record { number = number; firing = f; level = level_of tree f.object.0; upward = is_upward p tree f }

-- the firings of a history with these numbers
abbrev pub numbered_by : Protocol → Tree → List Firing → List ℕ → List Numbered
numbered_by p tree [] numbers = []
numbered_by p tree (f ∷ h) [] = []
numbered_by p tree (f ∷ h) (n ∷ numbers) = numbered_at p tree f n ∷ numbered_by p tree h numbers

-- whether a kind has a rule of that name that sends a request up and waits
abbrev pub is_upward_rule : Protocol → Kind → RuleId → Bool
is_upward_rule p kind name = option_map_or (λ rule. is_upward_template (template_of p kind rule)) (rule_named p kind name) false

-- what is kept of a kind's rules, by the places of their names
abbrev pub kept_of : UpwardRules → Kind → List Bool
kept_of upward Root = upward.root.items
kept_of upward Mid = upward.mid.items
kept_of upward Leaf = upward.leaf.items

-- of each kind are kept the rules that send a request up and wait
pub record AreUpward (p : Protocol) (upward : UpwardRules) : Type 0 where
  pub are : (kind : Kind) (name : RuleId) → slice_index_or (kept_of upward kind) name.0 false ≡ is_upward_rule p kind name
