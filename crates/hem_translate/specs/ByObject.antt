-- The registers, queues and rules of an object of a tree.
use Rattle.std.specs.Prelude.{ℕ, List, [], ◌∷◌, map}
use Rattle.std.specs.List.{flat_map}
use Rattle.std.specs.Option.{option_map_or}
use Rattle.hem_base.specs.declared.ids.Kind.{Kind}
use Rattle.hem_syntax.specs.Protocol.{Protocol}
use Rattle.hem_tree.specs.Tree.{Tree, kind_of}
use Rattle.hem_module.specs.declared.rules.ModRule.{ModRule}
use Rattle.hem_emit.specs.Names.{Reg, entry, awaits, Queue}
use Rattle.hem_emit.specs.Layout.{registers_at, queues_at}
use Rattle.hem_emit.specs.Emit.{place_of, rules_at}
use Rattle.hem_translate.specs.ByPlace.{Places, rule_by_places}

-- the registers that are kept of children
abbrev pub registers_of_kids : List ℕ → List Reg
registers_of_kids kids = flat_map (λ c. entry c ∷ awaits c ∷ []) kids

-- the registers of an object of a tree
unfoldable pub object_registers : Protocol → Tree → ℕ → List Reg
object_registers p tree o = option_map_or (registers_at p tree o) (kind_of tree o) []

-- the queues of an object of a tree
unfoldable pub object_queues : Tree → ℕ → List Queue
object_queues tree o = option_map_or (λ kind. queues_at kind o) (kind_of tree o) []

-- the rules of an object of a kind, by the places of registers and queues
abbrev pub rules_by : Places → Protocol → Tree → ℕ → Kind → List ModRule
rules_by l p tree o kind = map (rule_by_places l) (rules_at p (place_of p tree o kind))

-- the rules of an object of a tree
unfoldable pub object_rules : Places → Protocol → Tree → ℕ → List ModRule
object_rules l p tree o = option_map_or (rules_by l p tree o) (kind_of tree o) []
