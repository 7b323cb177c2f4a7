-- The registers and queues by object are all registers and queues in text order.
use Rattle.std.proofs.Common.{◌≡◌, refl, ap, ◌∙◌, ℕ, ◌+◌, arith, List, [], ◌∷◌, length, map, Some}
use Rattle.std.specs.Prelude.{slice_get, option_map}
use Rattle.std.specs.List.{flat_map}
use Rattle.std.specs.Option.{option_map_or}
use Rattle.hem_base.specs.declared.ids.ObjectId.{ObjectId}
use Rattle.hem_syntax.specs.Protocol.{Protocol}
use Rattle.hem_tree.specs.Tree.{Tree, Node, below}
use Rattle.hem_emit.specs.Names.{entry, awaits}
use Rattle.hem_emit.specs.Layout.{registers_at, registers, queues_at, queues}
use Rattle.hem_translate.specs.ByObject.{registers_of_kids, object_registers, object_queues}
use Rattle.hem_translate.proofs.Further.{spread_below}

-- the registers that are kept of these children
pub kids_laid : (children : List ObjectId) → flat_map (λ c. entry c.0 ∷ awaits c.0 ∷ []) children ≡ registers_of_kids (map (λ c. c.0) children)
kids_laid [] = refl
kids_laid (c ∷ children) = ap (λ rs. entry c.0 ∷ awaits c.0 ∷ rs) (kids_laid children)

-- all registers
pub registers_laid : (p : Protocol) (tree : Tree) → flat_map (object_registers p tree) (below (length tree)) ≡ registers p tree
unfolding object_registers
registers_laid p tree = spread_below (object_registers p tree) (λ node. registers_at p tree node.0 node.1.kind) 0 tree here
  where
    here : (o : ℕ) (node : Node) → slice_get tree o ≡ Some node → object_registers p tree o ≡ registers_at p tree (0 + o) node.kind
    here o node at =
        let same : o ≡ 0 + o = omega arith in
        ap (λ n. option_map_or (registers_at p tree o) (option_map (λ (m : Node). m.kind) n) []) at
        ∙ ap (λ k. registers_at p tree k node.kind) same

-- all queues
pub queues_laid : (tree : Tree) → flat_map (object_queues tree) (below (length tree)) ≡ queues tree
unfolding object_queues
queues_laid tree = spread_below (object_queues tree) (λ node. queues_at node.1.kind node.0) 0 tree here
  where
    here : (o : ℕ) (node : Node) → slice_get tree o ≡ Some node → object_queues tree o ≡ queues_at node.kind (0 + o)
    here o node at =
        let same : o ≡ 0 + o = omega arith in
        ap (λ n. option_map_or (λ kind. queues_at kind o) (option_map (λ (m : Node). m.kind) n) []) at
        ∙ ap (queues_at node.kind) same
