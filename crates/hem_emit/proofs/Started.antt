-- The modules start in the image of a line at the start.
use Rattle.std.proofs.Common.{◌≡◌, refl, ap, sym, ◌∙◌, List, ℕ, [], map, Option, Some, None, zero-add}
use Rattle.std.specs.Prelude.{slice_get, option_map}
use Rattle.std.specs.Option.{option_map_or}
use Rattle.hem_syntax.specs.Protocol.{Protocol}
use Rattle.hem_tree.specs.Tree.{Tree, Node}
use Rattle.hem_system.specs.declared.lane.Lane.{Lane}
use Rattle.hem_system.specs.declared.lane.Lane.TheVariants as lane
use Rattle.hem_system.specs.State.{Cell, list_of, list_at, first_cell, first_line}
use Rattle.hem_system.proofs.Own.{slice_get-map_each}
use Rattle.hem_module.specs.States.{start_of}
use Rattle.hem_emit.specs.Names.{Queue}
use Rattle.hem_emit.specs.Layout.{registers, queues}
use Rattle.hem_emit.specs.Written.{name_of_queue, written_register, modules_of, state_of}
use Rattle.hem_emit.proofs.NumberingRules.{map_map}

-- each list of a line at the start without requests is empty
empty_there : (p : Protocol) (tree : Tree) (o : ℕ) (l : Lane) → list_at (first_line p tree (λ o. [])) o l ≡ []
empty_there p tree o l =
    ap (λ (c : Option Cell). option_map_or (λ cell. list_of cell l) c []) (rw zero-add at (slice_get-map_each (first_cell p tree (λ o. [])) 0 tree o))
    ∙ by_node (slice_get tree o) l
  where
    by_node : (node : Option Node) (l : Lane) → option_map_or (λ cell. list_of cell l) (option_map (first_cell p tree (λ o. []) o) node) [] ≡ []
    by_node None l = refl
    by_node (Some node) lane.UpRequests = refl
    by_node (Some node) lane.UpResponses = refl
    by_node (Some node) lane.Down = refl
    by_node (Some node) lane.Requests = refl
    by_node (Some node) lane.Answers = refl

pub starts_there : (p : Protocol) (tree : Tree) → start_of (modules_of p tree) ≡ state_of p tree (first_line p tree (λ o. []))
starts_there p tree = λ i. record { regs = regs i; queues = lists i }
  where
    regs : map (λ (r : List ℕ × ℕ). r.1) (map (written_register p tree) (registers p tree)) ≡ (state_of p tree (first_line p tree (λ o. []))).regs
    regs = map_map (λ (r : List ℕ × ℕ). r.1) (written_register p tree) (registers p tree)

    lists : map (λ q. []) (map name_of_queue (queues tree)) ≡ map (λ (q : Queue). list_at (first_line p tree (λ o. [])) q.object q.lane) (queues tree)
    lists = map_map (λ q. []) name_of_queue (queues tree) ∙ (λ i. map (λ (q : Queue). sym (empty_there p tree q.object q.lane) i) (queues tree))
