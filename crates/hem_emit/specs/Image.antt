-- The image of a line in registers and queues.
use Rattle.std.specs.Prelude.{ℕ, cond, List, map, Option, slice_get}
use Rattle.std.specs.Option.{option_map_or}
use Rattle.hem_base.specs.Sets.{has_bit}
use Rattle.hem_base.specs.declared.ids.Status8.{Status8}
use Rattle.hem_syntax.specs.declared.rule.Side.{Side}
use Rattle.hem_syntax.specs.declared.rule.Side.TheVariants.{Up, Down}
use Rattle.hem_object.specs.declared.state.Lock.{Lock}
use Rattle.hem_object.specs.Local.{Local}
use Rattle.hem_tree.specs.Tree.{Tree, parent_of, children_of, place_among}
use Rattle.hem_fire.specs.Heads.{awaited_of}
use Rattle.hem_system.specs.State.{Line, list_at, local_at}
pub use Rattle.hem_module.specs.States.{item_of}
use Rattle.hem_module.specs.Step.{Held}
use Rattle.hem_emit.specs.Names.{Part, origin, asked, kept, Reg, field, val, lock, entry, awaits, Queue}
use Rattle.hem_emit.specs.Place.{origin_of}

-- one of the two locks
abbrev pub lock_at : Side → Local → Option Lock
lock_at Up local = local.up
lock_at Down local = local.down

-- a part of a lock as a number: 0 where the lock is free
abbrev pub lock_number : List ℕ → Part → Option Lock → ℕ
lock_number kids origin held = option_map_or (λ l. origin_of kids l.by) held 0
lock_number kids asked held = option_map_or (λ l. l.request.id.0) held 0
lock_number kids kept held = option_map_or (λ l. l.request.value) held 0

-- a status as a number
abbrev pub status_number : Option Status8 → ℕ
status_number s = option_map_or (λ s. s.0) s 0

-- what an object's parent keeps of it
abbrev pub in_parent : Tree → Line → ℕ → (ℕ → Local → ℕ) → ℕ
in_parent tree line c f =
    option_map_or (λ high. option_map_or (f (place_among tree high c)) (local_at line high) 0) (parent_of tree c) 0

-- the number of a register
abbrev pub number_of : Tree → Line → Reg → ℕ
number_of tree line (field i o) = option_map_or (λ local. status_number (slice_get local.fields i)) (local_at line o) 0
number_of tree line (val o) = option_map_or (λ local. local.val) (local_at line o) 0
number_of tree line (lock side part o) = option_map_or (λ local. lock_number (children_of tree o) part (lock_at side local)) (local_at line o) 0
number_of tree line (entry c) = in_parent tree line c (λ k local. status_number (slice_get local.dir k))
number_of tree line (awaits c) = in_parent tree line c (λ k local. cond (has_bit (awaited_of local).0 k) 1 0)

-- the image of a line
abbrev pub image : Tree → Line → Held Reg Queue
image tree line =
    record {
      reg = number_of tree line;
      queue = λ q. map item_of (list_at line q.object q.lane);
    }
