-- Why a firing that is possible with what waits isn't made.
use Rattle.std.specs.Prelude.{ℕ, ◌≡◌, ◌⊎◌, ◌<◌, ◌≤◌, true, false, Option}
use Rattle.hem_base.specs.declared.ids.Firing.{Firing}
use Rattle.hem_syntax.specs.Protocol.{Protocol}
use Rattle.hem_tree.specs.Tree.{Tree}
use Rattle.hem_system.specs.State.{Effect, place_of_me, own_effect}
use Rattle.hem_system.specs.Ended.{is_self}
use Rattle.hem_parts.specs.Steps.{heads_from}
use Rattle.hem_ends.specs.Ends.{look_of}
use Rattle.hem_choice.specs.Choices.{greatest_stamp, may_send, stamp_after}
use Rattle.hem_turns.specs.OnLine.{OnLine, asked}
use Rattle.hem_worker.specs.LineParts.{known_by}

-- the effect of a firing of the object with what its ends know to wait, where it is possible
abbrev pub effect_there : Protocol → Tree → OnLine → Firing → Option Effect
effect_there p tree line f = own_effect p tree f line.local (heads_from tree (asked line) (known_by tree f.object.0 line.ends) f.object.0 f.me)

-- all self firings are made, or no slot is reserved where it sends, or its stamp would be past the greatest
abbrev pub IsHindered : Protocol → Tree → ℕ → OnLine → Firing → Effect → Type 0
IsHindered p tree self_count line f e =
    ((is_self p tree f ≡ true) × (self_count ≤ line.selfs))
    ⊎ (may_send (look_of line.ends) e.outs.to ≡ false)
    ⊎ (greatest_stamp < stamp_after line.last (look_of line.ends) (place_of_me tree f.object.0 f.me) e.outs)
