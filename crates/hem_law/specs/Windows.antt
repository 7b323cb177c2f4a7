-- What may happen at an object while a request that it sent up waits.
use Rattle.std.specs.Prelude.{ℕ, ◌≡◌, ◌<◌, ◌≤◌, Bool, true, false, List, [], ◌∷◌, ◌++◌, map, flat_map, Option, Some, None, slice_get, option_to_list, ◌⊎◌}
use Rattle.hem_base.specs.declared.ids.Firing.{Firing}
use Rattle.hem_base.specs.declared.ids.Kind.{Kind}
use Rattle.hem_syntax.specs.declared.rule.Rule.{Rule}
use Rattle.hem_syntax.specs.declared.rule.Value.{Value}
use Rattle.hem_template.specs.declared.template_name.TemplateName.TheVariants.{ImmUp, RqDownDown, RsUpUp}
use Rattle.hem_syntax.specs.Protocol.{Protocol, rule_named}
use Rattle.hem_object.specs.Local.{Local}
use Rattle.hem_object.specs.Guard.{holds, value_of}
use Rattle.hem_template.specs.Template.{value_sent}
use Rattle.hem_tree.specs.Tree.{Tree, kind_of}
use Rattle.hem_fire.specs.Heads.{Heads}
use Rattle.hem_fire.specs.View.{view_of}
use Rattle.hem_system.specs.State.{State, Line, local_at, place_of_me}
use Rattle.hem_trace.specs.Blocks.{Each}
use Rattle.hem_trace.specs.Order.{Entry, is_upward, anchor_of, is_moved}
use Rattle.hem_trace.specs.Templates.{template_at, is_downward}
use Rattle.hem_law.specs.Chains.{heads_seen, IsChain}
use Rattle.hem_law.specs.Printed.{entries_at}

-- the firings are whole downward blocks: a request of the parent that is answered at once, or one that is passed on and then answered
abbrev pub AreWholeBlocks : Protocol → Tree → List Entry → Type 0
AreWholeBlocks p tree [] = Unit {0}
AreWholeBlocks p tree (x ∷ []) = template_at p tree x.event.firing ≡ Some ImmUp
AreWholeBlocks p tree (x ∷ y ∷ xs) =
    ((template_at p tree x.event.firing ≡ Some ImmUp) × AreWholeBlocks p tree (y ∷ xs))
    ⊎ ((template_at p tree x.event.firing ≡ Some RqDownDown) × (template_at p tree y.event.firing ≡ Some RsUpUp) × AreWholeBlocks p tree xs)

-- in a later local state a firing's guard still holds, and the value that it sends is the same
pub record IsStillPossible (p : Protocol) (tree : Tree) (f : Firing) (before later : Local) (heads : Heads) : Type 0 where
  pub guard : (kind : Kind) (rule : Rule) → kind_of tree f.object.0 ≡ Some kind → rule_named p kind f.rule ≡ Some rule → holds rule.guard later (view_of rule.take (place_of_me tree f.object.0 f.me) before heads) ≡ true
  pub value : (kind : Kind) (rule : Rule) (v : Value) → kind_of tree f.object.0 ≡ Some kind → rule_named p kind f.rule ≡ Some rule → value_sent rule.send ≡ Some v → value_of v later (view_of rule.take (place_of_me tree f.object.0 f.me) before heads) ≡ value_of v before (view_of rule.take (place_of_me tree f.object.0 f.me) before heads)

-- a part of what happens at an object: an upward request that waits, if there is one, and what happens while it waits; without a request any entries
pub record Window : Type 0 where
  pub request : Option Entry
  pub others : List Entry

-- the entries of a window in the order of the history
abbrev pub as_made : Window → List Entry
as_made w = option_to_list w.request ++ w.others

-- and with the request behind the others
abbrev pub as_moved : Window → List Entry
as_moved w = w.others ++ option_to_list w.request

-- the window ends in a state in which its request could be made instead: the others work downward, the downlock is free, and but for the request's lock the guard holds and the value is the same
abbrev pub EndsReady : Protocol → Tree → Option Local → Option Entry → List Entry → Local → Type 0
EndsReady p tree before None others after = Unit {0}
EndsReady p tree before (Some u) others after =
    (is_upward p tree u.event.firing ≡ true)
    × Each (λ x. is_downward p tree x.event.firing ≡ true) others
    × (after.down ≡ None)
    × ((local : Local) → before ≡ Some local → IsStillPossible p tree u.event.firing local (record after { up = None }) (heads_seen tree u.event))

-- windows one after another are a chain, and each ends so
abbrev pub AreWindows : Protocol → Tree → Option Local → List Window → Option Local → Type 0
AreWindows p tree before [] after = before ≡ after
AreWindows p tree before (w ∷ ws) after =
    (mid : Local)
    × IsChain p tree before (map (λ x. x.event) (as_made w)) (Some mid)
    × EndsReady p tree before w.request w.others mid
    × AreWindows p tree (Some mid) ws after

-- a window's place in the normal order: without a request none of its entries is moved; a request is moved, the others are not and stand before its anchor, and what comes later does not
abbrev pub IsPlaced : List Entry → Option Entry → List Entry → List Entry → Type 0
IsPlaced all None others later = Each (λ x. is_moved all x ≡ false) others
IsPlaced all (Some u) others later =
    (is_moved all u ≡ true)
    × Each (λ x. (is_moved all x ≡ false) × (x.place < anchor_of all u.number)) others
    × Each (λ x. anchor_of all u.number ≤ x.place) later

-- so are windows one after another
abbrev pub ArePlaced : List Entry → List Window → Type 0
ArePlaced all [] = Unit {0}
ArePlaced all (w ∷ ws) = IsPlaced all w.request w.others (flat_map as_made ws) × ArePlaced all ws

-- a window is whole: a request in it is an upward one, and what happens while it waits are whole downward blocks
abbrev pub IsWhole : Protocol → Tree → Option Entry → List Entry → Type 0
IsWhole p tree None others = Unit {0}
IsWhole p tree (Some u) others = (is_upward p tree u.event.firing ≡ true) × AreWholeBlocks p tree others

-- at each object what happens is windows: while a request waits that the normal order moves, and until its anchor
pub record HasWindows (p : Protocol) (tree : Tree) (s : State) (es : List Entry) (new : State) : Type 0 where
  pub windows : (l o : ℕ) (line end : Line) → slice_get s l ≡ Some line → slice_get new l ≡ Some end → (ws : List Window) × (entries_at l o es ≡ flat_map as_made ws) × ArePlaced es ws × AreWindows p tree (local_at line o) ws (local_at end o)

-- and these windows are whole
pub record HasWholeWindows (p : Protocol) (tree : Tree) (es : List Entry) : Type 0 where
  pub windows : (l o : ℕ) → (ws : List Window) × (entries_at l o es ≡ flat_map as_made ws) × ArePlaced es ws × Each (λ w. IsWhole p tree w.request w.others) ws
