-- What a rule asks first: the message that it takes or, for a self rule, that it isn't spent, and then its locks and fields.
use Rattle.std.specs.Prelude.{ℕ, ◌≡◌, nat_le, Bool, true, false, ◌&&◌, not, List, Option, Some, slice_get, is_some}
use Rattle.std.specs.List.{list_all}
use Rattle.hem_base.specs.declared.ids.Kind.{Kind}
use Rattle.hem_base.specs.declared.ids.Message.{Message}
use Rattle.hem_base.specs.declared.ids.MsgId.{MsgId}
use Rattle.hem_base.specs.declared.ids.ObjectId.{ObjectId}
use Rattle.hem_base.specs.declared.ids.Firing.{Firing}
use Rattle.hem_syntax.specs.declared.rule.Rule.{Rule}
use Rattle.hem_syntax.specs.declared.rule.Atom.{Atom}
use Rattle.hem_syntax.specs.declared.rule.Atom.TheVariants as atom
use Rattle.hem_syntax.specs.declared.rule.Take.{Take}
use Rattle.hem_syntax.specs.declared.rule.Take.TheVariants as take
use Rattle.hem_syntax.specs.Protocol.{Protocol, rule_named}
use Rattle.hem_object.specs.Local.{Local}
use Rattle.hem_object.specs.Guard.{is_in}
use Rattle.hem_fire.specs.Heads.{has_id}
use Rattle.hem_fire.specs.Locks.{need_holds}
use Rattle.hem_tree.specs.Tree.{Tree, kind_of}
use Rattle.hem_system.specs.declared.lane.Lane.{Lane}
use Rattle.hem_system.specs.declared.lane.Lane.TheVariants.{UpRequests, Down, Requests}
use Rattle.hem_system.specs.State.{State}
use Rattle.hem_system.specs.Laws.{list_in, local_in}
use Rattle.hem_system.specs.Ended.{self_firings}

-- the first message of a list has the id
abbrev pub is_first : State → ℕ → ℕ → Lane → MsgId → Bool
is_first s l o lane id = has_id (slice_get (list_in s l o lane) 0) id

-- what is seen of an object on a line before any rule is tried
pub record Glance : Type 0 where
  pub local : Local
  pub request : Option Message
  pub down : Option Message
  pub are_selfs_spent : Bool

-- the local state, the first messages of the object's own lists, and whether it has made all of its self firings
pub record IsGlance (p : Protocol) (tree : Tree) (k : ℕ) (h : List Firing) (s : State) (l o : ℕ) (g : Glance) : Type 0 where
  pub local : local_in s l o ≡ Some g.local
  pub request : g.request ≡ slice_get (list_in s l o Requests) 0
  pub down : g.down ≡ slice_get (list_in s l o Down) 0
  pub spent : g.are_selfs_spent ≡ nat_le k (self_firings p tree h l o)

-- what a firing of a rule with that take asks first, where it names no child
abbrev pub asks_alone : Glance → Take → Bool
asks_alone g (take.Me id) = has_id g.request id
asks_alone g (take.Parent id) = has_id g.down id
asks_alone g (take.Kids id) = is_some g.local.down
asks_alone g take.Nothing = not g.are_selfs_spent

-- what a firing of a rule with that take asks first of the child that it names
abbrev pub asks_child : State → ℕ → Take → Option ObjectId → Bool
asks_child s l (take.Me id) (Some child) = is_first s l child.0 UpRequests id
asks_child s l _ me = false

-- whether a rule with that take names a child, on an object that has some
abbrev pub names_child : Take → Bool
names_child (take.Me id) = true
names_child _ = false

-- a condition that is on a field holds; any other passes
abbrev pub field_holds : Local → Atom → Bool
field_holds local (atom.Field i set) = is_in set (slice_get local.fields i)
field_holds local _ = true

-- both locks are as a rule needs them, and the fields are as its guard wants them
abbrev pub is_open : Rule → Local → Bool
is_open rule local = need_holds rule.need.up local.up && need_holds rule.need.down local.down && list_all (field_holds local) rule.guard

-- a rule that objects of this kind have
pub record IsRuleOf (p : Protocol) (tree : Tree) (o : ℕ) (rule : Rule) : Type 0 where
  pub kind : Kind
  pub kind_is : kind_of tree o ≡ Some kind
  pub rule_is : rule_named p kind rule.name ≡ Some rule
