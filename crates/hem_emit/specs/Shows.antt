-- What a state of modules must show at an object so that its rules can be read there.
use Rattle.std.specs.Prelude.{ℕ, ◌≡◌, ◌<◌, cond, List, [], length, Option, Some, slice_get, option_map}
use Rattle.hem_base.specs.Sets.{has_bit}
use Rattle.hem_base.specs.declared.ids.Kind.{Kind}
use Rattle.hem_base.specs.declared.ids.Kind.TheVariants.{Leaf}
use Rattle.hem_base.specs.declared.ids.Message.{Message}
use Rattle.hem_base.specs.declared.ids.Status8.{Status8}
use Rattle.hem_syntax.specs.declared.rule.Side.{Side}
use Rattle.hem_object.specs.Local.{Local}
use Rattle.hem_fire.specs.Heads.{Heads, awaited_of}
use Rattle.hem_module.specs.Step.{Held, head_of}
use Rattle.hem_emit.specs.Names.{Part, Reg, field, val, lock, entry, awaits, Queue}
use Rattle.hem_emit.specs.Place.{Place}
use Rattle.hem_emit.specs.Clauses.{requests_of, parent_queue, responses_of}
use Rattle.hem_emit.specs.Image.{item_of, lock_at, lock_number, status_number}

-- the children of an object: none of a leaf; they have numbers above 0, and different places have different children
pub record AreKids (kind : Kind) (kids : List ℕ) : Type 0 where
  pub of_leaf : kind ≡ Leaf → kids ≡ []
  pub above : (k c : ℕ) → slice_get kids k ≡ Some c → 0 < c
  pub apart : (j k c : ℕ) → slice_get kids j ≡ Some c → slice_get kids k ≡ Some c → j ≡ k

-- the registers show a local state, with a number for each child, and the queues have these heads
pub record Shows (at : Place) (me : Option ℕ) (local : Local) (heads : Heads) (s : Held Reg Queue) : Type 0 where
  pub fields : (i : ℕ) (status : Status8) → slice_get local.fields i ≡ Some status → s.reg (field i at.object) ≡ status.0
  pub value : s.reg (val at.object) ≡ local.val
  pub locks : (side : Side) (part : Part) → s.reg (lock side part at.object) ≡ lock_number at.kids part (lock_at side local)
  pub dir_count : length local.dir ≡ length at.kids
  pub entries : (k c : ℕ) (status : Status8) → slice_get at.kids k ≡ Some c → slice_get local.dir k ≡ Some status → s.reg (entry c) ≡ status.0
  pub awaited : (k c : ℕ) → slice_get at.kids k ≡ Some c → s.reg (awaits c) ≡ cond (has_bit (awaited_of local).0 k) 1 0
  pub requests : head_of s (requests_of at me) ≡ option_map item_of heads.request
  pub parent : head_of s (parent_queue at) ≡ option_map item_of heads.parent
  pub head_count : length heads.kids ≡ length at.kids
  pub responses : (k c : ℕ) (head : Option Message) → slice_get at.kids k ≡ Some c → slice_get heads.kids k ≡ Some head → head_of s (responses_of (k, c)) ≡ option_map item_of head

-- the registers of an object and of its children, where they stand for what it keeps, show a local state
pub record ShowsRegisters (at : Place) (local : Local) (s : Held Reg Queue) : Type 0 where
  pub fields : (i : ℕ) → i < length local.fields → s.reg (field i at.object) ≡ status_number (slice_get local.fields i)
  pub value : s.reg (val at.object) ≡ local.val
  pub locks : (side : Side) (part : Part) → s.reg (lock side part at.object) ≡ lock_number at.kids part (lock_at side local)
  pub entries : (k c : ℕ) → slice_get at.kids k ≡ Some c → s.reg (entry c) ≡ status_number (slice_get local.dir k)
  pub awaited : (k c : ℕ) → slice_get at.kids k ≡ Some c → s.reg (awaits c) ≡ cond (has_bit (awaited_of local).0 k) 1 0
