-- What every work keeps.
use Rattle.std.specs.Prelude.{ℕ, ◌+◌, ◌*◌, ◌<◌, ◌≤◌, ◌≡◌, ◌≢◌, [], length, slice_index_or, Some, None, All}
use Rattle.hem_base.specs.declared.ids.Message.{Message}
use Rattle.hem_base.specs.declared.ids.Kind.TheVariants.{Leaf}
use Rattle.hem_syntax.specs.Protocol.{Protocol, class_of}
use Rattle.hem_syntax.specs.declared.rule.Class.TheVariants.{ExtReq}
use Rattle.hem_tree.specs.Tree.{Tree, kind_of}
use Rattle.hem_work.specs.declared.raw.RawWork.{RawWork}
use Rattle.hem_work.specs.Limits.{most_lines, most_self, most_requests, most_starts}
use Rattle.hem_work.specs.Work.{Work, requests_of, requests_in_all}
use Rattle.hem_work.specs.Building.{first_fault, work_of}

-- a message is a request of a processor
abbrev pub IsExternal : Protocol → Message → Type 0
IsExternal p m = class_of p m.id ≡ Some ExtReq

-- a work over so many objects is within the limits: its lines, its self firings, its requests in all and so those of each object and line, and what it may start
pub record IsWithinLimits (objects : ℕ) (work : Work) : Type 0 where
  pub some_line : 1 ≤ work.lines
  pub few_lines : work.lines ≤ most_lines
  pub few_self : work.self_count ≤ most_self
  pub few_requests : requests_in_all work ≤ most_requests
  pub few_of_each : (line o : ℕ) → length (requests_of work line o) ≤ most_requests
  pub few_starts : requests_in_all work + work.self_count * objects * work.lines ≤ most_starts

-- a work that fits a protocol and a tree: it is within the limits, it has a list for each line and object, and only leaves have requests, all of processors
pub record IsLawfulWork (p : Protocol) (tree : Tree) (work : Work) : Type 0 where
  pub limits : IsWithinLimits (length tree) work
  pub each_line : length work.requests ≡ work.lines
  pub each_object : (line : ℕ) → line < work.lines → length (slice_index_or work.requests line []) ≡ length tree
  pub leaves : (line o : ℕ) → requests_of work line o ≢ [] → kind_of tree o ≡ Some Leaf
  pub external : (line o : ℕ) → All (IsExternal p) (requests_of work line o)

-- the work that a text without a fault says is lawful, and so within the limits
abbrev pub FaultlessIsLawful : Type 0
FaultlessIsLawful = (raw : RawWork) (p : Protocol) (tree : Tree) → first_fault raw p tree ≡ None → IsLawfulWork p tree (work_of raw (length tree))
