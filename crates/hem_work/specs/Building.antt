-- The work that a text says over a tree, and the rules that it may break.
use Rattle.std.specs.Prelude.{ℕ, ◌+◌, ◌*◌, ◌==◌, ◌≡◌, ◌&&◌, not, nat_le, nat_lt, Bool, true, false, List, [], ◌∷◌, length, map, Option, None, Some, Result, Ok, Err, sum_by}
use Rattle.std.specs.List.{flat_map}
use Rattle.std.specs.Option.{option_or, option_map_or}
use Rattle.hem_base.specs.declared.ids.Kind.{Kind}
use Rattle.hem_base.specs.declared.ids.Kind.TheVariants.{Leaf}
use Rattle.hem_base.specs.declared.ids.Message.{Message}
use Rattle.hem_text.specs.declared.text.Place.{Place}
use Rattle.hem_tree.specs.declared.setup.SetupFault.{SetupFault as Fault}
use Rattle.hem_tree.specs.declared.setup.SetupCause.{SetupCause}
use Rattle.hem_tree.specs.declared.setup.SetupCause.TheVariants.{Lines, SelfCount, Object, Line, Request, Requests, Starts}
use Rattle.hem_syntax.specs.Protocol.{Protocol}
use Rattle.hem_syntax.specs.Protocol.{has_class, is_ext_req}
use Rattle.hem_tree.specs.Tree.{Tree, below, kind_of}
use Rattle.hem_tree.specs.declared.setup.SetupError.{SetupError}
use Rattle.hem_tree.specs.declared.setup.SetupError.TheVariants.{Setup, OutOfMemory}
use Rattle.hem_work.specs.Limits.{most_lines, most_self, most_requests, most_starts}
use Rattle.hem_work.specs.declared.raw.RawWork.{RawWork}
use Rattle.hem_work.specs.declared.raw.RawEntry.{RawEntry}
use Rattle.hem_work.specs.Work.{Work}

-- the messages of an entry, where it is one of this object and line
abbrev pub messages_if : Bool → RawEntry → List Message
messages_if true e = map (λ r. r.0) e.requests
messages_if false e = []

abbrev pub messages_for : ℕ → ℕ → RawEntry → List Message
messages_for line object e = messages_if (e.line.0 == line && e.object.0 == object) e

-- the requests of an object on a line: those of all its entries there, in the order of the text
abbrev pub requests_in : List RawEntry → ℕ → ℕ → List Message
requests_in entries line object = flat_map (messages_for line object) entries

-- the requests of so many objects on a line
abbrev pub row_of : List RawEntry → ℕ → ℕ → List (List Message)
row_of entries objects line = map (λ object. requests_in entries line object) (below objects)

-- the requests of so many lines and objects
abbrev pub table_of : List RawEntry → ℕ → ℕ → List (List (List Message))
table_of entries lines objects = map (row_of entries objects) (below lines)

-- the work of a text over a tree of so many objects
abbrev pub work_of : RawWork → ℕ → Work
work_of raw objects =
    record {
      place = raw.place;
      lines = raw.lines.0;
      self_count = raw.self_count.0;
      requests = table_of raw.entries raw.lines.0 objects;
    }

-- a fault, where its rule is broken
abbrev pub fault_if : Bool → SetupCause → Place → Option Fault
fault_if true cause place = Some (record { place = place; cause = cause })
fault_if false cause place = None

-- the fault that a test answers, if any
abbrev pub fault_in : {A : Type 0} → Result A Fault → Option Fault
fault_in (Ok a) = None
fault_in (Err fault) = Some fault

-- whether a kind is that of the leaves
abbrev pub is_leaf_kind : Kind → Bool
is_leaf_kind Leaf = true
is_leaf_kind _ = false

-- whether an object is a leaf of the tree
abbrev pub is_leaf : Tree → ℕ → Bool
is_leaf tree o = option_map_or is_leaf_kind (kind_of tree o) false

-- how many requests the entries have
abbrev pub request_count : List RawEntry → ℕ
request_count entries = sum_by (λ e. length e.requests) entries

-- how many transactions the work may start: one for each request, and one for each self firing of each object on each line
abbrev pub starts_of : RawWork → ℕ → ℕ
starts_of raw objects = request_count raw.entries + raw.self_count.0 * objects * raw.lines.0

-- the rule that a request breaks, before which so many requests stand in the text
abbrev pub request_fault : Protocol → ℕ → Message × Place → Option Fault
request_fault p before r = option_or (fault_if (not (has_class p r.0.id is_ext_req)) Request r.1) (fault_if (nat_le most_requests before) Requests r.1)

-- the first rule that requests break
abbrev pub requests_fault : Protocol → ℕ → List (Message × Place) → Option Fault
requests_fault p before [] = None
requests_fault p before (r ∷ rest) = option_or (request_fault p before r) (requests_fault p (before + 1) rest)

-- the first rule that the object and the line of an entry break
abbrev pub heading_fault : Tree → ℕ → RawEntry → Option Fault
heading_fault tree lines e = option_or (fault_if (not (is_leaf tree e.object.0)) Object e.object.1) (fault_if (nat_le lines e.line.0) Line e.line.1)

-- the first rule that an entry breaks
abbrev pub entry_fault : Protocol → Tree → ℕ → ℕ → RawEntry → Option Fault
entry_fault p tree lines before e = option_or (heading_fault tree lines e) (requests_fault p before e.requests)

-- the first rule that entries break
abbrev pub entries_fault : Protocol → Tree → ℕ → ℕ → List RawEntry → Option Fault
entries_fault p tree lines before [] = None
entries_fault p tree lines before (e ∷ rest) = option_or (entry_fault p tree lines before e) (entries_fault p tree lines (before + length e.requests) rest)

-- the first of the two numbers at the head of a work that is out of its bounds
abbrev pub counts_fault : RawWork → Option Fault
counts_fault raw =
    option_or (fault_if (not (nat_le 1 raw.lines.0 && nat_le raw.lines.0 most_lines)) Lines raw.lines.1) (fault_if (nat_lt most_self raw.self_count.0) SelfCount raw.self_count.1)

-- the fault at the word of the work, where it may start too much
abbrev pub starts_fault : RawWork → ℕ → Option Fault
starts_fault raw objects = fault_if (nat_lt most_starts (starts_of raw objects)) Starts raw.place

-- the first rule that a work breaks: its counts, then entry by entry, then what it may start
abbrev pub first_fault : RawWork → Protocol → Tree → Option Fault
first_fault raw p tree = option_or (counts_fault raw) (option_or (entries_fault p tree raw.lines.0 0 raw.entries) (starts_fault raw (length tree)))

-- a work is refused for the first rule that it breaks, unless memory ran out
abbrev pub IsWorkRefused : RawWork → Protocol → Tree → SetupError → Type 0
IsWorkRefused raw p tree (Setup fault) = first_fault raw p tree ≡ Some fault
IsWorkRefused raw p tree OutOfMemory = Unit {0}
