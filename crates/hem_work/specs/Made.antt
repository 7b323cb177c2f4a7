-- Generated requests, and a work with them after its own.
use Rattle.std.specs.Prelude.{ℕ, ◌+◌, ◌*◌, ◌%◌, ◌==◌, ◌≡◌, ◌&&◌, nat_lt, Bool, List, [], ◌∷◌, ◌++◌, length, map, filter, slice_index_or, Option, Some}
use Rattle.std.specs.Option.{option_or}
use Rattle.hem_base.specs.declared.ids.Message.{Message}
use Rattle.hem_syntax.specs.Protocol.{Protocol, has_class, is_ext_req}
use Rattle.hem_tree.specs.Tree.{Tree, below}
use Rattle.hem_tree.specs.declared.setup.SetupFault.{SetupFault as Fault}
use Rattle.hem_tree.specs.declared.setup.SetupCause.TheVariants.{Requests, Starts}
use Rattle.hem_tree.specs.declared.setup.SetupError.{SetupError}
use Rattle.hem_tree.specs.declared.setup.SetupError.TheVariants.{Setup, OutOfMemory}
use Rattle.hem_work.specs.declared.made.Choices.{Choices}
use Rattle.hem_work.specs.declared.made.LeafRequest.{LeafRequest}
use Rattle.hem_work.specs.Building.{is_leaf, fault_if}
use Rattle.hem_work.specs.Generator.{draw_after}
use Rattle.hem_work.specs.Limits.{most_requests, most_starts}
use Rattle.hem_work.specs.Work.{Work, requests_of, requests_in_all}

-- the leaves of a tree, in order
abbrev pub leaves_of : Tree → List ℕ
leaves_of tree = filter (is_leaf tree) (below (length tree))

-- whether an id is one of requests of a processor
abbrev pub is_external_id : Protocol → ℕ → Bool
is_external_id p id = has_class p (record { 0 = id }) is_ext_req

-- the ids of requests of a processor, in order of declaration
abbrev pub external_ids : Protocol → List ℕ
external_ids p = filter (is_external_id p) (below (length p.messages))

-- what a draw picks from a list: the one whose place is its rest modulo the length
abbrev pub picked : List ℕ → ℕ → ℕ
picked xs draw = slice_index_or xs (draw % length xs) 0

-- a request that three draws pick, and its value
abbrev pub request_by : Choices → ℕ → ℕ → ℕ → ℕ → LeafRequest
request_by choices leaf line id value =
    record {
      leaf = picked choices.leaves leaf;
      line = line % choices.lines;
      message = record { id = record { 0 = picked choices.ids id }; value = value };
    }

-- the generated request after k others: three draws, after the three of each of those, pick its leaf, its line and its id; its value counts from 1
abbrev pub request_after : Choices → ℕ → ℕ → LeafRequest
request_after choices seed k = request_by choices (draw_after seed (3 * k)) (draw_after seed (3 * k + 1)) (draw_after seed (3 * k + 2)) (k + 1)

-- from what the draws pick for a protocol, a tree and so many lines
abbrev pub choices_of : Protocol → Tree → ℕ → Choices
choices_of p tree lines = record { leaves = leaves_of tree; lines = lines; ids = external_ids p }

-- how many requests are generated where so many are wanted: none without an id to pick
abbrev pub generated_count : List ℕ → ℕ → ℕ
generated_count [] wanted = 0
generated_count (id ∷ ids) wanted = wanted

-- the generated requests, in order
abbrev pub generated : Protocol → Tree → ℕ → ℕ → ℕ → List LeafRequest
generated p tree lines count seed = map (request_after (choices_of p tree lines) seed) (below (generated_count (external_ids p) count))

-- whether a request is one of this object and line
abbrev pub is_for : ℕ → ℕ → LeafRequest → Bool
is_for line o request = request.line == line && request.leaf == o

-- the messages of those requests that are of this object and line, in order
abbrev pub messages_at : List LeafRequest → ℕ → ℕ → List Message
messages_at requests line o = map (λ request. request.message) (filter (is_for line o) requests)

-- for each of so many lines and objects the requests of the work, and after them those of the list
abbrev pub table_with : Work → List LeafRequest → ℕ → List (List (List Message))
table_with work more objects = map (λ line. map (λ o. requests_of work line o ++ messages_at more line o) (below objects)) (below work.lines)

-- the work with generated requests after its own
abbrev pub made : Protocol → Tree → Work → ℕ → ℕ → Work
made p tree work count seed = record work { requests = table_with work (generated p tree work.lines count seed) (length tree) }

-- the rule that the work breaks with so many more requests, at its word `work`: first the number of requests, then what it may start
abbrev pub fault_with : Tree → Work → ℕ → Option Fault
fault_with tree work more =
    option_or
    (fault_if (nat_lt most_requests (requests_in_all work + more)) Requests work.place)
    (fault_if (nat_lt most_starts (requests_in_all work + more + work.self_count * length tree * work.lines)) Starts work.place)

-- the rule that the work breaks with generated requests
abbrev pub made_fault : Protocol → Tree → Work → ℕ → Option Fault
made_fault p tree work count = fault_with tree work (generated_count (external_ids p) count)

-- generated requests are refused for the first rule that they break, unless memory ran out
abbrev pub IsMakingRefused : Protocol → Tree → Work → ℕ → SetupError → Type 0
IsMakingRefused p tree work count (Setup fault) = made_fault p tree work count ≡ Some fault
IsMakingRefused p tree work count OutOfMemory = Unit {0}
