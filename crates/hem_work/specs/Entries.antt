-- How the requests of each line and object are put together.
use Rattle.std.specs.Prelude.{ℕ, ◌<◌, Bool, true, false, List, [], ◌∷◌, ◌++◌, length, map, slice_set, slice_index_or, All}
use Rattle.hem_base.specs.declared.ids.Message.{Message}
use Rattle.hem_tree.specs.Tree.{below}
use Rattle.hem_work.specs.Work.{Work, requests_of}
use Rattle.hem_work.specs.declared.made.Choices.{Choices}
use Rattle.hem_work.specs.declared.made.LeafRequest.{LeafRequest}
use Rattle.hem_work.specs.declared.raw.RawEntry.{RawEntry}

-- the rows with the requests of one more entry
abbrev pub with_entry : List (List (List Message)) → RawEntry → List (List (List Message))
with_entry rows e =
    let row = slice_index_or rows e.line.0 [] in
    let list = slice_index_or row e.object.0 [] in
    slice_set rows e.line.0 (slice_set row e.object.0 (list ++ map (λ r. r.0) e.requests))

-- an entry of one of so many lines and objects
pub record IsPlaced (lines objects : ℕ) (e : RawEntry) : Type 0 where
  pub line : e.line.0 < lines
  pub object : e.object.0 < objects

-- the rows with one more request
abbrev pub with_request : List (List (List Message)) → LeafRequest → List (List (List Message))
with_request rows request =
    let row = slice_index_or rows request.line [] in
    let list = slice_index_or row request.leaf [] in
    slice_set rows request.line (slice_set row request.leaf (list ++ request.message ∷ []))

-- a number, where it is wanted
abbrev pub number_if : Bool → ℕ → List ℕ
number_if true n = n ∷ []
number_if false n = []

-- the requests of so many lines and objects of a work
abbrev pub own_table : Work → ℕ → List (List (List Message))
own_table work objects = map (λ line. map (requests_of work line) (below objects)) (below work.lines)

-- there is a leaf, a line and an id to pick from, and each leaf is one of so many objects
pub record CanPick (choices : Choices) (objects : ℕ) : Type 0 where
  pub some_leaf : 0 < length choices.leaves
  pub some_line : 0 < choices.lines
  pub some_id : 0 < length choices.ids
  pub leaves : All (λ o. o < objects) choices.leaves
