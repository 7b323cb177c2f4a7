-- The numbers of transactions that the messages on their way carry, as they are kept of each line.
use Rattle.std.specs.Prelude.{ℕ, ◌≡◌, Bool, ◌&&◌, List, [], length, slice_get, slice_index_or, Some}
use Rattle.hem_base.specs.Sets.{has_bit}
use Rattle.hem_tree.specs.Tree.{Tree, is_child, place_among}
use Rattle.hem_system.specs.declared.lane.Lane.TheVariants.{UpRequests, UpResponses, Down}
use Rattle.hem_trace.specs.Tags.{Tags}
use Rattle.hem_transactions.specs.declared.line.LineNumbers.{LineNumbers}

-- the numbers that the messages of an object's list carry, head first
abbrev pub numbers_at : List (List ℕ) → ℕ → List ℕ
numbers_at lists k = slice_index_or lists k []

-- whether k is a child of o that is in the set
abbrev pub is_child_in : Tree → ℕ → ℕ → ℕ → Bool
is_child_in tree o bits k = is_child tree k o && has_bit bits (place_among tree o k)

-- each object of the tree has its lists
pub record HasLists (tree : Tree) (line : LineNumbers) : Type 0 where
  pub up_requests : length line.up_requests ≡ length tree
  pub up_responses : length line.up_responses ≡ length tree
  pub down : length line.down ≡ length tree

-- on line l the messages carry these numbers
pub record CarriesOn (tags : Tags) (l : ℕ) (line : LineNumbers) : Type 0 where
  pub up_requests : (k : ℕ) → numbers_at line.up_requests k ≡ tags (record { line = l; object = k; lane = UpRequests })
  pub up_responses : (k : ℕ) → numbers_at line.up_responses k ≡ tags (record { line = l; object = k; lane = UpResponses })
  pub down : (k : ℕ) → numbers_at line.down k ≡ tags (record { line = l; object = k; lane = Down })

-- each line has lists for each object
pub record HaveLists (tree : Tree) (lines : List LineNumbers) : Type 0 where
  pub on : (l : ℕ) (line : LineNumbers) → slice_get lines l ≡ Some line → HasLists tree line

-- on each line the messages carry these numbers
pub record Carry (tags : Tags) (lines : List LineNumbers) : Type 0 where
  pub on : (l : ℕ) (line : LineNumbers) → slice_get lines l ≡ Some line → CarriesOn tags l line
