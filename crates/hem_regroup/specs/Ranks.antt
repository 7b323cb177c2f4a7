-- Transactions by their ranks: how many begin before them.
use Rattle.std.specs.Prelude.{ℕ, ◌==◌, ◌≡◌, ◌+◌, ◌<◌, ◌≤◌, cond, List, [], ◌∷◌, ◌++◌, length, drop, slice_index}
use Rattle.hem_trace.specs.Blocks.{Block}

-- the numbers of the transactions that begin among numbers, the first of which stands at place k: each is the place of its first
abbrev pub firsts : ℕ → List ℕ → List ℕ
firsts k [] = []
firsts k (n ∷ numbers) = cond (k == n) (n ∷ firsts (k + 1) numbers) (firsts (k + 1) numbers)

-- each number is a place that has it, and stands there first
pub record AreFirst (numbers : List ℕ) : Type 0 where
  pub least : (k : ℕ) → k < length numbers → slice_index numbers k ≤ k
  pub same : (k : ℕ) → k < length numbers → slice_index numbers (slice_index numbers k) ≡ slice_index numbers k

-- in each number's place its rank: where it stands among the transactions
pub record AreRanks (numbers starts ranks : List ℕ) : Type 0 where
  pub starts_are : starts ≡ firsts 0 numbers
  pub size : length ranks ≡ length numbers
  pub below : (k : ℕ) → k < length numbers → slice_index ranks k < length starts
  pub are : (k : ℕ) → k < length numbers → slice_index starts (slice_index ranks k) ≡ slice_index numbers k

-- a block of a rank as that of the transaction
abbrev pub started : List ℕ → Block → Block
started starts b = record { number = slice_index starts b.number; firings = b.firings }

-- before a place the ranks stand, and from it on the numbers
pub record AreRankedTo (numbers : List ℕ) (place : ℕ) (starts now : List ℕ) : Type 0 where
  pub starts_are : starts ++ firsts place (drop place numbers) ≡ firsts 0 numbers
  pub size : length now ≡ length numbers
  pub below : (k : ℕ) → k < place → slice_index now k < length starts
  pub are : (k : ℕ) → k < place → slice_index starts (slice_index now k) ≡ slice_index numbers k
  pub left : (k : ℕ) → place ≤ k → slice_index now k ≡ slice_index numbers k
