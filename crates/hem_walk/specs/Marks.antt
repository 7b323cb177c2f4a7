-- Sets of numbers, kept as bits in words of 64.
use Rattle.std.specs.Prelude.{ℕ, ◌≡◌, ◌≤◌, ◌<◌, ◌/◌, ◌%◌, Bool, false, true, List, slice_index}
use Rattle.hem_base.specs.Sets.{has_bit}

-- a number is in the set
abbrev pub is_in : List ℕ → ℕ → Bool
is_in words n = has_bit (slice_index words (n / 64)) (n % 64)

-- each number below the count is in the set
pub record HasBelow (count : ℕ) (words : List ℕ) : Type 0 where
  pub each : (n : ℕ) → n < count → is_in words n ≡ true

-- the least number of the set from one on
pub record IsNextIn (words : List ℕ) (from n : ℕ) : Type 0 where
  pub past : from ≤ n
  pub there : is_in words n ≡ true
  pub before : (m : ℕ) → from ≤ m → m < n → is_in words m ≡ false

-- the set has no number from one on
pub record NoneFrom (words : List ℕ) (from : ℕ) : Type 0 where
  pub none : (m : ℕ) → from ≤ m → is_in words m ≡ false

-- the lowest bit of a word from one on
pub record IsLowest (word from bit : ℕ) : Type 0 where
  pub past : from ≤ bit
  pub within : bit < 64
  pub is_set : has_bit word bit ≡ true
  pub before : (i : ℕ) → from ≤ i → i < bit → has_bit word i ≡ false

-- a word has no bit from one on
pub record NoBitFrom (word from : ℕ) : Type 0 where
  pub none : (i : ℕ) → from ≤ i → has_bit word i ≡ false
