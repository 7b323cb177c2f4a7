-- Sets of numbers as bits: a number put in, a number taken out, and the next one.
use Rattle.std.proofs.Common.{◌≡◌, ◌≢◌, refl, sym, ap, ◌∙◌, ℕ, zero, suc, ◌+◌, ◌-◌, ◌*◌, ◌<◌, ◌≤◌, ◌^◌, arith, true, false, ◌&&◌, not, List, length, ⊎_elim, min}
use Rattle.std.specs.Prelude.{◌==◌, ◌||◌, ◌/◌, ◌%◌, bit_and, bit_or, slice_index, slice_set, replicate}
use Rattle.std.specs.Int.{w64, bit_at, trailing_zeros}
use Rattle.std.proofs.str.Laws.{order}
use Rattle.std.proofs.lemmas.Bool.Decides.{eqb_tells}
use Rattle.std.proofs.lemmas.List.{get_or-set_same, get_or-set_other}
use Rattle.std.proofs.lemmas.Nat.{and_le_l}
use Rattle.std.proofs.lemmas.Nat.Bits.{bit_at_and, bit_at-lt, bit_at_above, bit_at_mask_inside, bit_at_mask_below, bit_at-trailing_zeros, bit_at_set_same, bit_at_set_other, bit_at_clear_same, bit_at_clear_other, bit_at_ones, ones_shl}
use Rattle.hem_base.specs.Sets.{has_bit}
use Rattle.hem_walk.specs.Marks.{is_in, HasBelow, IsLowest, NoBitFrom}

min_one : (x : ℕ) → x < 2 → min x 1 ≡ x
min_one x less = grind arith

min_zero : (x : ℕ) → min x 0 ≡ 0
min_zero x = grind arith

-- the bits of a word from one on
abbrev pub left_of : ℕ → ℕ → ℕ
left_of word from = bit_and word (18446744073709551615 * 2 ^ from % 18446744073709551616)

left_same : (word from i : ℕ) → from < 64 → from ≤ i → i < 64 → bit_at (left_of word from) i ≡ bit_at word i
left_same word from i within past less =
    bit_at_and word (18446744073709551615 * 2 ^ from % 18446744073709551616) i
    ∙ ap (λ n. min (bit_at word i) (bit_at n i)) (ones_shl 64 from (omega arith))
    ∙ ap (min (bit_at word i)) (bit_at_mask_inside from 64 i past less)
    ∙ min_one (bit_at word i) (bit_at-lt word i)

left_none : (word from i : ℕ) → from < 64 → i < from → bit_at (left_of word from) i ≡ 0
left_none word from i within before =
    bit_at_and word (18446744073709551615 * 2 ^ from % 18446744073709551616) i
    ∙ ap (λ n. min (bit_at word i) (bit_at n i)) (ones_shl 64 from (omega arith))
    ∙ ap (min (bit_at word i)) (bit_at_mask_below from 64 i before)
    ∙ min_zero (bit_at word i)

is_zero : (x : ℕ) → x ≡ 0 → (x == 1) ≡ false
is_zero x none = grind arith

is_one : (x : ℕ) → x ≡ 1 → (x == 1) ≡ true
is_one x one = grind arith

-- where none is left, there is none from that bit on
pub none_left : (word from : ℕ) → from < 64 → word < 2 ^ 64 → left_of word from ≡ 0 → NoBitFrom word from
none_left word from within small none =
    record {
      none = λ i past.
          ⊎_elim
          (λ less. is_zero (bit_at word i) (sym (left_same word from i within past less) ∙ ap (λ n. bit_at n i) none ∙ zero_bit i))
          (λ high. is_zero (bit_at word i) (bit_at_above word 64 i small high))
          (order i 64);
    }
  where
    zero_bit : (i : ℕ) → bit_at 0 i ≡ 0
    zero_bit i = bit_at_above 0 0 i (omega arith) (omega arith)

-- the number of zeros below is the lowest bit from that one on
pub lowest_left : (word from : ℕ) → from < 64 → word < 2 ^ 64 → left_of word from ≢ 0 → IsLowest word from (trailing_zeros w64 (left_of word from))
lowest_left word from within small some =
    let left = left_of word from in
    let below = and_le_l word (18446744073709551615 * 2 ^ from % 18446744073709551616) in
    let it = bit_at-trailing_zeros w64 left (omega (arith, some)) (omega (arith, below, small)) in
    let past : from ≤ trailing_zeros w64 left =
    ⊎_elim
    (λ before. absurd (let none = left_none word from (trailing_zeros w64 left) within before in let one = it.1 in omega (arith, none, one)))
    (λ past. past)
    (order (trailing_zeros w64 left) from)
    in
    record {
      past = past;
      within = it.0;
      is_set = is_one (bit_at word (trailing_zeros w64 left)) (sym (left_same word from (trailing_zeros w64 left) within past it.0) ∙ it.1);
      before = λ i after less. is_zero (bit_at word i) (sym (left_same word from i within after (let w = it.0 in omega (arith, w, less))) ∙ it.2 i less);
    }

-- a number by its word and its bit
same_number : (m n : ℕ) → m / 64 ≡ n / 64 → m % 64 ≡ n % 64 → m ≡ n
same_number m n word bit = omega (arith, word, bit)

other_word : (m n : ℕ) → m / 64 ≢ n / 64 → (m == n) ≡ false
other_word m n differ = ⊎_elim (λ same. absurd (differ (ap (λ k. k / 64) same.1))) (λ other. other.0) (eqb_tells m n)

other_bit : (m n : ℕ) → m % 64 ≢ n % 64 → (m == n) ≡ false
other_bit m n differ = ⊎_elim (λ same. absurd (differ (ap (λ k. k % 64) same.1))) (λ other. other.0) (eqb_tells m n)

below_64 : (m : ℕ) → m % 64 < 64
below_64 m = omega arith

-- a number put in
pub put_in : (words : List ℕ) (n : ℕ) → n / 64 < length words → (m : ℕ) → is_in (slice_set words (n / 64) (bit_or (slice_index words (n / 64)) (1 * 2 ^ (n % 64) % 18446744073709551616))) m ≡ (m == n || is_in words m)
put_in words n within m =
    let old = slice_index words (n / 64) in
    let new = bit_or old (1 * 2 ^ (n % 64) % 18446744073709551616) in
    ⊎_elim
    (λ same.
    ap (λ k. has_bit (slice_index (slice_set words (n / 64) new) k) (m % 64)) same.1
    ∙ ap (λ k. has_bit k (m % 64)) (get_or-set_same words (n / 64) new 0 within)
    ∙ ⊎_elim
    (λ same_bit.
    is_one (bit_at new (m % 64)) (ap (bit_at new) same_bit.1 ∙ bit_at_set_same w64 old (n % 64) (below_64 n))
    ∙ ap (λ b. b || is_in words m) (sym (let number = same_number m n same.1 same_bit.1 in is_same m n number)))
    (λ elsewhere.
    ap (λ k. k == 1) (bit_at_set_other w64 old (n % 64) (below_64 n) (m % 64) elsewhere.1)
    ∙ ap (λ k. has_bit (slice_index words k) (m % 64)) (sym same.1)
    ∙ ap (λ b. b || is_in words m) (sym (other_bit m n elsewhere.1)))
    (eqb_tells (m % 64) (n % 64)))
    (λ other.
    ap (λ k. has_bit k (m % 64)) (get_or-set_other words (n / 64) (m / 64) new 0 other.1)
    ∙ ap (λ b. b || is_in words m) (sym (other_word m n other.1)))
    (eqb_tells (m / 64) (n / 64))
  where
    is_same : (m n : ℕ) → m ≡ n → (m == n) ≡ true
    is_same m n same = grind arith

-- a number taken out
pub taken_out : (words : List ℕ) (n : ℕ) → n / 64 < length words → (m : ℕ) → is_in (slice_set words (n / 64) (bit_and (slice_index words (n / 64)) (18446744073709551615 - 1 * 2 ^ (n % 64) % 18446744073709551616))) m ≡ (not (m == n) && is_in words m)
taken_out words n within m =
    let old = slice_index words (n / 64) in
    let new = bit_and old (18446744073709551615 - 1 * 2 ^ (n % 64) % 18446744073709551616) in
    ⊎_elim
    (λ same.
    ap (λ k. has_bit (slice_index (slice_set words (n / 64) new) k) (m % 64)) same.1
    ∙ ap (λ k. has_bit k (m % 64)) (get_or-set_same words (n / 64) new 0 within)
    ∙ ⊎_elim
    (λ same_bit.
    is_zero (bit_at new (m % 64)) (ap (bit_at new) same_bit.1 ∙ bit_at_clear_same w64 old (n % 64) (below_64 n))
    ∙ ap (λ b. not b && is_in words m) (sym (let number = same_number m n same.1 same_bit.1 in is_same m n number)))
    (λ elsewhere.
    ap (λ k. k == 1) (bit_at_clear_other w64 old (n % 64) (below_64 n) (m % 64) (below_64 m) elsewhere.1)
    ∙ ap (λ k. has_bit (slice_index words k) (m % 64)) (sym same.1)
    ∙ ap (λ b. not b && is_in words m) (sym (other_bit m n elsewhere.1)))
    (eqb_tells (m % 64) (n % 64)))
    (λ other.
    ap (λ k. has_bit k (m % 64)) (get_or-set_other words (n / 64) (m / 64) new 0 other.1)
    ∙ ap (λ b. not b && is_in words m) (sym (other_word m n other.1)))
    (eqb_tells (m / 64) (n / 64))
  where
    is_same : (m n : ℕ) → m ≡ n → (m == n) ≡ true
    is_same m n same = grind arith

-- words of ones
ones_at : (count i : ℕ) → i < count → slice_index (replicate count 18446744073709551615) i ≡ 18446744073709551615
ones_at zero i less = absurd (omega arith)
ones_at (suc count) zero less = refl
ones_at (suc count) (suc i) less = ones_at count i (omega arith)

pub all_in : (count : ℕ) (words : List ℕ) → words ≡ replicate (count / 64 + 1) 18446744073709551615 → HasBelow count words
all_in count words are =
    record {
      each = λ n less.
          let within : n / 64 < count / 64 + 1 = omega (arith, less) in
          is_one (bit_at (slice_index words (n / 64)) (n % 64)) (ap (λ ws. bit_at (slice_index ws (n / 64)) (n % 64)) are ∙ ap (λ w. bit_at w (n % 64)) (ones_at (count / 64 + 1) (n / 64) within) ∙ bit_at_ones 64 (n % 64) (below_64 n));
    }

-- none of the numbers from one on to before another one is in the set
pub record NoneUntil (words : List ℕ) (from end : ℕ) : Type 0 where
  pub none : (m : ℕ) → from ≤ m → m < end → is_in words m ≡ false
