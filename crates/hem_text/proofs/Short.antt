-- A short text gives no great number, whatever its bytes are.
use Rattle.std.proofs.Common.{◌≡◌, ℕ, zero, suc, ◌+◌, ◌*◌, ◌-◌, ◌<◌, ◌≤◌, List, [], ◌∷◌, length, get_or, arith, true}
use Rattle.std.specs.Prelude.{fold, nat_le}
use Rattle.hem_text.specs.Numbers.{with_digit, number_of}

-- the most that so many bytes make of a number
abbrev most : ℕ → ℕ → ℕ
most zero n = n
most (suc k) n = most k (n * 10 + 207)

rises : (k n : ℕ) → n ≤ most k n
rises zero n = omega arith
rises (suc k) n = omega (arith, rises k (n * 10 + 207))

at_most : (k : ℕ) (xs : List ℕ) (n m : ℕ) → ((i : ℕ) → get_or xs i 0 < 256) → length xs ≤ k → n ≤ m → fold with_digit n xs ≤ most k m
at_most k [] n m bytes short le = omega (arith, rises k m, le)
at_most zero (x ∷ xs) n m bytes short le = absurd (omega (arith, short))
at_most (suc k) (x ∷ xs) n m bytes short le =
    let first : x < 256 = bytes 0 in
    at_most k xs (n * 10 + (x - 48)) (m * 10 + 207) (λ i. bytes (suc i)) (omega (arith, short)) (omega (arith, le, first))

small : (xs : List ℕ) (bound : ℕ) → ((i : ℕ) → get_or xs i 0 < 256) → length xs ≤ 8 → 2400000000 ≤ bound → number_of xs ≤ bound
small xs bound bytes short large =
    let most_of : number_of xs ≤ 2299999977 = at_most 8 xs 0 0 bytes short (omega arith) in
    omega (arith, most_of, large)

le_true : (n m : ℕ) → n ≤ m → true ≡ nat_le n m
le_true n m h = grind (arith, h)

pub short_is_small : (xs : List ℕ) (bound : ℕ) → ((i : ℕ) → get_or xs i 0 < 256) → length xs ≤ 8 → 2400000000 ≤ bound → true ≡ nat_le (number_of xs) bound
short_is_small xs bound bytes short large = le_true (number_of xs) bound (small xs bound bytes short large)
