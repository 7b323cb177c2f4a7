-- A number grows with each digit.
use Rattle.std.proofs.Common.{◌≡◌, ℕ, ◌+◌, ◌*◌, ◌-◌, ◌^◌, ◌<◌, ◌≤◌, List, [], ◌∷◌, drop, length, get_or, arith, ap}
use Rattle.std.specs.Prelude.{fold}
use Rattle.std.proofs.lemmas.List.{drop_more}
use Rattle.hem_text.specs.Numbers.{with_digit, number_of}

grows : (xs : List ℕ) (m : ℕ) → m ≤ fold with_digit m xs
grows [] m = omega arith
grows (x ∷ xs) m = omega (arith, grows xs (m * 10 + (x - 48)))

-- one more digit
pub one_more : (xs : List ℕ) (n i : ℕ) → i < length xs → fold with_digit n (drop i xs) ≡ fold with_digit (n * 10 + (get_or xs i 0 - 48)) (drop (i + 1) xs)
one_more xs n i lt = ap (λ l. fold with_digit n l) (drop_more xs i 0 lt)

pub is_large : (xs : List ℕ) (n i : ℕ) → i < length xs → 2 ^ 64 ≤ n * 10 + (get_or xs i 0 - 48) → fold with_digit n (drop i xs) ≡ number_of xs → 2 ^ 64 ≤ number_of xs
is_large xs n i lt large so_far = omega (arith, large, grows (drop (i + 1) xs) (n * 10 + (get_or xs i 0 - 48)), one_more xs n i lt, so_far)
