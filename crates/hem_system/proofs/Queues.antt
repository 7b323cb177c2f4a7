-- Lists that are taken from their front.
use Rattle.std.proofs.Common.{◌≡◌, sym, ◌∙◌, ℕ, ◌+◌, ◌-◌, ◌≤◌, List, [], drop, length, arith, drop-drop}
use Rattle.std.proofs.Math.ListN.{drop_of_length-le}

-- one element more taken
pub taken_one : {A : Type 0} (taken : ℕ) (xs : List A) → drop (taken + 1) xs ≡ drop 1 (drop taken xs)
taken_one taken xs = sym (drop-drop 1 taken xs)

-- all elements taken, where one was left at most
pub taken_all : {A : Type 0} (taken : ℕ) (xs : List A) → length xs - taken ≤ 1 → [] ≡ drop 1 (drop taken xs)
taken_all taken xs one =
    let past : length xs ≤ taken + 1 = omega arith in
    sym (drop-drop 1 taken xs ∙ drop_of_length-le xs past)
