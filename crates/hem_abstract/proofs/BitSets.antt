-- Sets of statuses as bits.
use Rattle.std.proofs.Common.{◌≡◌, ◌≢◌, refl, ap, sym, ◌∙◌, ℕ, zero, suc, ◌<◌, ◌^◌, Bool, true, false, not, ◌&&◌, ◌||◌, List, [], ◌∷◌, arith, inl, inr, ◌⊎◌}
use Rattle.std.specs.Prelude.{◌==◌, bit_and, min}
use Rattle.std.specs.List.{list_all}
use Rattle.std.specs.Int.{bit_at}
use Rattle.std.proofs.lemmas.Nat.Bits.{bit_at_and, bit_at-lt, same_from_bits_below}
use Rattle.std.proofs.lemmas.Nat.{and_le_l}
use Rattle.std.proofs.lemmas.Bool.Decides.{eqb_tells}
use Rattle.std.proofs.lemmas.List.Folds.{list_all-map, list_all-append}
use Rattle.hem_base.specs.Sets.{has_bit}
use Rattle.hem_base.specs.declared.ids.StatusSet.{StatusSet}
use Rattle.hem_object.specs.Guard.{has}
use Rattle.hem_tree.specs.Tree.{below}
use Rattle.hem_abstract.specs.Abstract.{status}
use Rattle.hem_abstract.specs.Parts.{all_kids_in, some_kid_in}
use Rattle.hem_rows.proofs.Choices.{both, not-true}
use Rattle.hem_rows.proofs.Bits.{no_bit}
use Rattle.hem_abstract.proofs.Exact.{any-not, any-mapped}

min_one : (x y : ℕ) → x < 2 → y < 2 → (min x y == 1) ≡ ((x == 1) && (y == 1))
min_one x y less_x less_y = grind arith

-- a bit of both numbers
pub has_both : (a b i : ℕ) → has_bit (bit_and a b) i ≡ (has_bit a i && has_bit b i)
has_both a b i = ap (λ n. n == 1) (bit_at_and a b i) ∙ min_one (bit_at a i) (bit_at b i) (bit_at-lt a i) (bit_at-lt b i)

all-true : (t : ℕ → Bool) (xs : List ℕ) → ((i : ℕ) → t i ≡ true) → list_all t xs ≡ true
all-true t [] each = refl
all-true t (x ∷ xs) each = rw (each x, all-true t xs each) refl

all-each : (t : ℕ → Bool) (n : ℕ) → list_all t (below n) ≡ true → (i : ℕ) → i < n → t i ≡ true
all-each t zero all i less = absurd (omega (arith, less))
all-each t (suc n) all i less =
    let parts = both (list_all t (below n)) (t n && true) (sym (list_all-append t (below n) (n ∷ [])) ∙ all) in
    by_place (eqb_tells i n) parts (all-each t n parts.0 i)
  where
    by_place : ((i == n) ≡ true) × (i ≡ n) ⊎ ((i == n) ≡ false) × (i ≢ n) → (list_all t (below n) ≡ true) × ((t n && true) ≡ true) → (i < n → t i ≡ true) → t i ≡ true
    by_place (inl same) parts rest = ap t same.1 ∙ (both (t n) true parts.1).0
    by_place (inr other) parts rest = rest (omega (arith, less, other.1))

-- a test of all eight statuses that says whether two numbers have the same bits
all-bits : (t : ℕ → Bool) (x y : ℕ) → x < 2 ^ 8 → y < 2 ^ 8 → ((i : ℕ) → t i ≡ true → bit_at x i ≡ bit_at y i) → (x ≡ y → (i : ℕ) → t i ≡ true) → list_all t (below 8) ≡ (x == y)
all-bits t x y less_x less_y to from = by_number (eqb_tells x y)
  where
    differs : x ≢ y → (b : Bool) → list_all t (below 8) ≡ b → list_all t (below 8) ≡ false
    differs other true all = absurd (other (same_from_bits_below 8 x y less_x less_y (λ i less. to i (all-each t 8 all i less))))
    differs other false all = all

    by_number : ((x == y) ≡ true) × (x ≡ y) ⊎ ((x == y) ≡ false) × (x ≢ y) → list_all t (below 8) ≡ (x == y)
    by_number (inl same) = all-true t (below 8) (from same.1) ∙ sym same.0
    by_number (inr other) = differs other.1 (list_all t (below 8)) refl ∙ sym other.0

same_bit : (x y : ℕ) → x < 2 → y < 2 → (x == 1) ≡ (y == 1) → x ≡ y
same_bit x y less_x less_y same = by_bits (eqb_tells x 1) (eqb_tells y 1)
  where
    by_bits : ((x == 1) ≡ true) × (x ≡ 1) ⊎ ((x == 1) ≡ false) × (x ≢ 1) → ((y == 1) ≡ true) × (y ≡ 1) ⊎ ((y == 1) ≡ false) × (y ≢ 1) → x ≡ y
    by_bits (inl one) (inl other) = one.1 ∙ sym other.1
    by_bits (inl one) (inr other) = let clash : true ≡ false = sym one.0 ∙ same ∙ other.0 in cc
    by_bits (inr one) (inl other) = let clash : false ≡ true = sym one.0 ∙ same ∙ other.0 in cc
    by_bits (inr one) (inr other) = omega (arith, less_x, less_y, one.1, other.1)

within : (a b : Bool) → (not a || b) ≡ true → (a && b) ≡ a
within true b is = is
within false b is = refl

within-from : (a b : Bool) → (a && b) ≡ a → (not a || b) ≡ true
within-from true b is = is
within-from false b is = refl

-- all statuses of a set are in another where the bits of both are those of the first
pub all-in : (kids set : StatusSet) → kids.0 < 2 ^ 8 → all_kids_in kids set ≡ (bit_and kids.0 set.0 == kids.0)
all-in kids set small =
    let k = kids.0 in
    let s = set.0 in
    list_all-map (λ x. not (has kids x) || has set x) status (below 8)
    ∙ all-bits (λ i. not (has_bit k i) || has_bit s i) (bit_and k s) k (let le = and_le_l k s in omega (arith, le, small)) small
    (λ i is. same_bit (bit_at (bit_and k s) i) (bit_at k i) (bit_at-lt (bit_and k s) i) (bit_at-lt k i) (has_both k s i ∙ within (has_bit k i) (has_bit s i) is))
    (λ same i. within-from (has_bit k i) (has_bit s i) (sym (has_both k s i) ∙ ap (λ n. has_bit n i) same))

-- some status is in both sets where they have a bit of both
pub some-in : (kids set : StatusSet) → kids.0 < 2 ^ 8 → some_kid_in kids set ≡ not (bit_and kids.0 set.0 == 0)
some-in kids set small =
    let k = kids.0 in
    let s = set.0 in
    any-mapped (λ x. has kids x && has set x) (below 8)
    ∙ any-not (λ i. has_bit k i && has_bit s i) (below 8)
    ∙ ap not (all-bits (λ i. not (has_bit k i && has_bit s i)) (bit_and k s) 0 (let le = and_le_l k s in omega (arith, le, small)) (omega arith)
    (λ i is. same_bit (bit_at (bit_and k s) i) (bit_at 0 i) (bit_at-lt (bit_and k s) i) (bit_at-lt 0 i) (has_both k s i ∙ not-true (has_bit k i && has_bit s i) is ∙ sym (no_bit i)))
    (λ same i. ap not (sym (has_both k s i) ∙ ap (λ n. has_bit n i) same ∙ no_bit i)))
