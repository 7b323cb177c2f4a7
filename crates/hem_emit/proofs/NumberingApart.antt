-- Lists without a name twice: of parts, of blocks and of what a filter leaves.
use Rattle.std.proofs.Common.{◌≡◌, refl, ap, sym, ◌∙◌, ℕ, zero, suc, ◌+◌, ◌<◌, Bool, true, false, not, cond, ◌&&◌, ◌||◌, List, [], ◌∷◌, ◌++◌, map, arith, Option, Some, None}
use Rattle.std.specs.Prelude.{◌==◌, filter, nat_lt}
use Rattle.std.specs.List.{list_all, list_any, flat_map, enumerate_from}
use Rattle.std.proofs.lemmas.Bool.{eqb-true}
use Rattle.std.proofs.lemmas.List.Folds.{list_all-append, list_any-append}
use Rattle.hem_tree.specs.Tree.{is_number, below}
use Rattle.hem_rows.proofs.Choices.{both}
use Rattle.hem_emit.specs.Numbering.{are_apart}
use Rattle.hem_emit.proofs.Tests.{differ}
use Rattle.hem_emit.proofs.Named.{and_both}

pub not_false : (b : Bool) → not b ≡ true → b ≡ false
not_false true is = cc
not_false false is = refl

-- all pass a test that each passes
pub all_pass : {A : Type 0} (test : A → Bool) → ((x : A) → test x ≡ true) → (xs : List A) → list_all test xs ≡ true
all_pass test each [] = refl
all_pass test each (x ∷ xs) = and_both (test x) (list_all test xs) (each x) (all_pass test each xs)

pub all_mapped : {A B : Type 0} (test : B → Bool) (f : A → B) → ((x : A) → test (f x) ≡ true) → (xs : List A) → list_all test (map f xs) ≡ true
all_mapped test f each [] = refl
all_mapped test f each (x ∷ xs) = and_both (test (f x)) (list_all test (map f xs)) (each x) (all_mapped test f each xs)

-- what passes one test passes another
pub all_weaker : {A : Type 0} (strong weak : A → Bool) → ((x : A) → strong x ≡ true → weak x ≡ true) → (xs : List A) → list_all strong xs ≡ true → list_all weak xs ≡ true
all_weaker strong weak each [] all = refl
all_weaker strong weak each (x ∷ xs) all =
    let parts = both (strong x) (list_all strong xs) all in
    and_both (weak x) (list_all weak xs) (each x parts.0) (all_weaker strong weak each xs parts.1)

-- what a filter leaves passes
pub all_kept : {A : Type 0} (keep : A → Bool) (xs : List A) → list_all keep (filter keep xs) ≡ true
all_kept {A} keep [] = refl
all_kept {A} keep (x ∷ xs) = by (keep x) refl (all_kept keep xs)
  where
    by : (b : Bool) → keep x ≡ b → list_all keep (filter keep xs) ≡ true → list_all keep (cond b (x ∷ filter keep xs) (filter keep xs)) ≡ true
    by true is rest = and_both (keep x) (list_all keep (filter keep xs)) is rest
    by false is rest = rest

-- what none passes none of the rest passes
none_kept : {A : Type 0} (test keep : A → Bool) (xs : List A) → list_any test xs ≡ false → list_any test (filter keep xs) ≡ false
none_kept {A} test keep [] none = refl
none_kept {A} test keep (x ∷ xs) none = by (keep x) (test x) refl none (λ none. none_kept test keep xs none)
  where
    by : (b c : Bool) → test x ≡ c → (c || list_any test xs) ≡ false → (list_any test xs ≡ false → list_any test (filter keep xs) ≡ false) → list_any test (cond b (x ∷ filter keep xs) (filter keep xs)) ≡ false
    by b true is none rest = cc
    by true false is none rest = rw is (rest none)
    by false false is none rest = rest none

module _ {A : Type 0} (same : A → A → Bool) (sound : (a b : A) → same a b ≡ true → a ≡ b) where
  none_right : (left : A → Bool) (x : A) (ys : List A) → left x ≡ true → list_all (λ y. not (left y)) ys ≡ true → list_any (same x) ys ≡ false
  none_right left x [] here all = refl
  none_right left x (y ∷ ys) here all =
      let parts = both (not (left y)) (list_all (λ y. not (left y)) ys) all in
      let head = apart (same x y) refl (not_false (left y) parts.0) in
      let rest = none_right left x ys here parts.1 in
      cc (head, rest)
    where
      apart : (b : Bool) → same x y ≡ b → left y ≡ false → same x y ≡ false
      apart true is other = let e = ap left (sound x y is) in cc
      apart false is other = is

  -- parts that a test tells apart
  pub apart_append : (left : A → Bool) (xs ys : List A) → list_all left xs ≡ true → list_all (λ y. not (left y)) ys ≡ true → are_apart same xs ≡ true → are_apart same ys ≡ true → are_apart same (xs ++ ys) ≡ true
  apart_append left [] ys lefts rights one other = other
  apart_append left (x ∷ xs) ys lefts rights one other =
      let l = both (left x) (list_all left xs) lefts in
      let o = both (not (list_any (same x) xs)) (are_apart same xs) one in
      let first = not_false (list_any (same x) xs) o.0 in
      let second = none_right left x ys l.0 rights in
      let none : list_any (same x) (xs ++ ys) ≡ false = list_any-append (same x) xs ys ∙ cc (first, second) in
      and_both (not (list_any (same x) (xs ++ ys))) (are_apart same (xs ++ ys)) (ap not none) (apart_append left xs ys l.1 rights o.1 other)

  -- what a filter leaves
  pub apart_filter : (keep : A → Bool) (xs : List A) → are_apart same xs ≡ true → are_apart same (filter keep xs) ≡ true
  apart_filter keep [] apart = refl
  apart_filter keep (x ∷ xs) apart =
      let parts = both (not (list_any (same x) xs)) (are_apart same xs) apart in
      by (keep x) (none_kept (same x) keep xs (not_false (list_any (same x) xs) parts.0)) (apart_filter keep xs parts.1)
    where
      by : (b : Bool) → list_any (same x) (filter keep xs) ≡ false → are_apart same (filter keep xs) ≡ true → are_apart same (cond b (x ∷ filter keep xs) (filter keep xs)) ≡ true
      by true none rest = and_both (not (list_any (same x) (filter keep xs))) (are_apart same (filter keep xs)) (ap not none) rest
      by false none rest = rest

  -- elements made of others one to one
  pub apart_map : {X : Type 0} (f : X → A) (alike : X → X → Bool) → ((x y : X) → same (f x) (f y) ≡ alike x y) → (xs : List X) → are_apart alike xs ≡ true → are_apart same (map f xs) ≡ true
  apart_map {X = X} f alike is [] apart = refl
  apart_map {X = X} f alike is (x ∷ xs) apart =
      let parts = both (not (list_any (alike x) xs)) (are_apart alike xs) apart in
      and_both (not (list_any (same (f x)) (map f xs))) (are_apart same (map f xs)) (ap not (none x xs ∙ not_false (list_any (alike x) xs) parts.0)) (apart_map f alike is xs parts.1)
    where
      none : (x : X) (xs : List X) → list_any (same (f x)) (map f xs) ≡ list_any (alike x) xs
      none x [] = refl
      none x (y ∷ ys) = let head = is x y in let rest = none x ys in cc (head, rest)

  -- blocks, each with a number of its own that its elements tell
  pub apart_blocks : {X : Type 0} (key : A → Option ℕ) (of : X → ℕ) (f : X → List A) → ((x : X) → list_all (λ a. is_number (key a) (of x)) (f x) ≡ true) → ((x : X) → are_apart same (f x) ≡ true) → (xs : List X) → are_apart (λ x y. of x == of y) xs ≡ true → are_apart same (flat_map f xs) ≡ true
  apart_blocks {X = X} key of f owned each [] apart = refl
  apart_blocks {X = X} key of f owned each (x ∷ xs) apart =
      let parts = both (not (list_any (λ y. of x == of y) xs)) (are_apart (λ x y. of x == of y) xs) apart in
      apart_append (λ a. is_number (key a) (of x)) (f x) (flat_map f xs) (owned x) (others x xs (not_false (list_any (λ y. of x == of y) xs) parts.0)) (each x) (apart_blocks key of f owned each xs parts.1)
    where
      other_key : (n m : ℕ) → (n == m) ≡ false → (o : Option ℕ) → is_number o m ≡ true → not (is_number o n) ≡ true
      other_key n m apart None is = refl
      other_key n m apart (Some k) is = let e : k ≡ m = eqb-true k m is in ap not (differ k n (λ same. let it : (n == m) ≡ true = ap (λ i. i == m) (sym same) ∙ is in cc))

      others : (x : X) (xs : List X) → list_any (λ y. of x == of y) xs ≡ false → list_all (λ a. not (is_number (key a) (of x))) (flat_map f xs) ≡ true
      others x [] none = refl
      others x (y ∷ ys) none = by (of x == of y) refl none (λ none. others x ys none)
        where
          by : (b : Bool) → (of x == of y) ≡ b → (b || list_any (λ y. of x == of y) ys) ≡ false → (list_any (λ y. of x == of y) ys ≡ false → list_all (λ a. not (is_number (key a) (of x))) (flat_map f ys) ≡ true) → list_all (λ a. not (is_number (key a) (of x))) (f y ++ flat_map f ys) ≡ true
          by true is none rest = cc
          by false is none rest =
              list_all-append (λ a. not (is_number (key a) (of x))) (f y) (flat_map f ys)
              ∙ and_both (list_all (λ a. not (is_number (key a) (of x))) (f y)) (list_all (λ a. not (is_number (key a) (of x))) (flat_map f ys)) (all_weaker (λ a. is_number (key a) (of y)) (λ a. not (is_number (key a) (of x))) (λ a. other_key (of x) (of y) is (key a)) (f y) (owned y)) (rest none)

-- the numbers below a number
pub below_apart : (n : ℕ) → are_apart (λ i j. i == j) (below n) ≡ true
below_apart zero = refl
below_apart (suc n) = apart_append (λ i j. i == j) eqb-true (λ i. nat_lt i n) (below n) (n ∷ []) (all_less n) (let e : nat_lt n n ≡ false = grind arith in rw e refl) (below_apart n) refl
  where
    grows : (i n : ℕ) → nat_lt i n ≡ true → nat_lt i (suc n) ≡ true
    grows i n less = grind arith

    last : (n : ℕ) → nat_lt n (suc n) ≡ true
    last n = grind arith

    all_less : (n : ℕ) → list_all (λ i. nat_lt i n) (below n) ≡ true
    all_less zero = refl
    all_less (suc n) =
        list_all-append (λ i. nat_lt i (suc n)) (below n) (n ∷ [])
        ∙ and_both (list_all (λ i. nat_lt i (suc n)) (below n)) (nat_lt n (suc n) && true) (all_weaker (λ i. nat_lt i n) (λ i. nat_lt i (suc n)) (λ i. grows i n) (below n) (all_less n)) (rw (last n) refl)

-- elements with their places
pub places_apart : {A : Type 0} (n : ℕ) (xs : List A) → are_apart (λ (x y : ℕ × A). x.0 == y.0) (enumerate_from n xs) ≡ true
places_apart {A} n [] = refl
places_apart {A} n (x ∷ xs) = and_both (not (list_any (λ (y : ℕ × A). n == y.0) (enumerate_from (n + 1) xs))) (are_apart (λ (x y : ℕ × A). x.0 == y.0) (enumerate_from (n + 1) xs)) (ap not (past n (n + 1) xs (omega arith))) (places_apart (n + 1) xs)
  where
    past : (n m : ℕ) (xs : List A) → n < m → list_any (λ (y : ℕ × A). n == y.0) (enumerate_from m xs) ≡ false
    past n m [] less = refl
    past n m (y ∷ ys) less = rw (differ n m (λ e. absurd (omega (arith, e, less)))) (past n (m + 1) ys (omega (arith, less)))
