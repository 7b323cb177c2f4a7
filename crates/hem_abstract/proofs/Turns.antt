-- Searches that go on one by one.
use Rattle.std.proofs.Common.{◌≡◌, refl, ap, sym, ◌∙◌, ℕ, zero, suc, ◌<◌, ◌≤◌, ◌+◌, ◌-◌, Bool, true, false, cond, List, [], ◌∷◌, ◌++◌, length, drop, map, get_or, arith, Option, Some, None, inl, inr, ◌⊎◌, ◌≢◌, add-one, ◌^◌, append_assoc, append-nil}
use Rattle.std.specs.Prelude.{◌==◌, find}
use Rattle.std.specs.Option.{option_or}
use Rattle.std.proofs.lemmas.Bool.Decides.{eqb_tells}
use Rattle.std.proofs.lemmas.List.{drop_more, drop_all}
use Rattle.hem_base.specs.declared.ids.StatusSet.{StatusSet}
use Rattle.hem_tree.specs.Tree.{below}
use Rattle.hem_abstract.specs.First.{first_with}
use Rattle.hem_abstract.specs.Abstract.{status}
use Rattle.hem_abstract.specs.Stable.{field_lists}
use Rattle.hem_base.specs.declared.ids.Status8.{Status8}
use Rattle.hem_abstract.proofs.LeastState.{with-append, by-field, or-none}

-- nothing at a place: the search goes on behind it
pub goes-on : {A B : Type 0} (give : A → Option B) (xs : List A) (i : ℕ) (x : A) → i < length xs → None ≡ give (get_or xs i x) → first_with give (drop i xs) ≡ first_with give xs → first_with give (drop (i + 1) xs) ≡ first_with give xs
goes-on give xs i x less none so_far =
    let cut = drop_more xs i x less in
    sym (ap (first_with give) cut ∙ ap (λ o. option_or o (first_with give (drop (i + 1) xs))) (sym none)) ∙ so_far

-- something at a place: it is the first
pub ends-here : {A B : Type 0} (give : A → Option B) (xs : List A) (i : ℕ) (x : A) (y : B) → i < length xs → Some y ≡ give (get_or xs i x) → first_with give (drop i xs) ≡ first_with give xs → Some y ≡ first_with give xs
ends-here give xs i x y less some so_far =
    let cut = drop_more xs i x less in
    sym (ap (first_with give) cut ∙ ap (λ o. option_or o (first_with give (drop (i + 1) xs))) (sym some)) ∙ so_far

-- nothing anywhere
pub ends-without : {A B : Type 0} (give : A → Option B) (xs : List A) (i : ℕ) → length xs ≤ i → first_with give (drop i xs) ≡ first_with give xs → None ≡ first_with give xs
ends-without give xs i le so_far = sym (ap (first_with give) (drop_all i xs le)) ∙ so_far

-- among the numbers below n
pub number-none : {B : Type 0} (give : ℕ → Option B) (n : ℕ) → first_with give (below n) ≡ None → None ≡ give n → first_with give (below (n + 1)) ≡ None
number-none give n so_far none =
    rw add-one
    (with-append give (below n) (n ∷ []) ∙ ap (λ o. option_or o (first_with give (n ∷ []))) so_far ∙ ap (λ o. option_or o None) (sym none))

pub number-some : {B : Type 0} (give : ℕ → Option B) (m n : ℕ) (y : B) → n < m → first_with give (below n) ≡ None → Some y ≡ give n → Some y ≡ first_with give (below m)
number-some give zero n y less so_far some = absurd (omega (arith, less))
number-some {B = B} give (suc m) n y less so_far some = by_place (eqb_tells n m) (λ before. number-some give m n y before so_far some)
  where
    by_place : ((n == m) ≡ true) × (n ≡ m) ⊎ ((n == m) ≡ false) × (n ≢ m) → (n < m → Some y ≡ first_with give (below m)) → Some y ≡ first_with give (below (suc m))
    by_place (inl same) rest =
        let here : first_with give (below m) ≡ None = ap (λ k. first_with give (below k)) (sym same.1) ∙ so_far in
        let is : give m ≡ Some y = ap give (sym same.1) ∙ sym some in
        sym (with-append give (below m) (m ∷ []) ∙ ap (λ o. option_or o (option_or (give m) None)) here ∙ ap (λ o. option_or o None) is)
    by_place (inr other) rest =
        let before = rest (omega (arith, less, other.1)) in
        sym (with-append give (below m) (m ∷ []) ∙ ap (λ o. option_or o (option_or (give m) None)) (sym before))

-- a search by a test is one by what passes it
pub find-first : {A : Type 0} (test : A → Bool) (f : ℕ → A) (xs : List ℕ) → find test (map f xs) ≡ first_with (λ k. cond (test (f k)) (Some (f k)) None) xs
find-first test f [] = refl
find-first {A = A} test f (x ∷ xs) = by_test (test (f x)) (find-first test f xs)
  where
    by_test : (b : Bool) → find test (map f xs) ≡ first_with (λ k. cond (test (f k)) (Some (f k)) None) xs → cond b (Some (f x)) (find test (map f xs)) ≡ option_or (cond b (Some (f x)) None) (first_with (λ k. cond (test (f k)) (Some (f k)) None) xs)
    by_test true rest = refl
    by_test false rest = rest

-- the set of that number and one more, where it passes a test
abbrev pub set_if : (StatusSet → Bool) → ℕ → Option StatusSet
set_if test k = cond (test (record { 0 = suc k })) (Some (record { 0 = suc k })) None

set-of : ℕ → StatusSet
set-of k = record { 0 = k }

-- a set that passes after none did
pub kids-some : (test : StatusSet → Bool) (m number : ℕ) → 1 ≤ number → number < 2 ^ m → first_with (set_if test) (below (number - 1)) ≡ None → test (record { 0 = number }) ≡ true → Some (let set : StatusSet = record { 0 = number } in set) ≡ find test (map (λ k. record { 0 = suc k }) (below (2 ^ m - 1)))
kids-some test m zero some less none passes = absurd (omega (arith, some))
kids-some test m (suc n) some less none passes =
    let e : suc n - 1 ≡ n = omega arith in
    let before : first_with (set_if test) (below n) ≡ None = ap (λ k. first_with (set_if test) (below k)) (sym e) ∙ none in
    let here : set_if test n ≡ Some (let set : StatusSet = record { 0 = suc n } in set) = ap (λ b. cond b (Some (let set : StatusSet = record { 0 = suc n } in set)) None) passes in
    number-some (set_if test) (2 ^ m - 1) n (record { 0 = suc n }) (omega (arith, less)) before (sym here)
    ∙ sym (find-first test (λ k. let set : StatusSet = record { 0 = suc k } in set) (below (2 ^ m - 1)))

-- a set that doesn't pass after none did
pub kids-none : (test : StatusSet → Bool) (number : ℕ) → 1 ≤ number → first_with (set_if test) (below (number - 1)) ≡ None → test (record { 0 = number }) ≡ false → first_with (set_if test) (below (number + 1 - 1)) ≡ None
kids-none test zero some none fails = absurd (omega (arith, some))
kids-none test (suc n) some none fails =
    let e : suc n - 1 ≡ n = omega arith in
    let f : suc n + 1 - 1 ≡ n + 1 = omega arith in
    let before : first_with (set_if test) (below n) ≡ None = ap (λ k. first_with (set_if test) (below k)) (sym e) ∙ none in
    let here : set_if test n ≡ None = ap (λ b. cond b (Some (let set : StatusSet = record { 0 = suc n } in set)) None) fails in
    ap (λ k. first_with (set_if test) (below k)) f ∙ number-none (set_if test) n before (sym here)

-- no set passes
pub kids-never : (test : StatusSet → Bool) (m number : ℕ) → number ≡ 2 ^ m → first_with (set_if test) (below (number - 1)) ≡ None → None ≡ find test (map (λ k. record { 0 = suc k }) (below (2 ^ m - 1)))
kids-never test m number end none =
    sym (find-first test (λ k. let set : StatusSet = record { 0 = suc k } in set) (below (2 ^ m - 1)) ∙ ap (λ k. first_with (set_if test) (below (k - 1))) (sym end) ∙ none)

-- the lists that begin with given fields, status by status
pub by-status : {B : Type 0} (give : List Status8 → Option B) (first : List Status8) (n m : ℕ) → first_with (λ rest. give (first ++ rest)) (field_lists (suc n) m) ≡ first_with (λ s. first_with (λ rest. give ((first ++ status s ∷ []) ++ rest)) (field_lists n m)) (below m)
by-status give first n m =
    by-field (λ rest. give (first ++ rest)) n m
    ∙ (λ i. first_with (λ s. first_with (λ rest. give (sym (append_assoc first (status s ∷ []) rest) i)) (field_lists n m)) (below m))

pub with-none : {B : Type 0} (give : List Status8 → Option B) (first : List Status8) (m : ℕ) → first_with (λ rest. give (first ++ rest)) (field_lists 0 m) ≡ give first
with-none {B = B} give first m = ap (λ fields. option_or (give fields) None) (append-nil first) ∙ or-none (give first)

-- a status with which a list is given, after none of the statuses before it
pub status-some : {B : Type 0} (give : List Status8 → Option B) (first : List Status8) (more m s : ℕ) (y : B) → more ≢ 0 → s < m → first_with (λ s. first_with (λ rest. give ((first ++ status s ∷ []) ++ rest)) (field_lists (more - 1) m)) (below s) ≡ None → Some y ≡ first_with (λ rest. give ((first ++ status s ∷ []) ++ rest)) (field_lists (more - 1) m) → Some y ≡ first_with (λ rest. give (first ++ rest)) (field_lists more m)
status-some give first zero m s y some less none found = absurd (some refl)
status-some give first (suc n) m s y some less none found =
    let e : suc n - 1 ≡ n = omega arith in
    number-some (λ s. first_with (λ rest. give ((first ++ status s ∷ []) ++ rest)) (field_lists n m)) m s y less (rw e at none) (rw e at found)
    ∙ sym (by-status give first n m)

-- no status with which a list is given
pub status-never : {B : Type 0} (give : List Status8 → Option B) (first : List Status8) (more m s : ℕ) → more ≢ 0 → s ≡ m → first_with (λ s. first_with (λ rest. give ((first ++ status s ∷ []) ++ rest)) (field_lists (more - 1) m)) (below s) ≡ None → None ≡ first_with (λ rest. give (first ++ rest)) (field_lists more m)
status-never give first zero m s some same none = absurd (some refl)
status-never give first (suc n) m s some same none =
    let e : suc n - 1 ≡ n = omega arith in
    sym (by-status give first n m ∙ ap (λ k. first_with (λ s. first_with (λ rest. give ((first ++ status s ∷ []) ++ rest)) (field_lists n m)) (below k)) (sym same) ∙ (rw e at none))
