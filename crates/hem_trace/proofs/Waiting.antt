-- The places of senders whose messages wait in a list, beside the numbers that the messages carry.
use Rattle.std.proofs.Common.{◌≡◌, refl, ap, ◌∙◌, ℕ, suc, ◌+◌, ◌<◌, ◌≤◌, Bool, true, false, cond, List, [], ◌∷◌, ◌++◌, length, drop, arith, append_assoc, Some}
use Rattle.std.specs.Prelude.{slice_get}
use Rattle.std.proofs.lemmas.List.{length-append}

-- each place stands before place k, and its event has the number that the message carries
abbrev pub AreWaiting : List ℕ → ℕ → List ℕ → List ℕ → Type 0
AreWaiting numbers k [] [] = Unit {0}
AreWaiting numbers k [] (t ∷ tags) = ⊥
AreWaiting numbers k (w ∷ waiting) [] = ⊥
AreWaiting numbers k (w ∷ waiting) (t ∷ tags) = (w < k) × (slice_get numbers w ≡ Some t) × AreWaiting numbers k waiting tags

-- they stand before later places
later : (numbers : List ℕ) (k : ℕ) (waiting tags : List ℕ) → AreWaiting numbers k waiting tags → AreWaiting numbers (k + 1) waiting tags
later numbers k [] [] are = tt
later numbers k [] (t ∷ tags) are = are
later numbers k (w ∷ waiting) [] are = are
later numbers k (w ∷ waiting) (t ∷ tags) are = (omega (arith, are.0), are.1, later numbers k waiting tags are.2)

-- with one more at the end
one-more : (numbers : List ℕ) (k n : ℕ) (r : Bool) (waiting tags : List ℕ) → slice_get numbers k ≡ Some n → AreWaiting numbers (k + 1) waiting tags → AreWaiting numbers (k + 1) (waiting ++ cond r (k ∷ []) []) (tags ++ cond r (n ∷ []) [])
one-more numbers k n true [] [] is are = (omega arith, is, tt)
one-more numbers k n false [] [] is are = tt
one-more numbers k n r [] (t ∷ tags) is are = absurd are
one-more numbers k n r (w ∷ waiting) [] is are = absurd are
one-more numbers k n r (w ∷ waiting) (t ∷ tags) is are = (are.0, are.1, one-more numbers k n r waiting tags is are.2)

-- after an event
pub waiting-next : (numbers : List ℕ) (k n : ℕ) (t r : Bool) (waiting tags : List ℕ) → slice_get numbers k ≡ Some n → AreWaiting numbers k waiting tags → AreWaiting numbers (k + 1) (drop (cond t 1 0) waiting ++ cond r (k ∷ []) []) (drop (cond t 1 0) tags ++ cond r (n ∷ []) [])
waiting-next numbers k n false r waiting tags is are = one-more numbers k n r waiting tags is (later numbers k waiting tags are)
waiting-next numbers k n true r [] [] is are = one-more numbers k n r [] [] is tt
waiting-next numbers k n true r [] (t ∷ tags) is are = absurd are
waiting-next numbers k n true r (w ∷ waiting) [] is are = absurd are
waiting-next numbers k n true r (w ∷ waiting) (t ∷ tags) is are = one-more numbers k n r waiting tags is (later numbers k waiting tags are.2)

-- the first that waits
pub first-waiting : (numbers : List ℕ) (k : ℕ) (waiting tags : List ℕ) → 0 < length waiting → AreWaiting numbers k waiting tags → (w : ℕ) × (t : ℕ) × (slice_get waiting 0 ≡ Some w) × (slice_get tags 0 ≡ Some t) × (w < k) × (slice_get numbers w ≡ Some t)
first-waiting numbers k [] tags some are = absurd (omega (arith, some))
first-waiting numbers k (w ∷ waiting) [] some are = absurd are
first-waiting numbers k (w ∷ waiting) (t ∷ tags) some are = (w, t, refl, refl, are.0, are.1)

-- the senders after an event are those before it, less the one whose message was taken
pub slid : (t r : Bool) (k : ℕ) (waiting places : List ℕ) (m : ℕ) → (t ≡ true → 0 < length waiting) → slice_get ((drop (cond t 1 0) waiting ++ cond r (k ∷ []) []) ++ places) m ≡ slice_get (waiting ++ (cond r (k ∷ []) [] ++ places)) (cond t 1 0 + m)
slid false r k waiting places m some = let e : m ≡ 0 + m = omega arith in ap (λ xs. slice_get xs m) (append_assoc waiting (cond r (k ∷ []) []) places) ∙ ap (slice_get (waiting ++ (cond r (k ∷ []) [] ++ places))) e
slid true r k [] places m some = absurd (omega (arith, some refl))
slid true r k (w ∷ waiting) places m some = let e : suc m ≡ 1 + m = omega arith in ap (λ xs. slice_get xs m) (append_assoc waiting (cond r (k ∷ []) []) places) ∙ ap (slice_get (w ∷ (waiting ++ (cond r (k ∷ []) [] ++ places)))) e

-- one more on both
appended : {A B : Type 0} (r : Bool) (a : A) (b : B) (xs : List A) (ys : List B) → length xs ≤ length ys → length (xs ++ cond r (a ∷ []) []) ≤ length (ys ++ cond r (b ∷ []) [])
appended true a b xs ys less = let one = length-append xs (a ∷ []) in let other = length-append ys (b ∷ []) in omega (arith, less, one, other)
appended false a b xs ys less = let one = length-append xs [] in let other = length-append ys [] in omega (arith, less, one, other)

-- the length of a list after an event
pub length-next : {A B : Type 0} (t r : Bool) (a : A) (b : B) (xs : List A) (ys : List B) → length xs ≤ length ys → length (drop (cond t 1 0) xs ++ cond r (a ∷ []) []) ≤ length (drop (cond t 1 0) ys ++ cond r (b ∷ []) [])
length-next false r a b xs ys less = appended r a b xs ys less
length-next true r a b [] ys less = appended r a b [] (drop 1 ys) (omega arith)
length-next true r a b (x ∷ xs) [] less = absurd (omega (arith, less))
length-next true r a b (x ∷ xs) (y ∷ ys) less = appended r a b xs ys (omega (arith, less))
