-- Lists with one element set, and lists with each element changed.
use Rattle.std.proofs.Common.{◌≡◌, ◌≢◌, ◌∙◌, refl, sym, ap, ℕ, zero, suc, ◌+◌, ◌<◌, arith, List, [], ◌∷◌, length, map, Some, None, Option, add-zero}
use Rattle.std.specs.Prelude.{slice_get, slice_set}
use Rattle.std.specs.Option.{option_map_or}
use Rattle.std.proofs.lemmas.List.{set-get_or, map-set}
use Rattle.std.proofs.lemmas.Option.{get_or_from_slice_get, slice_get-map}
use Rattle.hem_system.specs.State.{map_each}
use Rattle.hem_system.specs.Lists.{change_one}

-- an element set to itself
pub set_get_same : {A : Type 0} (xs : List A) (i : ℕ) (x : A) → slice_get xs i ≡ Some x → slice_set xs i x ≡ xs
set_get_same xs i x at = ap (slice_set xs i) (sym (get_or_from_slice_get xs i x x at)) ∙ set-get_or xs i x

-- the element that was set
pub get_set_here : {A : Type 0} (xs : List A) (i : ℕ) (x : A) → i < length xs → slice_get (slice_set xs i x) i ≡ Some x
get_set_here [] i x within = absurd (omega arith)
get_set_here (y ∷ xs) zero x within = refl
get_set_here (y ∷ xs) (suc i) x within = get_set_here xs i x (omega arith)

-- an element that was not set
pub get_set_other : {A : Type 0} (xs : List A) (i j : ℕ) (x : A) → j ≢ i → slice_get (slice_set xs i x) j ≡ slice_get xs j
get_set_other [] i j x other = refl
get_set_other (y ∷ xs) zero zero x other = absurd (other refl)
get_set_other (y ∷ xs) zero (suc j) x other = refl
get_set_other (y ∷ xs) (suc i) zero x other = refl
get_set_other (y ∷ xs) (suc i) (suc j) x other = get_set_other xs i j x (λ e. other (ap suc e))

-- an element set to one that a function cannot tell from it
pub map-set_alike : {A B : Type 0} (f : A → B) (xs : List A) (i : ℕ) (x y : A) → slice_get xs i ≡ Some x → f y ≡ f x → map f (slice_set xs i y) ≡ map f xs
map-set_alike f xs i x y at same =
    map-set f xs i y ∙ ap (slice_set (map f xs) i) same ∙ set_get_same (map f xs) i (f x) (rw (slice_get-map f xs i, at) refl)

-- changes that agree on each element agree
pub map_each-alike : {A : Type 0} (g h : ℕ → A → A) (k : ℕ) (xs : List A) → ((i : ℕ) (z : A) → g (k + i) z ≡ h (k + i) z) → map_each g k xs ≡ map_each h k xs
map_each-alike g h k [] same = refl
map_each-alike g h k (y ∷ xs) same =
    let head : g k y ≡ h k y = rw add-zero at (same 0 y) in
    let tail = map_each-alike g h (k + 1) xs (λ i z. let e : (k + 1) + i ≡ k + suc i = omega arith in rw e (same (suc i) z)) in
    cc (head, tail)

-- an element set before a change, which differs from another change at that element alone
pub map_each-set : {A : Type 0} (g h : ℕ → A → A) (k o : ℕ) (xs : List A) (x y : A) → slice_get xs o ≡ Some x → g (k + o) y ≡ h (k + o) x → ((i : ℕ) (z : A) → i ≢ o → g (k + i) z ≡ h (k + i) z) → map_each g k (slice_set xs o y) ≡ map_each h k xs
map_each-set g h k o [] x y at here same = refl
map_each-set g h k zero (z ∷ xs) x y at here same =
    let it : z ≡ x = cc at in
    let head : g k y ≡ h k z = (rw add-zero at here) ∙ ap (h k) (sym it) in
    let tail = map_each-alike g h (k + 1) xs (λ i w. let e : (k + 1) + i ≡ k + suc i = omega arith in rw e (same (suc i) w (omega arith))) in
    cc (head, tail)
map_each-set g h k (suc o) (z ∷ xs) x y at here same =
    let head : g k z ≡ h k z = rw add-zero at (same 0 z (omega arith)) in
    let e : (k + 1) + o ≡ k + suc o = omega arith in
    let tail = map_each-set g h (k + 1) o xs x y at (rw e here) (λ i w other. let e : (k + 1) + i ≡ k + suc i = omega arith in rw e (same (suc i) w (omega arith))) in
    cc (head, tail)

-- a change that leaves each element
pub map_each-none : {A : Type 0} (k : ℕ) (xs : List A) → map_each (λ k x. x) k xs ≡ xs
map_each-none k [] = refl
map_each-none k (x ∷ xs) = ap (λ (ys : List _). x ∷ ys) (map_each-none (k + 1) xs)

-- a later element changed
later_by : {A : Type 0} (o : ℕ) (q : A → A) (y : A) (ys : List A) (found : Option A) → option_map_or (λ x. slice_set (y ∷ ys) (suc o) (q x)) found (y ∷ ys) ≡ y ∷ option_map_or (λ x. slice_set ys o (q x)) found ys
later_by o q y ys None = refl
later_by o q y ys (Some x) = refl

-- changes that agree on each element but one that is not there
absent : {A : Type 0} (g h : ℕ → A → A) (k o : ℕ) (xs : List A) → slice_get xs o ≡ None → ((i : ℕ) (z : A) → i ≢ o → g (k + i) z ≡ h (k + i) z) → map_each g k xs ≡ map_each h k xs
absent g h k o [] at same = refl
absent g h k zero (x ∷ xs) at same = cc
absent g h k (suc o) (x ∷ xs) at same =
    let head : g k x ≡ h k x = rw add-zero at (same 0 x (omega arith)) in
    let tail = absent g h (k + 1) o xs at (λ i z other. let e : (k + 1) + i ≡ k + suc i = omega arith in rw e (same (suc i) z (omega arith))) in
    cc (head, tail)

-- one element changed after all were, by what they become together
pub change_one-each : {A : Type 0} (g h : ℕ → A → A) (q : A → A) (k o : ℕ) (xs : List A) → ((z : A) → q (g (k + o) z) ≡ h (k + o) z) → ((i : ℕ) (z : A) → i ≢ o → g (k + i) z ≡ h (k + i) z) → change_one o q (map_each g k xs) ≡ map_each h k xs
change_one-each g h q k o [] here same = refl
change_one-each g h q k zero (x ∷ xs) here same =
    let head : q (g k x) ≡ h k x = rw add-zero at (here x) in
    let tail = map_each-alike g h (k + 1) xs (λ i z. let e : (k + 1) + i ≡ k + suc i = omega arith in rw e (same (suc i) z (omega arith))) in
    cc (head, tail)
change_one-each g h q k (suc o) (x ∷ xs) here same =
    let head : g k x ≡ h k x = rw add-zero at (same 0 x (omega arith)) in
    let e : (k + 1) + o ≡ k + suc o = omega arith in
    let tail = change_one-each g h q (k + 1) o xs (λ z. rw e (here z)) (λ i z other. let e : (k + 1) + i ≡ k + suc i = omega arith in rw e (same (suc i) z (omega arith))) in
    later_by o q (g k x) (map_each g (k + 1) xs) (slice_get (map_each g (k + 1) xs) o) ∙ cc (head, tail)

-- all changed after one element was, by what they become together
pub each-change_one : {A : Type 0} (g h : ℕ → A → A) (q : A → A) (k o : ℕ) (xs : List A) → ((z : A) → g (k + o) (q z) ≡ h (k + o) z) → ((i : ℕ) (z : A) → i ≢ o → g (k + i) z ≡ h (k + i) z) → map_each g k (change_one o q xs) ≡ map_each h k xs
each-change_one {A = A} g h q k o xs here same = by_found (slice_get xs o) refl
  where
    by_found : (found : Option A) → slice_get xs o ≡ found → map_each g k (option_map_or (λ x. slice_set xs o (q x)) found xs) ≡ map_each h k xs
    by_found (Some x) at = map_each-set g h k o xs x (q x) at (here x) same
    by_found None at = absent g h k o xs at same
