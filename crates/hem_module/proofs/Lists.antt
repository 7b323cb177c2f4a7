-- Lists taken from the front, with one element set, and by place.
use Rattle.std.proofs.Common.{◌≡◌, ◌≢◌, ◌∙◌, refl, sym, ap, ℕ, zero, suc, ◌+◌, ◌-◌, ◌<◌, ◌≤◌, arith, List, [], ◌∷◌, ◌++◌, Bool, ◌&&◌, ◌||◌, length, map, take, drop, add-one, Some, None, add-zero}
use Rattle.std.specs.Prelude.{slice_get, slice_set, unwrap_or}
use Rattle.std.specs.List.{enumerate_from, list_any, list_all}
use Rattle.std.specs.Option.{option_map}
use Rattle.std.proofs.lemmas.List.{set-get_or, drop-drop}
use Rattle.std.proofs.Math.ListN.{drop_of_length-le}
use Rattle.std.proofs.lemmas.Option.{get_or_from_slice_get}

-- one more taken
pub taken_one : {A : Type 0} (t : ℕ) (xs : List A) → drop (t + 1) xs ≡ drop 1 (drop t xs)
taken_one t xs = sym (drop-drop 1 t xs)

-- all elements taken, where one was left at most
pub taken_all : {A : Type 0} (t : ℕ) (xs : List A) → length xs - t ≤ 1 → [] ≡ drop 1 (drop t xs)
taken_all t xs one =
    let past : length xs ≤ t + 1 = omega arith in
    sym (drop-drop 1 t xs ∙ drop_of_length-le xs past)

-- an element set to itself
pub set_get_same : {A : Type 0} (xs : List A) (i : ℕ) (x : A) → slice_get xs i ≡ Some x → slice_set xs i x ≡ xs
set_get_same xs i x at = ap (slice_set xs i) (sym (get_or_from_slice_get xs i x x at)) ∙ set-get_or xs i x

-- an element, where one is set
pub get_set_here : {A : Type 0} (xs : List A) (i : ℕ) (x : A) → i < length xs → slice_get (slice_set xs i x) i ≡ Some x
get_set_here [] i x within = absurd (omega arith)
get_set_here (y ∷ xs) zero x within = refl
get_set_here (y ∷ xs) (suc i) x within = get_set_here xs i x (omega arith)

-- an element that was not set
pub get_set_other : {A : Type 0} (xs : List A) (i j : ℕ) (x : A) → j ≢ i → slice_get (slice_set xs i x) j ≡ slice_get xs j
get_set_other [] i j x other = refl
get_set_other (y ∷ xs) zero zero x other = absurd (other refl)
get_set_other (y ∷ xs) zero (suc j) x other = refl
get_set_other (y ∷ xs) (suc i) zero x other = refl
get_set_other (y ∷ xs) (suc i) (suc j) x other = get_set_other xs i j x (λ e. other (ap suc e))

-- lists with the same elements at all places are the same
pub same_elements : {A : Type 0} (xs ys : List A) → ((i : ℕ) → slice_get xs i ≡ slice_get ys i) → xs ≡ ys
same_elements [] [] same = refl
same_elements [] (y ∷ ys) same = absurd (let e : None ≡ Some y = same 0 in cc e)
same_elements (x ∷ xs) [] same = absurd (let e : Some x ≡ None = same 0 in cc e)
same_elements (x ∷ xs) (y ∷ ys) same =
    let head : Some x ≡ Some y = same 0 in
    let tail = same_elements xs ys (λ i. same (suc i)) in
    cc (head, tail)

-- an element of a list made by place
pub get_placed : {A B : Type 0} (f : ℕ × A → B) (n : ℕ) (xs : List A) (i : ℕ) → slice_get (map f (enumerate_from n xs)) i ≡ option_map (λ x. f (n + i, x)) (slice_get xs i)
get_placed f n [] i = refl
get_placed f n (x ∷ xs) zero = ap (λ k. Some (f (k, x))) (sym (add-zero n))
get_placed f n (x ∷ xs) (suc i) =
    let e : (n + 1) + i ≡ n + suc i = omega arith in
    get_placed f (n + 1) xs i ∙ ap (λ k. option_map (λ y. f (k, y)) (slice_get xs i)) e

-- a test of each element, and of each one's image
pub any_map : {A B : Type 0} (test : B → Bool) (f : A → B) (xs : List A) → list_any (λ x. test (f x)) xs ≡ list_any test (map f xs)
any_map test f [] = refl
any_map test f (x ∷ xs) = ap (λ b. test (f x) || b) (any_map test f xs)

pub all_map : {A B : Type 0} (test : B → Bool) (f : A → B) (xs : List A) → list_all (λ x. test (f x)) xs ≡ list_all test (map f xs)
all_map test f [] = refl
all_map test f (x ∷ xs) = ap (λ b. test (f x) && b) (all_map test f xs)

-- the same of a list made from place 0
pub get_placed_first : {A B : Type 0} (f : ℕ × A → B) (xs : List A) (i : ℕ) → slice_get (map f (enumerate_from 0 xs)) i ≡ option_map (λ x. f (i, x)) (slice_get xs i)
get_placed_first f xs i =
    let e : 0 + i ≡ i = omega arith in
    get_placed f 0 xs i ∙ ap (λ k. option_map (λ y. f (k, y)) (slice_get xs i)) e

-- the image of one element more
pub map_take_more : {A B : Type 0} (f : A → B) (xs : List A) (i : ℕ) (d : B) → i < length xs → map f (take (i + 1) xs) ≡ map f (take i xs) ++ unwrap_or (option_map f (slice_get xs i)) d ∷ []
map_take_more f [] i d within = absurd (omega arith)
map_take_more f (x ∷ xs) zero d within = refl
map_take_more f (x ∷ xs) (suc i) d within =
    let tail = rw add-one at (map_take_more f xs i d (omega arith)) in
    rw add-one (ap (λ (ys : List _). f x ∷ ys) tail)
