-- Children and their places.
use Rattle.std.proofs.Common.{◌≡◌, ◌∙◌, refl, sym, ap, ℕ, zero, suc, ◌+◌, ◌<◌, ◌≤◌, Bool, true, false, cond, arith, List, [], ◌∷◌, ◌++◌, length, Option, Some, None, ⊎_elim}
use Rattle.std.specs.Prelude.{slice_get, filter, option_and_then}
use Rattle.std.specs.List.{count_by}
use Rattle.std.proofs.str.Laws.{order}
use Rattle.std.proofs.lemmas.List.Elements.{filter-append}
use Rattle.std.proofs.lemmas.List.Sums.{length-filter}
use Rattle.std.proofs.lemmas.Option.{slice_get_within}
use Rattle.hem_tree.specs.Tree.{Tree, Node, below, is_child, children_of, place_among, IsLawful}
use Rattle.hem_tree.proofs.Early.{lawful_early}
use Rattle.hem_system.proofs.Takers.{parent_is}

-- an element of the first of two lists, and the first element of the second
get_left : {A : Type 0} (xs ys : List A) (i : ℕ) → i < length xs → slice_get (xs ++ ys) i ≡ slice_get xs i
get_left [] ys i within = absurd (omega arith)
get_left (x ∷ xs) ys zero within = refl
get_left (x ∷ xs) ys (suc i) within = get_left xs ys i (omega arith)

get_right : {A : Type 0} (xs ys : List A) (i : ℕ) → length xs ≤ i → (j : ℕ) × (i ≡ length xs + j) × (slice_get (xs ++ ys) i ≡ slice_get ys j)
get_right [] ys i past = (i, omega arith, refl)
get_right (x ∷ xs) ys zero past = absurd (omega arith)
get_right (x ∷ xs) ys (suc i) past = let it = get_right xs ys i (omega arith) in (it.0, omega (arith, it.1), it.2)

get_seam : {A : Type 0} (xs : List A) (y : A) → slice_get (xs ++ y ∷ []) (length xs) ≡ Some y
get_seam [] y = refl
get_seam (x ∷ xs) y = get_seam xs y

-- what a filter leaves of one element
one_passes : {A : Type 0} (p : A → Bool) (x : A) (b : Bool) → p x ≡ b → filter p (x ∷ []) ≡ cond b (x ∷ []) []
one_passes p x true is = rw is refl
one_passes p x false is = rw is refl

-- a number that passes a test stands at the place of how many pass before it
pub passes_at : (p : ℕ → Bool) (n k : ℕ) → k < n → p k ≡ true → slice_get (filter p (below n)) (count_by p (below k)) ≡ Some k
passes_at p zero k less passes = absurd (omega arith)
passes_at p (suc n) k less passes =
    let split : filter p (below n ++ n ∷ []) ≡ filter p (below n) ++ filter p (n ∷ []) = filter-append p (below n) (n ∷ []) in
    ⊎_elim
    (λ before.
    let there = passes_at p n k before passes in
    ap (λ xs. slice_get xs (count_by p (below k))) split ∙ get_left (filter p (below n)) (filter p (n ∷ [])) (count_by p (below k)) (slice_get_within (filter p (below n)) (count_by p (below k)) k there) ∙ there)
    (λ last.
    let same : k ≡ n = omega arith in
    let one : filter p (n ∷ []) ≡ n ∷ [] = one_passes p n true (ap p (sym same) ∙ passes) in
    let size : length (filter p (below n)) ≡ count_by p (below k) = length-filter p (below n) ∙ ap (λ m. count_by p (below m)) (sym same) in
    ap (λ xs. slice_get xs (count_by p (below k))) (split ∙ ap (λ ys. filter p (below n) ++ ys) one)
    ∙ ap (slice_get (filter p (below n) ++ n ∷ [])) (sym size)
    ∙ get_seam (filter p (below n)) n
    ∙ ap Some (sym same))
    (order k n)

at_step : (p : ℕ → Bool) (n i k : ℕ) (b : Bool) → p n ≡ b → (slice_get (filter p (below n)) i ≡ Some k → (p k ≡ true) × (count_by p (below k) ≡ i)) → slice_get (filter p (below n) ++ cond b (n ∷ []) []) i ≡ Some k → (p k ≡ true) × (count_by p (below k) ≡ i)
at_step p n i k b is before there =
    ⊎_elim
    (λ left. before (sym (get_left (filter p (below n)) (cond b (n ∷ []) []) i left) ∙ there))
    (λ past. let it = get_right (filter p (below n)) (cond b (n ∷ []) []) i past in last b is it.0 it.1 (sym it.2 ∙ there))
    (order i (length (filter p (below n))))
  where
    last : (b : Bool) → p n ≡ b → (j : ℕ) → i ≡ length (filter p (below n)) + j → slice_get (cond b (n ∷ []) []) j ≡ Some k → (p k ≡ true) × (count_by p (below k) ≡ i)
    last true is zero at one =
        let same : n ≡ k = cc in
        let size = length-filter p (below n) in
        let here : count_by p (below n) ≡ i = omega (arith, size, at) in
        (ap p (sym same) ∙ is, ap (λ m. count_by p (below m)) (sym same) ∙ here)
    last true is (suc j) at one = cc
    last false is j at one = cc

-- what stands at a place passes the test, and so many pass before it
pub at_passes : (p : ℕ → Bool) (n i k : ℕ) → slice_get (filter p (below n)) i ≡ Some k → (p k ≡ true) × (count_by p (below k) ≡ i)
at_passes p zero i k there = cc
at_passes p (suc n) i k there =
    let split : filter p (below n ++ n ∷ []) ≡ filter p (below n) ++ cond (p n) (n ∷ []) [] = filter-append p (below n) (n ∷ []) ∙ ap (λ ys. filter p (below n) ++ ys) (one_passes p n (p n) refl) in
    at_step p n i k (p n) refl (at_passes p n i k) (ap (λ xs. slice_get xs i) (sym split) ∙ there)

-- an object with a parent is in the tree
with_parent : (tree : Tree) (k o : ℕ) (node : Option Node) → slice_get tree k ≡ node → option_and_then (λ node. node.parent) node ≡ Some o → k < length tree
with_parent tree k o None is parent = cc
with_parent tree k o (Some node) is parent = slice_get_within tree k node is

-- a child stands at its place among the children
pub child_at : (tree : Tree) (o k : ℕ) → is_child tree k o ≡ true → slice_get (children_of tree o) (place_among tree o k) ≡ Some k
child_at tree o k child = passes_at (λ k. is_child tree k o) (length tree) k (with_parent tree k o (slice_get tree k) refl (parent_is tree k o child)) child

-- what stands at a place among the children is a child at that place
pub at_child : (tree : Tree) (o i k : ℕ) → slice_get (children_of tree o) i ≡ Some k → (is_child tree k o ≡ true) × (place_among tree o k ≡ i)
at_child tree o i k there = at_passes (λ k. is_child tree k o) (length tree) i k there

-- no object is its own child
own_child : (tree : Tree) → IsLawful tree → (o : ℕ) (b : Bool) → is_child tree o o ≡ b → b ≡ false
own_child tree lawful o true is = absurd (let before = (lawful_early tree lawful.shape).early o o (parent_is tree o o is) in omega arith)
own_child tree lawful o false is = refl

pub not_own_child : (tree : Tree) → IsLawful tree → (o : ℕ) → is_child tree o o ≡ false
not_own_child tree lawful o = own_child tree lawful o (is_child tree o o) refl
