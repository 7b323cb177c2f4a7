-- The tree of nodes that are a tree of the grammar.
use Rattle.std.proofs.Common.{◌≡◌, ℕ, zero, suc, ◌+◌, ◌<◌, ◌≤◌, Bool, true, false, cond, List, [], ◌∷◌, ◌++◌, length, refl, sym, ap, ◌∙◌, arith, Option, Some, None, ⊎_elim}
use Rattle.std.specs.Prelude.{slice_get, option_map, filter, count_by}
use Rattle.std.proofs.str.Laws.{order}
use Rattle.std.proofs.lemmas.Bool.{eqb-true, eq-eqb}
use Rattle.std.proofs.lemmas.Option.{slice_get_past}
use Rattle.std.proofs.lemmas.List.{length_push}
use Rattle.std.proofs.lemmas.List.Elements.{filter-append}
use Rattle.std.proofs.lemmas.List.Sums.{sum_by_push, length-filter}
use Rattle.hem_base.specs.declared.ids.Kind.{Kind}
use Rattle.hem_base.specs.declared.ids.Kind.TheVariants.{Root, Mid, Leaf}
use Rattle.hem_tree.specs.declared.raw.RawNode.{RawNode}
use Rattle.hem_tree.specs.Tree.{Node, below, is_number, kind_of, parent_of, path_up, level_of}
use Rattle.hem_tree.specs.Raw.{IsRawTree, IsLevelAfter, last_below, level_at, parent_in, objects_from, tree_of}
use Rattle.hem_tree.proofs.Nearest.{Levels, is_above, has_parent, parent_is}
use Rattle.hem_tree.proofs.Paths.{IsEarly, cases_of, path_none, path_some}

-- an element within the list
pub get_within : {X : Type 0} (xs : List X) (k : ℕ) → k < length xs → (x : X) × (slice_get xs k ≡ Some x)
get_within [] k lt = absurd (omega arith)
get_within (x ∷ xs) zero lt = (x, refl)
get_within (x ∷ xs) (suc k) lt = get_within xs k (omega arith)

-- the object of a node
abbrev object_at : List RawNode → ℕ → RawNode → Node
object_at all k n = record { kind = n.kind; parent = parent_in all k n.level }

length_objects : (all : List RawNode) (j : ℕ) (ns : List RawNode) → length (objects_from all j ns) ≡ length ns
length_objects all j [] = refl
length_objects all j (n ∷ ns) = ap suc (length_objects all (j + 1) ns)

get_objects : (all : List RawNode) (j : ℕ) (ns : List RawNode) (k : ℕ) → slice_get (objects_from all j ns) k ≡ option_map (object_at all (j + k)) (slice_get ns k)
get_objects all j [] k = refl
get_objects all j (n ∷ ns) zero = let e : j ≡ j + 0 = omega arith in ap (λ i. Some (object_at all i n)) e
get_objects all j (n ∷ ns) (suc k) = let e : j + 1 + k ≡ j + suc k = omega arith in get_objects all (j + 1) ns k ∙ ap (λ i. option_map (object_at all i) (slice_get ns k)) e

pub length_tree : (nodes : List RawNode) → length (tree_of nodes) ≡ length nodes
length_tree nodes = length_objects nodes 0 nodes

pub get_tree : (nodes : List RawNode) (k : ℕ) → slice_get (tree_of nodes) k ≡ option_map (object_at nodes k) (slice_get nodes k)
get_tree nodes k = let e : 0 + k ≡ k = omega arith in get_objects nodes 0 nodes k ∙ ap (λ i. option_map (object_at nodes i) (slice_get nodes k)) e

pub level_is : (nodes : List RawNode) (k : ℕ) (n : RawNode) → slice_get nodes k ≡ Some n → level_at nodes k ≡ n.level
level_is nodes k n h = rw h refl

pub kind_is : (nodes : List RawNode) (k : ℕ) (n : RawNode) → slice_get nodes k ≡ Some n → kind_of (tree_of nodes) k ≡ Some n.kind
kind_is nodes k n h = rw (get_tree nodes k, h) refl

pub kind_past : (nodes : List RawNode) (k : ℕ) → slice_get nodes k ≡ None → kind_of (tree_of nodes) k ≡ None
kind_past nodes k h = rw (get_tree nodes k, h) refl

pub parent_at : (nodes : List RawNode) (k : ℕ) (n : RawNode) → slice_get nodes k ≡ Some n → parent_of (tree_of nodes) k ≡ parent_in nodes k n.level
parent_at nodes k n h = rw (get_tree nodes k, h) refl

pub parent_past : (nodes : List RawNode) (k : ℕ) → length nodes ≤ k → parent_of (tree_of nodes) k ≡ None
parent_past nodes k le = rw (get_tree nodes k, slice_get_past nodes k le) refl

-- numbers below a bound
pub below_more : (n : ℕ) → below (n + 1) ≡ below n ++ n ∷ []
below_more n = let e : n + 1 ≡ suc n = omega arith in ap below e

pub length_below : (n : ℕ) → length (below n) ≡ n
length_below zero = refl
length_below (suc n) = length_push (below n) n ∙ (let e = length_below n in omega arith)

-- 1 where it holds
abbrev pub one_if : Bool → ℕ
one_if true = 1
one_if false = 0

pub count_more : (p : ℕ → Bool) (n : ℕ) → count_by p (below (suc n)) ≡ count_by p (below n) + one_if (p n)
count_more p n = go (p n) (sum_by_push (λ x. cond (p x) 1 0) (below n) n)
  where
    go : (b : Bool) → count_by p (below (suc n)) ≡ count_by p (below n) + cond b 1 0 → count_by p (below (suc n)) ≡ count_by p (below n) + one_if b
    go true h = h
    go false h = h

pub count_same : (p q : ℕ → Bool) (n : ℕ) → ((k : ℕ) → k < n → p k ≡ q k) → count_by p (below n) ≡ count_by q (below n)
count_same p q zero same = refl
count_same p q (suc n) same =
    let e = count_same p q n (λ k lt. same k (omega arith)) in
    let last = ap one_if (same n (omega arith)) in
    omega (arith, count_more p n, count_more q n)

pub filter_same : (p q : ℕ → Bool) (n : ℕ) → ((k : ℕ) → k < n → p k ≡ q k) → filter p (below n) ≡ filter q (below n)
filter_same p q zero same = refl
filter_same p q (suc n) same =
    let e = filter_same p q n (λ k lt. same k (omega arith)) in
    filter-append p (below n) (n ∷ []) ∙ (rw (e, same n (omega arith)) refl) ∙ sym (filter-append q (below n) (n ∷ []))

-- the count below a place that passes is less than the count below any later place
pub count_later : (p : ℕ → Bool) (k n : ℕ) → k < n → p k ≡ true → count_by p (below k) + 1 ≤ count_by p (below n)
count_later p k zero lt h = absurd (omega arith)
count_later p k (suc n) lt h =
    ⊎_elim
    (λ low. let e = count_later p k n low h in omega (arith, count_more p n))
    (λ le. let same : k ≡ n = omega arith in let e = ap one_if (ap p (sym same) ∙ h) in let c : count_by p (below k) ≡ count_by p (below n) = ap (λ i. count_by p (below i)) same in omega (arith, count_more p n))
    (order k n)

-- where each that passes has fewer than m before it, no more than m pass
pub count_bounded : (p : ℕ → Bool) (m n : ℕ) → ((k : ℕ) → k < n → p k ≡ true → count_by p (below k) < m) → count_by p (below n) ≤ m
count_bounded p m zero each = omega arith
count_bounded p m (suc n) each = go (count_bounded p m n (λ k lt h. each k (omega arith) h)) (p n) refl
  where
    go : count_by p (below n) ≤ m → (b : Bool) → p n ≡ b → count_by p (below (suc n)) ≤ m
    go rest true h = let e = ap one_if h in omega (arith, each n (omega arith) h, count_more p n)
    go rest false h = let e = ap one_if h in omega (arith, count_more p n)

pub filter_none : (p : ℕ → Bool) (n : ℕ) → ((k : ℕ) → k < n → p k ≡ false) → filter p (below n) ≡ []
filter_none p n none = nil_of (filter p (below n)) (length-filter p (below n) ∙ count_same p (λ k. false) n none ∙ zero_count n)
  where
    zero_count : (m : ℕ) → count_by (λ k. false) (below m) ≡ 0
    zero_count zero = refl
    zero_count (suc m) = count_more (λ k. false) m ∙ (let e = zero_count m in omega arith)

    nil_of : (xs : List ℕ) → length xs ≡ 0 → xs ≡ []
    nil_of [] e = refl
    nil_of (x ∷ xs) e = absurd (omega arith)

pub filter_some : (p : ℕ → Bool) (n k : ℕ) → k < n → p k ≡ true → filter p (below n) ≡ [] → ⊥
filter_some p n k lt h e =
    let c = count_later p k n lt h in
    let l : length (filter p (below n)) ≡ 0 = ap length e in
    omega (arith, length-filter p (below n))

-- a child's parent
pub is_number_true : (o : Option ℕ) (n : ℕ) → is_number o n ≡ true → o ≡ Some n
is_number_true None n h = absurd cc
is_number_true (Some m) n h = ap Some (eqb-true m n h)

pub number_is : (o : Option ℕ) (n : ℕ) → o ≡ Some n → is_number o n ≡ true
number_is o n h = rw h (eq-eqb n n refl)

module _ (nodes : List RawNode) (raw : IsRawTree nodes) where
  pub levels_of : Levels (level_at nodes) (length nodes)
  levels_of = record {
    first = level_is nodes 0 raw.first.0 raw.first.1 ∙ raw.first.3;
    others = others;
    rises = rises;
  }
    where
      others : (k : ℕ) → 0 < k → k < length nodes → 2 ≤ level_at nodes k
      others zero some lt = absurd (omega arith)
      others (suc k) some lt =
          let n = get_within nodes (suc k) lt in
          let next : suc k ≡ k + 1 = omega arith in
          let low = raw.others k n.0 (ap (slice_get nodes) (sym next) ∙ n.1) in
          let e = level_is nodes (suc k) n.0 n.1 in
          omega (arith, low.1)

      after : (kind : Kind) (level next : ℕ) → IsLevelAfter kind level next → next ≤ level + 1
      after Root level next h = omega arith
      after Mid level next h = omega arith
      after Leaf level next h = omega arith

      rises : (k : ℕ) → k + 1 < length nodes → level_at nodes (k + 1) ≤ level_at nodes k + 1
      rises k lt =
          let n = get_within nodes k (omega arith) in
          let m = get_within nodes (k + 1) lt in
          let a = after n.0.kind n.0.level m.0.level (raw.levels k n.0 m.0 n.1 m.1) in
          let e = level_is nodes k n.0 n.1 in
          let e' = level_is nodes (k + 1) m.0 m.1 in
          omega arith

  -- the parent of an object is the nearest earlier one of one level less
  pub parent_by_level : (k : ℕ) → k < length nodes → parent_of (tree_of nodes) k ≡ last_below (is_above (level_at nodes) (level_at nodes k)) k
  parent_by_level k lt =
      let n = get_within nodes k lt in
      parent_at nodes k n.0 n.1 ∙ ap (parent_in nodes k) (sym (level_is nodes k n.0 n.1))

  pub parent_inside : (k m : ℕ) → parent_of (tree_of nodes) k ≡ Some m → k < length nodes
  parent_inside k m h = ⊎_elim (λ lt. lt) (λ le. absurd (let none = parent_past nodes k le in cc)) (order k (length nodes))

  pub by_level : (k m : ℕ) → parent_of (tree_of nodes) k ≡ Some m → last_below (is_above (level_at nodes) (level_at nodes k)) k ≡ Some m
  by_level k m h = sym (parent_by_level k (parent_inside k m h)) ∙ h

  pub early : IsEarly (tree_of nodes)
  early = record { early = λ k m h. (parent_is (level_at nodes) k m (by_level k m h)).0 }

  first_has_none : parent_of (tree_of nodes) 0 ≡ None
  first_has_none = ⊎_elim (λ none. none) (λ some. absurd (let lt = early.early 0 some.0 some.1 in omega arith)) (cases_of (parent_of (tree_of nodes) 0))

  -- the levels of the text are the levels of the tree
  path_length : (f k : ℕ) → k < length nodes → k ≤ f → length (path_up f (tree_of nodes) k) + 1 ≡ level_at nodes k
  path_length f zero lt le = (let p = ap length (path_none f (tree_of nodes) 0 first_has_none) in omega (arith, levels_of.first))
  path_length zero (suc k) lt le = absurd (omega arith)
  path_length (suc f) (suc k) lt le =
      let some = has_parent levels_of (suc k) (omega arith) lt in
      let up = parent_is (level_at nodes) (suc k) some.0 some.1 in
      let p = ap length (path_some f (tree_of nodes) (suc k) some.0 (parent_by_level (suc k) lt ∙ some.1)) in
      let rest = path_length f some.0 (omega (arith, up.0)) (omega (arith, up.0)) in
      omega (arith, up.1)

  pub level_of_node : (k : ℕ) → k < length nodes → level_of (tree_of nodes) k ≡ level_at nodes k
  level_of_node k lt = path_length (length (tree_of nodes)) k lt (omega (arith, length_tree nodes))
