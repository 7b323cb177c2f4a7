-- A tree of the grammar is lawful just where no object passes a limit.
use Rattle.std.proofs.Common.{◌≡◌, ◌≢◌, ℕ, zero, suc, ◌+◌, ◌<◌, ◌≤◌, Bool, true, false, cond, List, [], ◌∷◌, length, refl, sym, ap, ◌∙◌, subst, arith, Some, None, ⊎_elim}
use Rattle.std.specs.Prelude.{Contains, ◌↔◌, slice_get, nat_le, nat_lt}
use Rattle.std.proofs.str.Laws.{order}
use Rattle.std.proofs.lemmas.Bool.{leb-false, ltb-false, lt-leb, le-ltb}
use Rattle.std.proofs.lemmas.Option.{slice_get_within}
use Rattle.std.proofs.lemmas.List.Sums.{length-filter}
use Rattle.hem_base.specs.declared.ids.Kind.{Kind}
use Rattle.hem_base.specs.declared.ids.Kind.TheVariants.{Root, Mid, Leaf}
use Rattle.hem_tree.specs.declared.setup.SetupCause.{SetupCause}
use Rattle.hem_tree.specs.declared.setup.SetupCause.TheVariants as cause
use Rattle.hem_tree.specs.declared.raw.RawNode.{RawNode}
use Rattle.hem_tree.specs.Limits.{most_objects, most_children, most_levels}
use Rattle.hem_tree.specs.Tree.{Tree, below, kind_of, parent_of, is_child, children_of, place_among, path_up, path_of, level_of, IsLawful}
use Rattle.hem_tree.specs.Raw.{IsRawTree, IsLevelAfter, level_at, tree_of}
use Rattle.hem_tree.specs.Building.{elders_of, passed_at, IsFirstPassed}
use Rattle.hem_tree.proofs.Nearest.{has_parent, deep_between, parent_is, next_parent}
use Rattle.hem_tree.proofs.Paths.{cases_of, path_some}
use Rattle.hem_tree.proofs.Lawful.{get_within, length_tree, get_tree, parent_inside, kind_past, level_is, kind_is, count_bounded, count_later, filter_none, filter_some, is_number_true, number_is, levels_of, parent_by_level, by_level}

some_alike : {X : Type 0} (a b : X) → Some a ≡ Some b → a ≡ b
some_alike a b h = cc

-- what no passed limit says
pub record IsWithin (tree : Tree) (k : ℕ) : Type 0 where
  pub objects : k < most_objects
  pub children : elders_of tree k < most_children
  pub levels : level_of tree k ≤ most_levels

pub within_at : (tree : Tree) (k : ℕ) → passed_at tree k ≡ None → IsWithin tree k
within_at tree k h = go (nat_le most_objects k) refl (nat_le most_children (elders_of tree k)) refl (nat_lt most_levels (level_of tree k)) refl h
  where
    go : (a : Bool) → nat_le most_objects k ≡ a → (b : Bool) → nat_le most_children (elders_of tree k) ≡ b → (d : Bool) → nat_lt most_levels (level_of tree k) ≡ d
        → cond a (Some cause.Objects) (cond b (Some cause.Children) (cond d (Some cause.Levels) None)) ≡ None → IsWithin tree k
    go true _ b _ d _ none = absurd cc
    go false _ true _ d _ none = absurd cc
    go false _ false _ true _ none = absurd cc
    go false x false y false z none = record {
      objects = leb-false _ _ x;
      children = leb-false _ _ y;
      levels = ltb-false _ _ z;
    }

pub none_at : (tree : Tree) (k : ℕ) → IsWithin tree k → passed_at tree k ≡ None
none_at tree k w = rw (lt-leb most_objects k w.objects, lt-leb most_children (elders_of tree k) w.children, le-ltb most_levels (level_of tree k) w.levels) refl

pub elders_at : (tree : Tree) (k high : ℕ) → parent_of tree k ≡ Some high → elders_of tree k ≡ place_among tree high k
elders_at tree k high h = rw h refl

pub elders_none : (tree : Tree) (k : ℕ) → parent_of tree k ≡ None → elders_of tree k ≡ 0
elders_none tree k h = rw h refl

-- in a lawful tree no object passes a limit
pub lawful_within : (tree : Tree) → IsLawful tree → (k : ℕ) → k < length tree → IsWithin tree k
lawful_within tree law k lt = record {
  objects = omega (arith, law.objects);
  children = ⊎_elim (λ none. let e = elders_none tree k none in omega arith) (λ some. few some.0 some.1) (cases_of (parent_of tree k));
  levels = law.levels k lt;
}
  where
    few : (high : ℕ) → parent_of tree k ≡ Some high → elders_of tree k < most_children
    few high h =
        let e = elders_at tree k high h in
        let c = count_later (λ j. is_child tree j high) k (length tree) lt (number_is (parent_of tree k) high h) in
        let l = length-filter (λ j. is_child tree j high) (below (length tree)) in
        omega (arith, law.children high)

module _ (nodes : List RawNode) (raw : IsRawTree nodes) where
  -- all nodes after m up to k are deeper than m
  abbrev Deeper : ℕ → ℕ → Type 0
  Deeper m k = (j : ℕ) → m < j → j ≤ k → level_at nodes m < level_at nodes j

  further : (m q : ℕ) (rest path : List ℕ) → path ≡ rest → Contains rest m → Contains (q ∷ path) m
  further m q rest path e c = subst (λ l. Contains (q ∷ l) m) (sym e) (suc c.0, omega (arith, c.1), c.2)

  up_one : (f k m : ℕ) → k < length nodes → k ≤ suc f → m < k → Deeper m k
      → ((q : ℕ) → q < length nodes → q ≤ f → m ≤ q → Deeper m q → Contains (q ∷ path_up f (tree_of nodes) q) m)
      → Contains (k ∷ path_up (suc f) (tree_of nodes) k) m
  up_one f k m within le lt deeper higher =
      let some = has_parent (levels_of nodes raw) k (omega arith) within in
      let above = parent_is (level_at nodes) k some.0 some.1 in
      let left : m ≤ some.0 = ⊎_elim (λ less. absurd (let d = deep_between (levels_of nodes raw) k some.0 m within some.1 less (omega arith) in let d' = deeper k lt (omega arith) in omega arith)) (λ ge. ge) (order some.0 m) in
      further m k _ _ (path_some f (tree_of nodes) k some.0 (parent_by_level nodes raw k within ∙ some.1)) (higher some.0 (omega (arith, above.0)) (omega (arith, above.0)) left (λ j a b. deeper j a (omega (arith, above.0))))

  -- a node is on the path of a later one, if all between are deeper
  on_path : (f k m : ℕ) → k < length nodes → k ≤ f → m ≤ k → Deeper m k → Contains (k ∷ path_up f (tree_of nodes) k) m
  on_path zero k m within le low deeper = (0, omega arith, omega arith)
  on_path (suc f) k m within le low deeper =
      ⊎_elim (λ lt. up_one f k m within le lt deeper (λ q a b c d. on_path f q m a b c d)) (λ ge. (0, omega arith, omega arith)) (order m k)

  preorder : (o high : ℕ) → parent_of (tree_of nodes) (o + 1) ≡ Some high → Contains (o ∷ path_of (tree_of nodes) o) high
  preorder o high h =
      let by = by_level nodes raw (o + 1) high h in
      let above = parent_is (level_at nodes) (o + 1) high by in
      let within = inside (o + 1) high h in
      on_path (length (tree_of nodes)) o high (omega arith) (omega (arith, length_tree nodes)) (omega (arith, above.0))
      (λ j low le. let d = deep_between (levels_of nodes raw) (o + 1) high j within by low (omega arith) in omega (arith, above.1))
    where
      inside : (k m : ℕ) → parent_of (tree_of nodes) k ≡ Some m → k < length nodes
      inside k m e = parent_inside nodes raw k m e

  node_of_kind : (o : ℕ) (kind : Kind) → kind_of (tree_of nodes) o ≡ Some kind → (n : RawNode) × (slice_get nodes o ≡ Some n) × (n.kind ≡ kind)
  node_of_kind o kind h = ⊎_elim (λ none. absurd (let e = kind_past nodes o none in cc)) (λ some. (some.0, some.1, some_alike _ _ (sym (kind_is nodes o some.0 some.1) ∙ h))) (cases_of (slice_get nodes o))

  only_root : (o : ℕ) → kind_of (tree_of nodes) o ≡ Some Root → o ≡ 0
  only_root zero h = refl
  only_root (suc k) h =
      let n = node_of_kind (suc k) Root h in
      let next : suc k ≡ k + 1 = omega arith in
      absurd ((raw.others k n.0 (ap (slice_get nodes) (sym next) ∙ n.1)).0 n.2)

  -- a leaf has no child
  no_child : (o k : ℕ) → kind_of (tree_of nodes) o ≡ Some Leaf → parent_of (tree_of nodes) k ≡ Some o → ⊥
  no_child o k leaf h =
      let by = by_level nodes raw k o h in
      let above = parent_is (level_at nodes) k o by in
      let within = parent_inside nodes raw k o h in
      let n = node_of_kind o Leaf leaf in
      let next = get_within nodes (o + 1) (omega (arith, above.0)) in
      let low : next.0.level ≤ n.0.level = subst (λ kind. IsLevelAfter kind n.0.level next.0.level) n.2 (raw.levels o n.0 next.0 n.1 next.1) in
      let deep = deep_between (levels_of nodes raw) k o (o + 1) within by (omega arith) (omega (arith, above.0)) in
      omega (arith, above.1, level_is nodes o n.0 n.1, level_is nodes (o + 1) next.0 next.1)

  is_no_child : (o k : ℕ) → kind_of (tree_of nodes) o ≡ Some Leaf → is_child (tree_of nodes) k o ≡ false
  is_no_child o k leaf = go (is_child (tree_of nodes) k o) refl
    where
      go : (b : Bool) → is_child (tree_of nodes) k o ≡ b → b ≡ false
      go true h = absurd (no_child o k leaf (is_number_true (parent_of (tree_of nodes) k) o h))
      go false h = refl

  -- what isn't a leaf has its first child next
  next_child : (o : ℕ) (n : RawNode) → slice_get nodes o ≡ Some n → n.kind ≢ Leaf → (o + 1 < length nodes) × (parent_of (tree_of nodes) (o + 1) ≡ Some o)
  next_child o n h inner =
      let lt = slice_get_within nodes o n h in
      let more : o + 1 < length nodes = ⊎_elim (λ less. less) (λ ge. absurd (inner (raw.last o n (omega arith) h))) (order (o + 1) (length nodes)) in
      let next = get_within nodes (o + 1) more in
      let deeper = after n.kind n.level next.0.level inner (raw.levels o n next.0 h next.1) in
      let level : level_at nodes (o + 1) ≡ level_at nodes o + 1 = omega (arith, level_is nodes o n h, level_is nodes (o + 1) next.0 next.1) in
      (more, parent_by_level nodes raw (o + 1) more ∙ next_parent (level_at nodes) o level)
    where
      after : (kind : Kind) (level next : ℕ) → kind ≢ Leaf → IsLevelAfter kind level next → next ≡ level + 1
      after Root level next not e = e
      after Mid level next not e = e
      after Leaf level next not e = absurd (not refl)

  childless : (o : ℕ) (n : RawNode) → slice_get nodes o ≡ Some n → children_of (tree_of nodes) o ≡ [] → n.kind ≡ Leaf
  childless o n h none = go n.kind refl
    where
      never : n.kind ≢ Leaf → ⊥
      never inner =
          let child = next_child o n h inner in
          filter_some (λ k. is_child (tree_of nodes) k o) (length (tree_of nodes)) (o + 1) (omega (arith, child.0, length_tree nodes)) (number_is _ o child.1) none

      go : (kind : Kind) → n.kind ≡ kind → n.kind ≡ Leaf
      go Leaf e = e
      go Root e = absurd (never (λ leaf. let c : Root ≡ Leaf = cc in cc))
      go Mid e = absurd (never (λ leaf. let c : Mid ≡ Leaf = cc in cc))

  -- where no object passes a limit, the tree is lawful
  pub lawful : ((k : ℕ) → k < length nodes → passed_at (tree_of nodes) k ≡ None) → IsLawful (tree_of nodes)
  lawful none = record {
    shape = record {
      root = rw (get_tree nodes 0, raw.first.1, raw.first.2) refl;
      one_root = only_root;
      parents = λ o some lt. let m = has_parent (levels_of nodes raw) o some (omega (arith, length_tree nodes)) in (m.0, parent_by_level nodes raw o (omega (arith, length_tree nodes)) ∙ m.1);
      preorder = preorder;
      leaves = leaves;
    };
    objects = few_objects;
    children = λ o. omega (arith, few_children o);
    levels = λ o lt. (within_at (tree_of nodes) o (none o (omega (arith, length_tree nodes)))).levels;
  }
    where
      leaves : (o : ℕ) → o < length (tree_of nodes) → (kind_of (tree_of nodes) o ≡ Some Leaf) ↔ (children_of (tree_of nodes) o ≡ [])
      leaves o lt =
          let n = get_within nodes o (omega (arith, length_tree nodes)) in (
            (λ leaf. filter_none (λ k. is_child (tree_of nodes) k o) (length (tree_of nodes)) (λ k in'. is_no_child o k leaf)),
            (λ empty. kind_is nodes o n.0 n.1 ∙ ap Some (childless o n.0 n.1 empty)),
          )

      few_objects : length (tree_of nodes) ≤ most_objects
      few_objects = go (length nodes) refl
        where
          go : (l : ℕ) → length nodes ≡ l → length (tree_of nodes) ≤ most_objects
          go zero e = omega (arith, length_tree nodes)
          go (suc l) e = let w = within_at (tree_of nodes) l (none l (omega arith)) in omega (arith, w.objects, length_tree nodes)

      few_before : (o k : ℕ) → k < length (tree_of nodes) → is_child (tree_of nodes) k o ≡ true → place_among (tree_of nodes) o k < most_children
      few_before o k lt h =
          let w = within_at (tree_of nodes) k (none k (omega (arith, length_tree nodes))) in
          let e = elders_at (tree_of nodes) k o (is_number_true (parent_of (tree_of nodes) k) o h) in
          omega (arith, w.children)

      few_children : (o : ℕ) → length (children_of (tree_of nodes) o) ≤ most_children
      few_children o =
          let c = count_bounded (λ k. is_child (tree_of nodes) k o) most_children (length (tree_of nodes)) (few_before o) in
          omega (arith, length-filter (λ k. is_child (tree_of nodes) k o) (below (length (tree_of nodes))))

  -- where an object passes a limit, the tree isn't lawful
  pub unlawful : (k : ℕ) (c : SetupCause) → IsFirstPassed (tree_of nodes) k c → IsLawful (tree_of nodes) → ⊥
  unlawful k c first law = let none = none_at (tree_of nodes) k (lawful_within (tree_of nodes) law k first.within) in let some = first.here in absurd cc
