-- The levels of a lawful tree, from each object to the next.
use Rattle.std.proofs.Common.{◌≡◌, ℕ, zero, suc, ◌+◌, ◌-◌, ◌<◌, ◌≤◌, Bool, true, false, ◌∷◌, length, get_or, refl, sym, ap, ◌∙◌, subst, arith, Option, Some, None, ⊎_elim, inl, inr, ◌⊎◌}
use Rattle.std.specs.Prelude.{Contains, slice_get, option_map}
use Rattle.std.proofs.str.Laws.{order}
use Rattle.std.proofs.lemmas.Option.{slice_get_within}
use Rattle.hem_base.specs.declared.ids.Kind.{Kind}
use Rattle.hem_base.specs.declared.ids.Kind.TheVariants.{Leaf}
use Rattle.hem_tree.specs.Tree.{Tree, Node, kind_of, parent_of, is_child, path_of, level_of, IsUnder, IsLawful}
use Rattle.hem_tree.proofs.Paths.{IsEarly, cases_of, level_step, path_end, under_parent, under_more, under_less, under_none}
use Rattle.hem_tree.proofs.Early.{lawful_early}
use Rattle.hem_tree.proofs.Lawful.{filter_none, filter_some, is_number_true, number_is}

module _ (tree : Tree) (lawful : IsLawful tree) where
  early : IsEarly tree
  early = lawful_early tree lawful.shape

  pub root_parent : parent_of tree 0 ≡ None
  root_parent = rw lawful.shape.root refl

  pub root_level : level_of tree 0 ≡ 1
  root_level = let none = ap length (path_end tree early 0 root_parent) in omega (arith, none)

  pub some_object : 0 < length tree
  some_object = slice_get_within tree 0 _ lawful.shape.root

  -- what is above an object is of a lower level
  under_level : (n j m : ℕ) → j ≤ n → IsUnder tree j m → level_of tree m < level_of tree j
  under_level zero j m le u = ⊎_elim (λ none. absurd (under_none tree early j m none u)) (λ some. absurd (let lt = early.early j some.0 some.1 in omega (arith, lt, le))) (cases_of (parent_of tree j))
  under_level (suc n) j m le u = ⊎_elim (λ none. absurd (under_none tree early j m none u)) (λ some. step some.0 some.1 (λ r low more. under_level n r m low more)) (cases_of (parent_of tree j))
    where
      step : (r : ℕ) → parent_of tree j ≡ Some r → ((r : ℕ) → r ≤ n → IsUnder tree r m → level_of tree m < level_of tree r) → level_of tree m < level_of tree j
      step r h rest =
          let lt = early.early j r h in
          let one = level_step tree early j r h in
          ⊎_elim
          (λ same. let level = ap (level_of tree) same in omega (arith, one, level))
          (λ more. let less = rest r (omega (arith, lt, le)) more in omega (arith, one, less))
          (under_less tree early j r m h u)

  pub lower : (j m : ℕ) → IsUnder tree j m → level_of tree m < level_of tree j
  lower j m u = under_level j j m (omega arith) u

  -- what is above an object that is above another one is above that one
  above_both : (n j q m : ℕ) → j ≤ n → IsUnder tree j q → IsUnder tree q m → IsUnder tree j m
  above_both zero j q m le u v = ⊎_elim (λ none. absurd (under_none tree early j q none u)) (λ some. absurd (let lt = early.early j some.0 some.1 in omega (arith, lt, le))) (cases_of (parent_of tree j))
  above_both (suc n) j q m le u v = ⊎_elim (λ none. absurd (under_none tree early j q none u)) (λ some. step some.0 some.1 (λ r low more. above_both n r q m low more v)) (cases_of (parent_of tree j))
    where
      step : (r : ℕ) → parent_of tree j ≡ Some r → ((r : ℕ) → r ≤ n → IsUnder tree r q → IsUnder tree r m) → IsUnder tree j m
      step r h rest =
          let lt = early.early j r h in
          ⊎_elim
          (λ same. under_more tree early j r m h (subst (λ k. IsUnder tree k m) (sym same) v))
          (λ more. under_more tree early j r m h (rest r (omega (arith, lt, le)) more))
          (under_less tree early j r q h u)

  -- the parent of the next object is this one or above it
  next_parent : (o q : ℕ) → parent_of tree (o + 1) ≡ Some q → (o ≡ q) ⊎ IsUnder tree o q
  next_parent o q h = go (lawful.shape.preorder o q h)
    where
      go : Contains (o ∷ path_of tree o) q → (o ≡ q) ⊎ IsUnder tree o q
      go c = at c.0 c.1 c.2
        where
          at : (i : ℕ) → i < length (o ∷ path_of tree o) → get_or (o ∷ path_of tree o) i q ≡ q → (o ≡ q) ⊎ IsUnder tree o q
          at zero lt is = inl is
          at (suc i) lt is = inr (i, omega arith, is)

  -- what stands before an object and above the next one is above it
  one_before : (j m : ℕ) → m < j → IsUnder tree (j + 1) m → IsUnder tree j m
  one_before j m lt u = ⊎_elim (λ none. absurd (under_none tree early (j + 1) m none u)) (λ some. go some.0 some.1) (cases_of (parent_of tree (j + 1)))
    where
      go : (q : ℕ) → parent_of tree (j + 1) ≡ Some q → IsUnder tree j m
      go q h =
          ⊎_elim
          (λ same. ⊎_elim (λ here. absurd (omega (arith, lt, same, here))) (λ under. subst (IsUnder tree j) same under) (next_parent j q h))
          (λ more. ⊎_elim (λ here. subst (λ k. IsUnder tree k m) (sym here) more) (λ under. above_both j j q m (omega arith) under more) (next_parent j q h))
          (under_less tree early (j + 1) q m h u)

  -- all between an object and its child are under the object
  between : (d k m j : ℕ) → parent_of tree k ≡ Some m → m < j → j + d ≡ k → IsUnder tree j m
  between zero k m j h lt is = let same : k ≡ j = omega (arith, is) in under_parent tree early j m m (ap (parent_of tree) (sym same) ∙ h) refl
  between (suc d) k m j h lt is = one_before j m lt (between d k m (j + 1) h (omega (arith, lt)) (omega (arith, is)))

  pub under_between : (k m j : ℕ) → parent_of tree k ≡ Some m → m < j → j ≤ k → IsUnder tree j m
  under_between k m j h lt le = between (k - j) k m j h lt (omega (arith, le))

  -- an object with a parent is deeper than the root
  pub deep : (o : ℕ) → 0 < o → o < length tree → 2 ≤ level_of tree o
  deep o some lt = let parent = lawful.shape.parents o some lt in let one = level_step tree early o parent.0 parent.1 in omega (arith, one)

  kind_there : (o : ℕ) (kind : Kind) → kind_of tree o ≡ Some kind → o < length tree
  kind_there o kind is = go (slice_get tree o) refl is
    where
      go : (node : Option Node) → slice_get tree o ≡ node → option_map (λ (n : Node). n.kind) node ≡ Some kind → o < length tree
      go None e h = absurd cc
      go (Some n) e h = slice_get_within tree o n e

  -- after a leaf the level stays or falls
  pub after_leaf : (o : ℕ) → kind_of tree o ≡ Some Leaf → o + 1 < length tree → level_of tree (o + 1) ≤ level_of tree o
  after_leaf o leaf lt =
      let parent = lawful.shape.parents (o + 1) (omega arith) lt in
      let one = level_step tree early (o + 1) parent.0 parent.1 in
      let none = (lawful.shape.leaves o (kind_there o Leaf leaf)).0 leaf in
      ⊎_elim
      (λ here. absurd (filter_some (λ k. is_child tree k o) (length tree) (o + 1) lt (number_is (parent_of tree (o + 1)) o (parent.1 ∙ ap Some (sym here))) none))
      (λ under. let less = lower o parent.0 under in omega (arith, one, less))
      (next_parent o parent.0 parent.1)

  -- an object that is no leaf has a child
  child_below : (o n : ℕ) → ((k : ℕ) → k < n → is_child tree k o ≡ false) ⊎ ((k : ℕ) × (parent_of tree k ≡ Some o) × (k < n))
  child_below o zero = inl (λ k lt. absurd (omega arith))
  child_below o (suc n) = go (is_child tree n o) refl (child_below o n)
    where
      go : (b : Bool) → is_child tree n o ≡ b → (((k : ℕ) → k < n → is_child tree k o ≡ false) ⊎ ((k : ℕ) × (parent_of tree k ≡ Some o) × (k < n)))
          → ((k : ℕ) → k < suc n → is_child tree k o ≡ false) ⊎ ((k : ℕ) × (parent_of tree k ≡ Some o) × (k < suc n))
      go true is rest = inr (n, is_number_true (parent_of tree n) o is, omega arith)
      go false is rest =
          ⊎_elim
          (λ none. inl (λ k lt. ⊎_elim (λ low. none k low) (λ high. let same : n ≡ k = omega arith in ap (λ i. is_child tree i o) (sym same) ∙ is) (order k n)))
          (λ some. inr (some.0, some.1, (let lt = some.2 in omega (arith, lt))))
          rest

  has_child : (o : ℕ) → o < length tree → (kind_of tree o ≡ Some Leaf → ⊥) → (k : ℕ) × (parent_of tree k ≡ Some o) × (k < length tree)
  has_child o there inner =
      ⊎_elim
      (λ none. absurd (inner ((lawful.shape.leaves o there).1 (filter_none (λ k. is_child tree k o) (length tree) none))))
      (λ some. some)
      (child_below o (length tree))

  -- after an object that is no leaf comes its first child
  pub after_inner : (o : ℕ) → o < length tree → (kind_of tree o ≡ Some Leaf → ⊥) → (o + 1 < length tree) × (level_of tree (o + 1) ≡ level_of tree o + 1)
  after_inner o there inner =
      let child = has_child o there inner in
      let before = early.early child.0 o child.1 in
      let low : o + 1 < length tree = (let lt = child.2 in omega (arith, before, lt)) in
      let under = under_between child.0 o (o + 1) child.1 (omega arith) (omega (arith, before)) in
      let parent = lawful.shape.parents (o + 1) (omega arith) low in
      let one = level_step tree early (o + 1) parent.0 parent.1 in
      let same : parent.0 ≡ o = ⊎_elim (λ is. is)
      (λ more. absurd (let deeper = lower parent.0 o more in
      ⊎_elim (λ here. (let level = ap (level_of tree) here in omega (arith, deeper, level))) (λ above. (let higher = lower o parent.0 above in omega (arith, deeper, higher))) (next_parent o parent.0 parent.1)))
      (under_less tree early (o + 1) parent.0 o parent.1 under) in
      let level = ap (level_of tree) same in
      (low, omega (arith, one, level))
