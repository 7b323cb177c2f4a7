-- Paths to the root, in a tree in which parents stand before their children.
use Rattle.std.proofs.Common.{◌≡◌, ℕ, zero, suc, ◌+◌, ◌<◌, ◌≤◌, List, [], ◌∷◌, length, get_or, refl, sym, ap, ◌∙◌, subst, arith, Option, Some, None, ⊎_elim, inl, inr, ◌⊎◌}
use Rattle.std.specs.Prelude.{Contains, slice_get, option_and_then}
use Rattle.std.proofs.lemmas.Option.{slice_get_within}
use Rattle.hem_tree.specs.Tree.{Tree, Node, parent_of, path_up, path_of, level_of, IsUnder}

-- parents stand before their children
pub record IsEarly (tree : Tree) : Type 0 where
  pub early : (k m : ℕ) → parent_of tree k ≡ Some m → m < k

pub cases_of : {X : Type 0} (o : Option X) → (o ≡ None) ⊎ ((x : X) × (o ≡ Some x))
cases_of None = inl refl
cases_of (Some x) = inr (x, refl)

abbrev above : ℕ → Tree → Option ℕ → List ℕ
above n tree None = []
above n tree (Some high) = high ∷ path_up n tree high

pub path_none : (n : ℕ) (tree : Tree) (k : ℕ) → parent_of tree k ≡ None → path_up n tree k ≡ []
path_none zero tree k h = refl
path_none (suc n) tree k h = ap (above n tree) h

pub path_some : (n : ℕ) (tree : Tree) (k m : ℕ) → parent_of tree k ≡ Some m → path_up (suc n) tree k ≡ m ∷ path_up n tree m
path_some n tree k m h = ap (above n tree) h

no_parent_at_0 : (tree : Tree) → IsEarly tree → (k : ℕ) → k ≤ 0 → parent_of tree k ≡ None
no_parent_at_0 tree e k le = ⊎_elim (λ none. none) (λ some. absurd (let lt = e.early k some.0 some.1 in omega arith)) (cases_of (parent_of tree k))

-- steps enough are steps enough
pub path_same : (f g : ℕ) (tree : Tree) → IsEarly tree → (k : ℕ) → k ≤ f → k ≤ g → path_up f tree k ≡ path_up g tree k
path_same zero g tree e k le le' = sym (path_none g tree k (no_parent_at_0 tree e k le))
path_same (suc f) zero tree e k le le' = path_none (suc f) tree k (no_parent_at_0 tree e k le')
path_same (suc f) (suc g) tree e k le le' =
    ⊎_elim
    (λ none. path_none (suc f) tree k none ∙ sym (path_none (suc g) tree k none))
    (λ some. let lt = e.early k some.0 some.1 in path_some f tree k some.0 some.1 ∙ ap (λ l. some.0 ∷ l) (path_same f g tree e some.0 (omega arith) (omega arith)) ∙ sym (path_some g tree k some.0 some.1))
    (cases_of (parent_of tree k))

parent_within : (tree : Tree) (k m : ℕ) → parent_of tree k ≡ Some m → k < length tree
parent_within tree k m h = go (slice_get tree k) refl h
  where
    go : (o : Option Node) → slice_get tree k ≡ o → option_and_then (λ node. node.parent) o ≡ Some m → k < length tree
    go None e p = absurd cc
    go (Some node) e p = slice_get_within tree k node e

module _ (tree : Tree) (e : IsEarly tree) where
  pub path_step : (k m : ℕ) → parent_of tree k ≡ Some m → path_of tree k ≡ m ∷ path_of tree m
  path_step k m h =
      let lt = parent_within tree k m h in
      path_same (length tree) (suc (length tree)) tree e k (omega arith) (omega arith) ∙ path_some (length tree) tree k m h

  pub path_end : (k : ℕ) → parent_of tree k ≡ None → path_of tree k ≡ []
  path_end k h = path_none (length tree) tree k h

  pub level_step : (k m : ℕ) → parent_of tree k ≡ Some m → level_of tree k ≡ level_of tree m + 1
  level_step k m h = let p = ap length (path_step k m h) in omega arith

  -- who is above an object is its parent or above its parent
  pub under_parent : (k m high : ℕ) → parent_of tree k ≡ Some m → m ≡ high → IsUnder tree k high
  under_parent k m high h same = subst (λ l. Contains l high) (sym (path_step k m h)) (0, omega arith, same)

  pub under_more : (k m high : ℕ) → parent_of tree k ≡ Some m → IsUnder tree m high → IsUnder tree k high
  under_more k m high h u = subst (λ l. Contains l high) (sym (path_step k m h)) (suc u.0, omega (arith, u.1), u.2)

  pub under_less : (k m high : ℕ) → parent_of tree k ≡ Some m → IsUnder tree k high → (m ≡ high) ⊎ IsUnder tree m high
  under_less k m high h u = go (subst (λ l. Contains l high) (path_step k m h) u)
    where
      go : Contains (m ∷ path_of tree m) high → (m ≡ high) ⊎ IsUnder tree m high
      go c = at c.0 c.1 c.2
        where
          at : (i : ℕ) → i < length (m ∷ path_of tree m) → get_or (m ∷ path_of tree m) i high ≡ high → (m ≡ high) ⊎ IsUnder tree m high
          at zero lt is = inl is
          at (suc i) lt is = inr (i, omega arith, is)

  pub under_none : (k high : ℕ) → parent_of tree k ≡ None → IsUnder tree k high → ⊥
  under_none k high h u = let c = subst (λ l. Contains l high) (path_end k h) u in omega (arith, c.1)
