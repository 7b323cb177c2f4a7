-- In a lawful tree parents stand before their children.
use Rattle.std.proofs.Common.{◌≡◌, ℕ, zero, suc, ◌+◌, ◌<◌, ◌≤◌, List, [], ◌∷◌, length, get_or, refl, sym, ap, ◌∙◌, subst, arith, Some, None, ⊎_elim, inl, inr, ◌⊎◌}
use Rattle.std.specs.Prelude.{Contains}
use Rattle.std.proofs.str.Laws.{order}
use Rattle.hem_base.specs.declared.ids.ObjectId.{ObjectId}
use Rattle.hem_tree.specs.declared.objects.Object.{Object}
use Rattle.hem_tree.specs.Objects.{IsObjectOf}
use Rattle.hem_tree.specs.Tree.{Tree, parent_of, path_up, IsTree}
use Rattle.hem_tree.proofs.Paths.{IsEarly, cases_of, path_none, path_some}

-- the objects up to n have their parents before them
abbrev UpTo : Tree → ℕ → Type 0
UpTo tree n = (k m : ℕ) → k ≤ n → parent_of tree k ≡ Some m → m < k

none_in_empty : (m : ℕ) (path : List ℕ) → path ≡ [] → Contains path m → ⊥
none_in_empty m path e c = let d = subst (λ l. Contains l m) e c in omega (arith, d.1)

head_or_rest : (q m : ℕ) (rest : List ℕ) → Contains (q ∷ rest) m → (q ≡ m) ⊎ Contains rest m
head_or_rest q m rest c = at c.0 c.1 c.2
  where
    at : (i : ℕ) → i < length (q ∷ rest) → get_or (q ∷ rest) i m ≡ m → (q ≡ m) ⊎ Contains rest m
    at zero lt is = inl is
    at (suc i) lt is = inr (i, omega arith, is)

path_before : (f : ℕ) (tree : Tree) (n o m : ℕ) → UpTo tree n → o ≤ n → Contains (path_up f tree o) m → m < o
path_before zero tree n o m up le c = absurd (omega (arith, c.1))
path_before (suc f) tree n o m up le c =
    ⊎_elim
    (λ none. absurd (none_in_empty m _ (path_none (suc f) tree o none) c))
    (λ some. let lt = up o some.0 le some.1 in ⊎_elim (λ head. omega arith) (λ rest. let more = path_before f tree n some.0 m up (omega arith) rest in omega arith) (head_or_rest some.0 m _ (subst (λ l. Contains l m) (path_some f tree o some.0 some.1) c)))
    (cases_of (parent_of tree o))

root_alone : (tree : Tree) → IsTree tree → (k m : ℕ) → k ≡ 0 → parent_of tree k ≡ Some m → ⊥
root_alone tree law k m e h = let none : parent_of tree 0 ≡ None = rw law.root refl in let some = ap (parent_of tree) (sym e) ∙ h in cc

up_to : (tree : Tree) → IsTree tree → (n : ℕ) → UpTo tree n
up_to tree law zero k m le h = absurd (root_alone tree law k m (omega arith) h)
up_to tree law (suc n) k m le h = ⊎_elim (λ lt. up_to tree law n k m (omega arith) h) (λ ge. last (up_to tree law n) (omega arith)) (order k (suc n))
  where
    last : UpTo tree n → k ≡ n + 1 → m < k
    last up same =
        ⊎_elim (λ head. omega arith) (λ rest. let lt = path_before (length tree) tree n n m up (omega arith) rest in omega arith)
        (head_or_rest n m _ (law.preorder n m (ap (parent_of tree) (sym same) ∙ h)))

pub lawful_early : (tree : Tree) → IsTree tree → IsEarly tree
lawful_early tree law = record { early = λ k m h. up_to tree law k k m (omega arith) h }

-- the parent that is kept of an object
pub parent_kept : (tree : Tree) (k : ℕ) (o : Object) (p : ObjectId) → IsObjectOf tree k o → o.parent ≡ Some p → parent_of tree k ≡ Some p.0
parent_kept tree k o p kept h = rw (kept.node, h) refl
