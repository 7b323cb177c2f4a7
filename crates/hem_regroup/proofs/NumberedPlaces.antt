-- The numbered firings of a history, one by one.
use Rattle.std.proofs.Common.{◌≡◌, refl, ap, ℕ, zero, suc, ◌<◌, List, [], ◌∷◌, length, get_or, None, Some, arith}
use Rattle.std.specs.Prelude.{slice_get}
use Rattle.hem_base.specs.declared.ids.Firing.{Firing}
use Rattle.hem_syntax.specs.Protocol.{Protocol}
use Rattle.hem_tree.specs.Tree.{Tree}
use Rattle.hem_regroup.specs.Numbering.{numbered_at, numbered_by}

-- a firing of none
abbrev pub no_firing : Firing
no_firing = record { line = record { 0 = 0 }; object = record { 0 = 0 }; rule = record { 0 = 0 }; me = None }

-- there are as many numbered firings as firings, and each is of the firing and of the number at its place
pub numbered_size : (p : Protocol) (tree : Tree) (h : List Firing) (numbers : List ℕ) → length numbers ≡ length h → length (numbered_by p tree h numbers) ≡ length h
numbered_size p tree [] numbers same = refl
numbered_size p tree (f ∷ h) [] same = absurd (omega (arith, same))
numbered_size p tree (f ∷ h) (n ∷ numbers) same = ap suc (numbered_size p tree h numbers (omega (arith, same)))

pub numbered_there : (p : Protocol) (tree : Tree) (h : List Firing) (numbers : List ℕ) (k : ℕ) (d : Firing) → length numbers ≡ length h → k < length h → slice_get (numbered_by p tree h numbers) k ≡ Some (numbered_at p tree (get_or h k d) (get_or numbers k 0))
numbered_there p tree [] numbers k d same within = absurd (omega arith)
numbered_there p tree (f ∷ h) [] k d same within = absurd (omega (arith, same))
numbered_there p tree (f ∷ h) (n ∷ numbers) zero d same within = refl
numbered_there p tree (f ∷ h) (n ∷ numbers) (suc k) d same within = numbered_there p tree h numbers k d (omega (arith, same)) (omega arith)
