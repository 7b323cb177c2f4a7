-- The children of the object that fires, one after another.
use Rattle.std.proofs.Common.{◌≡◌, ◌≢◌, ◌∙◌, refl, sym, ap, ℕ, ◌+◌, ◌<◌, Bool, true, false, arith, length, Some}
use Rattle.std.specs.Prelude.{◌&&◌, nat_lt, slice_get}
use Rattle.std.proofs.lemmas.Option.{slice_get_within}
use Rattle.hem_tree.specs.Tree.{Tree, is_child, children_of, place_among}
use Rattle.hem_system.specs.Lists.{is_met}
use Rattle.hem_system.proofs.Kids.{child_at, at_child}

-- tests of numbers
lt_same : (x n : ℕ) → x ≢ n → nat_lt x (n + 1) ≡ nat_lt x n
lt_same x n other = grind arith

lt_not : (n : ℕ) → nat_lt n n ≡ false
lt_not n = grind arith

lt_zero : (x : ℕ) → nat_lt x 0 ≡ false
lt_zero x = grind arith

lt_is : (x n : ℕ) → x < n → nat_lt x n ≡ true
lt_is x n less = grind arith

-- at first none is met
none_by : (b c : Bool) → c ≡ false → (b && c) ≡ false
none_by true c fails = fails
none_by false c fails = refl

pub met_none : (tree : Tree) (o k : ℕ) → is_met tree o 0 k ≡ false
met_none tree o k = none_by (is_child tree k o) _ (lt_zero (place_among tree o k))

-- one child more changes nothing for the others
other_by : (b : Bool) (x n : ℕ) → (b ≡ true → x ≢ n) → (b && nat_lt x (n + 1)) ≡ (b && nat_lt x n)
other_by true x n other = lt_same x n (other refl)
other_by false x n other = refl

pub met_other : (tree : Tree) (o n c k : ℕ) → slice_get (children_of tree o) n ≡ Some c → k ≢ c → is_met tree o (n + 1) k ≡ is_met tree o n k
met_other tree o n c k at differ =
    other_by (is_child tree k o) (place_among tree o k) n
    (λ child same.
    let here : slice_get (children_of tree o) n ≡ Some k = ap (slice_get (children_of tree o)) (sym same) ∙ child_at tree o k child in
    let both : Some k ≡ Some c = sym here ∙ at in
    let it : k ≡ c = cc in
    differ it)

-- a child that comes now was not met before, and is now
pub met_not_yet : (tree : Tree) (o n c : ℕ) → slice_get (children_of tree o) n ≡ Some c → is_met tree o n c ≡ false
met_not_yet tree o n c at =
    let it = at_child tree o n c at in
    none_by (is_child tree c o) _ (ap (λ (m : ℕ). nat_lt m n) it.1 ∙ lt_not n)

now_by : (b : Bool) (x n : ℕ) → b ≡ true → x ≡ n → (b && nat_lt x (n + 1)) ≡ true
now_by true x n child same = lt_is x (n + 1) (omega arith)
now_by false x n child same = cc

pub met_now : (tree : Tree) (o n c : ℕ) → slice_get (children_of tree o) n ≡ Some c → is_met tree o (n + 1) c ≡ true
met_now tree o n c at = let it = at_child tree o n c at in now_by (is_child tree c o) (place_among tree o c) n it.0 it.1

-- at last each child is met
all_by : (b : Bool) (x n : ℕ) → (b ≡ true → x < n) → (b && nat_lt x n) ≡ b
all_by true x n child = lt_is x n (child refl)
all_by false x n child = refl

pub met_all : (tree : Tree) (o k : ℕ) → is_met tree o (length (children_of tree o)) k ≡ is_child tree k o
met_all tree o k =
    all_by (is_child tree k o) (place_among tree o k) (length (children_of tree o))
    (λ child. slice_get_within (children_of tree o) (place_among tree o k) k (child_at tree o k child))
