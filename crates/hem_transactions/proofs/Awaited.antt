-- The first child that is in a set.
use Rattle.std.proofs.Common.{◌≡◌, refl, ap, ◌∙◌, ℕ, zero, suc, ◌<◌, Bool, true, false, cond, List, [], ◌∷◌, length, None, Some, arith}
use Rattle.std.specs.Prelude.{slice_get, filter}
use Rattle.std.proofs.lemmas.Option.{slice_get_within, same_Some}
use Rattle.hem_base.specs.Sets.{has_bit}
use Rattle.hem_tree.specs.Tree.{Tree, children_of, place_among}
use Rattle.hem_system.proofs.Kids.{at_child}
use Rattle.hem_transactions.specs.Along.{awaited}
use Rattle.hem_transactions.proofs.ChildrenMet.{no_bit}

-- an element that passes, behind some that don't, is the first that a filter leaves
first_is : (test : ℕ → Bool) (ks : List ℕ) (n c : ℕ) → slice_get ks n ≡ Some c → test c ≡ true → ((i k : ℕ) → i < n → slice_get ks i ≡ Some k → test k ≡ false) → slice_get (filter test ks) 0 ≡ Some c
first_is test [] n c at is before = cc
first_is test (x ∷ ks) zero c at is before =
    let same = same_Some x c at in
    ap (λ b. slice_get (cond b (x ∷ filter test ks) (filter test ks)) 0) (ap test same ∙ is) ∙ ap Some same
first_is test (x ∷ ks) (suc n) c at is before =
    ap (λ b. slice_get (cond b (x ∷ filter test ks) (filter test ks)) 0) (before zero x (omega arith) refl)
    ∙ first_is test ks n c at is (λ i k less there. before (suc i) k (omega arith) there)

none_pass : (test : ℕ → Bool) (ks : List ℕ) → ((i k : ℕ) → slice_get ks i ≡ Some k → test k ≡ false) → slice_get (filter test ks) 0 ≡ None
none_pass test [] none = refl
none_pass test (x ∷ ks) none =
    ap (λ b. slice_get (cond b (x ∷ filter test ks) (filter test ks)) 0) (none zero x refl) ∙ none_pass test ks (λ i k there. none (suc i) k there)

-- a child stands at its place
bit_here : (tree : Tree) (o bits i k : ℕ) (b : Bool) → slice_get (children_of tree o) i ≡ Some k → has_bit bits i ≡ b → has_bit bits (place_among tree o k) ≡ b
bit_here tree o bits i k b at is = ap (has_bit bits) (at_child tree o i k at).1 ∙ is

pub awaited_first : (tree : Tree) (o bits n c : ℕ) → slice_get (children_of tree o) n ≡ Some c → has_bit bits n ≡ true → ((i : ℕ) → i < n → has_bit bits i ≡ false) → slice_get (awaited tree o bits) 0 ≡ Some c
awaited_first tree o bits n c at is before =
    first_is (λ k. has_bit bits (place_among tree o k)) (children_of tree o) n c at (bit_here tree o bits n c true at is)
    (λ i k less there. bit_here tree o bits i k false there (before i less))

pub awaited_none : (tree : Tree) (o bits n : ℕ) → length (children_of tree o) ≡ n → ((i : ℕ) → i < n → has_bit bits i ≡ false) → slice_get (awaited tree o bits) 0 ≡ None
awaited_none tree o bits n size none =
    none_pass (λ k. has_bit bits (place_among tree o k)) (children_of tree o)
    (λ i k there. bit_here tree o bits i k false there (none i (let within = slice_get_within (children_of tree o) i k there in omega (arith, within, size))))

pub awaited_nobody : (tree : Tree) (o bits : ℕ) → bits ≡ 0 → slice_get (awaited tree o bits) 0 ≡ None
awaited_nobody tree o bits nobody = awaited_none tree o bits (length (children_of tree o)) refl (λ i less. no_bit bits i nobody)
