-- The children of an object, one after another.
use Rattle.std.proofs.Common.{◌≡◌, ◌≢◌, refl, sym, ap, ◌∙◌, ℕ, ◌+◌, ◌<◌, Bool, true, false, ◌&&◌, cond, List, [], ◌∷◌, ◌++◌, append-nil, length, drop, Option, None, Some, arith, ⊎_elim, ◌⊎◌, inl, inr}
use Rattle.std.specs.Prelude.{◌==◌, nat_lt, slice_get, option_and_then}
use Rattle.std.proofs.lemmas.Bool.{eq-eqb, ne_eqb, cases_eq}
use Rattle.std.proofs.lemmas.Option.{slice_get_within, same_Some}
use Rattle.std.proofs.lemmas.Nat.Bits.{bit_at-zero}
use Rattle.hem_base.specs.Sets.{has_bit}
use Rattle.hem_tree.specs.Tree.{Tree, Node, is_number, is_child, children_of, place_among}
use Rattle.hem_system.proofs.Kids.{child_at, at_child}
use Rattle.hem_transactions.specs.Carried.{is_child_in}

-- whether k is among the first n children of o, and in the set
abbrev pub is_child_before : Tree → ℕ → ℕ → ℕ → ℕ → Bool
is_child_before tree o bits n k = is_child tree k o && (has_bit bits (place_among tree o k) && nat_lt (place_among tree o k) n)

-- whether k is the child at place n, which is in the set
abbrev pub is_child_at : ℕ → ℕ → ℕ → ℕ → Bool
is_child_at bits n child k = has_bit bits n && k == child

lt_same : (x n : ℕ) → x ≢ n → nat_lt x (n + 1) ≡ nat_lt x n
lt_same x n other = grind arith

lt_not : (x n : ℕ) → x ≡ n → nat_lt x n ≡ false
lt_not x n same = grind arith

lt_next : (x n : ℕ) → x ≡ n → nat_lt x (n + 1) ≡ true
lt_next x n same = grind arith

lt_is : (x n : ℕ) → x < n → nat_lt x n ≡ true
lt_is x n less = grind arith

lt_zero : (x : ℕ) → nat_lt x 0 ≡ false
lt_zero x = grind arith

-- of three tests the last fails, or the others do
last_fails : (b c d : Bool) → d ≡ false → (b && (c && d)) ≡ false
last_fails true true d fails = fails
last_fails true false d fails = refl
last_fails false c d fails = refl

now_is : (b c d e : Bool) → b ≡ true → d ≡ true → e ≡ true → (b && (c && d)) ≡ (c && e)
now_is b true d e child now same = ap (λ b. b && (true && d)) child ∙ now ∙ sym same
now_is b false d e child now same = ap (λ b. b && (false && d)) child

other_fails : (c e : Bool) → e ≡ false → (c && e) ≡ false
other_fails true e fails = fails
other_fails false e fails = refl

last_same : (b c d e : Bool) → (b ≡ true → d ≡ e) → (b && (c && d)) ≡ (b && (c && e))
last_same true c d e same = ap (λ d. c && d) (same refl)
last_same false c d e same = refl

last_true : (b c d : Bool) → (b ≡ true → d ≡ true) → (b && (c && d)) ≡ (b && c)
last_true true true d is = is refl
last_true true false d is = refl
last_true false c d is = refl

-- a child at its place is met now and was not before; nothing changes for the others
abbrev IsNext : Bool → Bool → Bool → Type 0
IsNext before after hit = ((before ≡ false) × (after ≡ hit)) ⊎ ((hit ≡ false) × (after ≡ before))

pub child_next : (tree : Tree) (o bits n c k : ℕ) → slice_get (children_of tree o) n ≡ Some c → IsNext (is_child_before tree o bits n k) (is_child_before tree o bits (n + 1) k) (is_child_at bits n c k)
child_next tree o bits n c k at =
    ⊎_elim
    (λ (same : k ≡ c).
    let child = at_child tree o n c at in
    let is = ap (λ k. is_child tree k o) same ∙ child.0 in
    let place = ap (place_among tree o) same ∙ child.1 in
    inl (
      last_fails (is_child tree k o) (has_bit bits (place_among tree o k)) (nat_lt (place_among tree o k) n) (lt_not _ _ place),
      now_is (is_child tree k o) (has_bit bits (place_among tree o k)) (nat_lt (place_among tree o k) (n + 1)) (k == c) is (lt_next _ _ place) (eq-eqb k c same)
          ∙ ap (λ m. has_bit bits m && k == c) place,
    ))
    (λ (differ : k ≢ c).
    inr (
      other_fails (has_bit bits n) (k == c) (ne_eqb k c differ),
      last_same (is_child tree k o) (has_bit bits (place_among tree o k)) (nat_lt (place_among tree o k) (n + 1)) (nat_lt (place_among tree o k) n)
          (λ child. lt_same (place_among tree o k) n (λ same. differ (same_Some k c (sym (child_at tree o k child) ∙ ap (slice_get (children_of tree o)) same ∙ at)))),
    ))
    (cases_eq k c)

pub child_first : (tree : Tree) (o bits k : ℕ) → is_child_before tree o bits 0 k ≡ false
child_first tree o bits k = last_fails (is_child tree k o) (has_bit bits (place_among tree o k)) (nat_lt (place_among tree o k) 0) (lt_zero _)

pub child_all : (tree : Tree) (o bits n k : ℕ) → length (children_of tree o) ≡ n → is_child_before tree o bits n k ≡ is_child_in tree o bits k
child_all tree o bits n k size =
    last_true (is_child tree k o) (has_bit bits (place_among tree o k)) (nat_lt (place_among tree o k) n)
    (λ child. lt_is _ _ (let within = slice_get_within (children_of tree o) (place_among tree o k) k (child_at tree o k child) in omega (arith, within, size)))

-- a child is an object of the tree
child_found : (tree : Tree) (o k : ℕ) (found : Option Node) → slice_get tree k ≡ found → is_number (option_and_then (λ node. node.parent) found) o ≡ true → k < length tree
child_found tree o k None at is = cc
child_found tree o k (Some node) at is = slice_get_within tree k node at

pub child_there : (tree : Tree) (o n k : ℕ) → slice_get (children_of tree o) n ≡ Some k → k < length tree
child_there tree o n k at = child_found tree o k (slice_get tree k) refl (at_child tree o n k at).0

-- nobody is in the empty set
pub no_bit : (bits i : ℕ) → bits ≡ 0 → has_bit bits i ≡ false
no_bit bits i none = rw (none, bit_at-zero i) refl

pub child_none : (tree : Tree) (o bits k : ℕ) → bits ≡ 0 → is_child_in tree o bits k ≡ false
child_none tree o bits k none = other_fails (is_child tree k o) (has_bit bits (place_among tree o k)) (no_bit bits (place_among tree o k) none)

-- what is taken, and what is put, one child more
pub take_next : (before after hit : Bool) (xs : List ℕ) → IsNext before after hit → drop (cond hit 1 0) (drop (cond before 1 0) xs) ≡ drop (cond after 1 0) xs
take_next before after hit xs next =
    ⊎_elim
    (λ now. ap (λ b. drop (cond hit 1 0) (drop (cond b 1 0) xs)) now.0 ∙ ap (λ b. drop (cond b 1 0) xs) (sym now.1))
    (λ other. ap (λ b. drop (cond b 1 0) (drop (cond before 1 0) xs)) other.0 ∙ ap (λ b. drop (cond b 1 0) xs) (sym other.1))
    next

pub put_next : (before after hit : Bool) (xs : List ℕ) (n : ℕ) → IsNext before after hit → (xs ++ cond before (n ∷ []) []) ++ cond hit (n ∷ []) [] ≡ xs ++ cond after (n ∷ []) []
put_next before after hit xs n next =
    ⊎_elim
    (λ now. ap (λ b. (xs ++ cond b (n ∷ []) []) ++ cond hit (n ∷ []) []) now.0 ∙ ap (λ ys. ys ++ cond hit (n ∷ []) []) (append-nil xs) ∙ ap (λ b. xs ++ cond b (n ∷ []) []) (sym now.1))
    (λ other. ap (λ b. (xs ++ cond before (n ∷ []) []) ++ cond b (n ∷ []) []) other.0 ∙ append-nil (xs ++ cond before (n ∷ []) []) ∙ ap (λ b. xs ++ cond b (n ∷ []) []) (sym other.1))
    next
