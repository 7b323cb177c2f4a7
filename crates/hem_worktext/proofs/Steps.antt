-- One more part of a text, and one more number that has a property.
use Rattle.std.proofs.Common.{◌≡◌, refl, ◌≤◌, ℕ, suc, Bool, true, false, nat_le, nat_lt, ◌+◌, ◌<◌, List, [], ◌∷◌, ◌++◌, length, get_or, take, sym, ap, ◌∙◌, subst, arith, append-nil, append_assoc, ⊎_elim}
use Rattle.std.specs.Prelude.{flat_map}
use Rattle.std.proofs.str.Laws.{order}
use Rattle.std.proofs.lemmas.Bool.{leb-true}
use Rattle.std.proofs.lemmas.Grind.{flat_map-append}
use Rattle.std.proofs.lemmas.List.{take_more}
use Rattle.hem_tree.specs.Tree.{below}
use Rattle.hem_tree.proofs.Lawful.{below_more}

more : {X : Type 0} (f : X → List ℕ) (xs ys : List X) (x : X) (begin old new : List ℕ) → ys ≡ xs ++ x ∷ [] → old ≡ begin ++ flat_map f xs → new ≡ old ++ f x → new ≡ begin ++ flat_map f ys
more f xs ys x begin old new longer so_far added =
    added
    ∙ ap (λ l. l ++ f x) so_far
    ∙ append_assoc begin (flat_map f xs) (f x)
    ∙ ap (λ l. begin ++ (flat_map f xs ++ l)) (sym (append-nil (f x)))
    ∙ ap (λ l. begin ++ l) (sym (flat_map-append f xs (x ∷ [])) ∙ ap (flat_map f) (sym longer))

-- the text of one more element of a list
pub text_more : {X : Type 0} (f : X → List ℕ) (xs : List X) (i : ℕ) (d : X) (begin old new : List ℕ) → i < length xs → old ≡ begin ++ flat_map f (take i xs) → new ≡ old ++ f (get_or xs i d) → new ≡ begin ++ flat_map f (take (i + 1) xs)
text_more f xs i d begin old new lt so_far added = more f (take i xs) (take (i + 1) xs) (get_or xs i d) begin old new (take_more xs i d lt) so_far added

-- the text of one more number
pub text_below : (f : ℕ → List ℕ) (n : ℕ) (begin old new : List ℕ) → old ≡ begin ++ flat_map f (below n) → new ≡ old ++ f n → new ≡ begin ++ flat_map f (below (n + 1))
text_below f n begin old new so_far added = more f (below n) (below (n + 1)) n begin old new (below_more n) so_far added

-- what holds of each number below n and of n
pub each_below : (P : ℕ → Type 0) (n : ℕ) → ((k : ℕ) → k < n → P k) → P n → (k : ℕ) → k < n + 1 → P k
each_below P n each last k lt = ⊎_elim (λ low. each k low) (λ high. let same : n ≡ k = omega arith in subst P same last) (order k n)

-- tests that fail
pub not_le : (m n : ℕ) → n < m → nat_le m n ≡ false
not_le m n lt = go (nat_le m n) refl
  where
    go : (b : Bool) → nat_le m n ≡ b → b ≡ false
    go false h = refl
    go true h = absurd (let le = leb-true m n h in omega (arith, le, lt))

pub not_lt : (m n : ℕ) → n ≤ m → nat_lt m n ≡ false
not_lt m n le = not_le (suc m) n (omega arith)
