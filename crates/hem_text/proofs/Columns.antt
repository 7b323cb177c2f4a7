-- A piece that doesn't begin with a line feed has none.
use Rattle.std.proofs.Common.{◌≡◌, ℕ, suc, ◌+◌, ◌==◌, ◌≤◌, Bool, true, false, cond, not, ◌&&◌, ◌||◌, List, [], ◌∷◌, length, take, get_or, ◌<◌, refl, sym, arith}
use Rattle.std.specs.Prelude.{fold}
use Rattle.std.specs.List.{prefix_len, list_all}
use Rattle.std.proofs.lemmas.Bool.{eqb-true}
use Rattle.std.proofs.lemmas.List.{length-take}
use Rattle.hem_text.specs.declared.text.Place.{Place}
use Rattle.hem_text.specs.declared.text.Piece.{Piece}
use Rattle.hem_text.specs.Tokens.{piece_of, advance, is_space, begins_comment, is_not_line_feed, is_pair, is_sign}
use Rattle.hem_base.specs.Words.{is_word_byte}

both : (a b : Bool) → (a && b) ≡ true → (a ≡ true) × (b ≡ true)
both true b h = (refl, h)
both false b h = absurd cc

is_not : (a : Bool) → not a ≡ true → a ≡ false
is_not true h = absurd cc
is_not false h = refl

-- such bytes take a column each
columns : (xs : List ℕ) (place : Place) → list_all is_not_line_feed xs ≡ true → fold advance place xs ≡ record { line = place.line; column = place.column + length xs }
columns [] place none = let e : place.column + 0 ≡ place.column = omega arith in rw e refl
columns (x ∷ xs) place none =
    let two = both (is_not_line_feed x) (list_all is_not_line_feed xs) none in
    let on : place.column + 1 + length xs ≡ place.column + suc (length xs) = omega arith in
    rw (is_not (x == 10) two.0, ← on) (columns xs (record { line = place.line; column = place.column + 1 }) two.1)

prefix_cons : (p q : ℕ → Bool) → ((b : ℕ) → p b ≡ true → q b ≡ true) → (x : ℕ) (xs : List ℕ) → list_all q (take (prefix_len p xs) xs) ≡ true → (c : Bool) → p x ≡ c → list_all q (take (cond c (1 + prefix_len p xs) 0) (x ∷ xs)) ≡ true
prefix_cons p q weaker x xs rest true is = let e : 1 + prefix_len p xs ≡ suc (prefix_len p xs) = omega arith in rw (e, weaker x is) rest
prefix_cons p q weaker x xs rest false is = refl

prefix_all : (p q : ℕ → Bool) → ((b : ℕ) → p b ≡ true → q b ≡ true) → (xs : List ℕ) → list_all q (take (prefix_len p xs) xs) ≡ true
prefix_all p q weaker [] = refl
prefix_all p q weaker (x ∷ xs) = prefix_cons p q weaker x xs (prefix_all p q weaker xs) (p x) refl

-- a byte of this sort is no line feed
no_line_feed : (p : ℕ → Bool) → p 10 ≡ false → (b : ℕ) → p b ≡ true → is_not_line_feed b ≡ true
no_line_feed p none b is = go (b == 10) refl
  where
    go : (c : Bool) → (b == 10) ≡ c → not c ≡ true
    go true same = let e : b ≡ 10 = eqb-true b 10 same in let h : p 10 ≡ true = rw (← e) is in absurd cc
    go false same = refl

by_if : (P : Piece → Type 0) (c : Bool) (x y : Piece) → (c ≡ true → P x) → (c ≡ false → P y) → P (cond c x y)
by_if P true x y f g = f refl
by_if P false x y f g = g refl

pair_plain : (b : ℕ) (bs : List ℕ) → (b == 10) ≡ false → is_pair (b ∷ bs) ≡ true → list_all is_not_line_feed (take 2 (b ∷ bs)) ≡ true
pair_plain b [] plain pair = absurd cc
pair_plain b (c ∷ bs) plain pair = rw (plain, no_line_feed (λ x. x == 61) refl c (both (b == 58 || b == 33) (c == 61) pair).1) refl

piece_plain : (b : ℕ) (bs : List ℕ) → (b == 10) ≡ false → list_all is_not_line_feed (take (piece_of (b ∷ bs)).len (b ∷ bs)) ≡ true
piece_plain b bs plain =
    let xs = b ∷ bs in
    let P : Piece → Type 0 = λ p. list_all is_not_line_feed (take p.len xs) ≡ true in
    by_if P (is_space b) _ _ (λ _. rw plain refl) (λ _.
    by_if P (begins_comment b) _ _ (λ _. prefix_all is_not_line_feed is_not_line_feed (λ c h. h) xs) (λ _.
    by_if P (is_word_byte b) _ _ (λ _. prefix_all is_word_byte is_not_line_feed (no_line_feed is_word_byte refl) xs) (λ _.
    by_if P (is_pair xs) _ _ (λ h. pair_plain b bs plain h) (λ _.
    by_if P (is_sign b) _ _ (λ _. rw plain refl) (λ _. rw plain refl)))))

not_ten : (b : ℕ) → (b ≡ 10 → ⊥) → (b == 10) ≡ false
not_ten b other = go (b == 10) refl
  where
    go : (c : Bool) → (b == 10) ≡ c → c ≡ false
    go true is = absurd (other (eqb-true b 10 is))
    go false is = refl

-- the place behind a piece that isn't a line feed
pub behind_plain : (bytes : List ℕ) (place : Place) (len : ℕ) → 0 < length bytes → len ≡ (piece_of bytes).len → len ≤ length bytes → (get_or bytes 0 0 ≡ 10 → ⊥) →
    record { line = place.line; column = place.column + len } ≡ fold advance place (take len bytes)
behind_plain [] place len some is within plain = absurd (omega arith)
behind_plain (b ∷ bs) place len some is within plain =
    let all : list_all is_not_line_feed (take len (b ∷ bs)) ≡ true = rw is (piece_plain b bs (not_ten b plain)) in
    let long : length (take len (b ∷ bs)) ≡ len = omega (arith, length-take len (b ∷ bs), within) in
    sym (rw long at (columns (take len (b ∷ bs)) place all))
