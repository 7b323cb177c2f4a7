-- A line feed parts the tokens of a text from those of what follows.
use Rattle.std.proofs.Common.{◌≡◌, ℕ, zero, suc, ◌-◌, ◌+◌, ◌≤◌, Bool, true, false, cond, List, [], ◌∷◌, ◌++◌, length, take, refl, sym, ap, ◌∙◌, subst, arith, append_assoc}
use Rattle.std.specs.Prelude.{◌==◌, ◌||◌, ◌&&◌, fold, Option, None, Some}
use Rattle.std.specs.List.{prefix_len}
use Rattle.hem_base.specs.Words.{is_word_byte}
use Rattle.hem_text.specs.declared.text.Place.{Place}
use Rattle.hem_text.specs.declared.text.TokenKind.{TokenKind}
use Rattle.hem_text.specs.declared.text.TokenKind.TheVariants.{Sign, Bad}
use Rattle.hem_text.specs.declared.text.Piece.{Piece}
use Rattle.hem_text.specs.Lexemes.{Lexeme}
use Rattle.hem_text.specs.Tokens.{is_space, begins_comment, is_not_line_feed, is_sign, is_pair, kind_of_run, between, token, piece_of, advance, with_token, tokens_from}

-- what is counted up to a line feed doesn't look past it

counted : (P : ℕ → Bool) → P 10 ≡ false → (bs tail : List ℕ) → prefix_len P (bs ++ 10 ∷ tail) ≡ prefix_len P (bs ++ 10 ∷ [])
counted P stops [] tail = rw stops refl
counted P stops (b ∷ bs) tail = λ i. cond (P b) (1 + counted P stops bs tail i) 0

few : (P : ℕ → Bool) → P 10 ≡ false → (bs : List ℕ) → prefix_len P (bs ++ 10 ∷ []) ≤ length bs
few P stops [] = rw stops (omega arith)
few P stops (b ∷ bs) = go (P b) (few P stops bs)
  where
    go : (c : Bool) → prefix_len P (bs ++ 10 ∷ []) ≤ length bs → cond c (1 + prefix_len P (bs ++ 10 ∷ [])) 0 ≤ suc (length bs)
    go true le = omega (arith, le)
    go false le = omega arith

taken : (n : ℕ) (bs after : List ℕ) → n ≤ length bs → take n (bs ++ after) ≡ take n bs
taken zero bs after le = refl
taken (suc n) [] after le = absurd (omega arith)
taken (suc n) (b ∷ bs) after le = ap (λ l. b ∷ l) (taken n bs after (omega (arith, le)))

pair_same : (b : ℕ) (bs tail : List ℕ) → is_pair (b ∷ (bs ++ 10 ∷ tail)) ≡ is_pair (b ∷ (bs ++ 10 ∷ []))
pair_same b [] tail = refl
pair_same b (c ∷ bs) tail = refl

-- a piece before a line feed

abbrev piece_by : Bool → Bool → Bool → Bool → Bool → ℕ → ℕ → TokenKind → Piece
piece_by space comment word pair sign skipped run kind =
    cond space (between 1) (cond comment (between skipped) (cond word (token kind run) (cond pair (token Sign 2) (cond sign (token Sign 1) (token Bad 1)))))

abbrev run_kind : List ℕ → TokenKind
run_kind bytes = kind_of_run (take (prefix_len is_word_byte bytes) bytes)

abbrev piece_at : ℕ → List ℕ → Piece
piece_at b bytes = piece_by (is_space b) (begins_comment b) (is_word_byte b) (is_pair (b ∷ bytes)) (is_sign b) (prefix_len is_not_line_feed (b ∷ bytes)) (prefix_len is_word_byte (b ∷ bytes)) (run_kind (b ∷ bytes))

piece_few : (space comment word pair sign : Bool) (skipped run : ℕ) (kind : TokenKind) (n : ℕ) → skipped ≤ suc n → run ≤ suc n → (pair ≡ true → 2 ≤ suc n) → (piece_by space comment word pair sign skipped run kind).len ≤ suc n
piece_few true comment word pair sign skipped run kind n s r p = omega arith
piece_few false true word pair sign skipped run kind n s r p = s
piece_few false false true pair sign skipped run kind n s r p = r
piece_few false false false true sign skipped run kind n s r p = p refl
piece_few false false false false true skipped run kind n s r p = omega arith
piece_few false false false false false skipped run kind n s r p = omega arith

pair_inside : (b : ℕ) (bs : List ℕ) → is_pair (b ∷ (bs ++ 10 ∷ [])) ≡ true → 2 ≤ suc (length bs)
pair_inside b [] is = absurd (clash (b == 58 || b == 33) is)
  where
    clash : (c : Bool) → (c && false) ≡ true → ⊥
    clash true h = cc
    clash false h = cc
pair_inside b (c ∷ bs) is = omega arith

piece_inside : (b : ℕ) (bs : List ℕ) → (piece_of (b ∷ (bs ++ 10 ∷ []))).len ≤ suc (length bs)
piece_inside b bs =
    piece_few (is_space b) (begins_comment b) (is_word_byte b) (is_pair (b ∷ (bs ++ 10 ∷ []))) (is_sign b) _ _ _ (length bs)
    (few is_not_line_feed refl (b ∷ bs)) (few is_word_byte refl (b ∷ bs)) (pair_inside b bs)

-- a text up to a line feed
abbrev lined : List ℕ → List ℕ
lined bs = bs ++ 10 ∷ []

front_same : (n : ℕ) (bs tail : List ℕ) → n ≤ length bs → take n (bs ++ 10 ∷ tail) ≡ take n (lined bs)
front_same n bs tail le = taken n bs (10 ∷ tail) le ∙ sym (taken n bs (10 ∷ []) le)

run_same : (b : ℕ) (bs tail : List ℕ) → run_kind (b ∷ (bs ++ 10 ∷ tail)) ≡ run_kind (b ∷ lined bs)
run_same b bs tail =
    ap (λ n. kind_of_run (take n (b ∷ (bs ++ 10 ∷ tail)))) (counted is_word_byte refl (b ∷ bs) tail)
    ∙ ap kind_of_run (front_same (prefix_len is_word_byte (b ∷ lined bs)) (b ∷ bs) tail (few is_word_byte refl (b ∷ bs)))

piece_same : (b : ℕ) (bs tail : List ℕ) → piece_of (b ∷ (bs ++ 10 ∷ tail)) ≡ piece_of (b ∷ lined bs)
piece_same b bs tail = λ i.
    piece_by (is_space b) (begins_comment b) (is_word_byte b) (pair_same b bs tail i) (is_sign b)
    (counted is_not_line_feed refl (b ∷ bs) tail i) (counted is_word_byte refl (b ∷ bs) tail i) (run_same b bs tail i)

-- tokens

abbrev with_kind : Option TokenKind → List ℕ → Place → List Lexeme → List Lexeme
with_kind kind text place others = elim kind [ None ↦ others | Some k ↦ record { kind = k; text = text; place = place } ∷ others ]

with_more : (kind : Option TokenKind) (text : List ℕ) (place : Place) (xs ys : List Lexeme) → with_kind kind text place (xs ++ ys) ≡ with_kind kind text place xs ++ ys
with_more None text place xs ys = refl
with_more (Some k) text place xs ys = refl

one_token : (q : Piece) (place : Place) (b : ℕ) (bs tail : List ℕ) (xs ys : List Lexeme) → q.len ≤ suc (length bs) → with_token q place (b ∷ (bs ++ 10 ∷ tail)) (xs ++ ys) ≡ with_token q place (b ∷ lined bs) xs ++ ys
one_token q place b bs tail xs ys le =
    ap (λ (t : List ℕ). with_kind q.kind t place (xs ++ ys)) (front_same q.len (b ∷ bs) tail le)
    ∙ with_more q.kind (take q.len (b ∷ lined bs)) place xs ys

parted_from : (bs : List ℕ) (n : ℕ) (place : Place) (tail : List ℕ) → n ≤ suc (length bs) → tokens_from n place (bs ++ 10 ∷ tail) ≡ tokens_from n place (lined bs) ++ tokens_from 0 (fold advance place (lined bs)) tail
parted_from [] zero place tail le = refl
parted_from [] (suc zero) place tail le = refl
parted_from [] (suc (suc n)) place tail le = absurd (omega arith)
parted_from (b ∷ bs) (suc n) place tail le = parted_from bs n (advance place b) tail (omega (arith, le))
parted_from (b ∷ bs) zero place tail le =
    let q : Piece = piece_of (b ∷ lined bs) in
    let inside : q.len ≤ suc (length bs) = piece_inside b bs in
    let short : q.len - 1 ≤ suc (length bs) = omega (arith, inside) in
    ap (λ (r : Piece). with_token r place (b ∷ (bs ++ 10 ∷ tail)) (tokens_from (r.len - 1) (advance place b) (bs ++ 10 ∷ tail))) (piece_same b bs tail)
    ∙ ap (λ (l : List Lexeme). with_token q place (b ∷ (bs ++ 10 ∷ tail)) l) (parted_from bs (q.len - 1) (advance place b) tail short)
    ∙ one_token q place b bs tail (tokens_from (q.len - 1) (advance place b) (lined bs)) (tokens_from 0 (fold advance place (b ∷ lined bs)) tail) inside

-- a text that ends with a line feed
pub record EndsLine (text : List ℕ) : Type 0 where
  pub before : List ℕ
  pub is : text ≡ before ++ 10 ∷ []

-- the tokens of such a text, and then those of what follows
pub parted : (text : List ℕ) → EndsLine text → (place : Place) (tail : List ℕ) → tokens_from 0 place (text ++ tail) ≡ tokens_from 0 place text ++ tokens_from 0 (fold advance place text) tail
parted text ends place tail =
    subst (λ (t : List ℕ). tokens_from 0 place (t ++ tail) ≡ tokens_from 0 place t ++ tokens_from 0 (fold advance place t) tail) (sym ends.is)
    (ap (tokens_from 0 place) (append_assoc ends.before (10 ∷ []) tail) ∙ parted_from ends.before 0 place tail (omega arith))
