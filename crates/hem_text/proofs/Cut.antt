-- What is left of a text is the token at its front, if one stands there, and what is left behind it.
use Rattle.std.proofs.Common.{◌≡◌, ℕ, zero, suc, ◌-◌, ◌<◌, List, [], ◌∷◌, length, take, drop, refl, sym, ap, ◌∙◌, arith, Option, Some, None, Bool, true, false}
use Rattle.std.specs.Prelude.{fold, slice_get, is_some, not, IsTrue}
use Rattle.std.proofs.lemmas.List.{take-append-drop}
use Rattle.std.proofs.lemmas.List.Sums.{fold-append}
use Rattle.hem_text.specs.Lexemes.{Lexeme}
use Rattle.hem_text.specs.declared.text.Place.{Place}
use Rattle.hem_text.specs.declared.text.TokenKind.{TokenKind}
use Rattle.hem_text.specs.declared.text.Piece.{Piece}
use Rattle.hem_text.specs.Tokens.{tokens_from, piece_of, with_token, advance}
use Rattle.hem_text.specs.Unread.{Unread, unread_from}

-- what is still to pass of a piece
tokens_from-pass : (n : ℕ) (place : Place) (bs : List ℕ) → tokens_from n place bs ≡ tokens_from 0 (fold advance place (take n bs)) (drop n bs)
tokens_from-pass zero place bs = refl
tokens_from-pass (suc n) place [] = refl
tokens_from-pass (suc n) place (b ∷ bs) = tokens_from-pass n (advance place b) bs

pass_suc : (n : ℕ) (place : Place) (b : ℕ) (bs : List ℕ) → 0 < n → tokens_from (n - 1) (advance place b) bs ≡ tokens_from n place (b ∷ bs)
pass_suc zero place b bs h = absurd (omega arith)
pass_suc (suc n) place b bs h = let e : suc n - 1 ≡ n = omega arith in rw e refl

-- one piece
tokens_from-piece : (bs : List ℕ) (place : Place) → 0 < length bs → 0 < (piece_of bs).len →
    tokens_from 0 place bs ≡ with_token (piece_of bs) place bs (tokens_from 0 (fold advance place (take (piece_of bs).len bs)) (drop (piece_of bs).len bs))
tokens_from-piece [] place some long = absurd (omega arith)
tokens_from-piece (b ∷ bs) place some long =
    ap (with_token (piece_of (b ∷ bs)) place (b ∷ bs)) (pass_suc (piece_of (b ∷ bs)).len place b bs long ∙ tokens_from-pass (piece_of (b ∷ bs)).len place (b ∷ bs))

-- the place of the end is the same from behind a piece
end_behind : (n : ℕ) (bs : List ℕ) (place : Place) → fold advance (fold advance place (take n bs)) (drop n bs) ≡ fold advance place bs
end_behind n bs place = sym (fold-append advance place (take n bs) (drop n bs)) ∙ ap (fold advance place) (take-append-drop n bs)

module _ (bs : List ℕ) (place after : Place) (p : Piece) (some : 0 < length bs) (is : p ≡ piece_of bs) (long : 0 < p.len) (moved : after ≡ fold advance place (take p.len bs)) where
  one : tokens_from 0 place bs ≡ with_token p place bs (tokens_from 0 after (drop p.len bs))
  one = rw (moved, is) (tokens_from-piece bs place some (rw is at long))

  end : fold advance after (drop p.len bs) ≡ fold advance place bs
  end = rw moved (end_behind p.len bs place)

  -- bytes between tokens
  pub passed : p.kind ≡ None → unread_from after (drop p.len bs) ≡ unread_from place bs
  passed none =
      let tokens : tokens_from 0 after (drop p.len bs) ≡ tokens_from 0 place bs = sym (rw none at one) in
      λ i. record { tokens = tokens i; end = end i }

  -- a token
  pub cut : (k : TokenKind) → p.kind ≡ Some k → tokens_from 0 place bs ≡ record { kind = k; text = take p.len bs; place = place } ∷ tokens_from 0 after (drop p.len bs)
  cut k token = rw token at one

  pub token_is : (k : TokenKind) (old : Unread) → p.kind ≡ Some k → unread_from place bs ≡ old → Some (record { kind = k; text = take p.len bs; place = place }) ≡ slice_get old.tokens 0
  token_is k old token whole = let tokens : tokens_from 0 place bs ≡ old.tokens = ap (λ u. u.tokens) whole in rw (← tokens, cut k token) refl

  pub moved_is : (k : TokenKind) (old : Unread) → p.kind ≡ Some k → unread_from place bs ≡ old → unread_from after (drop p.len bs) ≡ record old { tokens = drop 1 old.tokens }
  moved_is k old token whole =
      let tokens : tokens_from 0 after (drop p.len bs) ≡ drop 1 old.tokens = ap (drop 1) (sym (cut k token)) ∙ ap (λ u. drop 1 u.tokens) whole in
      let ends : fold advance after (drop p.len bs) ≡ old.end = end ∙ ap (λ u. u.end) whole in
      λ i. record { tokens = tokens i; end = ends i }

-- no bytes, no token
pub ended : (place : Place) (bs : List ℕ) (old : Unread) → length bs ≡ 0 → unread_from place bs ≡ old → old ≡ record old { tokens = drop 1 old.tokens }
ended place [] old none whole =
    let tokens : old.tokens ≡ [] = ap (λ u. u.tokens) (sym whole) in
    let after : old.tokens ≡ drop 1 old.tokens = tokens ∙ ap (drop 1) (sym tokens) in
    λ i. record { tokens = after i; end = old.end }
ended place (b ∷ bs) old none whole = absurd (omega arith)

-- whether a first token is there
pub at_end : (ts : List Lexeme) (first : Option Lexeme) (b : Bool) → first ≡ slice_get ts 0 → is_some first ≡ not b → (IsTrue b → ts ≡ []) × (ts ≡ [] → IsTrue b)
at_end [] None true is told = (λ _. refl, λ _. refl)
at_end [] None false is told = absurd cc
at_end [] (Some t) b is told = absurd cc
at_end (t ∷ ts) None b is told = absurd cc
at_end (t ∷ ts) (Some u) true is told = absurd cc
at_end (t ∷ ts) (Some u) false is told = (λ h. absurd cc, λ h. absurd cc)
