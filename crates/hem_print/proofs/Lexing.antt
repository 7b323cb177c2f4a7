-- The tokens of a text of lines are its words.
use Rattle.std.proofs.Common.{◌≡◌, ℕ, suc, ◌-◌, Bool, true, false, not, List, [], ◌∷◌, ◌++◌, map, length, take, refl, sym, ap, ◌∙◌, arith, append_assoc, subst}
use Rattle.std.specs.Prelude.{fold}
use Rattle.std.specs.List.{list_all, prefix_len}
use Rattle.std.specs.Char.{is_ascii_alphabetic}
use Rattle.hem_text.specs.declared.text.TokenKind.{TokenKind}
use Rattle.hem_text.specs.declared.text.TokenKind.TheVariants as kind
use Rattle.hem_text.specs.declared.text.Place.{Place}
use Rattle.hem_text.specs.declared.text.Piece.{Piece}
use Rattle.hem_base.specs.declared.words.Sign.{Sign}
use Rattle.hem_base.specs.declared.words.Sign.TheVariants as sign
use Rattle.hem_text.specs.Lexemes.{Lexeme}
use Rattle.hem_text.specs.Tokens.{is_space, begins_comment, is_pair, kind_of_run, token, run_at, piece_of, advance, with_token, tokens_from, tokens_of, start_place}
use Rattle.hem_base.specs.Words.{is_word_byte, word_bytes, sign_bytes, is_word_text}
use Rattle.hem_output.proofs.Ascii.{reserved_is_word}
use Rattle.hem_print.specs.Canonical.{Word, plain, named, signed, nought, word_kind, spelling, gap, words_text, Line, line_text, lines_text}
use Rattle.std.proofs.lemmas.List.Folds.{list_all-append}
use Rattle.hem_print.proofs.Naming.{and_left, and_right, cond_true, cond_false, not_true}
use Rattle.hem_print.proofs.Steps.{lex, bare}
use Rattle.hem_print.proofs.RuleRuns.{words_of}

-- the tokens of a text, wherever it stands, are these words
pub record Lexes (cur : List ℕ) (ws : List Word) : Type 0 where
  pub is : (place : Place) → map bare (tokens_from 0 place cur) ≡ map lex ws

lexes_nothing : Lexes [] []
lexes_nothing = record { is = λ place. refl }

-- white space

lexes_space : (cur : List ℕ) (ws : List Word) → Lexes cur ws → Lexes (32 ∷ cur) ws
lexes_space cur ws rest = record { is = λ place. rest.is (advance place 32) }

lexes_feed : (cur : List ℕ) (ws : List Word) → Lexes cur ws → Lexes (10 ∷ cur) ws
lexes_feed cur ws rest = record { is = λ place. rest.is (advance place 10) }

-- tokens

pass : (bs cur : List ℕ) (place : Place) → tokens_from (length bs) place (bs ++ cur) ≡ tokens_from 0 (fold advance place bs) cur
pass [] cur place = refl
pass (b ∷ bs) cur place = pass bs cur (advance place b)

take_front : (t cur : List ℕ) → take (length t) (t ++ cur) ≡ t
take_front [] cur = refl
take_front (b ∷ t) cur = ap (λ (l : List ℕ). b ∷ l) (take_front t cur)

-- a token at the front
lexes_token : (w : Word) (b : ℕ) (bs cur : List ℕ) (ws : List Word) → spelling w ≡ b ∷ bs → piece_of (b ∷ (bs ++ cur)) ≡ token (word_kind w) (suc (length bs)) → Lexes cur ws → Lexes (b ∷ (bs ++ cur)) (w ∷ ws)
lexes_token w b bs cur ws spelled piece rest = record { is = λ place. at place }
  where
    here : List ℕ → Lexeme
    here text = record { kind = word_kind w; text = text; place = start_place }

    at : (place : Place) → map bare (tokens_from 0 place (b ∷ (bs ++ cur))) ≡ lex w ∷ map lex ws
    at place =
        let n : suc (length bs) - 1 ≡ length bs = omega arith in
        ap (λ (q : Piece). map bare (with_token q place (b ∷ (bs ++ cur)) (tokens_from (q.len - 1) (advance place b) (bs ++ cur)))) piece
        ∙ ap (λ (l : List Lexeme). here (take (suc (length bs)) (b ∷ (bs ++ cur))) ∷ l)
        (ap (λ (k : ℕ). map bare (tokens_from k (advance place b) (bs ++ cur))) n
        ∙ ap (map bare) (pass bs cur (advance place b))
        ∙ rest.is (fold advance (advance place b) bs))
        ∙ ap (λ (t : List ℕ). here t ∷ map lex ws) (take_front (b ∷ bs) cur ∙ sym spelled)

-- runs

-- a text that doesn't begin with a byte of runs
abbrev pub is_apart : List ℕ → Bool
is_apart [] = true
is_apart (c ∷ cs) = not (is_word_byte c)

run_len : (bs cur : List ℕ) → list_all is_word_byte bs ≡ true → is_apart cur ≡ true → prefix_len is_word_byte (bs ++ cur) ≡ length bs
run_len [] [] all apart = refl
run_len [] (c ∷ cs) all apart = cond_false _ _ _ (not_true _ apart)
run_len (b ∷ bs) cur all apart =
    let here = and_left (is_word_byte b) _ all in
    let rest = run_len bs cur (and_right (is_word_byte b) _ all) apart in
    rw (here, rest) (omega arith)

word_byte_is : (b : ℕ) → is_ascii_alphabetic b ≡ true → (is_space b ≡ false) × (begins_comment b ≡ false) × (is_word_byte b ≡ true)
word_byte_is b h = (not_equal, other, rw h refl)
  where
    not_equal : is_space b ≡ false
    not_equal = grind arith

    other : begins_comment b ≡ false
    other = grind arith

-- a word at the front
word_piece : (b : ℕ) (bs cur : List ℕ) → is_word_text (b ∷ bs) ≡ true → is_apart cur ≡ true → piece_of (b ∷ (bs ++ cur)) ≡ token kind.Word (suc (length bs))
word_piece b bs cur is apart =
    let letter = and_left (is_ascii_alphabetic b) _ is in
    let front = word_byte_is b letter in
    let len = run_len (b ∷ bs) cur (rw (front.2, and_right (is_ascii_alphabetic b) _ is) refl) apart in
    cond_false _ _ _ front.0
    ∙ cond_false _ _ _ front.1
    ∙ cond_true _ _ _ front.2
    ∙ ap (λ (n : ℕ). token (kind_of_run (take n (b ∷ (bs ++ cur)))) n) len
    ∙ ap (λ (t : List ℕ). token (kind_of_run t) (suc (length bs))) (take_front (b ∷ bs) cur)
    ∙ ap (λ (k : TokenKind). token k (suc (length bs))) (cond_true _ _ _ letter)

-- a word that can be read: names are spelled as words
abbrev pub is_good : Word → Bool
is_good (named n) = is_word_text n
is_good _ = true

comma_pair : (cur : List ℕ) → is_pair (44 ∷ cur) ≡ false
comma_pair [] = refl
comma_pair (c ∷ cs) = refl

open_pair : (cur : List ℕ) → is_pair (40 ∷ cur) ≡ false
open_pair [] = refl
open_pair (c ∷ cs) = refl

close_pair : (cur : List ℕ) → is_pair (41 ∷ cur) ≡ false
close_pair [] = refl
close_pair (c ∷ cs) = refl

equals_pair : (cur : List ℕ) → is_pair (61 ∷ cur) ≡ false
equals_pair [] = refl
equals_pair (c ∷ cs) = refl

or_pair : (cur : List ℕ) → is_pair (124 ∷ cur) ≡ false
or_pair [] = refl
or_pair (c ∷ cs) = refl

-- a word of a given text at the front
lexes_text : (w : Word) (t cur : List ℕ) (ws : List Word) → spelling w ≡ t → word_kind w ≡ kind.Word → is_word_text t ≡ true → is_apart cur ≡ true → Lexes cur ws → Lexes (t ++ cur) (w ∷ ws)
lexes_text w [] cur ws spelled is text apart rest = absurd cc
lexes_text w (b ∷ bs) cur ws spelled is text apart rest = lexes_token w b bs cur ws spelled (word_piece b bs cur text apart ∙ ap (λ (k : TokenKind). token k (suc (length bs))) (sym is)) rest

lexes_sign : (s : Sign) (cur : List ℕ) (ws : List Word) → Lexes cur ws → Lexes (sign_bytes s ++ cur) (signed s ∷ ws)
lexes_sign sign.Open cur ws rest = lexes_token (signed sign.Open) 40 [] cur ws refl (cond_false _ _ _ (open_pair cur)) rest
lexes_sign sign.Close cur ws rest = lexes_token (signed sign.Close) 41 [] cur ws refl (cond_false _ _ _ (close_pair cur)) rest
lexes_sign sign.Comma cur ws rest = lexes_token (signed sign.Comma) 44 [] cur ws refl (cond_false _ _ _ (comma_pair cur)) rest
lexes_sign sign.Assign cur ws rest = lexes_token (signed sign.Assign) 58 (61 ∷ []) cur ws refl refl rest
lexes_sign sign.Differs cur ws rest = lexes_token (signed sign.Differs) 33 (61 ∷ []) cur ws refl refl rest
lexes_sign sign.Equals cur ws rest = lexes_token (signed sign.Equals) 61 [] cur ws refl (cond_false _ _ _ (equals_pair cur)) rest
lexes_sign sign.Or cur ws rest = lexes_token (signed sign.Or) 124 [] cur ws refl (cond_false _ _ _ (or_pair cur)) rest

lexes_nought : (cur : List ℕ) (ws : List Word) → is_apart cur ≡ true → Lexes cur ws → Lexes (48 ∷ cur) (nought ∷ ws)
lexes_nought cur ws apart rest = lexes_token nought 48 [] cur ws refl piece rest
  where
    piece : run_at (48 ∷ cur) ≡ token kind.Number 1
    piece =
        ap (λ (n : ℕ). token (kind_of_run (take n (48 ∷ cur))) n) (run_len (48 ∷ []) cur refl apart)
        ∙ ap (λ (t : List ℕ). token (kind_of_run t) 1) (take_front (48 ∷ []) cur)

-- a word at the front
pub lexes_word : (w : Word) (cur : List ℕ) (ws : List Word) → is_good w ≡ true → is_apart cur ≡ true → Lexes cur ws → Lexes (spelling w ++ cur) (w ∷ ws)
lexes_word (plain v) cur ws good apart rest = lexes_text (plain v) (word_bytes v) cur ws refl refl (reserved_is_word v) apart rest
lexes_word (named n) cur ws good apart rest = lexes_text (named n) n cur ws refl refl good apart rest
lexes_word (signed s) cur ws good apart rest = lexes_sign s cur ws rest
lexes_word nought cur ws good apart rest = lexes_nought cur ws apart rest

gap_sign : (s : Sign) (cur : List ℕ) (ws : List Word) → Lexes (sign_bytes s ++ cur) ws → Lexes (gap (signed s) ++ (sign_bytes s ++ cur)) ws
gap_sign sign.Comma cur ws rest = rest
gap_sign sign.Open cur ws rest = lexes_space _ ws rest
gap_sign sign.Close cur ws rest = lexes_space _ ws rest
gap_sign sign.Assign cur ws rest = lexes_space _ ws rest
gap_sign sign.Differs cur ws rest = lexes_space _ ws rest
gap_sign sign.Equals cur ws rest = lexes_space _ ws rest
gap_sign sign.Or cur ws rest = lexes_space _ ws rest

lexes_gap : (w : Word) (cur : List ℕ) (ws : List Word) → Lexes (spelling w ++ cur) ws → Lexes (gap w ++ (spelling w ++ cur)) ws
lexes_gap (plain v) cur ws rest = lexes_space _ ws rest
lexes_gap (named n) cur ws rest = lexes_space _ ws rest
lexes_gap (signed s) cur ws rest = gap_sign s cur ws rest
lexes_gap nought cur ws rest = lexes_space _ ws rest

apart_sign : (s : Sign) (cur : List ℕ) → is_apart (gap (signed s) ++ (sign_bytes s ++ cur)) ≡ true
apart_sign sign.Comma cur = refl
apart_sign _ cur = refl

apart_word : (w : Word) (cur : List ℕ) → is_apart (gap w ++ (spelling w ++ cur)) ≡ true
apart_word (plain v) cur = refl
apart_word (named n) cur = refl
apart_word (signed s) cur = apart_sign s cur
apart_word nought cur = refl

-- the text of words and what follows them
front : (w : Word) (ws : List Word) (tail : List ℕ) → words_text (w ∷ ws) ++ tail ≡ gap w ++ (spelling w ++ (words_text ws ++ tail))
front w ws tail = simp append_assoc

apart_words : (ws : List Word) (tail : List ℕ) → is_apart tail ≡ true → is_apart (words_text ws ++ tail) ≡ true
apart_words [] tail apart = apart
apart_words (w ∷ ws) tail apart = ap is_apart (front w ws tail) ∙ apart_word w (words_text ws ++ tail)

lexes_words : (ws : List Word) (tail : List ℕ) (others : List Word) → list_all is_good ws ≡ true → is_apart tail ≡ true → Lexes tail others → Lexes (words_text ws ++ tail) (ws ++ others)
lexes_words [] tail others good apart rest = rest
lexes_words (w ∷ ws) tail others good apart rest =
    subst (λ (l : List ℕ). Lexes l (w ∷ (ws ++ others))) (sym (front w ws tail))
    (lexes_gap w (words_text ws ++ tail) (w ∷ (ws ++ others))
    (lexes_word w (words_text ws ++ tail) (ws ++ others) (and_left (is_good w) _ good) (apart_words ws tail apart)
    (lexes_words ws tail others (and_right (is_good w) _ good) apart rest)))

line_front : (l : Line) (tail : List ℕ) → line_text l ++ tail ≡ spelling l.first ++ (words_text l.others ++ 10 ∷ tail)
line_front l tail = simp append_assoc

pub all_cut : (xs ys : List Word) → list_all is_good (xs ++ ys) ≡ true → (list_all is_good xs ≡ true) × (list_all is_good ys ≡ true)
all_cut xs ys good =
    let both = sym (list_all-append is_good xs ys) ∙ good in
    (and_left (list_all is_good xs) _ both, and_right (list_all is_good xs) _ both)

-- the text of lines
pub lexes_lines : (ls : List Line) → list_all is_good (words_of ls) ≡ true → Lexes (lines_text ls) (words_of ls)
lexes_lines [] good = lexes_nothing
lexes_lines (l ∷ ls) good =
    let parts = all_cut (l.first ∷ l.others) (words_of ls) good in
    subst (λ (t : List ℕ). Lexes t (l.first ∷ (l.others ++ words_of ls))) (sym (line_front l (lines_text ls)))
    (lexes_word l.first (words_text l.others ++ 10 ∷ lines_text ls) (l.others ++ words_of ls) (and_left (is_good l.first) _ parts.0) (apart_words l.others (10 ∷ lines_text ls) refl)
    (lexes_words l.others (10 ∷ lines_text ls) (words_of ls) (and_right (is_good l.first) _ parts.0) refl
    (lexes_feed (lines_text ls) (words_of ls) (lexes_lines ls parts.1))))

-- the tokens of the text of lines
pub tokens_are : (ls : List Line) → list_all is_good (words_of ls) ≡ true → map bare (tokens_of (lines_text ls)) ≡ map lex (words_of ls)
tokens_are ls good = (lexes_lines ls good).is start_place
