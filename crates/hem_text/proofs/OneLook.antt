-- A run's length and kind, from its digits at the front and the bytes after them.
use Rattle.std.proofs.Common.{◌≡◌, ℕ, suc, ◌+◌, ◌<◌, ◌==◌, Bool, true, false, cond, ◌||◌, List, [], ◌∷◌, take, drop, get_or, length, refl, sym, ap, ◌∙◌, arith, Some}
use Rattle.std.specs.List.{prefix_len, list_all}
use Rattle.std.specs.Char.{is_ascii_digit, is_ascii_alphabetic}
use Rattle.hem_base.specs.Words.{is_word_byte}
use Rattle.hem_text.specs.declared.text.TokenKind.{TokenKind}
use Rattle.hem_text.specs.declared.text.TokenKind.TheVariants.{Word, Number, Bad}
use Rattle.hem_text.specs.Tokens.{kind_of_run, kind_by, run_at}

-- a digit may stand in a run
in_run : (b : ℕ) → is_ascii_digit b ≡ true → is_word_byte b ≡ true
in_run b digit = rw digit (by (is_ascii_alphabetic b))
  where
    by : (a : Bool) → (a || true || b == 95) ≡ true
    by true = refl
    by false = refl

one_suc : (n : ℕ) → 1 + n ≡ suc n
one_suc n = omega arith

not_zero : (n : ℕ) → (suc n == 0) ≡ false
not_zero n = grind arith

longer : (n p q : ℕ) → n ≡ p + q → 1 + n ≡ 1 + p + q
longer n p q e = omega (arith, e)

module _ (p q : ℕ → Bool) (weaker : (b : ℕ) → p b ≡ true → q b ≡ true) where
  len_step : (x : ℕ) (xs : List ℕ) → prefix_len q xs ≡ prefix_len p xs + prefix_len q (drop (prefix_len p xs) xs) → (c : Bool) → p x ≡ c →
      prefix_len q (x ∷ xs) ≡ cond c (1 + prefix_len p xs) 0 + prefix_len q (drop (cond c (1 + prefix_len p xs) 0) (x ∷ xs))
  len_step x xs rest true is =
      let more : 1 + prefix_len q xs ≡ 1 + prefix_len p xs + prefix_len q (drop (prefix_len p xs) xs) = longer (prefix_len q xs) (prefix_len p xs) _ rest in
      rw (weaker x is, one_suc (prefix_len p xs)) (rw (one_suc (prefix_len p xs)) at more)
  len_step x xs rest false is = omega arith

  -- the run is the first digits and what comes after them
  pub in_two : (xs : List ℕ) → prefix_len q xs ≡ prefix_len p xs + prefix_len q (drop (prefix_len p xs) xs)
  in_two [] = refl
  in_two (x ∷ xs) = len_step x xs (in_two xs) (p x) refl

  none_left : (x : ℕ) (xs : List ℕ) → p x ≡ false → (c : Bool) → list_all p (take (cond c (1 + prefix_len q xs) 0) (x ∷ xs)) ≡ (cond c (1 + prefix_len q xs) 0 == 0)
  none_left x xs is true = rw (one_suc (prefix_len q xs), is) (sym (not_zero (prefix_len q xs)))
  none_left x xs is false = refl

  all_step : (x : ℕ) (xs : List ℕ) → list_all p (take (prefix_len q xs) xs) ≡ (prefix_len q (drop (prefix_len p xs) xs) == 0) → (c : Bool) → p x ≡ c →
      list_all p (take (prefix_len q (x ∷ xs)) (x ∷ xs)) ≡ (prefix_len q (drop (cond c (1 + prefix_len p xs) 0) (x ∷ xs)) == 0)
  all_step x xs rest true is = rw (weaker x is, one_suc (prefix_len p xs), one_suc (prefix_len q xs), is) rest
  all_step x xs rest false is = none_left x xs is (q x)

  -- it has digits alone where nothing comes after the first digits
  pub digits_alone : (xs : List ℕ) → list_all p (take (prefix_len q xs) xs) ≡ (prefix_len q (drop (prefix_len p xs) xs) == 0)
  digits_alone [] = refl
  digits_alone (x ∷ xs) = all_step x xs (digits_alone xs) (p x) refl

begun : (b n : ℕ) (bs : List ℕ) (m : ℕ) → m ≡ suc n → kind_of_run (take m (b ∷ bs)) ≡ cond (is_ascii_alphabetic b) Word (cond (list_all is_ascii_digit (take m (b ∷ bs))) Number Bad)
begun b n bs m is = rw is refl

kind_is : (bytes : List ℕ) → 0 < length bytes → is_word_byte (get_or bytes 0 0) ≡ true →
    kind_of_run (take (prefix_len is_word_byte bytes) bytes) ≡ kind_by (is_ascii_alphabetic (get_or bytes 0 0)) (prefix_len is_word_byte (drop (prefix_len is_ascii_digit bytes) bytes))
kind_is [] some word = absurd (omega arith)
kind_is (b ∷ bs) some word =
    let n = prefix_len is_word_byte bs in
    let long : prefix_len is_word_byte (b ∷ bs) ≡ suc n = rw word (one_suc n) in
    begun b n bs _ long ∙ ap (λ alone. cond (is_ascii_alphabetic b) Word (cond alone Number Bad)) (digits_alone is_ascii_digit is_word_byte in_run (b ∷ bs))

-- the run at the front
pub run_is : (bytes : List ℕ) (digits others : ℕ) (kind : TokenKind) → 0 < length bytes → is_word_byte (get_or bytes 0 0) ≡ true → digits ≡ prefix_len is_ascii_digit bytes →
    others ≡ prefix_len is_word_byte (drop digits bytes) → kind ≡ kind_by (is_ascii_alphabetic (get_or bytes 0 0)) others → record { kind = Some kind; len = digits + others } ≡ run_at bytes
run_is bytes digits others kind some word first rest is =
    let after : others ≡ prefix_len is_word_byte (drop (prefix_len is_ascii_digit bytes) bytes) = rest ∙ ap (λ n. prefix_len is_word_byte (drop n bytes)) first in
    let kinds : kind ≡ kind_of_run (take (prefix_len is_word_byte bytes) bytes) = is ∙ ap (kind_by (is_ascii_alphabetic (get_or bytes 0 0))) after ∙ sym (kind_is bytes some word) in
    let lens : digits + others ≡ prefix_len is_word_byte bytes = omega (arith, first, after, in_two is_ascii_digit is_word_byte in_run bytes) in
    λ i. record { kind = Some (kinds i); len = lens i }
