-- Elements with commas between them, as a loop writes them.
use Rattle.std.proofs.Common.{option_to_list, slice_get, zero, suc, arith, ◌≡◌, refl, sym, ap, ◌∙◌, List, [], ◌∷◌, ◌++◌, ℕ, ◌+◌, ◌<◌, add-one, append_assoc, append-nil, map, length, drop, drop-cons, get_or}
use Rattle.std.specs.Prelude.{codes}
use Rattle.std.proofs.lemmas.Grind.{flat_map-append}
use Rattle.hem_base.specs.declared.words.Sign.TheVariants as sign
use Rattle.hem_base.specs.declared.words.Reserved.TheVariants as word
use Rattle.hem_syntax.specs.Protocol.{Protocol}
use Rattle.hem_print.specs.Canonical.{Word, signed, words_text, led, Line, end_line, line_text, lines_text, declaration_lines, kind_lines, protocol_text}

-- words after words
pub words_joined : (xs ys : List Word) → words_text (xs ++ ys) ≡ words_text xs ++ words_text ys
words_joined xs ys = flat_map-append _ xs ys

-- the first element, and those after it
pub led_first : {A : Type 0} (f : A → List Word) (w : Word) (x : A) (xs : List A) → words_text (led w f (x ∷ xs)) ≡ words_text (w ∷ []) ++ words_text (f x) ++ words_text (led (signed sign.Comma) f xs)
led_first f w x xs = rw (words_joined (f x) (led (signed sign.Comma) f xs)) (simp (append_assoc, append-nil))

-- ten pieces of the words of a rule, one after another
pub rule_chain : (s0 s1 s2 s3 s4 s5 s6 s7 s8 s9 s10 : List ℕ) (tw : Word) (t : List Word) (nw : Word) (n g a f l d : List Word) (ew : Word)
    → s1 ≡ s0 ++ words_text (tw ∷ []) → s2 ≡ s1 ++ words_text t → s3 ≡ s2 ++ words_text (nw ∷ []) → s4 ≡ s3 ++ words_text n → s5 ≡ s4 ++ words_text g
    → s6 ≡ s5 ++ words_text a → s7 ≡ s6 ++ words_text f → s8 ≡ s7 ++ words_text l → s9 ≡ s8 ++ words_text d → s10 ≡ s9 ++ words_text (ew ∷ [])
    → s10 ≡ s0 ++ words_text ((tw ∷ t) ++ (nw ∷ n) ++ g ++ a ++ f ++ l ++ d ++ (ew ∷ []))
rule_chain s0 s1 s2 s3 s4 s5 s6 s7 s8 s9 s10 tw t nw n g a f l d ew e1 e2 e3 e4 e5 e6 e7 e8 e9 e10 =
    rw (e10, e9, e8, e7, e6, e5, e4, e3, e2, e1) (simp (words_joined, append_assoc, append-nil))

-- lines after lines
pub lines_joined : (xs ys : List Line) → lines_text (xs ++ ys) ≡ lines_text xs ++ lines_text ys
lines_joined xs ys = flat_map-append _ xs ys

-- the parts of a protocol, one after another
pub protocol_made : (p : Protocol) (s0 s1 s2 s3 s4 s5 : List ℕ) → s0 ≡ [] → s1 ≡ s0 ++ lines_text (declaration_lines p)
    → s2 ≡ s1 ++ lines_text (kind_lines p word.Root p.root) → s3 ≡ s2 ++ lines_text (kind_lines p word.Mid p.mid) → s4 ≡ s3 ++ lines_text (kind_lines p word.Leaf p.leaf)
    → s5 ≡ s4 ++ codes "end\n" → s5 ≡ protocol_text p
protocol_made p s0 s1 s2 s3 s4 s5 e0 e1 e2 e3 e4 e5 =
    rw (e5, e4, e3, e2, e1, e0) (chain (declaration_lines p) (kind_lines p word.Root p.root) (kind_lines p word.Mid p.mid) (kind_lines p word.Leaf p.leaf))
  where
    chain : (d r m l : List Line) → lines_text d ++ lines_text r ++ lines_text m ++ lines_text l ++ codes "end\n" ≡ lines_text (d ++ r ++ m ++ l ++ (end_line ∷ []))
    chain d r m l = simp (lines_joined, append_assoc)

-- the line of one more element
pub line_more : {A : Type 0} (f : A → Line) (all text text' : List ℕ) (xs : List A) (i : ℕ) (x : A) → i < length xs → get_or xs i x ≡ x → text' ≡ text ++ line_text (f x) → text ++ lines_text (map f (drop i xs)) ≡ all → text' ++ lines_text (map f (drop (i + 1) xs)) ≡ all
line_more f all text text' xs i x lt is e so_far =
    let cut : drop i xs ≡ x ∷ drop (i + 1) xs = rw (drop-cons xs i x lt, is, add-one) refl in
    rw (e, append_assoc) (ap (λ (l : List _). text ++ lines_text (map f l)) (sym cut) ∙ so_far)

-- the line of the element at a place, if any
pub line_at : {A : Type 0} (f : A → Line) (all text text' : List ℕ) (xs : List A) (i : ℕ) → text' ≡ text ++ lines_text (map f (option_to_list (slice_get xs i))) → text ++ lines_text (map f (drop i xs)) ≡ all → text' ++ lines_text (map f (drop (i + 1) xs)) ≡ all
line_at f all text text' xs i e so_far = rw (e, append_assoc) (ap (λ ls. text ++ ls) (sym (lines_joined (map f (option_to_list (slice_get xs i))) (map f (drop (i + 1) xs))) ∙ ap lines_text (cut xs i)) ∙ so_far)
  where
    cut : (xs : List _) (i : ℕ) → map f (option_to_list (slice_get xs i)) ++ map f (drop (i + 1) xs) ≡ map f (drop i xs)
    cut [] zero = refl
    cut [] (suc i) = let n : suc i + 1 ≡ suc (i + 1) = omega arith in rw n refl
    cut (x ∷ xs) zero = refl
    cut (x ∷ xs) (suc i) = let n : suc i + 1 ≡ suc (i + 1) = omega arith in rw n (cut xs i)
