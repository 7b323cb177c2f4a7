-- Names that stand once in a list are found at their place.
use Rattle.std.proofs.Common.{◌≡◌, ℕ, zero, suc, ◌+◌, ◌-◌, ◌<◌, ◌≤◌, Bool, true, false, cond, not, ◌&&◌, ◌||◌, List, [], ◌∷◌, ◌++◌, map, length, length-append, take, refl, ap, ◌∙◌, arith, Some, nat_lt, lt-ltb}
use Rattle.std.specs.Prelude.{slice_get, slice_set, position, unwrap_or}
use Rattle.std.specs.List.{list_any, list_all, position_or_len}
use Rattle.std.specs.Option.{option_map_or}
use Rattle.std.specs.Str.{bytes_eq}
use Rattle.std.proofs.lemmas.Slice.Eq.{bytes_eq-Decides}
use Rattle.hem_base.specs.Words.{is_reserved}
use Rattle.hem_syntax.specs.Protocol.{Text}
use Rattle.hem_syntax.specs.Lawful.{is_declarable, are_distinct}
use Rattle.hem_grammar.specs.Draft.{place_in, place_among, is_in, is_among, last_or, set_last}

-- tests

pub and_left : (a b : Bool) → (a && b) ≡ true → a ≡ true
and_left true b h = refl
and_left false b h = absurd cc

pub and_right : (a b : Bool) → (a && b) ≡ true → b ≡ true
and_right true b h = h
and_right false b h = absurd cc

pub not_true : (b : Bool) → not b ≡ true → b ≡ false
not_true true h = absurd cc
not_true false h = refl

pub or_left : (a b : Bool) → (a || b) ≡ false → a ≡ false
or_left true b h = absurd cc
or_left false b h = refl

pub or_right : (a b : Bool) → (a || b) ≡ false → b ≡ false
or_right true b h = absurd cc
or_right false b h = h

pub or_both : (a b : Bool) → a ≡ false → b ≡ false → (a || b) ≡ false
or_both a b h k = rw (h, k) refl

pub both : {a b : Bool} → a ≡ true → b ≡ true → (a && b) ≡ true
both h k = rw (h, k) refl

pub cond_true : {A : Type 0} (b : Bool) (x y : A) → b ≡ true → cond b x y ≡ x
cond_true b x y h = rw h refl

pub cond_false : {A : Type 0} (b : Bool) (x y : A) → b ≡ false → cond b x y ≡ y
cond_false b x y h = rw h refl

pub not_false : (b : Bool) → b ≡ false → not b ≡ true
not_false b h = rw h refl

-- bytes

pub same_bytes : (t : Text) → bytes_eq t t ≡ true
same_bytes t = (bytes_eq-Decides t t).1 refl

pub bytes_same : (s t : Text) → bytes_eq s t ≡ true → s ≡ t
bytes_same s t h = (bytes_eq-Decides s t).0 h

false_if : (b : Bool) → (b ≡ true → ⊥) → b ≡ false
false_if true h = absurd (h refl)
false_if false h = refl

-- lists

pub any_at : {A : Type 0} (p : A → Bool) (xs : List A) (i : ℕ) (x : A) → slice_get xs i ≡ Some x → p x ≡ true → list_any p xs ≡ true
any_at p [] i x e h = absurd cc
any_at p (y ∷ ys) zero x e h = let same : y ≡ x = cc in rw (same, h) refl
any_at p (y ∷ ys) (suc i) x e h = rw (any_at p ys i x e h) (any_true (p y))
  where
    any_true : (b : Bool) → (b || true) ≡ true
    any_true true = refl
    any_true false = refl

pub all_at : {A : Type 0} (p : A → Bool) (xs : List A) (i : ℕ) (x : A) → slice_get xs i ≡ Some x → list_all p xs ≡ true → p x ≡ true
all_at p [] i x e h = absurd cc
all_at p (y ∷ ys) zero x e h = let same : y ≡ x = cc in rw (← same) (and_left (p y) (list_all p ys) h)
all_at p (y ∷ ys) (suc i) x e h = all_at p ys i x e (and_right (p y) (list_all p ys) h)

pub get_some : {A : Type 0} (xs : List A) (i : ℕ) → i < length xs → (x : A) × (slice_get xs i ≡ Some x)
get_some [] i h = absurd (omega arith)
get_some (x ∷ xs) zero h = (x, refl)
get_some (x ∷ xs) (suc i) h = get_some xs i (omega arith)

last_place : {A : Type 0} (xs : List A) (x : A) → length (xs ++ x ∷ []) - 1 ≡ length xs
last_place xs x = let e : length (xs ++ x ∷ []) ≡ length xs + 1 = length-append xs (x ∷ []) in omega arith

get_last : {A : Type 0} (xs : List A) (x : A) → slice_get (xs ++ x ∷ []) (length xs) ≡ Some x
get_last [] x = refl
get_last (y ∷ ys) x = get_last ys x

put_last : {A : Type 0} (xs : List A) (x y : A) → slice_set (xs ++ x ∷ []) (length xs) y ≡ xs ++ y ∷ []
put_last [] x y = refl
put_last (z ∷ zs) x y = ap (λ (l : List _). z ∷ l) (put_last zs x y)

pub last_snoc : {A : Type 0} (d : A) (xs : List A) (x : A) → last_or d (xs ++ x ∷ []) ≡ x
last_snoc d xs x = rw (last_place xs x, get_last xs x) refl

pub set_last_snoc : {A : Type 0} (xs : List A) (x y : A) → set_last (xs ++ x ∷ []) y ≡ xs ++ y ∷ []
set_last_snoc xs x y = rw (last_place xs x) (put_last xs x y)

-- room for one more, and for those after it

pub room : (limit n m : ℕ) → n + suc m ≤ limit → nat_lt n limit ≡ true
room limit n m le = lt-ltb n limit (omega arith)

pub room_after : {A : Type 0} (limit : ℕ) (done : List A) (y : A) (m : ℕ) → length done + suc m ≤ limit → length (done ++ y ∷ []) + m ≤ limit
room_after limit done y m le = omega (arith, length-append done (y ∷ []))

-- the first place at which a test passes

pub first_place : {A : Type 0} (p : A → Bool) (xs : List A) (i : ℕ) (x : A) → slice_get xs i ≡ Some x → p x ≡ true → list_any p (take i xs) ≡ false → position p xs ≡ Some i
first_place p xs i x e h none =
    let at = first p xs i x e h none in
    let lt = within xs i x e in
    rw (at, lt-ltb i (length xs) lt) refl
  where
    within : {A : Type 0} (xs : List A) (i : ℕ) (x : A) → slice_get xs i ≡ Some x → i < length xs
    within [] i x e = absurd cc
    within (y ∷ ys) zero x e = omega arith
    within (y ∷ ys) (suc i) x e = let lt = within ys i x e in omega arith

    first : {A : Type 0} (p : A → Bool) (xs : List A) (i : ℕ) (x : A) → slice_get xs i ≡ Some x → p x ≡ true → list_any p (take i xs) ≡ false → position_or_len p xs ≡ i
    first p [] i x e h none = absurd cc
    first p (y ∷ ys) zero x e h none = let same : y ≡ x = cc in rw (same, h) refl
    first p (y ∷ ys) (suc i) x e h none =
        let before : p y ≡ false = or_left (p y) (list_any p (take i ys)) none in
        let rest : position_or_len p ys ≡ i = first p ys i x e h (or_right (p y) (list_any p (take i ys)) none) in
        rw (before, rest) (omega arith)

-- names

-- the name at a place
abbrev pub name_at : List Text → ℕ → Text
name_at names i = unwrap_or (slice_get names i) []

pub distinct_before : (names : List Text) (i : ℕ) (n : Text) → are_distinct names ≡ true → slice_get names i ≡ Some n → list_any (λ m. bytes_eq m n) (take i names) ≡ false
distinct_before [] i n d e = absurd cc
distinct_before (m ∷ ms) zero n d e = refl
distinct_before (m ∷ ms) (suc i) n d e =
    let apart : list_any (bytes_eq m) ms ≡ false = not_true _ (and_left (not (list_any (bytes_eq m) ms)) (are_distinct ms) d) in
    let other : bytes_eq m n ≡ false = false_if _ (λ same. clash (any_at (bytes_eq m) ms i n e same) apart) in
    or_both _ _ other (distinct_before ms i n (and_right (not (list_any (bytes_eq m) ms)) (are_distinct ms) d) e)
  where
    clash : {b : Bool} → b ≡ true → b ≡ false → ⊥
    clash h k = cc

pub place_of_name : (names : List Text) (i : ℕ) → are_distinct names ≡ true → i < length names → place_in names (name_at names i) ≡ Some i
place_of_name names i d lt =
    let at = get_some names i lt in
    rw at.1 (first_place (λ n. bytes_eq n at.0) names i at.0 at.1 (same_bytes at.0) (distinct_before names i at.0 d at.1))

pub name_known : (names : List Text) (i : ℕ) → i < length names → is_in names (name_at names i) ≡ true
name_known names i lt =
    let at = get_some names i lt in
    rw at.1 (any_at (λ n. bytes_eq n at.0) names i at.0 at.1 (same_bytes at.0))

-- a name that isn't reserved is no reserved word
pub not_word : (names : List Text) (text : Text) → list_all is_declarable names ≡ true → is_reserved text ≡ true → is_in names text ≡ false
not_word [] text d r = refl
not_word (n ∷ ns) text d r =
    or_both _ _ (false_if _ (λ same. reserved n (bytes_same n text same) (and_left (is_declarable n) (list_all is_declarable ns) d))) (not_word ns text (and_right (is_declarable n) (list_all is_declarable ns) d) r)
  where
    clash : {b : Bool} → b ≡ true → b ≡ false → ⊥
    clash h k = cc

    reserved : (n : Text) → n ≡ text → is_declarable n ≡ true → ⊥
    reserved n same declarable = clash (ap is_reserved same ∙ r) (not_true _ (and_right _ (not (is_reserved n)) declarable))

-- names with something

pub among_is : {A : Type 0} (names : List (Text × A)) (text : Text) → is_among names text ≡ is_in (map (λ n. n.0) names) text
among_is [] text = refl
among_is (n ∷ ns) text = ap (λ b. bytes_eq n.0 text || b) (among_is ns text)

pub place_among_is : {A : Type 0} (names : List (Text × A)) (text : Text) → place_among names text ≡ place_in (map (λ n. n.0) names) text
place_among_is names text = rw (len names, same names) refl
  where
    len : {A : Type 0} (names : List (Text × A)) → length names ≡ length (map (λ n. n.0) names)
    len [] = refl
    len (n ∷ ns) = ap suc (len ns)

    same : {A : Type 0} (names : List (Text × A)) → position_or_len (λ n. bytes_eq n.0 text) names ≡ position_or_len (λ n. bytes_eq n text) (map (λ n. n.0) names)
    same [] = refl
    same (n ∷ ns) = ap (λ k. cond (not (bytes_eq n.0 text)) (1 + k) 0) (same ns)

pub pair_name : {A : Type 0} (names : List (Text × A)) (i : ℕ) → option_map_or (λ n. n.0) (slice_get names i) [] ≡ name_at (map (λ n. n.0) names) i
pair_name [] i = refl
pair_name (n ∷ ns) zero = refl
pair_name (n ∷ ns) (suc i) = pair_name ns i

pub length_names : {A : Type 0} (names : List (Text × A)) → length (map (λ n. n.0) names) ≡ length names
length_names [] = refl
length_names (n ∷ ns) = ap suc (length_names ns)
