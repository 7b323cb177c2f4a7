-- Tables of names: equality turned round, texts that are no names, and a name more.
use Rattle.std.proofs.Common.{◌≡◌, ℕ, suc, zero, ◌+◌, ◌-◌, nat_lt, Bool, true, false, cond, not, ◌||◌, List, [], ◌∷◌, ◌++◌, length, map, slice_get, slice_set, refl, sym, ap, subst, ◌∙◌, Option, Some, None, is_some, true≢false, arith}
use Rattle.std.specs.Prelude.{position, unwrap_or}
use Rattle.std.specs.List.{list_any, position_or_len, prefix_len, AllByRecursion}
use Rattle.std.specs.Map.{keys_of}
use Rattle.std.specs.Str.{bytes_eq}
use Rattle.std.specs.Cmp.Lexicographic.{nat_list_eq_equiv}
use Rattle.std.proofs.lemmas.Slice.Eq.{bytes_eq-Decides}
use Rattle.indexmap.specs.IndexMap.{insert_entry, set_value_at}
use Rattle.hem_base.specs.Names.{IsName}
use Rattle.hem_syntax.specs.Names.{place_in, is_in, place_among, is_among, AreNames, AreNamed, with_last}

-- equality turned round
pub turned_place : (names : List (List ℕ)) (text : List ℕ) → position (bytes_eq text) names ≡ place_in names text
turned_place names text = λ i. position (λ n. nat_list_eq_equiv.symm text n i) names

pub turned_any : (names : List (List ℕ)) (text : List ℕ) → list_any (bytes_eq text) names ≡ is_in names text
turned_any names text = λ i. list_any (λ n. nat_list_eq_equiv.symm text n i) names

-- where the first that passes stands, and whether there is one
zero_first : (n : ℕ) → nat_lt 0 (suc n) ≡ true
zero_first n = grind arith

one_further : (a n : ℕ) → nat_lt (1 + a) (suc n) ≡ nat_lt a n
one_further a n = grind arith

first_within : {X : Type 0} (p : X → Bool) (xs : List X) → nat_lt (position_or_len p xs) (length xs) ≡ list_any p xs
first_within p [] = refl
first_within p (x ∷ xs) = by (p x) (first_within p xs)
  where
    by : (b : Bool) → nat_lt (position_or_len p xs) (length xs) ≡ list_any p xs → nat_lt (cond (not b) (1 + position_or_len p xs) 0) (suc (length xs)) ≡ (b || list_any p xs)
    by true h = zero_first (length xs)
    by false h = one_further (position_or_len p xs) (length xs) ∙ h

pub has_place : {X : Type 0} (p : X → Bool) (xs : List X) → is_some (position p xs) ≡ list_any p xs
has_place p xs = by (nat_lt (position_or_len p xs) (length xs)) ∙ first_within p xs
  where
    by : (b : Bool) → is_some (cond b (Some (position_or_len p xs)) None) ≡ b
    by true = refl
    by false = refl

none_from : (o : Option ℕ) → is_some o ≡ false → o ≡ None
none_from None h = refl
none_from (Some n) h = absurd (true≢false h)

pub no_place : {X : Type 0} (p : X → Bool) (xs : List X) → list_any p xs ≡ false → position p xs ≡ None
no_place p xs none = none_from (position p xs) (has_place p xs ∙ none)

-- a table's names
prefix_map : {X Y : Type 0} (f : X → Y) (p : Y → Bool) (xs : List X) → prefix_len p (map f xs) ≡ prefix_len (λ x. p (f x)) xs
prefix_map f p [] = refl
prefix_map f p (x ∷ xs) = λ i. cond (p (f x)) (1 + prefix_map f p xs i) 0

map_length : {X Y : Type 0} (f : X → Y) (xs : List X) → length (map f xs) ≡ length xs
map_length f [] = refl
map_length f (x ∷ xs) = ap suc (map_length f xs)

place_map : {X Y : Type 0} (f : X → Y) (p : Y → Bool) (xs : List X) → position p (map f xs) ≡ position (λ x. p (f x)) xs
place_map f p xs = λ i. cond (nat_lt (prefix_map f (λ y. not (p y)) xs i) (map_length f xs i)) (Some (prefix_map f (λ y. not (p y)) xs i)) None

pub turned_among : {A : Type 0} (names : List (List ℕ × A)) (text : List ℕ) → position (bytes_eq text) (keys_of names) ≡ place_among names text
turned_among names text = place_map (λ e. e.0) (bytes_eq text) names ∙ (λ i. position (λ e. nat_list_eq_equiv.symm text e.0 i) names)

-- a text that is no name stands nowhere
differs : (n text : List ℕ) → IsName n → (IsName text → ⊥) → bytes_eq n text ≡ false
differs n text name not_one = by (bytes_eq n text) refl
  where
    by : (b : Bool) → bytes_eq n text ≡ b → b ≡ false
    by true e = absurd (not_one (subst IsName ((bytes_eq-Decides n text).0 e) name))
    by false e = refl

pub no_name_among : {A : Type 0} (names : List (List ℕ × A)) (text : List ℕ) → AreNamed names → (IsName text → ⊥) → is_among names text ≡ false
no_name_among [] text are not_one = refl
no_name_among (n ∷ ns) text are not_one = λ i. differs n.0 text are.0 not_one i || no_name_among ns text are.1 not_one i

pub no_name_in : (names : List (List ℕ)) (text : List ℕ) → AreNames names → (IsName text → ⊥) → is_in names text ≡ false
no_name_in [] text are not_one = refl
no_name_in (n ∷ ns) text are not_one = λ i. differs n text are.0 not_one i || no_name_in ns text are.1 not_one i

pub nowhere_among : {A : Type 0} (names : List (List ℕ × A)) (text : List ℕ) → AreNamed names → (IsName text → ⊥) → None ≡ place_among names text
nowhere_among names text are not_one = sym (no_place (λ n. bytes_eq n.0 text) names (no_name_among names text are not_one))

pub nowhere_in : (names : List (List ℕ)) (text : List ℕ) → AreNames names → (IsName text → ⊥) → None ≡ place_in names text
nowhere_in names text are not_one = sym (no_place (λ n. bytes_eq n text) names (no_name_in names text are not_one))

-- a name more
pub all_push : {X : Type 0} (P : X → Type 0) (xs : List X) (x : X) → AllByRecursion P xs → P x → AllByRecursion P (xs ++ x ∷ [])
all_push P [] x all holds = (holds, tt)
all_push P (y ∷ ys) x all holds = (all.0, all_push P ys x all.1 holds)

pub insert_new : {A : Type 0} (es : List (List ℕ × A)) (k : List ℕ) (v : A) → is_among es k ≡ false → insert_entry bytes_eq es k v ≡ es ++ (k, v) ∷ []
insert_new [] k v new = refl
insert_new (e ∷ es) k v new = by (bytes_eq e.0 k) refl new (insert_new es k v)
  where
    by : (b : Bool) → bytes_eq e.0 k ≡ b → (b || is_among es k) ≡ false → (is_among es k ≡ false → insert_entry bytes_eq es k v ≡ es ++ (k, v) ∷ []) → insert_entry bytes_eq (e ∷ es) k v ≡ e ∷ es ++ (k, v) ∷ []
    by true is h rest = absurd (true≢false h)
    by false is h rest =
        let turned : bytes_eq k e.0 ≡ false = nat_list_eq_equiv.symm k e.0 ∙ is in
        (λ i. cond (turned i) ((e.0, v) ∷ es) (e ∷ insert_entry bytes_eq es k v)) ∙ ap (λ l. e ∷ l) (rest h)

-- another value at a place
set_at : {A : Type 0} (es : List (List ℕ × A)) (i : ℕ) (v : A) → set_value_at es i v ≡ slice_set es i ((unwrap_or (slice_get es i) ([], v)).0, v)
set_at [] i v = refl
set_at (e ∷ es) zero v = refl
set_at (e ∷ es) (suc i) v = ap (λ l. e ∷ l) (set_at es i v)

pub set_at_last : {A : Type 0} (es : List (List ℕ × A)) (v : A) → set_value_at es (length es - 1) v ≡ with_last es v
set_at_last es v = set_at es (length es - 1) v

pub still_named : {A : Type 0} (es : List (List ℕ × A)) (i : ℕ) (v : A) → AreNamed es → AreNamed (set_value_at es i v)
still_named [] i v are = tt
still_named (e ∷ es) zero v are = are
still_named (e ∷ es) (suc i) v are = (are.0, still_named es i v are.1)
