-- Tests, lists and names: small facts.
use Rattle.std.proofs.Common.{◌≡◌, ◌∙◌, refl, ap, ℕ, suc, zero, nat_lt, nat_le, Bool, true, false, not, ◌&&◌, ◌||◌, List, [], ◌∷◌, ◌++◌, length, map, Option, None, slice_get, slice_set}
use Rattle.std.specs.Prelude.{unwrap_or, position, is_some}
use Rattle.std.specs.List.{list_any, list_all, position_or_len}
use Rattle.std.specs.Str.{bytes_eq}
use Rattle.std.specs.Cmp.Lexicographic.{nat_list_eq_equiv}
use Rattle.hem_text.specs.Lexemes.{Lexeme}
use Rattle.hem_text.specs.Spelling.{is_name, is_word}
use Rattle.hem_base.specs.Words.{is_word_text, is_reserved}
use Rattle.hem_syntax.specs.Names.{place_in, is_in, place_among, is_among}
use Rattle.hem_syntax.specs.Lawful.{is_declarable, are_distinct}
use Rattle.hem_syntax.proofs.Tables.{has_place}
use Rattle.hem_modtext.specs.Draft.{is_short}

-- two tests
pub both : (a b : Bool) → (a && b) ≡ true → (a ≡ true) × (b ≡ true)
both true b h = (refl, h)
both false b h = absurd cc

pub neither : (a b : Bool) → (a || b) ≡ false → (a ≡ false) × (b ≡ false)
neither true b h = absurd cc
neither false b h = (refl, h)

pub is_not : (a : Bool) → not a ≡ true → a ≡ false
is_not true h = absurd cc
is_not false h = refl

-- tests of all and of one more
pub all_more : {X : Type 0} (p : X → Bool) (xs : List X) (y : X) → list_all p xs ≡ true → p y ≡ true → list_all p (xs ++ y ∷ []) ≡ true
all_more p [] y all one = rw one refl
all_more p (x ∷ xs) y all one = let two = both (p x) (list_all p xs) all in rw (two.0, all_more p xs y two.1 one) refl

pub all_both : {X : Type 0} (p : X → Bool) (xs ys : List X) → list_all p xs ≡ true → list_all p ys ≡ true → list_all p (xs ++ ys) ≡ true
all_both p [] ys a b = b
all_both p (x ∷ xs) ys a b = let two = both (p x) (list_all p xs) a in rw (two.0, all_both p xs ys two.1 b) refl

pub all_parts : {X : Type 0} (p : X → Bool) (xs ys : List X) → list_all p (xs ++ ys) ≡ true → (list_all p xs ≡ true) × (list_all p ys ≡ true)
all_parts p [] ys all = (refl, all)
all_parts p (x ∷ xs) ys all = let two = both (p x) (list_all p (xs ++ ys)) all in let parts = all_parts p xs ys two.1 in (rw (two.0, parts.0) refl, parts.1)

pub all_set : {X : Type 0} (p : X → Bool) (xs : List X) (i : ℕ) (y : X) → list_all p xs ≡ true → p y ≡ true → list_all p (slice_set xs i y) ≡ true
all_set p [] i y all one = refl
all_set p (x ∷ xs) zero y all one = let two = both (p x) (list_all p xs) all in rw (one, two.1) refl
all_set p (x ∷ xs) (suc i) y all one = let two = both (p x) (list_all p xs) all in rw (two.0, all_set p xs i y two.1 one) refl

pub all_at : {X : Type 0} (p : X → Bool) (xs : List X) (i : ℕ) (d : X) → list_all p xs ≡ true → p d ≡ true → p (unwrap_or (slice_get xs i) d) ≡ true
all_at p [] i d all one = one
all_at p (x ∷ xs) zero d all one = (both (p x) (list_all p xs) all).0
all_at p (x ∷ xs) (suc i) d all one = all_at p xs i d (both (p x) (list_all p xs) all).1 one

pub all_grows : {X : Type 0} (p q : X → Bool) → ((x : X) → p x ≡ true → q x ≡ true) → (xs : List X) → list_all p xs ≡ true → list_all q xs ≡ true
all_grows p q grows [] all = refl
all_grows p q grows (x ∷ xs) all = let two = both (p x) (list_all p xs) all in rw (grows x two.0, all_grows p q grows xs two.1) refl

pub any_more : {X : Type 0} (p : X → Bool) (xs : List X) (y : X) → list_any p xs ≡ false → p y ≡ false → list_any p (xs ++ y ∷ []) ≡ false
any_more p [] y none one = rw one refl
any_more p (x ∷ xs) y none one = let two = neither (p x) (list_any p xs) none in rw (two.0, any_more p xs y two.1 one) refl

pub any_both : {X : Type 0} (p : X → Bool) (xs ys : List X) → list_any p xs ≡ false → list_any p ys ≡ false → list_any p (xs ++ ys) ≡ false
any_both p [] ys a b = b
any_both p (x ∷ xs) ys a b = let two = neither (p x) (list_any p xs) a in rw (two.0, any_both p xs ys two.1 b) refl

pub any_parts : {X : Type 0} (p : X → Bool) (xs ys : List X) → list_any p (xs ++ ys) ≡ false → (list_any p xs ≡ false) × (list_any p ys ≡ false)
any_parts p [] ys none = (refl, none)
any_parts p (x ∷ xs) ys none = let two = neither (p x) (list_any p (xs ++ ys)) none in let parts = any_parts p xs ys two.1 in (rw (two.0, parts.0) refl, parts.1)

pub any_map : {X Y : Type 0} (p : Y → Bool) (f : X → Y) (xs : List X) → list_any p (map f xs) ≡ list_any (λ x. p (f x)) xs
any_map p f [] = refl
any_map p f (x ∷ xs) = ap (λ b. p (f x) || b) (any_map p f xs)

pub map_more : {X Y : Type 0} (f : X → Y) (xs : List X) (x : X) → map f (xs ++ x ∷ []) ≡ map f xs ++ f x ∷ []
map_more f [] x = refl
map_more f (y ∷ ys) x = ap (λ (zs : List _). f y ∷ zs) (map_more f ys x)

pub length_more : {X : Type 0} (xs : List X) (y : X) → length (xs ++ y ∷ []) ≡ suc (length xs)
length_more [] y = refl
length_more (x ∷ xs) y = ap suc (length_more xs y)

-- a word that isn't reserved and has the length of a name
pub declarable : (t : Lexeme) → is_name t ≡ true → is_short t.text ≡ true → is_declarable t.text ≡ true
declarable t name short =
    let two = both (nat_le 1 (length t.text)) (nat_le (length t.text) 32) short in
    let named = both (is_word t && is_word_text t.text) (not (is_reserved t.text)) name in
    rw (two.0, two.1, (both (is_word t) (is_word_text t.text) named.0).1) named.1

-- a name is one of these whichever way it is asked
same_way : (t : List ℕ) (ns : List (List ℕ)) → list_any (bytes_eq t) ns ≡ list_any (λ n. bytes_eq n t) ns
same_way t ns = λ i. list_any (λ n. nat_list_eq_equiv.symm t n i) ns

-- a name more among others
pub distinct_more : (xs : List (List ℕ)) (t : List ℕ) (ys : List (List ℕ)) → are_distinct (xs ++ ys) ≡ true → is_in xs t ≡ false → is_in ys t ≡ false → are_distinct ((xs ++ t ∷ []) ++ ys) ≡ true
distinct_more [] t ys once before after = rw (same_way t ys ∙ after) once
distinct_more (x ∷ xs) t ys once before after =
    let two = both (not (list_any (bytes_eq x) (xs ++ ys))) (are_distinct (xs ++ ys)) once in
    let apart = neither (bytes_eq x t) (is_in xs t) before in
    let others = any_parts (bytes_eq x) xs ys (is_not (list_any (bytes_eq x) (xs ++ ys)) two.0) in
    let fresh = any_both (bytes_eq x) (xs ++ t ∷ []) ys (any_more (bytes_eq x) xs t others.0 apart.0) others.1 in
    rw (fresh, distinct_more xs t ys two.1 apart.1 after) refl

-- the names of a table with another last value, and how many there are
pub names_of_set : {V : Type 0} (xs : List (List ℕ × V)) (i : ℕ) (d : List ℕ × V) (v : V) → map (λ r. r.0) (slice_set xs i ((unwrap_or (slice_get xs i) d).0, v)) ≡ map (λ r. r.0) xs
names_of_set [] i d v = refl
names_of_set (x ∷ xs) zero d v = refl
names_of_set (x ∷ xs) (suc i) d v = ap (λ (ns : List (List ℕ)). x.0 ∷ ns) (names_of_set xs i d v)

-- a place is below the length
place_below : {K : Type 0} (p : K → Bool) (xs : List K) (o : Option ℕ) → o ≡ position p xs → is_some o ≡ true → nat_lt (unwrap_or o 0) (length xs) ≡ true
place_below p xs o is some = go (nat_lt (position_or_len p xs) (length xs)) refl
  where
    go : (b : Bool) → nat_lt (position_or_len p xs) (length xs) ≡ b → nat_lt (unwrap_or o 0) (length xs) ≡ true
    go true at = rw (is, at) at
    go false at =
        let none : o ≡ None = rw at at is in
        let clash : false ≡ true = rw none at some in
        absurd (cc clash)

-- a register that is declared, and a queue, is there
pub register_there : (regs : List (List ℕ × ℕ)) (t : List ℕ) → is_among regs t ≡ true → nat_lt (unwrap_or (place_among regs t) 0) (length regs) ≡ true
register_there regs t is = place_below (λ n. bytes_eq n.0 t) regs (place_among regs t) refl (has_place (λ n. bytes_eq n.0 t) regs ∙ is)

pub queue_there : (queues : List (List ℕ)) (t : List ℕ) → is_in queues t ≡ true → nat_lt (unwrap_or (place_in queues t) 0) (length queues) ≡ true
queue_there queues t is = place_below (λ n. bytes_eq n t) queues (place_in queues t) refl (has_place (λ n. bytes_eq n t) queues ∙ is)
