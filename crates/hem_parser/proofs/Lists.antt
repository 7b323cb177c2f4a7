-- Lists with another last element, or one element more, and places of names.
use Rattle.std.proofs.Common.{◌≡◌, ℕ, suc, ◌-◌, ◌<◌, ◌≤◌, nat_lt, nat_le, Bool, true, false, cond, not, ◌&&◌, ◌||◌, List, [], ◌∷◌, ◌++◌, length, map, slice_get, slice_set, refl, sym, ap, subst, ◌∙◌, Some, None, arith}
use Rattle.std.specs.Prelude.{position, unwrap_or}
use Rattle.std.specs.List.{list_any, list_all, position_or_len}
use Rattle.hem_syntax.specs.Names.{last_or, set_last}

-- two tests
pub both : (a b : Bool) → (a && b) ≡ true → (a ≡ true) × (b ≡ true)
both true b h = (refl, h)
both false b h = absurd cc

pub neither : (a b : Bool) → (a || b) ≡ false → (a ≡ false) × (b ≡ false)
neither true b h = absurd cc
neither false b h = (refl, h)

pub is_not : (a : Bool) → not a ≡ true → a ≡ false
is_not true h = absurd cc
is_not false h = refl

-- a list is empty, or has a last element
pub by_last : {X : Type 0} (P : List X → Type 0) (xs : List X) → P [] → ((ys : List X) (y : X) → P (ys ++ y ∷ [])) → P xs
by_last P [] none more = none
by_last P (x ∷ xs) none more = by_last (λ ys. P (x ∷ ys)) xs (more [] x) (λ ys y. more (x ∷ ys) y)

pub length_more : {X : Type 0} (xs : List X) (y : X) → length (xs ++ y ∷ []) ≡ suc (length xs)
length_more [] y = refl
length_more (x ∷ xs) y = ap suc (length_more xs y)

last_place : {X : Type 0} (xs : List X) (y : X) → length (xs ++ y ∷ []) - 1 ≡ length xs
last_place [] y = refl
last_place (x ∷ xs) y = let e = last_place xs y in omega (arith, length_more xs y)

get_at : {X : Type 0} (xs : List X) (y : X) → slice_get (xs ++ y ∷ []) (length xs) ≡ Some y
get_at [] y = refl
get_at (x ∷ xs) y = get_at xs y

set_at : {X : Type 0} (xs : List X) (y z : X) → slice_set (xs ++ y ∷ []) (length xs) z ≡ xs ++ z ∷ []
set_at [] y z = refl
set_at (x ∷ xs) y z = ap (λ ys. x ∷ ys) (set_at xs y z)

pub last_of : {X : Type 0} (d : X) (xs : List X) (y : X) → last_or d (xs ++ y ∷ []) ≡ y
last_of d xs y = ap (λ k. unwrap_or (slice_get (xs ++ y ∷ []) k) d) (last_place xs y) ∙ ap (λ o. unwrap_or o d) (get_at xs y)

pub set_of : {X : Type 0} (xs : List X) (y z : X) → set_last (xs ++ y ∷ []) z ≡ xs ++ z ∷ []
set_of xs y z = ap (λ k. slice_set (xs ++ y ∷ []) k z) (last_place xs y) ∙ set_at xs y z

-- what the last element becomes
pub by_set : {X : Type 0} (P : List X → Type 0) (d : X) (f : X → X) (xs : List X) → (xs ≡ [] → P []) → ((ys : List X) (y : X) → xs ≡ ys ++ y ∷ [] → P (ys ++ f y ∷ [])) → P (set_last xs (f (last_or d xs)))
by_set {X} P d f xs none more =
    by_last (λ zs. (zs ≡ [] → P []) → ((ys : List X) (y : X) → zs ≡ ys ++ y ∷ [] → P (ys ++ f y ∷ [])) → P (set_last zs (f (last_or d zs)))) xs (λ n h. n refl)
    (λ ys y n h. subst P (sym (ap (λ l. set_last (ys ++ y ∷ []) (f l)) (last_of d ys y) ∙ set_of ys y (f y))) (h ys y refl)) none more

pub set_said : {X : Type 0} (d : X) (f : X → X) (xs before : List X) (last : X) → xs ≡ before ++ last ∷ [] → set_last xs (f (last_or d xs)) ≡ before ++ f last ∷ []
set_said d f xs before last is = ap (λ zs. set_last zs (f (last_or d zs))) is ∙ ap (λ l. set_last (before ++ last ∷ []) (f l)) (last_of d before last) ∙ set_of before last (f last)

-- tests of one element more
pub all_more : {X : Type 0} (p : X → Bool) (xs : List X) (y : X) → list_all p xs ≡ true → p y ≡ true → list_all p (xs ++ y ∷ []) ≡ true
all_more p [] y all one = rw one refl
all_more p (x ∷ xs) y all one = let two = both (p x) (list_all p xs) all in rw (two.0, all_more p xs y two.1 one) refl

pub all_less : {X : Type 0} (p : X → Bool) (xs : List X) (y : X) → list_all p (xs ++ y ∷ []) ≡ true → (list_all p xs ≡ true) × (p y ≡ true)
all_less p [] y all = (refl, (both (p y) true all).0)
all_less p (x ∷ xs) y all = let two = both (p x) (list_all p (xs ++ y ∷ [])) all in let less = all_less p xs y two.1 in (rw (two.0, less.0) refl, less.1)

pub any_more : {X : Type 0} (p : X → Bool) (xs : List X) (y : X) → list_any p xs ≡ false → p y ≡ false → list_any p (xs ++ y ∷ []) ≡ false
any_more p [] y none one = rw one refl
any_more p (x ∷ xs) y none one = let two = neither (p x) (list_any p xs) none in rw (two.0, any_more p xs y two.1 one) refl

pub any_both : {X : Type 0} (p : X → Bool) (xs ys : List X) → list_any p xs ≡ false → list_any p ys ≡ false → list_any p (xs ++ ys) ≡ false
any_both p [] ys a b = b
any_both p (x ∷ xs) ys a b = let two = neither (p x) (list_any p xs) a in rw (two.0, any_both p xs ys two.1 b) refl

pub any_map : {X Y : Type 0} (p : Y → Bool) (f : X → Y) (xs : List X) → list_any p (map f xs) ≡ list_any (λ x. p (f x)) xs
any_map p f [] = refl
any_map p f (x ∷ xs) = ap (λ b. p (f x) || b) (any_map p f xs)

pub map_more : {X Y : Type 0} (f : X → Y) (xs : List X) (x : X) → map f (xs ++ x ∷ []) ≡ map f xs ++ f x ∷ []
map_more f [] x = refl
map_more f (y ∷ ys) x = ap (λ zs. f y ∷ zs) (map_more f ys x)

-- a place that is found stands in the list
pub place_within : {X : Type 0} (p : X → Bool) (xs : List X) → 0 < length xs → nat_lt (unwrap_or (position p xs) 0) (length xs) ≡ true
place_within p xs some = go (nat_lt (position_or_len p xs) (length xs)) refl
  where
    first : nat_lt 0 (length xs) ≡ true
    first = grind (arith, some)

    go : (b : Bool) → nat_lt (position_or_len p xs) (length xs) ≡ b → nat_lt (unwrap_or (cond b (Some (position_or_len p xs)) None) 0) (length xs) ≡ true
    go true is = is
    go false is = first

pub some_of : {X : Type 0} (p : X → Bool) (xs : List X) → list_any p xs ≡ true → 0 < length xs
some_of p [] h = absurd cc
some_of p (x ∷ xs) h = omega arith

-- comparisons
pub under : (a b : ℕ) → nat_lt a b ≡ true → a < b
under a b h = grind (arith, h)

pub is_under : (a b : ℕ) → a < b → nat_lt a b ≡ true
is_under a b h = grind (arith, h)

pub is_at_most : (a b : ℕ) → a ≤ b → nat_le a b ≡ true
is_at_most a b h = grind (arith, h)
