-- Loops over the children's places.
use Rattle.std.proofs.Common.{◌≡◌, ap, sym, ◌∙◌, ℕ, ◌+◌, ◌<◌, ◌≤◌, arith, Bool, true, false, cond, List, [], ◌∷◌, length, drop, get_or, Option, Some, None}
use Rattle.std.specs.Prelude.{max, option_and_then}
use Rattle.std.proofs.lemmas.List.{drop_more, drop_all}
use Rattle.hem_system.specs.State.{map_each}
use Rattle.hem_ends.specs.declared.kids.KidLook.{KidLook}
use Rattle.hem_choice.specs.Choices.{greatest}

each-first : {A B : Type 0} (f : ℕ → A → B) (xs : List A) (i : ℕ) (d : A) → i < length xs → map_each f i (drop i xs) ≡ f i (get_or xs i d) ∷ map_each f (i + 1) (drop (i + 1) xs)
each-first f xs i d within = ap (map_each f i) (drop_more xs i d within)

each-none : {A B : Type 0} (f : ℕ → A → B) (xs : List A) (i : ℕ) → length xs ≤ i → map_each f i (drop i xs) ≡ []
each-none f xs i past = ap (map_each f i) (drop_all i xs past)

-- the greatest so far, and of what is left
abbrev pub greatest_left : (ℕ → KidLook → ℕ) → ℕ → ℕ → List KidLook → ℕ
greatest_left f so place kids = max so (greatest (map_each f place (drop place kids)))

pub greater-one : (f : ℕ → KidLook → ℕ) (so place : ℕ) (kids : List KidLook) (kid : KidLook) → place < length kids → greatest_left f so place kids ≡ greatest_left f (max so (f place (get_or kids place kid))) (place + 1) kids
greater-one f so place kids kid within = ap (λ ns. max so (greatest ns)) (each-first f kids place kid within) ∙ together so (f place (get_or kids place kid)) (greatest (map_each f (place + 1) (drop (place + 1) kids)))
  where
    together : (a b c : ℕ) → max a (max b c) ≡ max (max a b) c
    together a b c = omega arith

pub greatest-found : (f : ℕ → KidLook → ℕ) (so place : ℕ) (kids : List KidLook) → length kids ≤ place → greatest_left f so place kids ≡ so
greatest-found f so place kids past = ap (λ ns. max so (greatest ns)) (each-none f kids place past) ∙ zero-least so
  where
    zero-least : (a : ℕ) → max a 0 ≡ a
    zero-least a = omega arith

-- the firing by a plan
pub with-plan : {A B : Type 0} (spent : Bool) (o : Option A) (x : A) (g : A → Option B) → spent ≡ false → o ≡ Some x → g x ≡ cond spent None (option_and_then g o)
with-plan true o x g is some = cc
with-plan false o x g is some = sym (ap (option_and_then g) some)

pub without-plan : {A B : Type 0} (spent : Bool) (o : Option A) (g : A → Option B) → spent ≡ false → o ≡ None → None ≡ cond spent None (option_and_then g o)
without-plan true o g is none = cc
without-plan false o g is none = sym (ap (option_and_then g) none)
