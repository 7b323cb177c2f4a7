-- Lists with numbers, as loops write them.
use Rattle.std.proofs.Common.{◌≡◌, refl, ap, ◌∙◌, ℕ, zero, suc, ◌+◌, arith, List, [], ◌∷◌, ◌++◌, drop, append_assoc}
use Rattle.std.specs.Prelude.{slice_get, flat_map, Option, None, Some}
use Rattle.std.specs.List.{enumerate_from}
use Rattle.std.specs.Option.{option_map, option_map_or}
use Rattle.hem_syntax.specs.Protocol.{Text}
use Rattle.hem_module.specs.States.{State}
use Rattle.hem_modprint.specs.PlayText.{number_in, held_text, register_part}

-- the text of the element at a place, if any, and those of the elements after it
each_more : {A : Type 0} (f : ℕ × A → Text) (k : ℕ) (xs : List A) (i : ℕ) → option_map_or (λ x. f (k, x)) (slice_get xs i) [] ++ flat_map f (enumerate_from (k + 1) (drop (i + 1) xs)) ≡ flat_map f (enumerate_from k (drop i xs))
each_more f k [] zero = refl
each_more f k [] (suc i) = let n : suc i + 1 ≡ suc (i + 1) = omega arith in rw n refl
each_more f k (x ∷ xs) zero = refl
each_more f k (x ∷ xs) (suc i) = let n : suc i + 1 ≡ suc (i + 1) = omega arith in rw n (each_more f k xs i)

-- a text that goes on with the element at a place, if any
pub numbered_at : {A : Type 0} (f : ℕ × A → Text) (all text more : Text) (xs : List A) (i : ℕ) → more ≡ text ++ option_map_or (λ x. f (i, x)) (slice_get xs i) [] → text ++ flat_map f (enumerate_from i (drop i xs)) ≡ all → more ++ flat_map f (enumerate_from (i + 1) (drop (i + 1) xs)) ≡ all
numbered_at f all text more xs i e so_far = rw (e, append_assoc) (ap (λ (t : Text). text ++ t) (each_more f i xs i) ∙ so_far)

-- the line of a register that is there, by its name and what it holds
register_there : (s : State) (k : ℕ) (r : Option (List ℕ × ℕ)) (name : List ℕ) → Some name ≡ option_map (λ x. x.0) r → held_text (name, number_in s k) ≡ option_map_or (λ x. register_part s (k, x)) r []
register_there s k None name is = absurd cc
register_there s k (Some x) name is = let same : name ≡ x.0 = cc in ap (λ (n : List ℕ). held_text (n, number_in s k)) same

pub register_is : (s : State) (k : ℕ) (regs all : List (List ℕ × ℕ)) (name : List ℕ) (number : ℕ) → regs ≡ all → number ≡ number_in s k → Some name ≡ option_map (λ x. x.0) (slice_get regs k) → held_text (name, number) ≡ option_map_or (λ x. register_part s (k, x)) (slice_get all k) []
register_is s k regs all name number same holds is =
    ap (λ (n : ℕ). held_text (name, n)) holds
    ∙ register_there s k (slice_get all k) name (is ∙ ap (λ (l : List (List ℕ × ℕ)). option_map (λ x. x.0) (slice_get l k)) same)
