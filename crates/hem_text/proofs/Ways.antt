-- Where the way of a token is found.
use Rattle.std.proofs.Common.{◌≡◌, ℕ, zero, suc, ◌||◌, ◌&&◌, ◌+◌, Bool, true, false, cond, List, [], ◌∷◌, drop, refl, sym, ap, ◌∙◌, arith, Option, Some, None}
use Rattle.std.specs.Prelude.{find, map, slice_get}
use Rattle.std.specs.List.{list_any, list_all}
use Rattle.std.specs.Option.{option_map, option_or}
use Rattle.std.proofs.lemmas.List.Folds.{find-append, list_any-append, list_all-append}
use Rattle.hem_text.specs.declared.symbol.Symbol.{Symbol}
use Rattle.hem_text.specs.Lexemes.{Lexeme}
use Rattle.hem_text.specs.Grammars.{Grammar, state, way_into, ways, takes, way_at, heads, past, can_pass, comes_again, standing}

pub find-ways_into : {E T I : Type 0} (g : Grammar E T I) (rest : List (Symbol T I)) (e : E) (t : Lexeme) (xs : List T) →
    find (takes g e t) (map (way_into g rest) xs) ≡ option_map (way_into g rest) (find (λ x. g.spells e x t) xs)
find-ways_into g rest e t [] = refl
find-ways_into g rest e t (x ∷ xs) = go (g.spells e x t) (find-ways_into g rest e t xs)
  where
    go : (b : Bool) → find (takes g e t) (map (way_into g rest) xs) ≡ option_map (way_into g rest) (find (λ y. g.spells e y t) xs) →
        cond b (Some (way_into g rest x)) (find (takes g e t) (map (way_into g rest) xs)) ≡ option_map (way_into g rest) (cond b (Some x) (find (λ y. g.spells e y t) xs))
    go true h = refl
    go false h = h

pub cut_at : {A : Type 0} (xs : List A) (i : ℕ) (x : A) → slice_get xs i ≡ Some x → drop i xs ≡ x ∷ drop (i + 1) xs
cut_at [] zero x e = absurd cc
cut_at [] (suc i) x e = absurd cc
cut_at (y ∷ ys) zero x e = let h : y ≡ x = cc in rw h refl
cut_at (y ∷ ys) (suc i) x e = let k : suc i + 1 ≡ suc (i + 1) = omega arith in rw k (cut_at ys i x e)

-- one symbol: its own tokens first, and behind it those of the rest
pub way_step : {E T I : Type 0} (g : Grammar E T I) (e : E) (t : Lexeme) (stack : List (Symbol T I)) (d : ℕ) (s : Symbol T I) → slice_get stack d ≡ Some s →
    way_at g (state e (drop d stack)) t ≡ option_or (option_map (way_into g (past s (drop (d + 1) stack))) (find (λ x. g.spells e x t) (heads g s))) (cond (can_pass s) (way_at g (state e (drop (d + 1) stack)) t) None)
way_step g e t stack d s is =
    let rest = drop (d + 1) stack in
    ap (λ l. way_at g (state e l) t) (cut_at stack d s is)
    ∙ find-append (takes g e t) (map (way_into g (past s rest)) (heads g s)) (cond (can_pass s) (ways g rest) [])
    ∙ (λ i. option_or (find-ways_into g (past s rest) e t (heads g s) i) (find-cond (takes g e t) (can_pass s) (ways g rest) i))
  where
    find-cond : {W : Type 0} (p : W → Bool) (b : Bool) (ws : List W) → find p (cond b ws []) ≡ cond b (find p ws) None
    find-cond p true ws = refl
    find-cond p false ws = refl

pub any_step : {E T I : Type 0} (g : Grammar E T I) (p : T → Bool) (stack : List (Symbol T I)) (d : ℕ) (s : Symbol T I) → slice_get stack d ≡ Some s →
    list_any p (standing g (drop d stack)) ≡ (list_any p (heads g s) || cond (can_pass s) (list_any p (standing g (drop (d + 1) stack))) false)
any_step g p stack d s is =
    ap (λ l. list_any p (standing g l)) (cut_at stack d s is) ∙ list_any-append p (heads g s) (cond (can_pass s) (standing g (drop (d + 1) stack)) []) ∙ ap (λ b. list_any p (heads g s) || b) (any-cond (can_pass s))
  where
    any-cond : (b : Bool) → list_any p (cond b (standing g (drop (d + 1) stack)) []) ≡ cond b (list_any p (standing g (drop (d + 1) stack))) false
    any-cond true = refl
    any-cond false = refl

pub all_step : {E T I : Type 0} (g : Grammar E T I) (p : T → Bool) (stack : List (Symbol T I)) (d : ℕ) (s : Symbol T I) → slice_get stack d ≡ Some s →
    list_all p (standing g (drop d stack)) ≡ (list_all p (heads g s) && cond (can_pass s) (list_all p (standing g (drop (d + 1) stack))) true)
all_step g p stack d s is =
    ap (λ l. list_all p (standing g l)) (cut_at stack d s is) ∙ list_all-append p (heads g s) (cond (can_pass s) (standing g (drop (d + 1) stack)) []) ∙ ap (λ b. list_all p (heads g s) && b) (all-cond (can_pass s))
  where
    all-cond : (b : Bool) → list_all p (cond b (standing g (drop (d + 1) stack)) []) ≡ cond b (list_all p (standing g (drop (d + 1) stack))) true
    all-cond true = refl
    all-cond false = refl

find_passes_at : {X : Type 0} (p : X → Bool) (xs : List X) (y x : X) (b : Bool) → p y ≡ b → (find p xs ≡ Some x → p x ≡ true) → cond b (Some y) (find p xs) ≡ Some x → p x ≡ true
find_passes_at p xs y x true is h e = let same : y ≡ x = cc in rw (← same) is
find_passes_at p xs y x false is h e = h e

pub find_passes : {X : Type 0} (p : X → Bool) (xs : List X) (x : X) → find p xs ≡ Some x → p x ≡ true
find_passes p [] x e = absurd cc
find_passes p (y ∷ ys) x e = find_passes_at p ys y x (p y) refl (find_passes p ys x) e

module _ {E T I : Type 0} (g : Grammar E T I) (e : E) (t : Lexeme) (stack : List (Symbol T I)) (d : ℕ) (s : Symbol T I) where
  abbrev told : Type 0
  told = way_at g (state e (drop d stack)) t ≡ way_at g (state e stack) t

  abbrev head : Option T
  head = find (λ x. g.spells e x t) (heads g s)

  past_is : (k : ℕ) → slice_get stack d ≡ Some s → k ≡ cond (comes_again s) d (d + 1) → past s (drop (d + 1) stack) ≡ drop k stack
  past_is k is at = go (comes_again s) at
    where
      go : (b : Bool) → k ≡ cond b d (d + 1) → cond b (s ∷ drop (d + 1) stack) (drop (d + 1) stack) ≡ drop k stack
      go true at = rw at (sym (cut_at stack d s is))
      go false at = rw at refl

  pub found_way : (x : T) (k : ℕ) → slice_get stack d ≡ Some s → Some x ≡ head → told → k ≡ cond (comes_again s) d (d + 1) → Some (way_into g (drop k stack) x) ≡ way_at g (state e stack) t
  found_way x k is found so_far at =
      let one = way_step g e t stack d s is in
      let two : way_at g (state e (drop d stack)) t ≡ Some (way_into g (past s (drop (d + 1) stack)) x) = rw (← found) at one in
      rw (past_is k is at) at (sym two) ∙ so_far

  pub no_way : slice_get stack d ≡ Some s → None ≡ head → can_pass s ≡ false → told → None ≡ way_at g (state e stack) t
  no_way is found stops so_far = sym (rw (← found, stops) at (way_step g e t stack d s is)) ∙ so_far

  pub pass_way : slice_get stack d ≡ Some s → None ≡ head → can_pass s ≡ true → told → way_at g (state e (drop (d + 1) stack)) t ≡ way_at g (state e stack) t
  pass_way is found goes so_far = sym (rw (← found, goes) at (way_step g e t stack d s is)) ∙ so_far

module _ {E T I : Type 0} (g : Grammar E T I) (p : T → Bool) (stack : List (Symbol T I)) (d : ℕ) (s : Symbol T I) (is : slice_get stack d ≡ Some s) where
  pub any_found : true ≡ list_any p (heads g s) → list_any p (standing g (drop d stack)) ≡ list_any p (standing g stack) → true ≡ list_any p (standing g stack)
  any_found h so_far = sym (rw (← h) at (any_step g p stack d s is)) ∙ so_far

  pub any_none : false ≡ list_any p (heads g s) → can_pass s ≡ false → list_any p (standing g (drop d stack)) ≡ list_any p (standing g stack) → false ≡ list_any p (standing g stack)
  any_none h stops so_far = sym (rw (← h, stops) at (any_step g p stack d s is)) ∙ so_far

  pub any_pass : false ≡ list_any p (heads g s) → can_pass s ≡ true → list_any p (standing g (drop d stack)) ≡ list_any p (standing g stack) → list_any p (standing g (drop (d + 1) stack)) ≡ list_any p (standing g stack)
  any_pass h goes so_far = sym (rw (← h, goes) at (any_step g p stack d s is)) ∙ so_far

  pub all_found : false ≡ list_all p (heads g s) → list_all p (standing g (drop d stack)) ≡ list_all p (standing g stack) → false ≡ list_all p (standing g stack)
  all_found h so_far = sym (rw (← h) at (all_step g p stack d s is)) ∙ so_far

  pub all_none : true ≡ list_all p (heads g s) → can_pass s ≡ false → list_all p (standing g (drop d stack)) ≡ list_all p (standing g stack) → true ≡ list_all p (standing g stack)
  all_none h stops so_far = sym (rw (← h, stops) at (all_step g p stack d s is)) ∙ so_far

  pub all_pass : true ≡ list_all p (heads g s) → can_pass s ≡ true → list_all p (standing g (drop d stack)) ≡ list_all p (standing g stack) → list_all p (standing g (drop (d + 1) stack)) ≡ list_all p (standing g stack)
  all_pass h goes so_far = sym (rw (← h, goes) at (all_step g p stack d s is)) ∙ so_far
