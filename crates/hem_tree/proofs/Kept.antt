-- What each way of a grammar keeps, its runs keep.
use Rattle.std.proofs.Common.{◌≡◌, Bool, true, false, cond, List, [], ◌∷◌, subst, Some, None}
use Rattle.std.specs.Prelude.{find}
use Rattle.std.proofs.lemmas.Option.{option_and_then_some}
use Rattle.hem_text.specs.Lexemes.{Lexeme}
use Rattle.hem_text.specs.Grammars.{Grammar, State, Way, Rules, allows, goes, next, run, ways, way_at, takes, state}

-- each element has it
abbrev pub Each : {X : Type 0} → (X → Type 0) → List X → Type 0
Each P [] = Unit {0}
Each P (x ∷ xs) = P x × Each P xs

found : {X : Type 0} (P : X → Type 0) (test : X → Bool) (xs : List X) (x : X) → Each P xs → find test xs ≡ Some x → P x
found P test [] x all h = absurd cc
found P test (y ∷ ys) x all h = go (found P test ys x all.1) (test y) h
  where
    go : (find test ys ≡ Some x → P x) → (b : Bool) → cond b (Some y) (find test ys) ≡ Some x → P x
    go later true k = let same : y ≡ x = cc in subst P same all.0
    go later false k = later k

module _ {E T I : Type 0} (r : Rules) (g : Grammar E T I) (P : State E T I → Type 0)
    (step : (s : State E T I) (t : Lexeme) → P s → Each (λ (w : Way T I). P (state (g.after s.env w.terminal t) w.stack)) (ways g s.stack)) where
  goes_keeps : (s : State E T I) (t : Lexeme) (w : Way T I) (u : State E T I) → P (state (g.after s.env w.terminal t) w.stack) → goes r g s.env t w ≡ Some u → P u
  goes_keeps s t w u has h = go (allows r g s.env w.terminal t) h
    where
      go : (b : Bool) → cond b (Some (state (g.after s.env w.terminal t) w.stack)) None ≡ Some u → P u
      go true k = let same : state (g.after s.env w.terminal t) w.stack ≡ u = cc in subst P same has
      go false k = absurd cc

  next_keeps : (s : State E T I) (t : Lexeme) (u : State E T I) → P s → next r g s t ≡ Some u → P u
  next_keeps s t u has h =
      option_and_then_some (goes r g s.env t) (way_at g s t) u h (λ w is k. goes_keeps s t w u (found _ (takes g s.env t) (ways g s.stack) w (step s t has) is) k)

  pub run_keeps : (s : State E T I) (ts : List Lexeme) (u : State E T I) → P s → run r g s ts ≡ Some u → P u
  run_keeps s [] u has h = let same : s ≡ u = cc in subst P same has
  run_keeps s (t ∷ ts) u has h =
      option_and_then_some (λ v. run r g v ts) (next r g s t) u h (λ v is k. run_keeps v ts u (next_keeps s t v has is) k)
