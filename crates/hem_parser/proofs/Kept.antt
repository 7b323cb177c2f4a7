-- What each token of a grammar makes of a claim about what has been read, a run makes of it.
use Rattle.std.proofs.Common.{◌≡◌, ℕ, zero, suc, Bool, true, false, cond, ◌&&◌, List, [], ◌∷◌, ◌++◌, refl, subst, sym, Some, None}
use Rattle.std.specs.Prelude.{find, map}
use Rattle.std.proofs.lemmas.Option.{option_and_then_some}
use Rattle.hem_text.specs.declared.symbol.Symbol.{Symbol}
use Rattle.hem_text.specs.declared.symbol.Symbol.TheVariants.{One, Item as Some_of, Maybe, Many}
use Rattle.hem_text.specs.Lexemes.{Lexeme}
use Rattle.hem_text.specs.Grammars.{Grammar, State, Way, full, goes, next, run, ways, way_at, way_into, takes, state}

-- each element has it
abbrev pub Each : {X : Type 0} → (X → Type 0) → List X → Type 0
Each P [] = Unit {0}
Each P (x ∷ xs) = P x × Each P xs

each_append : {X : Type 0} (P : X → Type 0) (xs ys : List X) → Each P xs → Each P ys → Each P (xs ++ ys)
each_append P [] ys a b = b
each_append P (x ∷ xs) ys a b = (a.0, each_append P xs ys a.1 b)

each_map : {X Y : Type 0} (Q : X → Type 0) (P : Y → Type 0) (f : X → Y) (xs : List X) → ((x : X) → Q x → P (f x)) → Each Q xs → Each P (map f xs)
each_map Q P f [] h all = tt
each_map Q P f (x ∷ xs) h all = (h x all.0, each_map Q P f xs h all.1)

found : {X : Type 0} (P : X → Type 0) (test : X → Bool) (xs : List X) (x : X) → Each P xs → find test xs ≡ Some x → P x × (test x ≡ true)
found P test [] x all h = absurd cc
found P test (y ∷ ys) x all h = go (found P test ys x all.1) (test y) refl h
  where
    go : (find test ys ≡ Some x → P x × (test x ≡ true)) → (b : Bool) → test y ≡ b → cond b (Some y) (find test ys) ≡ Some x → P x × (test x ≡ true)
    go later true is k = let same : y ≡ x = cc in subst (λ v. P v × (test v ≡ true)) same (all.0, is)
    go later false is k = later k

both : (a b : Bool) → (a && b) ≡ true → (a ≡ true) × (b ≡ true)
both true b h = (refl, h)
both false b h = absurd cc

module _ {E T I C : Type 0} (g : Grammar E T I) (Holds : C → E → Type 0) where
  -- what a token makes of a claim
  abbrev pub Makes : T → C → C → Type 0
  Makes x c d = (e : E) (t : Lexeme) → Holds c e → g.spells e x t ≡ true → g.is_fresh e x t ≡ true → g.is_within e x t ≡ true → Holds d (g.after e x t)

  -- the first claim says no less
  abbrev pub Weaker : C → C → Type 0
  Weaker c d = (e : E) → Holds c e → Holds d e

  -- what a symbol makes of a claim, by what tokens with all that follows them do
  abbrev pub By : (T → C → C → Type 0) → Symbol T I → C → C → Type 0
  By H (One x) c d = H x c d
  By H (Some_of i) c d = Each (λ x. H x c d) (g.firsts i)
  By H (Maybe i) c d = (c ≡ d) × Each (λ x. H x c d) (g.firsts i)
  By H (Many i) c d = (c ≡ d) × Each (λ x. H x c d) (g.firsts i)

  -- what symbols one after the other make of a claim
  abbrev pub Seq : (Symbol T I → C → C → Type 0) → List (Symbol T I) → C → C → Type 0
  Seq R [] c d = Weaker c d
  Seq R (s ∷ rest) c d = (b : C) × (m : C) × Weaker c b × R s b m × Seq R rest m d

  -- what a token with all that follows it makes of a claim, to that depth
  abbrev pub Token : ℕ → T → C → C → Type 0
  Token zero x c d = ⊥
  Token (suc n) x c d = (b : C) × Makes x c b × Seq (By (Token n)) (g.follows x) b d

  module _ (end : C) where
    -- what is to come leads from the claim to the end's
    abbrev pub Leads : C → List (Symbol T I) → Type 0
    Leads c [] = Weaker c end
    Leads c (s ∷ rest) = (n : ℕ) × (b : C) × (m : C) × Weaker c b × By (Token n) s b m × Leads m rest

    -- a claim holds, and what is to come leads from it to the end
    abbrev pub Keeps : State E T I → Type 0
    Keeps s = (c : C) × Holds c s.env × Leads c s.stack

    from_weaker : (c d : C) (stack : List (Symbol T I)) → Weaker c d → Leads d stack → Leads c stack
    from_weaker c d [] w l = λ e h. l e (w e h)
    from_weaker c d (s ∷ rest) w l = (l.0, l.1, l.2, λ e h. l.3 e (w e h), l.4, l.5)

    onwards : (n : ℕ) (xs rest : List (Symbol T I)) (c d : C) → Seq (By (Token n)) xs c d → Leads d rest → Leads c (xs ++ rest)
    onwards n [] rest c d w l = from_weaker c d rest w l
    onwards n (x ∷ xs) rest c d s l = (n, s.0, s.1, s.2, s.3, onwards n xs rest s.1 d s.4 l)

    abbrev Next : E → Lexeme → Way T I → Type 0
    Next e t w = g.spells e w.terminal t ≡ true → g.is_fresh e w.terminal t ≡ true → g.is_within e w.terminal t ≡ true → Keeps (state (g.after e w.terminal t) w.stack)

    next_of : (e : E) (t : Lexeme) (x : T) (n : ℕ) (b m : C) (rest : List (Symbol T I)) → Holds b e → Token n x b m → Leads m rest → Next e t (way_into g rest x)
    next_of e t x zero b m rest h tok l = absurd tok
    next_of e t x (suc n) b m rest h tok l = λ spelled fresh within. (tok.0, tok.1 e t h spelled fresh within, onwards n (g.follows x) rest tok.0 m tok.2 l)

    turned : (b m : C) → b ≡ m → Weaker m b
    turned b m is = λ e h. subst (λ c. Holds c e) (sym is) h

    step_at : (e : E) (t : Lexeme) (stack : List (Symbol T I)) (c : C) → Holds c e → Leads c stack → Each (Next e t) (ways g stack)
    step_at e t [] c h l = tt
    step_at e t (One x ∷ rest) c h l = (next_of e t x l.0 l.1 l.2 rest (l.3 e h) l.4 l.5, tt)
    step_at e t (Some_of i ∷ rest) c h l =
        each_append (Next e t) (map (way_into g rest) (g.firsts i)) []
        (each_map (λ x. Token l.0 x l.1 l.2) (Next e t) (way_into g rest) (g.firsts i) (λ x tok. next_of e t x l.0 l.1 l.2 rest (l.3 e h) tok l.5) l.4) tt
    step_at e t (Maybe i ∷ rest) c h l =
        each_append (Next e t) (map (way_into g rest) (g.firsts i)) (ways g rest)
        (each_map (λ x. Token l.0 x l.1 l.2) (Next e t) (way_into g rest) (g.firsts i) (λ x tok. next_of e t x l.0 l.1 l.2 rest (l.3 e h) tok l.5) l.4.1)
        (step_at e t rest l.2 (subst (λ d. Holds d e) l.4.0 (l.3 e h)) l.5)
    step_at e t (Many i ∷ rest) c h l =
        let again : Leads l.2 (Many i ∷ rest) = (l.0, l.1, l.2, turned l.1 l.2 l.4.0, l.4, l.5) in
        each_append (Next e t) (map (way_into g (Many i ∷ rest)) (g.firsts i)) (ways g rest)
        (each_map (λ x. Token l.0 x l.1 l.2) (Next e t) (way_into g (Many i ∷ rest)) (g.firsts i) (λ x tok. next_of e t x l.0 l.1 l.2 (Many i ∷ rest) (l.3 e h) tok again) l.4.1)
        (step_at e t rest l.2 (subst (λ d. Holds d e) l.4.0 (l.3 e h)) l.5)

    goes_keeps : (s : State E T I) (t : Lexeme) (w : Way T I) (u : State E T I) → Next s.env t w → g.spells s.env w.terminal t ≡ true → goes full g s.env t w ≡ Some u → Keeps u
    goes_keeps s t w u has spelled h = go (g.is_fresh s.env w.terminal t && g.is_within s.env w.terminal t) refl h
      where
        go : (b : Bool) → (g.is_fresh s.env w.terminal t && g.is_within s.env w.terminal t) ≡ b → cond b (Some (state (g.after s.env w.terminal t) w.stack)) None ≡ Some u → Keeps u
        go true is k = let two = both (g.is_fresh s.env w.terminal t) (g.is_within s.env w.terminal t) is in let same : state (g.after s.env w.terminal t) w.stack ≡ u = cc in subst Keeps same (has spelled two.0 two.1)
        go false is k = absurd cc

    next_keeps : (s : State E T I) (t : Lexeme) (u : State E T I) → Keeps s → next full g s t ≡ Some u → Keeps u
    next_keeps s t u k h =
        option_and_then_some (goes full g s.env t) (way_at g s t) u h (λ w is go. let one = found (Next s.env t) (takes g s.env t) (ways g s.stack) w (step_at s.env t s.stack k.0 k.1 k.2) is in goes_keeps s t w u one.0 one.1 go)

    pub run_keeps : (s : State E T I) (ts : List Lexeme) (u : State E T I) → Keeps s → run full g s ts ≡ Some u → Keeps u
    run_keeps s [] u k h = let same : s ≡ u = cc in subst Keeps same k
    run_keeps s (t ∷ ts) u k h =
        option_and_then_some (λ v. run full g v ts) (next full g s t) u h (λ v is rest. run_keeps v ts u (next_keeps s t v k is) rest)

    pub ends_so : (e : E) → Keeps (state e []) → Holds end e
    ends_so e k = k.2 e k.1
