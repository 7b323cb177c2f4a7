-- Runs, and what the first refused token says.
use Rattle.std.proofs.Common.{◌≡◌, ◌≢◌, ℕ, zero, suc, ◌+◌, ◌<◌, ◌≤◌, Bool, true, false, cond, ◌&&◌, List, [], ◌∷◌, ◌++◌, length, take, drop, refl, sym, ap, ◌∙◌, arith, Option, Some, None}
use Rattle.std.proofs.Common.{⊎_elim}
use Rattle.std.proofs.str.Laws.{order}
use Rattle.std.proofs.lemmas.List.{take-take, take-append-drop, length-take, length-drop}
use Rattle.std.specs.Prelude.{option_and_then, slice_get, is_some}
use Rattle.hem_text.specs.declared.text.Cause.{Cause}
use Rattle.hem_text.specs.declared.text.Cause.TheVariants.{TooMany, Repeated, Expected}
use Rattle.hem_text.specs.Lexemes.{Lexeme}
use Rattle.hem_text.specs.Grammars.{Grammar, State, Way, Rules, full, unlimited, repeating, goes, next, run, way_at, lost_cause, cause_of, state, Reads, IsFault}
use Rattle.hem_text.specs.Refused.{local_cause, local_cause_at}

-- what may come by all rules may come by fewer
goes_wider : {E T I : Type 0} (r : Rules) (g : Grammar E T I) (e : E) (t : Lexeme) (w : Way T I) (u : State E T I) → goes full g e t w ≡ Some u → goes r g e t w ≡ Some u
goes_wider full g e t w u h = h
goes_wider unlimited g e t w u h = go (g.is_fresh e w.terminal t) h
  where
    go : (b : Bool) → cond (b && g.is_within e w.terminal t) (Some (state (g.after e w.terminal t) w.stack)) None ≡ Some u → cond b (Some (state (g.after e w.terminal t) w.stack)) None ≡ Some u
    go true k = in_limits (g.is_within e w.terminal t) k
      where
        in_limits : (b : Bool) → cond b (Some (state (g.after e w.terminal t) w.stack)) None ≡ Some u → Some (state (g.after e w.terminal t) w.stack) ≡ Some u
        in_limits true k = k
        in_limits false k = absurd cc
    go false k = absurd cc
goes_wider repeating g e t w u h = go (g.is_fresh e w.terminal t && g.is_within e w.terminal t) h
  where
    go : (b : Bool) → cond b (Some (state (g.after e w.terminal t) w.stack)) None ≡ Some u → Some (state (g.after e w.terminal t) w.stack) ≡ Some u
    go true k = k
    go false k = absurd cc

next_wider : {E T I : Type 0} (r : Rules) (g : Grammar E T I) (s : State E T I) (t : Lexeme) (u : State E T I) → next full g s t ≡ Some u → next r g s t ≡ Some u
next_wider r g s t u h = go (way_at g s t) h
  where
    go : (w : Option (Way _ _)) → option_and_then (goes full g s.env t) w ≡ Some u → option_and_then (goes r g s.env t) w ≡ Some u
    go None k = absurd cc
    go (Some w) k = goes_wider r g s.env t w u k

and_then_ok : {A B : Type 0} (f : A → Option B) (o : Option A) (y : B) → option_and_then f o ≡ Some y → (x : A) × (o ≡ Some x) × (f x ≡ Some y)
and_then_ok f None y h = absurd cc
and_then_ok f (Some x) y h = (x, refl, h)

pub run_wider : {E T I : Type 0} (r : Rules) (g : Grammar E T I) (s : State E T I) (ts : List Lexeme) (u : State E T I) → run full g s ts ≡ Some u → run r g s ts ≡ Some u
run_wider r g s [] u h = h
run_wider r g s (t ∷ ts) u h =
    let step = and_then_ok (λ v. run full g v ts) (next full g s t) u h in
    rw (next_wider r g s t step.0 step.1) (run_wider r g step.0 ts u step.2)

and_then_some : {A : Type 0} (o : Option A) → option_and_then (λ v. Some v) o ≡ o
and_then_some None = refl
and_then_some (Some x) = refl

-- one more token
pub run-snoc : {E T I : Type 0} (r : Rules) (g : Grammar E T I) (s : State E T I) (ts : List Lexeme) (t : Lexeme) (u : State E T I) → run r g s ts ≡ Some u → run r g s (ts ++ t ∷ []) ≡ next r g u t
run-snoc r g s [] t u h = let same : s ≡ u = cc in and_then_some (next r g s t) ∙ ap (λ v. next r g v t) same
run-snoc r g s (x ∷ ts) t u h =
    let step = and_then_ok (λ v. run r g v ts) (next r g s x) u h in
    rw step.1 (run-snoc r g step.0 ts t u step.2)

take_one_more : {A : Type 0} (xs : List A) (k : ℕ) (x : A) → slice_get xs k ≡ Some x → take (k + 1) xs ≡ take k xs ++ x ∷ []
take_one_more [] zero x e = absurd cc
take_one_more [] (suc k) x e = absurd cc
take_one_more (y ∷ ys) zero x e = let h : y ≡ x = cc in rw h refl
take_one_more (y ∷ ys) (suc k) x e = let n : suc k + 1 ≡ suc (k + 1) = omega arith in rw n (ap (λ l. y ∷ l) (take_one_more ys k x e))

pub one_more : {E T I : Type 0} (r : Rules) (g : Grammar E T I) (s : State E T I) (ts : List Lexeme) (k : ℕ) (t : Lexeme) (u : State E T I) → run full g s (take k ts) ≡ Some u → slice_get ts k ≡ Some t → run r g s (take (k + 1) ts) ≡ next r g u t
one_more r g s ts k t u h e = rw (take_one_more ts k t e) (run-snoc r g s (take k ts) t u (run_wider r g s (take k ts) u h))

-- the cause from the state is the one by the wider languages
tested : {E T I : Type 0} (g : Grammar E T I) (e : E) (t : Lexeme) (w : Way T I) (c : Cause) (fresh within : Bool) → cond (fresh && within) (Some (state (g.after e w.terminal t) w.stack)) None ≡ None →
    cond fresh TooMany Repeated ≡ cond (is_some (cond fresh (Some (state (g.after e w.terminal t) w.stack)) None)) TooMany (cond (is_some (Some (state (g.after e w.terminal t) w.stack))) Repeated c)
tested g e t w c true within h = refl
tested g e t w c false within h = refl

local_choice_at : {E T I : Type 0} (g : Grammar E T I) (u : State E T I) (t : Lexeme) (o : Option (Way T I)) → option_and_then (goes full g u.env t) o ≡ None →
    local_cause_at g u t o ≡ cond (is_some (option_and_then (goes unlimited g u.env t) o)) TooMany (cond (is_some (option_and_then (goes repeating g u.env t) o)) Repeated (lost_cause g u.stack t))
local_choice_at g u t None h = refl
local_choice_at g u t (Some w) h = tested g u.env t w (lost_cause g u.stack t) (g.is_fresh u.env w.terminal t) (g.is_within u.env w.terminal t) h

local_choice : {E T I : Type 0} (g : Grammar E T I) (u : State E T I) (t : Lexeme) → next full g u t ≡ None →
    local_cause g u t ≡ cond (is_some (next unlimited g u t)) TooMany (cond (is_some (next repeating g u t)) Repeated (lost_cause g u.stack t))
local_choice g u t h = local_choice_at g u t (way_at g u t) h

pub fault_why : {E T I : Type 0} (g : Grammar E T I) (s : State E T I) (ts : List Lexeme) (k : ℕ) (t : Lexeme) (u : State E T I) → run full g s (take k ts) ≡ Some u → slice_get ts k ≡ Some t → next full g u t ≡ None →
    local_cause g u t ≡ cause_of g s ts k u
fault_why g s ts k t u h e refused = rw (e, one_more unlimited g s ts k t u h e, one_more repeating g s ts k t u h e) (local_choice g u t refused)

-- a token that the step refused is the first fault
pub fault_at : {E T I : Type 0} (g : Grammar E T I) (s : State E T I) (ts : List Lexeme) (k : ℕ) (t : Lexeme) (u : State E T I) (cause : Cause) → run full g s (take k ts) ≡ Some u → slice_get ts k ≡ Some t → k ≤ length ts → u.stack ≢ [] →
    next full g u t ≡ None → cause ≡ local_cause g u t → IsFault g s ts k cause
fault_at g s ts k t u cause h e le more refused is = record {
  at = u;
  before = h;
  unended = more;
  within = le;
  here = λ lt. rw (one_more full g s ts k t u h e, refused) refl;
  why = is ∙ fault_why g s ts k t u h e refused;
}

pub past_end : {A : Type 0} (xs : List A) (k : ℕ) → length xs ≤ k → slice_get xs k ≡ None
past_end [] zero le = refl
past_end [] (suc k) le = refl
past_end (x ∷ xs) zero le = absurd (omega arith)
past_end (x ∷ xs) (suc k) le = past_end xs k (omega arith)

-- the end, where a document hasn't ended
pub fault_at_end : {E T I : Type 0} (g : Grammar E T I) (s : State E T I) (ts : List Lexeme) (u : State E T I) → run full g s (take (length ts) ts) ≡ Some u → u.stack ≢ [] → IsFault g s ts (length ts) Expected
fault_at_end g s ts u h more = record {
  at = u;
  before = h;
  unended = more;
  within = omega arith;
  here = λ lt. absurd (omega arith);
  why = rw (past_end ts (length ts) (omega arith)) refl;
}

and_then_same : {A B : Type 0} (f h : A → Option B) → ((v : A) → f v ≡ h v) → (o : Option A) → option_and_then f o ≡ option_and_then h o
and_then_same f h e None = refl
and_then_same f h e (Some v) = e v

and_then_assoc : {A B C : Type 0} (f : B → Option C) (h : A → Option B) (o : Option A) → option_and_then f (option_and_then h o) ≡ option_and_then (λ v. option_and_then f (h v)) o
and_then_assoc f h None = refl
and_then_assoc f h (Some v) = refl

pub run-append : {E T I : Type 0} (r : Rules) (g : Grammar E T I) (s : State E T I) (xs ys : List Lexeme) → run r g s (xs ++ ys) ≡ option_and_then (λ u. run r g u ys) (run r g s xs)
run-append r g s [] ys = refl
run-append r g s (x ∷ xs) ys =
    and_then_same (λ v. run r g v (xs ++ ys)) (λ v. option_and_then (λ u. run r g u ys) (run r g v xs)) (λ v. run-append r g v xs ys) (next r g s x)
    ∙ sym (and_then_assoc (λ u. run r g u ys) (λ v. run r g v xs) (next r g s x))

-- after its end no token is read
run-ended : {E T I : Type 0} (r : Rules) (g : Grammar E T I) (e : E) (ts : List Lexeme) (u : State E T I) → run r g (state e []) ts ≡ Some u → u.stack ≡ []
run-ended r g e [] u h = let same : state e [] ≡ u = cc in ap (λ v. v.stack) (sym same)
run-ended r g e (t ∷ ts) u h = absurd cc

some_not_none : {A : Type 0} (o : Option A) (x : A) → o ≡ Some x → is_some o ≡ false → ⊥
some_not_none o x e h = let k : is_some o ≡ true = rw e refl in absurd cc

cut_take : {A : Type 0} (xs : List A) (m n : ℕ) → m ≤ n → take n xs ≡ take m xs ++ drop m (take n xs)
cut_take xs m n le = sym (take-append-drop m (take n xs)) ∙ ap (λ l. l ++ drop m (take n xs)) (take-take m n xs le)

-- a document that reads has no fault
pub fault_excludes : {E T I : Type 0} (g : Grammar E T I) (s : State E T I) (ts : List Lexeme) (n k : ℕ) (e : E) (cause : Cause) → Reads g s ts n e → IsFault g s ts k cause → ⊥
fault_excludes g s ts n k e cause reads fault = ⊎_elim early late (order k n)
  where
    early : k < n → ⊥
    early lt =
        let parts = ap (λ l. run full g s l) (cut_take ts (k + 1) n (omega arith)) ∙ run-append full g s (take (k + 1) ts) (drop (k + 1) (take n ts)) in
        let step = and_then_ok (λ u. run full g u (drop (k + 1) (take n ts))) (run full g s (take (k + 1) ts)) (state e []) (sym parts ∙ reads.runs) in
        some_not_none _ step.0 step.1 (fault.here (omega (arith, reads.within)))

    late : n ≤ k → ⊥
    late le =
        let parts = ap (λ l. run full g s l) (cut_take ts n k le) ∙ run-append full g s (take n ts) (drop n (take k ts)) in
        fault.unended (run-ended full g e (drop n (take k ts)) fault.at (rw reads.runs at (sym parts ∙ fault.before)))

no_earlier : {E T I : Type 0} (g : Grammar E T I) (s : State E T I) (ts : List Lexeme) (j k : ℕ) (c d : Cause) → IsFault g s ts j c → IsFault g s ts k d → j < k → ⊥
no_earlier g s ts j k c d first second lt =
    let parts = ap (λ l. run full g s l) (cut_take ts (j + 1) k (omega arith)) ∙ run-append full g s (take (j + 1) ts) (drop (j + 1) (take k ts)) in
    let step = and_then_ok (λ u. run full g u (drop (j + 1) (take k ts))) (run full g s (take (j + 1) ts)) second.at (sym parts ∙ second.before) in
    some_not_none _ step.0 step.1 (first.here (omega (arith, second.within)))

some_alike : {A : Type 0} (a b : A) → Some a ≡ Some b → a ≡ b
some_alike a b h = cc

-- there is one fault at most
pub fault_once : {E T I : Type 0} (g : Grammar E T I) (s : State E T I) (ts : List Lexeme) (j k : ℕ) (c d : Cause) → IsFault g s ts j c → IsFault g s ts k d → (j ≡ k) × (c ≡ d)
fault_once g s ts j k c d first second =
    let same : j ≡ k = ⊎_elim (λ lt. absurd (no_earlier g s ts j k c d first second lt)) (λ le. ⊎_elim (λ lt. absurd (no_earlier g s ts k j d c second first lt)) (λ ge. omega arith) (order k j)) (order j k) in
    let at = some_alike _ _ (sym first.before ∙ ap (λ n. run full g s (take n ts)) same ∙ second.before) in
    (same, first.why ∙ ap (λ n. cause_of g s ts n first.at) same ∙ ap (cause_of g s ts k) at ∙ sym second.why)

-- the first token after an end is not read
run-beyond : {E T I : Type 0} (g : Grammar E T I) (e : E) (ts : List Lexeme) (u : State E T I) → run full g (state e []) ts ≡ Some u → length ts ≡ 0
run-beyond g e [] u h = refl
run-beyond g e (t ∷ ts) u h = absurd cc

no_later : {E T I : Type 0} (g : Grammar E T I) (s : State E T I) (ts : List Lexeme) (n m : ℕ) (e f : E) → Reads g s ts n e → Reads g s ts m f → n < m → ⊥
no_later g s ts n m e f first second lt =
    let parts = ap (λ l. run full g s l) (cut_take ts n m (omega arith)) ∙ run-append full g s (take n ts) (drop n (take m ts)) in
    let rest = run-beyond g e (drop n (take m ts)) (state f []) (rw first.runs at (sym parts ∙ second.runs)) in
    absurd (omega (arith, rest, length-drop n (take m ts), length-take m ts, second.within))

-- tokens read as at most one document
ends_alike : {E T I : Type 0} (a b : State E T I) → Some a ≡ Some b → a.env ≡ b.env
ends_alike a b h = let same : a ≡ b = cc in ap (λ v. v.env) same

pub reads_once : {E T I : Type 0} (g : Grammar E T I) (s : State E T I) (ts : List Lexeme) (n m : ℕ) (e f : E) → Reads g s ts n e → Reads g s ts m f → (n ≡ m) × (e ≡ f)
reads_once g s ts n m e f first second =
    let same : n ≡ m = ⊎_elim (λ lt. absurd (no_later g s ts n m e f first second lt)) (λ le. ⊎_elim (λ lt. absurd (no_later g s ts m n f e second first lt)) (λ ge. omega arith) (order m n)) (order n m) in
    (same, ends_alike _ _ (sym first.runs ∙ ap (λ k. run full g s (take k ts)) same ∙ second.runs))
