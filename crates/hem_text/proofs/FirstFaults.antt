-- The loop over the tokens.
use Rattle.std.proofs.Common.{◌≡◌, ◌≢◌, ℕ, zero, suc, ◌+◌, ◌≤◌, List, [], ◌∷◌, length, take, drop, refl, sym, ap, ◌∙◌, arith, Some, None}
use Rattle.std.specs.Prelude.{slice_get}
use Rattle.std.proofs.lemmas.List.{drop-drop}
use Rattle.std.proofs.lemmas.Option.{slice_get_within}
use Rattle.hem_text.specs.Lexemes.{Lexeme}
use Rattle.hem_text.specs.Unread.{Unread}
use Rattle.hem_text.specs.declared.text.Cause.TheVariants.{Expected}
use Rattle.hem_text.specs.declared.machine.Refusal.{Refusal}
use Rattle.hem_text.specs.declared.machine.Refusal.TheVariants as refusal
use Rattle.hem_text.specs.declared.reader.TextError.TheVariants.{Text}
use Rattle.hem_text.specs.Grammars.{Grammar, State, next, run, full, state, Reads}
use Rattle.hem_text.specs.Refused.{IsRefused}
use Rattle.hem_text.specs.Parts.{ReadsOnly, IsPart}
use Rattle.hem_text.specs.Faults.{IsFirstFault, refused_at}
use Rattle.hem_text.proofs.Runs.{one_more, fault_at, fault_at_end, fault_excludes, fault_once, reads_once}

-- the first count tokens lead from the start to this state, and the cursor stands behind them
pub record IsAlong {E T I : Type 0} (g : Grammar E T I) (s : State E T I) (begin ahead : Unread) (now : State E T I) : Type 0 where
  pub count : ℕ
  pub within : count ≤ length begin.tokens
  pub runs : run full g s (take count begin.tokens) ≡ Some now
  pub left : ahead ≡ record begin { tokens = drop count begin.tokens }

-- no token is read yet
pub along_nothing : {E T I : Type 0} (g : Grammar E T I) (s : State E T I) (begin ahead : Unread) → ahead ≡ begin → IsAlong g s begin ahead s
along_nothing g s begin ahead same = record { count = 0; within = omega arith; runs = refl; left = same }

-- a document that reads is the only one, and has no fault
reads_only : {E T I : Type 0} (g : Grammar E T I) (s : State E T I) (ts : List Lexeme) (n : ℕ) (e : E) → Reads g s ts n e → ReadsOnly g s ts n e
reads_only g s ts n e reads = record {
  once = λ m f other. reads_once g s ts m n f e other reads;
  faultless = λ k cause fault. fault_excludes g s ts n k e cause reads fault;
}

pub slice_get-drop : {A : Type 0} (n : ℕ) (xs : List A) → slice_get (drop n xs) 0 ≡ slice_get xs n
slice_get-drop zero xs = refl
slice_get-drop (suc n) [] = refl
slice_get-drop (suc n) (x ∷ xs) = slice_get-drop n xs

none_at : {A : Type 0} (xs : List A) (n : ℕ) → slice_get xs n ≡ None → length xs ≤ n
none_at [] n is = omega arith
none_at (x ∷ xs) zero is = absurd cc
none_at (x ∷ xs) (suc n) is = omega (arith, none_at xs n is)

module _ {E T I : Type 0} (g : Grammar E T I) (s : State E T I) (begin ahead : Unread) (now : State E T I) (along : IsAlong g s begin ahead now) where
  -- the next token is the one behind those that were read
  next_is : slice_get ahead.tokens 0 ≡ slice_get begin.tokens along.count
  next_is = ap (λ u. slice_get u.tokens 0) along.left ∙ slice_get-drop along.count begin.tokens

  pub along_more : (t : Lexeme) (after : Unread) (then : State E T I) → Some t ≡ slice_get ahead.tokens 0 → after ≡ record ahead { tokens = drop 1 ahead.tokens } → next full g now t ≡ Some then →
      IsAlong g s begin after then
  along_more t after then is moved goes =
      let here = sym next_is ∙ sym is in
      record {
        count = along.count + 1;
        within = omega (arith, slice_get_within begin.tokens along.count t here);
        runs = one_more full g s begin.tokens along.count t now along.runs here ∙ goes;
        left = moved ∙ ap {A = Unread} {B = Unread} (λ u. record u { tokens = drop 1 u.tokens }) along.left ∙ ap {B = Unread} (λ ts. record begin { tokens = ts }) (drop-drop 1 along.count begin.tokens);
      }

  pub refused_first : (t : Lexeme) (r : Refusal) → Some t ≡ slice_get ahead.tokens 0 → now.stack ≢ [] → IsRefused g now t r → IsFirstFault g s begin.tokens begin.end (refused_at t.place r)
  refused_first t refusal.OutOfMemory is more h = tt
  refused_first t (refusal.Fault cause) is more h =
      let here = sym next_is ∙ sym is in
      let fault = fault_at g s begin.tokens along.count t now cause along.runs here along.within more h.0 h.1 in
      (along.count, fault, rw here refl, λ n e reads. fault_excludes g s _ n along.count e cause reads fault, λ j other h. fault_once g s _ j along.count other cause h fault)

  pub ended_first : None ≡ slice_get ahead.tokens 0 → now.stack ≢ [] → IsFirstFault g s begin.tokens begin.end (Text (record { place = begin.end; cause = Expected }))
  ended_first is more =
      let none = sym next_is ∙ sym is in
      let all : along.count ≡ length begin.tokens = omega (arith, along.within, none_at begin.tokens along.count none) in
      let fault = fault_at_end g s begin.tokens now (rw (← all) along.runs) more in
      (length begin.tokens, fault, rw (← all, none) refl, λ n e reads. fault_excludes g s _ n _ e Expected reads fault, λ j other h. fault_once g s _ j _ other Expected h fault)

  pub is_part : now.stack ≡ [] → IsPart g s begin.tokens ahead.tokens now.env
  is_part empty =
      let reads : Reads g s begin.tokens along.count now.env = record { within = along.within; runs = along.runs ∙ ap (λ stack. Some (state now.env stack)) empty } in
      record { count = along.count; reads = reads; others = ap (λ u. u.tokens) along.left; only = reads_only g s begin.tokens along.count now.env reads }
