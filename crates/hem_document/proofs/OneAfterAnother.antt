-- Parts of a text, one after another: where each part has one reading or one first fault, so has the whole.
use Rattle.std.proofs.Common.{◌≡◌, ◌∙◌, sym, ap, subst, List, [], inl, inr, Some}
use Rattle.std.specs.Prelude.{◌⊎◌, slice_get}
use Rattle.hem_text.specs.declared.reader.TextFault.{TextFault}
use Rattle.hem_text.specs.Lexemes.{Lexeme}
use Rattle.hem_document.specs.Documents.{IsTooLong, IsExact}

-- what stands at the front: there is at most one reading, with one rest, at most one first fault, and never both
pub record IsExactFront {A : Type 0} (R : List Lexeme → A → Type 0) (F : TextFault → Type 0) : Type 0 where
  pub once : (d e : List Lexeme) (a b : A) → R d a → R e b → (d ≡ e) × (a ≡ b)
  pub fault_once : (f g : TextFault) → F f → F g → f ≡ g
  pub excludes : (e : List Lexeme) (a : A) (f : TextFault) → R e a → F f → ⊥

-- a part, and then one more that depends on it
abbrev pub Both : {A B : Type 0} → (List Lexeme → A → Type 0) → (List Lexeme → A → List Lexeme → B → Type 0) → List Lexeme → A × B → Type 0
Both R S rest said = (e : List Lexeme) × R e said.0 × S e said.0 rest said.1

-- the fault of a part, or where the part stands the fault of the next
abbrev pub Either : {A : Type 0} → (List Lexeme → A → Type 0) → (TextFault → Type 0) → (List Lexeme → A → TextFault → Type 0) → TextFault → Type 0
Either {A} R F G f = F f ⊎ ((e : List Lexeme) × (a : A) × R e a × G e a f)

-- a fact at one rest and one reading, at the same rest and reading
moved : {A : Type 0} (P : List Lexeme → A → Type 0) (d e : List Lexeme) (a b : A) → (d ≡ e) × (a ≡ b) → P d a → P e b
moved P d e a b same holds = subst (λ x. P e x) same.1 (subst (λ k. P k a) same.0 holds)

module _ {A B : Type 0} (R : List Lexeme → A → Type 0) (F : TextFault → Type 0) (S : List Lexeme → A → List Lexeme → B → Type 0) (G : List Lexeme → A → TextFault → Type 0)
    (part : IsExactFront R F) (next : (e : List Lexeme) (a : A) → IsExactFront (S e a) (G e a)) where
  both_once : (d e : List Lexeme) (x y : A × B) → Both R S d x → Both R S e y → (d ≡ e) × (x ≡ y)
  both_once d e x y p q =
      let same = part.once p.0 q.0 x.0 y.0 p.1 q.1 in
      let second = (next q.0 y.0).once d e x.1 y.1 (moved (λ k a. S k a d x.1) p.0 q.0 x.0 y.0 same p.2) q.2 in
      (second.0, ap (λ (a : A). (a, x.1)) same.1 ∙ ap (λ (b : B). (y.0, b)) second.1)

  either_once : (f g : TextFault) → Either R F G f → Either R F G g → f ≡ g
  either_once f g (inl p) (inl q) = part.fault_once f g p q
  either_once f g (inl p) (inr q) = absurd (part.excludes q.0 q.1 f q.2 p)
  either_once f g (inr p) (inl q) = absurd (part.excludes p.0 p.1 g p.2 q)
  either_once f g (inr p) (inr q) = (next q.0 q.1).fault_once f g (moved (λ k a. G k a f) p.0 q.0 p.1 q.1 (part.once p.0 q.0 p.1 q.1 p.2 q.2) p.3) q.3

  both_excludes : (e : List Lexeme) (x : A × B) (f : TextFault) → Both R S e x → Either R F G f → ⊥
  both_excludes e x f p (inl q) = part.excludes p.0 x.0 f p.1 q
  both_excludes e x f p (inr q) = (next q.0 q.1).excludes e x.1 f (moved (λ k a. S k a e x.1) p.0 q.0 x.0 q.1 (part.once p.0 q.0 x.0 q.1 p.1 q.2) p.2) q.3

  -- a part and then one more are exact where each of them is
  pub one_after_another : IsExactFront (Both R S) (Either R F G)
  one_after_another = record { once = both_once; fault_once = either_once; excludes = both_excludes }

-- readings that are told in another way
pub exact_by : {A B : Type 0} (R : List Lexeme → A → Type 0) (S : List Lexeme → B → Type 0) (F : TextFault → Type 0) (g : B → A) (h : A → B) → ((b : B) → h (g b) ≡ b) → ((e : List Lexeme) (b : B) → S e b → R e (g b))
    → IsExactFront R F → IsExactFront S F
exact_by R S F g h back reads exact =
    record {
      once = λ d e a b p q. let same = exact.once d e (g a) (g b) (reads d a p) (reads e b q) in (same.0, sym (back a) ∙ (ap h same.1 ∙ back b));
      fault_once = exact.fault_once;
      excludes = λ e a f p q. exact.excludes e (g a) f (reads e a p) q;
    }

-- faults of one place and one cause are the same
pub fault_is : (f g : TextFault) → f.place ≡ g.place → f.cause ≡ g.cause → f ≡ g
fault_is f g place cause =
    let one : f ≡ record { place = g.place; cause = f.cause } = ap (λ p. record { place = p; cause = f.cause }) place in
    one ∙ ap (λ c. record { place = g.place; cause = c }) cause

same_next : (rest : List Lexeme) (s t : Lexeme) → slice_get rest 0 ≡ Some s → slice_get rest 0 ≡ Some t → s ≡ t
same_next rest s t p q = cc

too_long_once : (rest : List Lexeme) (f g : TextFault) → IsTooLong rest f → IsTooLong rest g → f ≡ g
too_long_once rest f g p q = fault_is f g (p.place ∙ (ap (λ (t : Lexeme). t.place) (same_next rest p.next q.next p.there q.there) ∙ sym q.place)) (p.cause ∙ sym q.cause)

none_left : (rest : List Lexeme) (f : TextFault) → [] ≡ rest → IsTooLong rest f → ⊥
none_left rest f none long = let there = long.there in let same = ap (λ ts. slice_get ts 0) none in cc

-- the fault of the parts, or where they stand a token after them
abbrev Whole : {D : Type 0} → (List Lexeme → D → Type 0) → (TextFault → Type 0) → TextFault → Type 0
Whole {D} R F f = F f ⊎ ((rest : List Lexeme) × (d : D) × R rest d × IsTooLong rest f)

module _ {D : Type 0} (R : List Lexeme → D → Type 0) (F : TextFault → Type 0) (front : IsExactFront R F) where
  whole_once : (f g : TextFault) → Whole R F f → Whole R F g → f ≡ g
  whole_once f g (inl p) (inl q) = front.fault_once f g p q
  whole_once f g (inl p) (inr q) = absurd (front.excludes q.0 q.1 f q.2 p)
  whole_once f g (inr p) (inl q) = absurd (front.excludes p.0 p.1 g p.2 q)
  whole_once f g (inr p) (inr q) = too_long_once q.0 f g (subst (λ rest. IsTooLong rest f) (front.once p.0 q.0 p.1 q.1 p.2 q.2).0 p.3) q.3

  whole_excludes : (d : D) (f : TextFault) → R [] d → Whole R F f → ⊥
  whole_excludes d f p (inl q) = front.excludes [] d f p q
  whole_excludes d f p (inr q) = none_left q.0 f (front.once [] q.0 d q.1 p q.2).0 q.3

  -- parts that are to be the whole text are exact where they are at the front
  pub whole_exact : IsExact (R []) (Whole R F)
  whole_exact = record { once = λ a b p q. (front.once [] [] a b p q).1; fault_once = whole_once; excludes = whole_excludes }
