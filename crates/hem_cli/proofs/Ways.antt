-- What is said in one of two ways, or of what was read, is said once where each way is, by texts that are the same or alike.
use Rattle.std.proofs.Common.{◌≡◌, ◌∙◌, sym, ap, subst, ℕ, List, inl, inr}
use Rattle.std.specs.Prelude.{◌⊎◌}
use Rattle.hem_text.specs.declared.reader.TextFault.{TextFault}
use Rattle.hem_document.specs.Documents.{IsExact}
use Rattle.hem_cli.specs.Texts.{fault_text}
use Rattle.hem_cli.specs.Refusals.{IsUnread, IsAnswerTo}
use Rattle.hem_cli.specs.declared.status.Status.{Status}

-- one status at most, with texts that are alike
abbrev pub IsOneBy : (List ℕ → List ℕ → Type 0) → (Status → List ℕ → Type 0) → Type 0
IsOneBy Alike A = (a b : Status) (x y : List ℕ) → A a x → A b y → (a ≡ b) × Alike x y

-- one status with one text at most
abbrev pub Same : List ℕ → List ℕ → Type 0
Same x y = x ≡ y

abbrev pub IsOnce : (Status → List ℕ → Type 0) → Type 0
IsOnce A = IsOneBy Same A

-- a status with texts that are alike
pub status_once : (Alike : List ℕ → List ℕ → Type 0) (s : Status) (P : List ℕ → Type 0) → ((x y : List ℕ) → P x → P y → Alike x y) → IsOneBy Alike (λ a x. (a ≡ s) × P x)
status_once Alike s P once a b x y p q = (p.0 ∙ sym q.0, once x y p.1 q.1)

-- either of two that exclude each other
pub either_once : (Alike : List ℕ → List ℕ → Type 0) (A B : Status → List ℕ → Type 0) → IsOneBy Alike A → IsOneBy Alike B → ((a b : Status) (x y : List ℕ) → A a x → B b y → ⊥) → IsOneBy Alike (λ a x. A a x ⊎ B a x)
either_once Alike A B one other excludes a b x y (inl p) (inl q) = one a b x y p q
either_once Alike A B one other excludes a b x y (inl p) (inr q) = absurd (excludes a b x y p q)
either_once Alike A B one other excludes a b x y (inr p) (inl q) = absurd (excludes b a y x q p)
either_once Alike A B one other excludes a b x y (inr p) (inr q) = other a b x y p q

unread_once : (F : TextFault → Type 0) → ((f g : TextFault) → F f → F g → f ≡ g) → (x y : List ℕ) → IsUnread F x → IsUnread F y → x ≡ y
unread_once F once x y p q = p.says ∙ (ap fault_text (once p.fault q.fault p.first q.first) ∙ sym q.says)

-- the answer to bytes that are read in one way
pub answered_once : {D : Type 0} (Alike : List ℕ → List ℕ → Type 0) → ((x y : List ℕ) → x ≡ y → Alike x y) → (R : D → Type 0) (F : TextFault → Type 0) (reply : D → Status → List ℕ → Type 0) → IsExact R F → ((d : D) → IsOneBy Alike (reply d)) → IsOneBy Alike (IsAnswerTo F R reply)
answered_once Alike alike R F reply exact once a b x y (inl p) (inl q) = (p.0 ∙ sym q.0, alike x y (unread_once F exact.fault_once x y p.1 q.1))
answered_once Alike alike R F reply exact once a b x y (inl p) (inr q) = absurd (exact.excludes q.0 p.1.fault q.1 p.1.first)
answered_once Alike alike R F reply exact once a b x y (inr p) (inl q) = absurd (exact.excludes p.0 q.1.fault p.1 q.1.first)
answered_once Alike alike R F reply exact once a b x y (inr p) (inr q) = once q.0 a b x y (subst (λ d. reply d a x) (exact.once p.0 q.0 p.1 q.1) p.2) q.2
