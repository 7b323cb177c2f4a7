-- A reply that was delivered is the whole answer.
use Rattle.std.proofs.Common.{◌≡◌, ◌∙◌, refl, subst, ℕ, List, Option, Some, None, sym, inl, inr}
use Rattle.std.specs.Prelude.{IfSome, ◌⊎◌}
use Rattle.std.specs.Io.KnownBytes.{Appends}
use Rattle.hem_cli.specs.Answer.{Answer}
use Rattle.hem_cli.specs.Outcome.{Says, OfBytes, IsUnlessFault, IsWhole}
use Rattle.hem_words.specs.Job.{IsGood}
use Rattle.hem_cli.specs.declared.status.Status.{Status}
use Rattle.hem_cli.specs.declared.status.Status.TheVariants.{Usage, ReadFault, WriteFault, TooLong, Memory}
use Rattle.hem_cli.proofs.Once.{answer_once}

-- a status and a text that was given whole
whole_when : (IsSaid : Status → List ℕ → Type 0) (a b : Status) (x : List ℕ) (old new : Option (List ℕ)) → a ≡ b → IsSaid a x → Appends old new x → IsWhole a b (IsSaid b) old new
whole_when IsSaid ReadFault b x old new same said made = tt
whole_when IsSaid WriteFault b x old new same said made = tt
whole_when IsSaid Memory b x old new same said made = tt
whole_when IsSaid a b x old new same said made = (same, (x, subst (λ s. IsSaid s x) same said, made))

-- where there is an answer it was given whole
abbrev IsComplete : List (List ℕ) → Option (List ℕ) → Status → Option (List ℕ) → Option (List ℕ) → Type 0
IsComplete words left a old new = IfSome left (λ bytes. (b : Status) (y : List ℕ) → Answer words bytes b y → IsWhole a b (Answer words bytes b) old new)

-- what a reply that was written says is the whole answer
written_whole : (words : List (List ℕ)) (left : Option (List ℕ)) (before now : ℕ) (a : Status) (x : List ℕ) (old new : Option (List ℕ)) → Says words left before now a x → Appends old new x → IsComplete words left a old new
written_whole words None before now a x old new says made = tt
written_whole words (Some bytes) before now ReadFault x old new says made = λ b y answer. tt
written_whole words (Some bytes) before now a x old new says made = λ b y answer. whole_when (Answer words bytes) a b x old new (answer_once words bytes a b x y says answer).0 says made

fault_whole : (words : List (List ℕ)) (left : Option (List ℕ)) (old new : Option (List ℕ)) → IsComplete words left WriteFault old new
fault_whole words None old new = tt
fault_whole words (Some bytes) old new = λ b y answer. tt

-- a reply that was delivered leaves the whole answer, or a write fault
pub delivered_whole : (words : List (List ℕ)) (left : Option (List ℕ)) (before now : ℕ) (result a : Status) (x : List ℕ) (old new : Option (List ℕ)) (R P : Type 0) → Says words left before now a x
    → ((result ≡ a) × Appends old new x) ⊎ ((result ≡ WriteFault) × R × P) → IsComplete words left result old new
delivered_whole words left before now result a x old new R P says (inl made) = subst (λ r. IsComplete words left r old new) (sym made.0) (written_whole words left before now a x old new says made.1)
delivered_whole words left before now result a x old new R P says (inr fault) = subst (λ r. IsComplete words left r old new) (sym fault.0) (fault_whole words left old new)

-- words that aren't good have the usage for an answer
unasked_answer : (words : List (List ℕ)) (bytes : List ℕ) (a : Status) (x : List ℕ) → ¬ IsGood words → Answer words bytes a x → a ≡ Usage
unasked_answer words bytes Usage x unasked answer = refl
unasked_answer words bytes TooLong x unasked answer = absurd (unasked (answer.0, answer.1))
unasked_answer words bytes a x unasked answer = absurd (unasked (answer.0, answer.1))

of_some : (left : Option (List ℕ)) (P : List ℕ → Type 0) (A : Type 0) → ((bytes : List ℕ) → P bytes → A) → OfBytes left P → A
of_some None P A gives some = gives some.0 some.1
of_some (Some bytes) P A gives some = gives bytes some

unasked_says : (words : List (List ℕ)) (left : Option (List ℕ)) (before now : ℕ) (a : Status) (x : List ℕ) → ¬ IsGood words → Says words left before now a x → a ≡ Usage
unasked_says words left before now ReadFault x unasked says = absurd (unasked (says.0, says.1))
unasked_says words left before now a x unasked says = of_some left (λ bytes. Answer words bytes a x) (a ≡ Usage) (λ bytes. unasked_answer words bytes a x unasked) says

-- a reply to them that was delivered is the usage, or a write fault
pub delivered_usage : (words : List (List ℕ)) (left : Option (List ℕ)) (before now : ℕ) (result a : Status) (x : List ℕ) (A R P : Type 0) → Says words left before now a x
    → ((result ≡ a) × A) ⊎ ((result ≡ WriteFault) × R × P) → ¬ IsGood words → IsUnlessFault result Usage
delivered_usage words left before now result a x A R P says (inl made) unasked =
    subst (λ r. IsUnlessFault r Usage) (sym (made.0 ∙ unasked_says words left before now a x unasked says)) refl
delivered_usage words left before now result a x A R P says (inr fault) unasked = subst (λ r. IsUnlessFault r Usage) (sym fault.0) tt
