-- Words ask for one thing.
use Rattle.std.proofs.Common.{◌≡◌, ◌∙◌, refl, sym, ap, ap₂, arith, ℕ, List, [], ◌∷◌, Option, Some, None}
use Rattle.std.specs.Option.{option_map_or}
use Rattle.hem_words.specs.CommandLine.{Given, given_in}
use Rattle.hem_words.specs.Job.{IsCountOf, IsMostOf, IsSeedOf, IsJobOf, AsksFor}
use Rattle.hem_words.specs.declared.job.Job.{Job}
use Rattle.hem_words.specs.declared.job.Asked.{Asked}
use Rattle.hem_words.specs.declared.job.Job.TheVariants.{Check, Group, Run, Walk, Emit, Play, Make}

-- the first letter of a text
abbrev first_letter : List ℕ → ℕ
first_letter [] = 0
first_letter (x ∷ xs) = x

-- the first letter of a job's word
abbrev letter_of : Job → ℕ
letter_of Check = 99
letter_of Group = 103
letter_of (Run count seed) = 114
letter_of (Walk count seed) = 119
letter_of Emit = 101
letter_of (Play most) = 112
letter_of (Make count seed) = 109

-- the job given begins with the letter of the job's word
letter : (g : Given) (job : Job) → IsJobOf g job → option_map_or first_letter g.job 0 ≡ letter_of job
letter g Check is = ap (λ t. option_map_or first_letter t 0) is.0
letter g Group is = ap (λ t. option_map_or first_letter t 0) is.0
letter g (Run count seed) is = ap (λ t. option_map_or first_letter t 0) is.0
letter g (Walk count seed) is = ap (λ t. option_map_or first_letter t 0) is.0
letter g Emit is = ap (λ t. option_map_or first_letter t 0) is.0
letter g (Play most) is = ap (λ t. option_map_or first_letter t 0) is.0
letter g (Make count seed) is = ap (λ t. option_map_or first_letter t 0) is.0

counts_once : (text : Option (List ℕ)) (a b : Option ℕ) → IsCountOf text a → IsCountOf text b → a ≡ b
counts_once None None None p q = refl
counts_once None None (Some b) p q = absurd q
counts_once None (Some a) b p q = absurd p
counts_once (Some text) None b p q = absurd p
counts_once (Some text) (Some a) None p q = absurd q
counts_once (Some text) (Some a) (Some b) p q = ap Some (p.0.value ∙ sym q.0.value)

seeds_once : (text : Option (List ℕ)) (a b : ℕ) → IsSeedOf text a → IsSeedOf text b → a ≡ b
seeds_once None a b p q = p ∙ sym q
seeds_once (Some text) a b p q = p.value ∙ sym q.value

mosts_once : (text : Option (List ℕ)) (a b : ℕ) → IsMostOf text a → IsMostOf text b → a ≡ b
mosts_once None a b p q = p ∙ sym q
mosts_once (Some text) a b p q = p.0.value ∙ sym q.0.value

same_some : (a b : ℕ) → Some a ≡ Some b → a ≡ b
same_some a b is = cc

-- texts ask for one job: of two, where their letters are the same
one_job : (g : Given) (a b : Job) → letter_of a ≡ letter_of b → IsJobOf g a → IsJobOf g b → a ≡ b
one_job g Check Check same p q = refl
one_job g Group Group same p q = refl
one_job g (Run a s) (Run b t) same p q = ap₂ (λ x y. Run x y) (counts_once g.count a b p.1 q.1) (seeds_once g.seed s t p.2 q.2)
one_job g (Walk a s) (Walk b t) same p q = ap₂ (λ x y. Walk x y) (counts_once g.count a b p.1 q.1) (seeds_once g.seed s t p.2 q.2)
one_job g Emit Emit same p q = refl
one_job g (Play a) (Play b) same p q = ap Play (mosts_once g.count a b p.1 q.1)
one_job g (Make a s) (Make b t) same p q = ap₂ (λ x y. Make x y) (same_some a b (counts_once g.count (Some a) (Some b) p.1 q.1)) (seeds_once g.seed s t p.2 q.2)
one_job g a b same p q = absurd (omega (arith, same))

job_once : (g : Given) (a b : Job) → IsJobOf g a → IsJobOf g b → a ≡ b
job_once g a b p q = one_job g a b (sym (letter g a p) ∙ letter g b q) p q

-- words ask for one thing
pub asks_once : (words : List (List ℕ)) (a b : Asked) → AsksFor words a → AsksFor words b → a ≡ b
asks_once words a b p q = λ i. record { job = job_once (given_in words) a.job b.job p.1 q.1 i; json = (p.2 ∙ sym q.2) i }
