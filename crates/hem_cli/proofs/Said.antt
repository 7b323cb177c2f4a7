-- What a reply says, with sources that may not tell their bytes.
use Rattle.std.proofs.Common.{◌≡◌, ℕ, ◌+◌, ◌<◌, ◌≤◌, ◌↔◌, List, length, Option, Some, None, ap, subst, arith, length-append, string_bytes}
use Rattle.std.proofs.lemmas.List.{length-replicate}
use Rattle.std.specs.Prelude.{Result, Ok, Err, IfOk, MatchOption, replicate}
use Rattle.hem_base.specs.declared.outside.OutOfMemory.{OutOfMemory}
use Rattle.hem_io.specs.Reading.{ReadsAll, TakesFront}
use Rattle.hem_cli.specs.declared.reply.Reply.{Reply}
use Rattle.hem_cli.specs.declared.status.Status.{Status}
use Rattle.hem_cli.specs.declared.status.Status.TheVariants.{ReadFault}
use Rattle.hem_cli.specs.Answer.{Answer, IsAnswerInForm, most_bytes}
use Rattle.hem_words.specs.Job.{AsksFor}
use Rattle.hem_words.specs.declared.job.Asked.{Asked}
use Rattle.hem_cli.specs.Outcome.{Says, OfBytes, IsAfterReading}
use Rattle.hem_cli.proofs.Replies.{answered}

-- where one byte more than n was taken, more than n bytes were left
pub past : (old new : Option (List ℕ)) (n : ℕ) (A : Type 0) (P : List ℕ → Type 0) → A → ((bytes : List ℕ) → n < length bytes → P bytes)
    → TakesFront old new (λ front. (length front ≤ n + 1) × (A ↔ (length front ≡ n + 1))) → OfBytes old P
past None new n A P a holds taken = (replicate (n + 1) 0, holds _ (omega (arith, length-replicate {A = ℕ} (n + 1) 0)))
past (Some xs) None n A P a holds taken = absurd taken
past (Some xs) (Some ys) n A P a holds taken =
    holds xs (omega (arith, ap length taken.1, length-append taken.0 ys, taken.2.1.0 a))

-- a reply says what its status and its text say
pub said : (words : List (List ℕ)) (left : Option (List ℕ)) (before now : ℕ) (r : Result Reply OutOfMemory) (status : Status) (text : List ℕ)
    → IfOk r (λ x. x.status ≡ status) → IfOk r (λ x. (string_bytes x.text) ≡ text) → Says words left before now status text → IfOk r (λ x. Says words left before now x.status (string_bytes x.text))
said words left before now (Ok x) status text is_status is_text says = rw (is_status, is_text) says
said words left before now (Err e) status text is_status is_text says = tt

-- of the bytes that were read, where the source told them
of_read : (left new : Option (List ℕ)) (bytes : List ℕ) (P : List ℕ → Type 0) → ReadsAll left new bytes → P bytes → OfBytes left P
of_read None new bytes P read holds = (bytes, holds)
of_read (Some xs) new bytes P read holds = subst P read.0 holds

-- an answer that comes after reading says itself
says_after : (words : List (List ℕ)) (left : Option (List ℕ)) (before now : ℕ) (status : Status) (text : List ℕ) → IsAfterReading status → OfBytes left (λ bytes. Answer words bytes status text) → Says words left before now status text
says_after words left before now ReadFault text after answer = absurd after
says_after words left before now status text after answer = answer

-- the reply to the bytes that were read says the answer to what was left
pub read_says : (words : List (List ℕ)) (asked : Asked) (left new : Option (List ℕ)) (before now : ℕ) (bytes : List ℕ) (r : Result Reply OutOfMemory) → AsksFor words asked → length bytes ≤ most_bytes → ReadsAll left new bytes
    → IfOk r (λ x. IsAnswerInForm asked bytes x.status (string_bytes x.text)) → IfOk r (λ x. Says words left before now x.status (string_bytes x.text))
read_says words asked left new before now bytes (Ok x) asks few read told =
    let answer = answered words asked bytes x.status (string_bytes x.text) asks few told in
    says_after words left before now x.status (string_bytes x.text) answer.0 (of_read left new bytes (λ bs. Answer words bs x.status (string_bytes x.text)) read answer.1)
read_says words asked left new before now bytes (Err e) asks few read told = tt

-- what the words ask for
pub asked_of : (A : Type 0) (P : Asked → Type 0) (o : Option Asked) (asked : Asked) → o ≡ Some asked → MatchOption o A P → P asked
asked_of A P o asked is told = subst (λ x. MatchOption x A P) is told
