-- What a delivered reply leaves in the sink.
use Rattle.std.proofs.Common.{◌≡◌, subst, sym, ℕ, List, Option, Some, None, inl, inr}
use Rattle.std.specs.Prelude.{◌⊎◌}
use Rattle.std.specs.Io.KnownBytes.{Appends}
use Rattle.hem_io.specs.Reading.{AppendsPrefix}
use Rattle.hem_cli.specs.Answer.{Answer}
use Rattle.hem_cli.specs.Outcome.{Says, Writes, OfBytes}
use Rattle.hem_cli.specs.declared.status.Status.{Status}
use Rattle.hem_cli.specs.declared.status.Status.TheVariants.{WriteFault, Memory}
use Rattle.hem_cli.proofs.Replies.{no_memory, no_write_fault}

of_nothing : (left : Option (List ℕ)) (P : List ℕ → Type 0) → ((bytes : List ℕ) → P bytes → ⊥) → OfBytes left P → ⊥
of_nothing None P never some = never some.0 some.1
of_nothing (Some bytes) P never some = never bytes some

-- a reply that was written whole
whole_writes : (words : List (List ℕ)) (left : Option (List ℕ)) (before now : ℕ) (a : Status) (x : List ℕ) (old new : Option (List ℕ)) → Says words left before now a x → Appends old new x → Writes words left before now a old new
whole_writes words left before now Memory x old new says made = absurd (of_nothing left (λ bytes. Answer words bytes Memory x) (λ bytes. no_memory words bytes x) says)
whole_writes words left before now WriteFault x old new says made = absurd (of_nothing left (λ bytes. Answer words bytes WriteFault x) (λ bytes. no_write_fault words bytes x) says)
whole_writes words left before now a x old new says made = (x, says, made)

-- a reply that was delivered, whole or in part
pub delivered_writes : (words : List (List ℕ)) (left : Option (List ℕ)) (before now : ℕ) (result a : Status) (x : List ℕ) (old new : Option (List ℕ)) (R : Type 0) → Says words left before now a x
    → ((result ≡ a) × Appends old new x) ⊎ ((result ≡ WriteFault) × R × AppendsPrefix old new x) → Writes words left before now result old new
delivered_writes words left before now result a x old new R says (inl made) = subst (λ r. Writes words left before now r old new) (sym made.0) (whole_writes words left before now a x old new says made.1)
delivered_writes words left before now result a x old new R says (inr fault) = subst (λ r. Writes words left before now r old new) (sym fault.0) (a, x, says, fault.2)
