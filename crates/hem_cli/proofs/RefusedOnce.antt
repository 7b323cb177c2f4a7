-- A protocol is refused once, and never where it is disciplined.
use Rattle.std.proofs.Common.{◌≡◌, ◌∙◌, sym, ap, ℕ, List, Option, Some, None}
use Rattle.hem_syntax.specs.Protocol.{Protocol}
use Rattle.hem_check.specs.Discipline.{Broken, IsDisciplined, first_broken}
use Rattle.hem_check.specs.Refused.{refusal_of}
use Rattle.hem_check.proofs.Clauses.{exact}
use Rattle.hem_report.specs.RefusalText.{refusal_text}
use Rattle.hem_cli.specs.Refusals.{IsRefused}

-- a protocol has one first broken rule, and none where it is disciplined
broken_once : (o : Option Broken) (a b : Broken) → o ≡ Some a → o ≡ Some b → a ≡ b
broken_once o a b one other = cc

broken_or_not : (o : Option Broken) (a : Broken) → o ≡ Some a → o ≡ None → ⊥
broken_or_not o a one other = cc

pub refused_once : (p : Protocol) (x y : List ℕ) → IsRefused p x → IsRefused p y → x ≡ y
refused_once d x y p q = p.says ∙ (ap (λ b. refusal_text (refusal_of d b)) (broken_once (first_broken d) p.broken q.broken p.first q.first) ∙ sym q.says)

pub refused_excludes : (p : Protocol) (x : List ℕ) → IsRefused p x → IsDisciplined p → ⊥
refused_excludes d x p disciplined = broken_or_not (first_broken d) p.broken p.first ((exact d).1 disciplined)
