-- What refuses bytes and documents before a job is done, and what is ready for one.
use Rattle.std.specs.Prelude.{◌≡◌, ◌⊎◌, List, ℕ, Some}
use Rattle.hem_tree.specs.declared.setup.SetupFault.{SetupFault}
use Rattle.hem_text.specs.declared.reader.TextFault.{TextFault}
use Rattle.hem_syntax.specs.Protocol.{Protocol}
use Rattle.hem_check.specs.Discipline.{Broken, IsDisciplined, first_broken}
use Rattle.hem_check.specs.Refused.{refusal_of}
use Rattle.hem_report.specs.RefusalText.{refusal_text}
use Rattle.hem_document.specs.declared.documents.WorkDocument.{WorkDocument}
use Rattle.hem_document.specs.SetUp.{IsSetUp, IsSetupFault}
use Rattle.hem_cli.specs.Texts.{fault_text, setup_text}
use Rattle.hem_cli.specs.declared.status.Status.{Status}
use Rattle.hem_cli.specs.declared.status.Status.TheVariants.{Text, Refused, Setup}

-- bytes that aren't what is wanted, and the text of their first fault
pub record IsUnread (IsFault : TextFault → Type 0) (text : List ℕ) : Type 0 where
  pub fault : TextFault
  pub first : IsFault fault
  pub says : text ≡ fault_text fault

-- a protocol that isn't disciplined, and the text of the first rule that breaks a clause
pub record IsRefused (p : Protocol) (text : List ℕ) : Type 0 where
  pub broken : Broken
  pub first : first_broken p ≡ Some broken
  pub says : text ≡ refusal_text (refusal_of p broken)

-- a document with a disciplined protocol, whose tree or work isn't lawful, and the text of the first rule that is broken
pub record IsUnlawful (d : WorkDocument) (text : List ℕ) : Type 0 where
  pub disciplined : IsDisciplined d.protocol
  pub fault : SetupFault
  pub first : IsSetupFault d fault
  pub says : text ≡ setup_text fault

-- what refuses a document before its job: its protocol, and then its tree or its work
abbrev pub IsUnready : WorkDocument → Status → List ℕ → Type 0
IsUnready d status text = ((status ≡ Refused) × IsRefused d.protocol text) ⊎ ((status ≡ Setup) × IsUnlawful d text)

-- a document with a disciplined protocol, a lawful tree and a lawful work
pub record IsReady (d : WorkDocument) : Type 0 where
  pub disciplined : IsDisciplined d.protocol
  pub lawful : IsSetUp d

-- the reply to a document: what refuses it before its job, or what its job makes of it
abbrev pub IsReplyTo : WorkDocument → (Status → List ℕ → Type 0) → Status → List ℕ → Type 0
IsReplyTo d IsMade status text = IsUnready d status text ⊎ (IsReady d × IsMade status text)

-- the answer to bytes: their first fault, or where they are a document the reply to it
abbrev pub IsAnswerTo : {D : Type 0} → (TextFault → Type 0) → (D → Type 0) → (D → Status → List ℕ → Type 0) → Status → List ℕ → Type 0
IsAnswerTo {D} IsFault Reads reply status text = ((status ≡ Text) × IsUnread IsFault text) ⊎ ((d : D) × Reads d × reply d status text)
