-- What a document is made into before its job.
use Rattle.std.specs.Prelude.{◌≡◌, string_bytes}
use Rattle.hem_document.specs.declared.documents.WorkDocument.{WorkDocument}
use Rattle.hem_document.specs.SetUp.{tree_in, work_in}
use Rattle.hem_cli.specs.Refusals.{IsReady, IsUnready}
use Rattle.hem_cli.specs.declared.preparing.Ready.{Ready}
use Rattle.hem_cli.specs.declared.preparing.Prepared.{Prepared}
use Rattle.hem_cli.specs.declared.preparing.Prepared.TheVariants.{ForJob, Answered}

-- the protocol, the tree and the work of a document
pub record IsOf (d : WorkDocument) (ready : Ready) : Type 0 where
  pub protocol : ready.accepted ≡ d.protocol
  pub tree : ready.tree ≡ tree_in d
  pub work : ready.work ≡ work_in d

-- a document is ready for its job, or has its reply
abbrev pub IsPrepared : WorkDocument → Prepared → Type 0
IsPrepared d (ForJob ready) = IsReady d × IsOf d ready
IsPrepared d (Answered reply) = IsUnready d reply.status (string_bytes reply.text)
