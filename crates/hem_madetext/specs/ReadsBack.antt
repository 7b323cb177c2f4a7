-- What it means that a text reads as a document of this protocol, this tree and this work.
use Rattle.std.specs.Prelude.{ℕ, ◌≡◌, List}
use Rattle.hem_syntax.specs.Protocol.{Protocol}
use Rattle.hem_tree.specs.Tree.{Tree}
use Rattle.hem_work.specs.Work.{Work}
use Rattle.hem_work.specs.Made.{made}
use Rattle.hem_worktext.specs.ReadsBack.{HasNumbers}
use Rattle.hem_document.specs.declared.documents.WorkDocument.{WorkDocument}
use Rattle.hem_document.specs.Documents.{IsWorkDocument}
use Rattle.hem_document.specs.SetUp.{IsSetUp, tree_in, work_in}

-- the values of all requests have 64 bits at most
abbrev pub HasAllNumbers : Work → Type 0
HasAllNumbers work = (o : ℕ) → HasNumbers work o

-- the bytes are a lawful document of this protocol, this tree and this work, but for the place of its word `work`
pub record ReadsAs (bytes : List ℕ) (p : Protocol) (tree : Tree) (work : Work) : Type 0 where
  pub document : WorkDocument
  pub reads : IsWorkDocument bytes document
  pub set_up : IsSetUp document
  pub same_protocol : document.protocol ≡ p
  pub same_tree : tree_in document ≡ tree
  pub same_work : work_in document ≡ record work { place = document.work.place }

-- the document's work with generated requests
abbrev pub made_in : WorkDocument → ℕ → ℕ → Work
made_in d count seed = made d.protocol (tree_in d) (work_in d) count seed
