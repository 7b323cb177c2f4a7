-- Whether a document's tree and work are lawful, and the first rule that they break.
use Rattle.std.specs.Prelude.{◌≡◌, ◌⊎◌, List, Some, None, length}
use Rattle.hem_syntax.specs.Protocol.{Protocol}
use Rattle.hem_tree.specs.declared.raw.RawNode.{RawNode}
use Rattle.hem_tree.specs.declared.setup.SetupFault.{SetupFault as Fault}
use Rattle.hem_tree.specs.declared.setup.SetupError.{SetupError}
use Rattle.hem_tree.specs.declared.setup.SetupError.TheVariants.{Setup, OutOfMemory}
use Rattle.hem_tree.specs.Tree.{Tree, IsLawful}
use Rattle.hem_tree.specs.Raw.{tree_of}
use Rattle.hem_tree.specs.Building.{IsTreeFault}
use Rattle.hem_work.specs.declared.raw.RawWork.{RawWork}
use Rattle.hem_work.specs.Work.{Work}
use Rattle.hem_work.specs.Building.{first_fault, work_of}
use Rattle.hem_document.specs.declared.documents.WorkDocument.{WorkDocument}

-- a protocol, a tree and a work as one document
abbrev pub document_of : Protocol → List RawNode → RawWork → WorkDocument
document_of protocol tree work = record { protocol = protocol; tree = tree; work = work }

-- the tree of objects of a document
abbrev pub tree_in : WorkDocument → Tree
tree_in d = tree_of d.tree

-- the work of a document
abbrev pub work_in : WorkDocument → Work
work_in d = work_of d.work (length (tree_in d))

-- tree and work are lawful
pub record IsSetUp (d : WorkDocument) : Type 0 where
  pub tree : IsLawful (tree_in d)
  pub work : first_fault d.work d.protocol (tree_in d) ≡ None

-- the tree is lawful, and this is the first rule that the work breaks
pub record IsWorkFault (d : WorkDocument) (fault : Fault) : Type 0 where
  pub tree : IsLawful (tree_in d)
  pub first : first_fault d.work d.protocol (tree_in d) ≡ Some fault

-- the first rule that the tree breaks, or where it is lawful the work
abbrev pub IsSetupFault : WorkDocument → Fault → Type 0
IsSetupFault d fault = IsTreeFault d.tree fault ⊎ IsWorkFault d fault

-- the document can't be set up for a fault, unless memory ran out
abbrev pub IsNotSetUp : WorkDocument → SetupError → Type 0
IsNotSetUp d (Setup fault) = IsSetupFault d fault
IsNotSetUp d OutOfMemory = Unit {0}
