-- What it means that the canonical texts of trees and works read as these.
use Rattle.std.specs.Prelude.{ℕ, ◌≡◌, ◌<◌, ◌^◌, None, List, ◌++◌, length, fold, All}
use Rattle.hem_base.specs.declared.ids.Message.{Message}
use Rattle.hem_text.specs.declared.text.Place.{Place}
use Rattle.hem_text.specs.Tokens.{tokens_from, advance}
use Rattle.hem_syntax.specs.Protocol.{Text, Protocol}
use Rattle.hem_tree.specs.declared.raw.RawNode.{RawNode}
use Rattle.hem_tree.specs.Tree.{Tree, IsLawful}
use Rattle.hem_tree.specs.Raw.{tree_of}
use Rattle.hem_tree.specs.TreeReading.{ReadsTree}
use Rattle.hem_work.specs.declared.raw.RawWork.{RawWork}
use Rattle.hem_work.specs.Work.{Work, requests_of}
use Rattle.hem_work.specs.Lawful.{IsLawfulWork}
use Rattle.hem_work.specs.Building.{work_of, first_fault}
use Rattle.hem_work.specs.WorkReading.{ReadsWork}
use Rattle.hem_worktext.specs.TreeText.{tree_text}
use Rattle.hem_worktext.specs.WorkText.{work_text}

-- the canonical text of a tree, at this place and before this other text, reads as that tree
pub record TreeReadsBack (tree : Tree) (place : Place) (tail : Text) : Type 0 where
  pub nodes : List RawNode
  pub reads : ReadsTree (tokens_from 0 place (tree_text tree ++ tail)) (tokens_from 0 (fold advance place (tree_text tree)) tail) nodes
  pub says : tree_of nodes ≡ tree

-- the canonical text of the tree reads back, wherever it stands and whatever follows
abbrev pub TreeTextReads : Tree → Type 0
TreeTextReads tree = (place : Place) (tail : Text) → TreeReadsBack tree place tail

-- the canonical text of a work over a tree, at this place and before this other text, reads as that work, but for the place of its first word
pub record WorkReadsBack (p : Protocol) (tree : Tree) (work : Work) (place : Place) (tail : Text) : Type 0 where
  pub raw : RawWork
  pub reads : ReadsWork p (tokens_from 0 place (work_text p work ++ tail)) (tokens_from 0 (fold advance place (work_text p work)) tail) raw
  pub faultless : first_fault raw p tree ≡ None
  pub says : work_of raw (length tree) ≡ record work { place = raw.place }

-- each value has 64 bits at most
abbrev pub AreNumbers : List Message → Type 0
AreNumbers requests = All (λ m. m.value < 2 ^ 64) requests

-- the values of an object's requests are such numbers
abbrev pub HasNumbers : Work → ℕ → Type 0
HasNumbers work o = (line : ℕ) → line < work.lines → AreNumbers (requests_of work line o)

-- the canonical text of the work reads back over each lawful tree that the work fits, wherever the text stands and whatever follows
abbrev pub WorkTextReads : Protocol → Work → Type 0
WorkTextReads p work = (tree : Tree) (place : Place) (tail : Text) → IsLawful tree → IsLawfulWork p tree work → WorkReadsBack p tree work place tail
