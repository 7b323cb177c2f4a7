-- What the job `emit` makes of a protocol and a tree.
use Rattle.std.specs.Prelude.{◌≡◌, ◌⊎◌, List, ℕ}
use Rattle.hem_syntax.specs.Protocol.{Protocol}
use Rattle.hem_check.specs.Discipline.{IsDisciplined}
use Rattle.hem_tree.specs.declared.raw.RawNode.{RawNode}
use Rattle.hem_tree.specs.declared.setup.SetupFault.{SetupFault}
use Rattle.hem_tree.specs.Tree.{Tree, IsLawful}
use Rattle.hem_tree.specs.Raw.{tree_of}
use Rattle.hem_tree.specs.Building.{IsTreeFault}
use Rattle.hem_module.specs.Modules.{Modules}
use Rattle.hem_modprint.specs.ModulesText.{modules_text}
use Rattle.hem_modprint.specs.ReadsBack.{ReadsBack}
use Rattle.hem_emit.specs.Written.{modules_of}
use Rattle.hem_emit.specs.Matches.{Matches}
use Rattle.hem_document.specs.declared.documents.TreeDocument.{TreeDocument}
use Rattle.hem_cli.specs.Texts.{setup_text}
use Rattle.hem_cli.specs.Refusals.{IsRefused}
use Rattle.hem_cli.specs.declared.status.Status.{Status}
use Rattle.hem_cli.specs.declared.status.Status.TheVariants.{Done, Refused, Setup}

-- the text of the modules of a protocol on a tree: their rules do exactly what its firings do, and the text reads as these modules
pub record IsEmitted (p : Protocol) (tree : Tree) (text : List ℕ) : Type 0 where
  pub modules : Modules
  pub of : modules ≡ modules_of p tree
  pub matches : Matches p tree modules
  pub says : text ≡ modules_text modules
  pub reads_back : ReadsBack modules

-- nodes whose tree isn't lawful, and the text of the first limit that it passes
pub record IsUnlawfulTree (nodes : List RawNode) (text : List ℕ) : Type 0 where
  pub fault : SetupFault
  pub first : IsTreeFault nodes fault
  pub says : text ≡ setup_text fault

-- what comes of a disciplined protocol and the nodes of a tree: the tree isn't lawful, or the modules on it
abbrev pub IsOnTree : Protocol → List RawNode → Status → List ℕ → Type 0
IsOnTree p nodes status text =
    ((status ≡ Setup) × IsUnlawfulTree nodes text)
    ⊎ ((status ≡ Done) × IsLawful (tree_of nodes) × IsEmitted p (tree_of nodes) text)

-- the reply of `emit` to a document: its protocol is refused, or what comes of it
abbrev pub IsEmitReply : TreeDocument → Status → List ℕ → Type 0
IsEmitReply d status text =
    ((status ≡ Refused) × IsRefused d.protocol text)
    ⊎ (IsDisciplined d.protocol × IsOnTree d.protocol d.tree status text)
