-- A document has one reply of `emit`.
use Rattle.std.proofs.Common.{◌≡◌, ◌∙◌, sym, ap, ℕ, List}
use Rattle.hem_syntax.specs.Protocol.{Protocol}
use Rattle.hem_check.specs.Discipline.{IsDisciplined}
use Rattle.hem_tree.specs.declared.raw.RawNode.{RawNode}
use Rattle.hem_tree.specs.Tree.{Tree, IsLawful}
use Rattle.hem_tree.specs.Raw.{tree_of}
use Rattle.hem_modprint.specs.ModulesText.{modules_text}
use Rattle.hem_document.specs.declared.documents.TreeDocument.{TreeDocument}
use Rattle.hem_document.proofs.SetUpOnce.{tree_fault_once}
use Rattle.hem_cli.specs.Texts.{setup_text}
use Rattle.hem_cli.specs.Refusals.{IsRefused}
use Rattle.hem_cli.specs.Emitting.{IsEmitted, IsUnlawfulTree, IsOnTree, IsEmitReply}
use Rattle.hem_cli.specs.declared.status.Status.TheVariants.{Done, Refused, Setup}
use Rattle.hem_cli.proofs.Ways.{IsOnce, Same, status_once, either_once}
use Rattle.hem_cli.proofs.RefusedOnce.{refused_once, refused_excludes}

emitted_once : (p : Protocol) (tree : Tree) (x y : List ℕ) → IsEmitted p tree x → IsEmitted p tree y → x ≡ y
emitted_once p tree x y one other = one.says ∙ (ap modules_text (one.of ∙ sym other.of) ∙ sym other.says)

unlawful_once : (nodes : List RawNode) (x y : List ℕ) → IsUnlawfulTree nodes x → IsUnlawfulTree nodes y → x ≡ y
unlawful_once nodes x y one other = one.says ∙ (ap setup_text (tree_fault_once nodes one.fault other.fault one.first other.first) ∙ sym other.says)

on_tree_once : (p : Protocol) (nodes : List RawNode) → IsOnce (IsOnTree p nodes)
on_tree_once p nodes =
    either_once Same (λ a x. (a ≡ Setup) × IsUnlawfulTree nodes x) (λ a x. (a ≡ Done) × IsLawful (tree_of nodes) × IsEmitted p (tree_of nodes) x)
    (status_once Same Setup (IsUnlawfulTree nodes) (unlawful_once nodes))
    (λ a b x y one other. (one.0 ∙ sym other.0, emitted_once p (tree_of nodes) x y one.2 other.2))
    (λ a b x y one other. one.1.first.unlawful other.1)

-- a document has one reply
pub emit_once : (d : TreeDocument) → IsOnce (IsEmitReply d)
emit_once d =
    either_once Same (λ a x. (a ≡ Refused) × IsRefused d.protocol x) (λ a x. IsDisciplined d.protocol × IsOnTree d.protocol d.tree a x)
    (status_once Same Refused (IsRefused d.protocol) (refused_once d.protocol))
    (λ a b x y one other. on_tree_once d.protocol d.tree a b x y one.1 other.1)
    (λ a b x y one other. refused_excludes d.protocol x one.1 other.0)
