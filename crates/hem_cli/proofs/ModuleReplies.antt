-- The replies of `emit` and `play`.
use Rattle.std.proofs.Common.{◌≡◌, subst, ℕ, List, Some, inl, inr, string_bytes}
use Rattle.std.specs.Prelude.{Result, Ok, Err, IfOk, OnOk, option_map}
use Rattle.hem_base.specs.declared.outside.OutOfMemory.{OutOfMemory}
use Rattle.hem_syntax.specs.Protocol.{Protocol}
use Rattle.hem_check.specs.Discipline.{IsDisciplined, first_broken}
use Rattle.hem_check.specs.Refused.{refusal_of}
use Rattle.hem_check.specs.declared.refusal.Refusal.{Refusal}
use Rattle.hem_tree.specs.declared.raw.RawNode.{RawNode}
use Rattle.hem_tree.specs.Tree.{Tree, IsLawful}
use Rattle.hem_tree.specs.Raw.{tree_of}
use Rattle.hem_module.specs.declared.turns.Played.{Played}
use Rattle.hem_module.specs.Modules.{Modules}
use Rattle.hem_module.specs.States.{State}
use Rattle.hem_module.specs.Turns.{IsPlayed}
use Rattle.hem_modtext.specs.declared.feed.Fed.{Fed}
use Rattle.hem_modprint.specs.ModulesText.{modules_text}
use Rattle.hem_modprint.specs.PlayText.{play_text}
use Rattle.hem_modprint.specs.ReadsBack.{ReadsBack}
use Rattle.hem_emit.specs.Written.{modules_of}
use Rattle.hem_emit.specs.Matches.{Matches}
use Rattle.hem_document.specs.declared.documents.TreeDocument.{TreeDocument}
use Rattle.hem_cli.specs.Refusals.{IsRefused}
use Rattle.hem_cli.specs.Emitting.{IsEmitted, IsOnTree, IsEmitReply}
use Rattle.hem_cli.specs.Playing.{fed_start, IsPlay}
use Rattle.hem_cli.specs.declared.reply.Reply.{Reply}
use Rattle.hem_cli.specs.declared.status.Status.{Status}
use Rattle.hem_cli.specs.declared.status.Status.TheVariants.{Done, Refused}

-- the text of the modules of a protocol on a tree
pub emitted_told : {S : Type 0} (bytes : S → List ℕ) (p : Protocol) (tree : Tree) (m : Modules) (r : Result S OutOfMemory) → m ≡ modules_of p tree → Matches p tree m → IfOk r (λ s. bytes s ≡ modules_text m) → OnOk r (ReadsBack m) → IfOk r (λ s. IsEmitted p tree (bytes s))
emitted_told bytes p tree m (Ok s) of matches says back = record { modules = m; of = of; matches = matches; says = says; reads_back = back }
emitted_told bytes p tree m (Err e) of matches says back = tt

-- on a lawful tree that is built of nodes
pub on_tree_told : (p : Protocol) (nodes : List RawNode) (tree : Tree) (a : Status) (x : List ℕ) → tree ≡ tree_of nodes → IsLawful tree → a ≡ Done → IsEmitted p tree x → IsOnTree p nodes a x
on_tree_told p nodes tree a x is lawful done emitted = inr (done, subst IsLawful is lawful, subst (λ t. IsEmitted p t x) is emitted)

-- a disciplined protocol has what comes of it on the tree for a reply
pub emit_accepted : (d : TreeDocument) (accepted : Protocol) (r : Result Reply OutOfMemory) → accepted ≡ d.protocol → IsDisciplined d.protocol
    → IfOk r (λ x. IsOnTree accepted d.tree x.status (string_bytes x.text)) → IfOk r (λ x. IsEmitReply d x.status (string_bytes x.text))
emit_accepted d accepted (Ok x) same disciplined told = inr (disciplined, subst (λ p. IsOnTree p d.tree x.status (string_bytes x.text)) same told)
emit_accepted d accepted (Err e) same disciplined told = tt

-- and another its refusal
pub emit_refused : (d : TreeDocument) (refusal : Refusal) (r : Result Reply OutOfMemory) → option_map (refusal_of d.protocol) (first_broken d.protocol) ≡ Some refusal → IfOk r (λ x. x.status ≡ Refused)
    → IfOk r (λ x. (q : Protocol) → option_map (refusal_of q) (first_broken q) ≡ Some refusal → IsRefused q (string_bytes x.text)) → IfOk r (λ x. IsEmitReply d x.status (string_bytes x.text))
emit_refused d refusal (Ok x) is status text = inl (status, text d.protocol is)
emit_refused d refusal (Err e) is status text = tt

-- the text of a play
pub play_told : {S : Type 0} (bytes : S → List ℕ) (m : Modules) (feed : List Fed) (start end : State) (most : ℕ) (played : Played) (r : Result S OutOfMemory) → start ≡ fed_start m feed → IsPlayed m start most end played
    → IfOk r (λ s. bytes s ≡ play_text m end played) → IfOk r (λ s. IsPlay m feed most (bytes s))
play_told bytes m feed start end most played (Ok s) from is says =
    record { played = played; end = end; is = subst (λ state. IsPlayed m state most end played) from is; says = says }
play_told bytes m feed start end most played (Err e) from is says = tt
