-- Bytes are at most one document, or have one first fault, and never both.
use Rattle.std.proofs.Common.{◌≡◌, ◌∙◌, refl, sym, ap, ℕ, List, drop}
use Rattle.hem_text.specs.declared.text.Place.{Place}
use Rattle.hem_text.specs.declared.reader.TextFault.{TextFault}
use Rattle.hem_text.specs.declared.reader.TextError.TheVariants.{Text}
use Rattle.hem_text.specs.Lexemes.{Lexeme}
use Rattle.hem_text.specs.Tokens.{tokens_of, end_place}
use Rattle.hem_text.specs.Grammars.{Grammar, State, state}
use Rattle.hem_text.specs.Parts.{IsPart}
use Rattle.hem_text.specs.Faults.{IsFirstFault, place_at}
use Rattle.hem_syntax.specs.Protocol.{Protocol}
use Rattle.hem_parser.specs.ProtocolReading.{ReadsProtocol, IsFirstProtocolFault}
use Rattle.hem_tree.specs.declared.draft.TreeDraft.{TreeDraft}
use Rattle.hem_tree.specs.declared.raw.RawNode.{RawNode}
use Rattle.hem_tree.specs.Grammar as tree
use Rattle.hem_tree.specs.TreeReading.{ReadsTree}
use Rattle.hem_work.specs.declared.raw.RawWork.{RawWork}
use Rattle.hem_work.specs.Grammar as work
use Rattle.hem_work.specs.WorkReading.{ReadsWork, raw_of}
use Rattle.hem_history.specs.Grammar as history
use Rattle.hem_history.specs.HistoryReading.{ReadsHistory}
use Rattle.hem_base.specs.declared.ids.Firing.{Firing}
use Rattle.hem_document.specs.declared.documents.TreeDocument.{TreeDocument}
use Rattle.hem_document.specs.declared.documents.WorkDocument.{WorkDocument}
use Rattle.hem_document.specs.declared.documents.Document.{Document}
use Rattle.hem_document.specs.Fronts.{ReadsToTree, ReadsToWork, ReadsToHistory, IsFaultToTree, IsFaultToWork, IsFaultToHistory, to_tree}
use Rattle.hem_document.specs.Documents.{IsExact, IsProtocolDocument, IsTreeDocument, IsWorkDocument, IsDocument, IsProtocolDocumentFault, IsTreeDocumentFault, IsWorkDocumentFault, IsDocumentFault}
use Rattle.hem_document.proofs.OneAfterAnother.{IsExactFront, Both, one_after_another, exact_by, fault_is, whole_exact}

-- a part of a grammar is read once
pub part_once : {E T I : Type 0} (g : Grammar E T I) (s : State E T I) (ts d e : List Lexeme) (a b : E) → IsPart g s ts d a → IsPart g s ts e b → (d ≡ e) × (a ≡ b)
part_once g s ts d e a b p q =
    let same = q.only.once p.count a p.reads in
    (p.others ∙ (ap (λ n. drop n ts) same.0 ∙ sym q.others), same.1)

-- a grammar has one first fault
pub first_once : {E T I : Type 0} (g : Grammar E T I) (s : State E T I) (ts : List Lexeme) (end : Place) (a b : TextFault) → IsFirstFault g s ts end (Text a) → IsFirstFault g s ts end (Text b) → a ≡ b
first_once g s ts end a b p q =
    let same = q.4 p.0 a.cause p.1 in
    fault_is a b (p.2 ∙ (ap (place_at ts end) same.0 ∙ sym q.2)) same.1

tree_front : (ts : List Lexeme) (end : Place) → IsExactFront (ReadsTree ts) (λ f. IsFirstFault tree.grammar (state tree.nothing tree.start) ts end (Text f))
tree_front ts end =
    record {
      once = λ d e a b p q.
          let same = part_once tree.grammar (state tree.nothing tree.start) ts d e (record { nodes = a; level = 1 }) (record { nodes = b; level = 1 }) p.part q.part in
          (same.0, ap (λ (r : TreeDraft). r.nodes) same.1);
      fault_once = first_once tree.grammar (state tree.nothing tree.start) ts end;
      excludes = λ e a f p q. q.3 p.part.count (record { nodes = a; level = 1 }) p.part.reads;
    }

work_front : (p : Protocol) (ts : List Lexeme) (end : Place) → IsExactFront (ReadsWork p ts) (λ f. IsFirstFault work.grammar (state (work.nothing p) work.start) ts end (Text f))
work_front protocol ts end =
    record {
      once = λ d e a b p q.
          let same = part_once work.grammar (state (work.nothing protocol) work.start) ts d e p.read q.read p.part q.part in
          (same.0, p.says ∙ (ap raw_of same.1 ∙ sym q.says));
      fault_once = first_once work.grammar (state (work.nothing protocol) work.start) ts end;
      excludes = λ e a f p q. q.3 p.part.count p.read p.part.reads;
    }

history_front : (p : Protocol) (ts : List Lexeme) (end : Place) → IsExactFront (ReadsHistory p ts) (λ f. IsFirstFault history.grammar (state (history.nothing p) history.start) ts end (Text f))
history_front protocol ts end =
    record {
      once = λ d e a b p q.
          let same = part_once history.grammar (state (history.nothing protocol) history.start) ts d e p.read q.read p.part q.part in
          (same.0, p.says ∙ (ap (λ (r : history.Read). r.firings) same.1 ∙ sym q.says));
      fault_once = first_once history.grammar (state (history.nothing protocol) history.start) ts end;
      excludes = λ e a f p q. q.3 p.part.count p.read p.part.reads;
    }

-- a protocol has one first fault
protocol_fault_once : (ts : List Lexeme) (end : Place) (a b : TextFault) → IsFirstProtocolFault ts end (Text a) → IsFirstProtocolFault ts end (Text b) → a ≡ b
protocol_fault_once ts end a b p q =
    let same = q.1.once p.0 a.cause p.1.fault in
    fault_is a b (p.2 ∙ (ap (place_at ts end) same.0 ∙ sym q.2)) same.1

protocol_front : (ts : List Lexeme) (end : Place) → IsExactFront (ReadsProtocol ts) (λ f. IsFirstProtocolFault ts end (Text f))
protocol_front ts end =
    record {
      once = λ d e a b p q. q.only d a p.reads;
      fault_once = protocol_fault_once ts end;
      excludes = λ e a f p q. q.1.unread e a p.reads;
    }

-- a protocol and a tree
to_tree_front : (ts : List Lexeme) (end : Place) → IsExactFront (ReadsToTree ts) (IsFaultToTree ts end)
to_tree_front ts end =
    exact_by
    (Both (ReadsProtocol ts) (λ (rest : List Lexeme) (p : Protocol). ReadsTree rest))
    (ReadsToTree ts)
    (IsFaultToTree ts end)
    (λ d. (d.protocol, d.tree))
    (λ said. record { protocol = said.0; tree = said.1 })
    (λ d. refl)
    (λ e d reads. (reads.after_protocol, reads.protocol, reads.tree))
    (one_after_another (ReadsProtocol ts) _ (λ rest p. ReadsTree rest) (λ rest p f. IsFirstFault tree.grammar (state tree.nothing tree.start) rest end (Text f)) (protocol_front ts end) (λ rest p. tree_front rest end))

-- a protocol, a tree and a work
to_work_front : (ts : List Lexeme) (end : Place) → IsExactFront (ReadsToWork ts) (IsFaultToWork ts end)
to_work_front ts end =
    exact_by
    (Both (ReadsToTree ts) (λ (rest : List Lexeme) (d : TreeDocument). ReadsWork d.protocol rest))
    (ReadsToWork ts)
    (IsFaultToWork ts end)
    (λ d. (to_tree d, d.work))
    (λ said. record { protocol = said.0.protocol; tree = said.0.tree; work = said.1 })
    (λ d. refl)
    (λ e d reads. (reads.after_tree, reads.before, reads.work))
    (one_after_another (ReadsToTree ts) _ (λ rest d. ReadsWork d.protocol rest) (λ rest d f. IsFirstFault work.grammar (state (work.nothing d.protocol) work.start) rest end (Text f)) (to_tree_front ts end) (λ rest d. work_front d.protocol rest end))

-- a protocol, a tree, a work and a history
to_history_front : (ts : List Lexeme) (end : Place) → IsExactFront (ReadsToHistory ts) (IsFaultToHistory ts end)
to_history_front ts end =
    exact_by
    (Both (ReadsToWork ts) (λ (rest : List Lexeme) (d : WorkDocument). ReadsHistory d.protocol rest))
    (ReadsToHistory ts)
    (IsFaultToHistory ts end)
    (λ d. (d.setup, d.history))
    (λ said. record { setup = said.0; history = said.1 })
    (λ d. refl)
    (λ e d reads. (reads.after_work, reads.setup, reads.history))
    (one_after_another (ReadsToWork ts) _ (λ rest d. ReadsHistory d.protocol rest) (λ rest d f. IsFirstFault history.grammar (state (history.nothing d.protocol) history.start) rest end (Text f)) (to_work_front ts end) (λ rest d. history_front d.protocol rest end))

-- bytes that are to be a protocol
pub protocol_exact : (bytes : List ℕ) → IsExact (IsProtocolDocument bytes) (IsProtocolDocumentFault bytes)
protocol_exact bytes = whole_exact (ReadsProtocol (tokens_of bytes)) (λ f. IsFirstProtocolFault (tokens_of bytes) (end_place bytes) (Text f)) (protocol_front (tokens_of bytes) (end_place bytes))

-- bytes that are to be a protocol and a tree
pub tree_exact : (bytes : List ℕ) → IsExact (IsTreeDocument bytes) (IsTreeDocumentFault bytes)
tree_exact bytes = whole_exact (ReadsToTree (tokens_of bytes)) (IsFaultToTree (tokens_of bytes) (end_place bytes)) (to_tree_front (tokens_of bytes) (end_place bytes))

-- bytes that are to be a protocol, a tree and a work
pub work_exact : (bytes : List ℕ) → IsExact (IsWorkDocument bytes) (IsWorkDocumentFault bytes)
work_exact bytes = whole_exact (ReadsToWork (tokens_of bytes)) (IsFaultToWork (tokens_of bytes) (end_place bytes)) (to_work_front (tokens_of bytes) (end_place bytes))

-- bytes that are to be a whole document
pub document_exact : (bytes : List ℕ) → IsExact (IsDocument bytes) (IsDocumentFault bytes)
document_exact bytes = whole_exact (ReadsToHistory (tokens_of bytes)) (IsFaultToHistory (tokens_of bytes) (end_place bytes)) (to_history_front (tokens_of bytes) (end_place bytes))
