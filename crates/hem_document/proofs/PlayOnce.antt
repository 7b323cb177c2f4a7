-- Bytes are at most one document to play, or have one first fault, and never both.
use Rattle.std.proofs.Common.{◌≡◌, ◌∙◌, refl, sym, ap, ℕ, List}
use Rattle.hem_text.specs.declared.text.Place.{Place}
use Rattle.hem_text.specs.declared.reader.TextError.TheVariants.{Text}
use Rattle.hem_text.specs.Lexemes.{Lexeme}
use Rattle.hem_text.specs.Tokens.{tokens_of, end_place}
use Rattle.hem_text.specs.Grammars.{state}
use Rattle.hem_text.specs.Faults.{IsFirstFault}
use Rattle.hem_module.specs.Modules.{Modules}
use Rattle.hem_modtext.specs.Grammar as modules_grammar
use Rattle.hem_modtext.specs.Draft as modules
use Rattle.hem_modtext.specs.ModulesReading.{ReadsModules}
use Rattle.hem_modtext.specs.Feeding as feed
use Rattle.hem_modtext.specs.Feeding.{ReadsFeed, FeedRead}
use Rattle.hem_document.specs.declared.documents.PlayDocument.{PlayDocument}
use Rattle.hem_document.specs.Documents.{IsExact}
use Rattle.hem_document.specs.Playing.{ReadsToFeed, IsFaultToFeed, IsPlayDocument, IsPlayDocumentFault}
use Rattle.hem_document.proofs.OneAfterAnother.{IsExactFront, Both, one_after_another, exact_by, whole_exact}
use Rattle.hem_document.proofs.ReadOnce.{part_once, first_once}

modules_front : (ts : List Lexeme) (end : Place) → IsExactFront (ReadsModules ts) (λ f. IsFirstFault modules.grammar (state modules.nothing modules_grammar.start) ts end (Text f))
modules_front ts end =
    record {
      once = λ d e a b p q.
          let same = part_once modules.grammar (state modules.nothing modules_grammar.start) ts d e p.read q.read p.part q.part in
          (same.0, p.says ∙ (ap modules.modules_of same.1 ∙ sym q.says));
      fault_once = first_once modules.grammar (state modules.nothing modules_grammar.start) ts end;
      excludes = λ e a f p q. q.3 p.part.count p.read p.part.reads;
    }

feed_front : (m : Modules) (ts : List Lexeme) (end : Place) → IsExactFront (ReadsFeed m ts) (λ f. IsFirstFault feed.grammar (state (feed.nothing m) feed.start) ts end (Text f))
feed_front m ts end =
    record {
      once = λ d e a b p q.
          let same = part_once feed.grammar (state (feed.nothing m) feed.start) ts d e p.read q.read p.part q.part in
          (same.0, p.says ∙ (ap (λ (r : FeedRead). r.fed) same.1 ∙ sym q.says));
      fault_once = first_once feed.grammar (state (feed.nothing m) feed.start) ts end;
      excludes = λ e a f p q. q.3 p.part.count p.read p.part.reads;
    }

-- modules and a feed
to_feed_front : (ts : List Lexeme) (end : Place) → IsExactFront (ReadsToFeed ts) (IsFaultToFeed ts end)
to_feed_front ts end =
    exact_by
    (Both (ReadsModules ts) (λ (rest : List Lexeme) (m : Modules). ReadsFeed m rest))
    (ReadsToFeed ts)
    (IsFaultToFeed ts end)
    (λ d. (d.modules, d.feed))
    (λ said. record { modules = said.0; feed = said.1 })
    (λ d. refl)
    (λ e d reads. (reads.after_modules, reads.modules, reads.feed))
    (one_after_another (ReadsModules ts) _ (λ rest m. ReadsFeed m rest) (λ rest m f. IsFirstFault feed.grammar (state (feed.nothing m) feed.start) rest end (Text f)) (modules_front ts end) (λ rest m. feed_front m rest end))

-- bytes that are to be modules and a feed
pub play_exact : (bytes : List ℕ) → IsExact (IsPlayDocument bytes) (IsPlayDocumentFault bytes)
play_exact bytes = whole_exact (ReadsToFeed (tokens_of bytes)) (IsFaultToFeed (tokens_of bytes) (end_place bytes)) (to_feed_front (tokens_of bytes) (end_place bytes))
