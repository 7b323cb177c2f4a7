-- A document with generated requests reads as the document that it says.
use Rattle.std.proofs.Common.{◌≡◌, ℕ, length, None}
use Rattle.hem_syntax.specs.Protocol.{Text}
use Rattle.hem_syntax.specs.Lawful.{IsProtocol}
use Rattle.hem_work.specs.Made.{made_fault}
use Rattle.hem_work.proofs.Fits.{lawful_work}
use Rattle.hem_work.proofs.MadeFits.{made_lawful}
use Rattle.hem_document.specs.declared.documents.WorkDocument.{WorkDocument}
use Rattle.hem_document.specs.Documents.{IsWorkDocument}
use Rattle.hem_document.specs.SetUp.{IsSetUp, tree_in, work_in}
use Rattle.hem_cli.specs.Making.{made_text}
use Rattle.hem_madetext.specs.ReadsBack.{ReadsAs, made_in}
use Rattle.hem_madetext.proofs.DocumentBack.{document_back}
use Rattle.hem_madetext.proofs.Numbers.{read_numbers, made_numbers}

pub generated_back : (bytes : Text) (d : WorkDocument) (count seed : ℕ) → IsWorkDocument bytes d → IsProtocol d.protocol → IsSetUp d → made_fault d.protocol (tree_in d) (work_in d) count ≡ None
    → ReadsAs (made_text bytes d.protocol (tree_in d) (made_in d count seed)) d.protocol (tree_in d) (made_in d count seed)
generated_back bytes d count seed reads good set_up none =
    let p = d.protocol in
    let fits = lawful_work d.work p (tree_in d) set_up.work in
    let numbers = read_numbers p _ _ d.work (length (tree_in d)) reads.work in
    document_back bytes d (tree_in d) (made_in d count seed) reads good set_up.tree
    (made_lawful p (tree_in d) (work_in d) count seed set_up.tree fits none)
    (made_numbers p (tree_in d) (work_in d) count seed numbers none)
