-- A made document reads as the document that it says.
use Rattle.std.proofs.Common.{◌≡◌, [], ◌++◌, length, refl, sym, ap, ◌∙◌, subst, append_assoc, append-nil, None}
use Rattle.std.specs.Prelude.{fold}
use Rattle.hem_text.specs.declared.text.Place.{Place}
use Rattle.hem_text.specs.Tokens.{advance, tokens_from, start_place}
use Rattle.hem_syntax.specs.Protocol.{Text}
use Rattle.hem_syntax.specs.Lawful.{IsProtocol}
use Rattle.hem_tree.specs.Tree.{Tree, IsLawful}
use Rattle.hem_work.specs.Work.{Work}
use Rattle.hem_work.specs.Lawful.{IsLawfulWork}
use Rattle.hem_work.specs.Building.{first_fault, work_of}
use Rattle.hem_work.specs.WorkReading.{ReadsWork}
use Rattle.hem_worktext.specs.TreeText.{tree_text}
use Rattle.hem_worktext.specs.WorkText.{work_text}
use Rattle.hem_worktext.proofs.TreeBack.{tree_back}
use Rattle.hem_worktext.proofs.WorkBack.{work_back}
use Rattle.hem_document.specs.declared.documents.WorkDocument.{WorkDocument}
use Rattle.hem_document.specs.Documents.{IsWorkDocument}
use Rattle.hem_document.specs.SetUp.{document_of}
use Rattle.hem_cli.specs.Making.{protocol_part, made_text}
use Rattle.hem_madetext.specs.ReadsBack.{HasAllNumbers, ReadsAs}
use Rattle.hem_madetext.proofs.ProtocolBack.{protocol_back}

pub document_back : (bytes : Text) (d : WorkDocument) (tree : Tree) (work : Work) → IsWorkDocument bytes d → IsProtocol d.protocol → IsLawful tree → IsLawfulWork d.protocol tree work → HasAllNumbers work
    → ReadsAs (made_text bytes d.protocol tree work) d.protocol tree work
document_back bytes d tree work reads good lawful fits numbers =
    let p = d.protocol in
    let first : Text = protocol_part bytes p in
    let last : Text = work_text p work in
    let after_first : Place = fold advance start_place first in
    let after_tree : Place = fold advance after_first (tree_text tree) in
    let t = tree_back tree lawful after_first last in
    let w = work_back p tree work good lawful fits (λ o lt. numbers o) after_tree [] in
    let e : WorkDocument = document_of p t.nodes w.raw in
    let whole : IsWorkDocument (first ++ (tree_text tree ++ last)) e = record {
      after_tree = tokens_from 0 after_tree last;
      before = record {
        after_protocol = tokens_from 0 after_first (tree_text tree ++ last);
        protocol = protocol_back bytes reads.before.after_protocol p reads.before.protocol good (tree_text tree ++ last);
        tree = t.reads;
      };
      work = subst (λ text. ReadsWork p (tokens_from 0 after_tree text) [] w.raw) (append-nil last) w.reads;
    } in
    record {
      document = e;
      reads = subst (λ text. IsWorkDocument text e) (sym (append_assoc first (tree_text tree) last)) whole;
      set_up = record { tree = subst IsLawful (sym t.says) lawful; work = subst (λ s. first_fault w.raw p s ≡ None) (sym t.says) w.faultless };
      same_protocol = refl;
      same_tree = t.says;
      same_work = ap (λ s. work_of w.raw (length s)) t.says ∙ w.says;
    }
