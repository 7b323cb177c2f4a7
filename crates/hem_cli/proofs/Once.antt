-- Words and bytes have one answer, but for the text of a run.
use Rattle.std.proofs.Common.{◌≡◌, ◌∙◌, refl, sym, ap, subst, arith, ℕ, ◌<◌, ◌≤◌, List, length, Option, Some, None, inl, inr}
use Rattle.std.specs.Prelude.{◌⊎◌, ◌++◌, codes, ⊤}
use Rattle.hem_base.specs.declared.ids.Firing.{Firing}
use Rattle.hem_syntax.specs.Protocol.{Protocol}
use Rattle.hem_tree.specs.Tree.{Tree}
use Rattle.hem_work.specs.Work.{Work}
use Rattle.hem_system.specs.State.{start}
use Rattle.hem_trace.specs.Order.{entries_of, printed}
use Rattle.hem_report.specs.Texts.{illegal_text}
use Rattle.hem_report.specs.StateText.{state_text}
use Rattle.hem_document.specs.declared.documents.WorkDocument.{WorkDocument}
use Rattle.hem_document.specs.declared.documents.Document.{Document}
use Rattle.hem_document.specs.Documents.{IsProtocolDocument, IsProtocolDocumentFault, IsTreeDocument, IsTreeDocumentFault, IsWorkDocument, IsWorkDocumentFault, IsDocument, IsDocumentFault}
use Rattle.hem_document.specs.Playing.{IsPlayDocument, IsPlayDocumentFault}
use Rattle.hem_document.specs.SetUp.{tree_in, work_in}
use Rattle.hem_document.proofs.ReadOnce.{protocol_exact, tree_exact, work_exact, document_exact}
use Rattle.hem_document.proofs.PlayOnce.{play_exact}
use Rattle.hem_document.proofs.SetUpOnce.{setup_fault_once, lawful_excludes}
use Rattle.hem_words.specs.Job.{AsksFor, IsGood}
use Rattle.hem_words.specs.declared.job.Job.{Job}
use Rattle.hem_words.specs.declared.job.Asked.{Asked}
use Rattle.hem_words.specs.declared.job.Job.TheVariants.{Check, Group, Run, Walk, Emit, Play, Make}
use Rattle.hem_words.proofs.Once.{asks_once}
use Rattle.hem_cli.specs.Texts.{setup_text, grouped_text, ended_text}
use Rattle.hem_cli.specs.Refusals.{IsRefused, IsUnlawful, IsUnready, IsReady, IsReplyTo}
use Rattle.hem_cli.specs.Grouping.{IsStopped, IsGrouped, IsReplayed}
use Rattle.hem_work.specs.Made.{made, made_fault}
use Rattle.hem_tree.specs.declared.setup.SetupFault.{SetupFault}
use Rattle.hem_cli.specs.Summary.{summary_text}
use Rattle.hem_cli.specs.Making.{made_text}
use Rattle.hem_cli.specs.Generating.{IsOverfull, IsGenerated}
use Rattle.hem_cli.specs.Running.{IsTold, IsSummed, IsEndOf}
use Rattle.hem_cli.specs.Form.{in_form}
use Rattle.hem_cli.specs.declared.running.Maker.{Maker}
use Rattle.hem_cli.specs.declared.running.Maker.TheVariants.{Workers, OneThread}
use Rattle.hem_cli.specs.Emitting.{IsEmitReply}
use Rattle.hem_cli.specs.Playing.{IsPlayReply}
use Rattle.hem_cli.specs.Answer.{Answer, AskForRun, IsAccepted, IsAnswerInForm, IsVerdict, IsGroupReply, IsEndReply, IsMakeReply, IsJobAnswer, IsRun, most_bytes, usage}
use Rattle.hem_cli.specs.declared.status.Status.{Status}
use Rattle.hem_cli.specs.declared.status.Status.TheVariants.{Done, Usage, TooLong, Refused, Setup, Illegal}
use Rattle.hem_cli.proofs.Endings.{replay_once}
use Rattle.hem_cli.proofs.Ways.{IsOneBy, IsOnce, Same, status_once, either_once, answered_once}
use Rattle.hem_cli.proofs.RefusedOnce.{refused_once, refused_excludes}
use Rattle.hem_cli.proofs.WalkOnce.{walk_once}
use Rattle.hem_cli.proofs.EmitOnce.{emit_once}
use Rattle.hem_cli.proofs.PlayOnce.{play_once}

-- a protocol has one verdict
verdict_once : (p : Protocol) → IsOnce (IsVerdict p)
verdict_once p =
    either_once Same (λ a x. (a ≡ Refused) × IsRefused p x) (λ a x. (a ≡ Done) × IsAccepted p x) (status_once Same Refused (IsRefused p) (refused_once p))
    (status_once Same Done (IsAccepted p) (λ x y one other. one.says ∙ sym other.says))
    (λ a b x y one other. refused_excludes p x one.1 other.1.disciplined)

unlawful_once : (d : WorkDocument) (x y : List ℕ) → IsUnlawful d x → IsUnlawful d y → x ≡ y
unlawful_once d x y p q = p.says ∙ (ap setup_text (setup_fault_once d p.fault q.fault p.first q.first) ∙ sym q.says)

-- a document is refused before its job once
unready_once : (d : WorkDocument) → IsOnce (IsUnready d)
unready_once d =
    either_once Same (λ a x. (a ≡ Refused) × IsRefused d.protocol x) (λ a x. (a ≡ Setup) × IsUnlawful d x) (status_once Same Refused (IsRefused d.protocol) (refused_once d.protocol))
    (status_once Same Setup (IsUnlawful d) (unlawful_once d))
    (λ a b x y one other. refused_excludes d.protocol x one.1 other.1.disciplined)

-- and one that is ready isn't
unready_excludes : (d : WorkDocument) (a : Status) (x : List ℕ) → IsUnready d a x → IsReady d → ⊥
unready_excludes d a x (inl p) ready = refused_excludes d.protocol x p.1 ready.disciplined
unready_excludes d a x (inr p) ready = lawful_excludes d p.1.fault ready.lawful p.1.first

-- a document has one reply where its job makes one of it
reply_once : (Alike : List ℕ → List ℕ → Type 0) → ((x y : List ℕ) → x ≡ y → Alike x y) → (d : WorkDocument) (M : Status → List ℕ → Type 0) → IsOneBy Alike M → IsOneBy Alike (IsReplyTo d M)
reply_once Alike alike d M once =
    either_once Alike (IsUnready d) (λ a x. IsReady d × M a x)
    (λ a b x y p q. let one = unready_once d a b x y p q in (one.0, alike x y one.1))
    (λ a b x y p q. once a b x y p.1 q.1)
    (λ a b x y p q. unready_excludes d a x p q.0)

same_place : (i j : ℕ) → Some i ≡ Some j → i ≡ j
same_place i j is = cc

no_place : (place : ℕ) → None ≡ Some place → ⊥
no_place place is = cc

stopped_once : (p : Protocol) (tree : Tree) (work : Work) (h : List Firing) (x y : List ℕ) → IsStopped p tree work h x → IsStopped p tree work h y → x ≡ y
stopped_once p tree work h x y one other =
    let ends = replay_once p tree (start p tree work) one.before other.before h (Some one.place) (Some other.place) one.stops other.stops in
    one.says ∙ ((λ i. illegal_text (same_place one.place other.place ends.0 i) ++ state_text p tree (ends.1 i)) ∙ sym other.says)

grouped_once : (p : Protocol) (tree : Tree) (work : Work) (h : List Firing) (x y : List ℕ) → IsGrouped p tree work h x → IsGrouped p tree work h y → x ≡ y
grouped_once p tree work h x y one other =
    let ends = replay_once p tree (start p tree work) one.end other.end h None None one.runs other.runs in
    one.says ∙ ((λ i. grouped_text p tree ((one.of.order ∙ sym other.of.order) i) (ends.1 i)) ∙ sym other.says)

-- a history runs or stops, in one way
replayed_once : (p : Protocol) (tree : Tree) (work : Work) (h : List Firing) → IsOnce (IsReplayed p tree work h)
replayed_once p tree work h =
    either_once Same (λ a x. (a ≡ Illegal) × IsStopped p tree work h x) (λ a x. (a ≡ Done) × IsGrouped p tree work h x) (status_once Same Illegal (IsStopped p tree work h) (stopped_once p tree work h))
    (status_once Same Done (IsGrouped p tree work h) (grouped_once p tree work h))
    (λ a b x y one other. no_place one.1.place (replay_once p tree (start p tree work) other.1.end one.1.before h None (Some one.1.place) other.1.runs one.1.stops).0)

-- the texts of what one thread makes of a work are the same, and those of what workers make may differ
abbrev AreOf : Maker → List ℕ → List ℕ → Type 0
AreOf Workers x y = ⊤
AreOf (OneThread seed) x y = x ≡ y

same_are : (maker : Maker) (x y : List ℕ) → x ≡ y → AreOf maker x y
same_are Workers x y same = tt
same_are (OneThread seed) x y same = same

told_once : (maker : Maker) (p : Protocol) (tree : Tree) (work : Work) (x y : List ℕ) → IsTold maker p tree work x → IsTold maker p tree work y → AreOf maker x y
told_once Workers p tree work x y one other = tt
told_once (OneThread seed) p tree work x y one other =
    let walks = walk_once p tree work seed one.journal other.journal one.end other.end one.made other.made in
    let blocks : one.blocks ≡ other.blocks = one.of.order ∙ (ap (λ h. printed (entries_of p tree (start p tree work) h)) walks.0 ∙ sym other.of.order) in
    one.says ∙ ((λ i. ended_text p tree (walks.0 i) (blocks i) (walks.1 i)) ∙ sym other.says)

summed_once : (maker : Maker) (p : Protocol) (tree : Tree) (work : Work) (x y : List ℕ) → IsSummed maker p tree work x → IsSummed maker p tree work y → AreOf maker x y
summed_once Workers p tree work x y one other = tt
summed_once (OneThread seed) p tree work x y one other =
    one.says ∙ (ap (summary_text tree work) (walk_once p tree work seed one.journal other.journal one.end other.end one.made other.made).1 ∙ sym other.says)

fault_once : (o : Option SetupFault) (a b : SetupFault) → o ≡ Some a → o ≡ Some b → a ≡ b
fault_once o a b one other = cc

fault_or_not : (o : Option SetupFault) (a : SetupFault) → o ≡ Some a → o ≡ None → ⊥
fault_or_not o a one other = cc

overfull_once : (p : Protocol) (tree : Tree) (work : Work) (count : ℕ) (x y : List ℕ) → IsOverfull p tree work count x → IsOverfull p tree work count y → x ≡ y
overfull_once p tree work count x y one other = one.says ∙ (ap setup_text (fault_once (made_fault p tree work count) one.fault other.fault one.first other.first) ∙ sym other.says)

-- of generated requests one thing comes, where one is made of the work with them
generated_once : (Alike : List ℕ → List ℕ → Type 0) → ((x y : List ℕ) → x ≡ y → Alike x y) → (p : Protocol) (tree : Tree) (work : Work) (count seed : ℕ) (M : Work → List ℕ → Type 0) → ((w : Work) (x y : List ℕ) → M w x → M w y → Alike x y) → IsOneBy Alike (IsGenerated p tree work count seed M)
generated_once Alike alike p tree work count seed M once =
    either_once Alike (λ a x. (a ≡ Setup) × IsOverfull p tree work count x) (λ a x. (a ≡ Done) × (made_fault p tree work count ≡ None) × M (made p tree work count seed) x)
    (status_once Alike Setup (IsOverfull p tree work count) (λ x y one other. alike x y (overfull_once p tree work count x y one other)))
    (λ a b x y one other. (one.0 ∙ sym other.0, once (made p tree work count seed) x y one.2 other.2))
    (λ a b x y one other. fault_or_not (made_fault p tree work count) one.1.fault one.1.first other.1)

end_of_once : (maker : Maker) (count : Option ℕ) (seed : ℕ) (p : Protocol) (tree : Tree) (work : Work) → IsOneBy (AreOf maker) (IsEndOf maker count seed p tree work)
end_of_once maker None seed p tree work = status_once (AreOf maker) Done (IsTold maker p tree work) (told_once maker p tree work)
end_of_once maker (Some count) seed p tree work = generated_once (AreOf maker) (same_are maker) p tree work count seed (λ w x. IsSummed maker p tree w x) (λ w. summed_once maker p tree w)

group_once : (d : Document) → IsOnce (IsGroupReply d)
group_once d =
    reply_once Same (λ x y same. same) d.setup (IsReplayed d.setup.protocol (tree_in d.setup) (work_in d.setup) d.history)
    (replayed_once d.setup.protocol (tree_in d.setup) (work_in d.setup) d.history)

end_once : (maker : Maker) (count : Option ℕ) (seed : ℕ) (d : WorkDocument) → IsOneBy (AreOf maker) (IsEndReply maker count seed d)
end_once maker count seed d =
    reply_once (AreOf maker) (same_are maker) d (IsEndOf maker count seed d.protocol (tree_in d) (work_in d)) (end_of_once maker count seed d.protocol (tree_in d) (work_in d))

make_once : (bytes : List ℕ) (count seed : ℕ) (d : WorkDocument) → IsOnce (IsMakeReply bytes count seed d)
make_once bytes count seed d =
    reply_once Same (λ x y same. same) d (IsGenerated d.protocol (tree_in d) (work_in d) count seed (λ w x. x ≡ made_text bytes d.protocol (tree_in d) w))
    (generated_once Same (λ x y same. same) d.protocol (tree_in d) (work_in d) count seed (λ w x. x ≡ made_text bytes d.protocol (tree_in d) w) (λ w x y one other. one ∙ sym other))

-- the texts of a job's answers to the same bytes are the same, but for those of a run
abbrev AreOfJob : Job → List ℕ → List ℕ → Type 0
AreOfJob (Run count seed) x y = ⊤
AreOfJob job x y = x ≡ y

-- a job has one answer to bytes
job_once : (job : Job) (bytes : List ℕ) → IsOneBy (AreOfJob job) (IsJobAnswer job bytes)
job_once Check bytes = answered_once Same (λ x y same. same) (IsProtocolDocument bytes) (IsProtocolDocumentFault bytes) IsVerdict (protocol_exact bytes) verdict_once
job_once Group bytes = answered_once Same (λ x y same. same) (IsDocument bytes) (IsDocumentFault bytes) IsGroupReply (document_exact bytes) group_once
job_once (Run count seed) bytes =
    answered_once (AreOf Workers) (same_are Workers) (IsWorkDocument bytes) (IsWorkDocumentFault bytes) (IsEndReply Workers count seed) (work_exact bytes) (end_once Workers count seed)
job_once (Walk count seed) bytes =
    answered_once Same (λ x y same. same) (IsWorkDocument bytes) (IsWorkDocumentFault bytes) (IsEndReply (OneThread seed) count seed) (work_exact bytes) (end_once (OneThread seed) count seed)
job_once Emit bytes = answered_once Same (λ x y same. same) (IsTreeDocument bytes) (IsTreeDocumentFault bytes) IsEmitReply (tree_exact bytes) emit_once
job_once (Play most) bytes = answered_once Same (λ x y same. same) (IsPlayDocument bytes) (IsPlayDocumentFault bytes) (IsPlayReply most) (play_exact bytes) (play_once most)
job_once (Make count seed) bytes = answered_once Same (λ x y same. same) (IsWorkDocument bytes) (IsWorkDocumentFault bytes) (IsMakeReply bytes count seed) (work_exact bytes) (make_once bytes count seed)

the_same : (job : Job) (x y : List ℕ) → ¬ IsRun job → AreOfJob job x y → x ≡ y
the_same (Run count seed) x y no_run are = absurd (no_run tt)
the_same job x y no_run are = are

-- what is asked for has one answer to bytes, but for the text of a run
asked_once : (asked : Asked) (bytes : List ℕ) → IsOneBy (λ x y. ¬ IsRun asked.job → x ≡ y) (IsAnswerInForm asked bytes)
asked_once asked bytes a b x y p q =
    let one = job_once asked.job bytes a b p.plain q.plain p.answers q.answers in (
      one.0,
      λ no_run. p.says ∙ ((λ i. in_form asked.json (one.0 i) (the_same asked.job p.plain q.plain no_run one.1 i)) ∙ sym q.says),
    )

-- an answer is to words that aren't good, to too many bytes, or that of what is asked for
abbrev IsOne : List (List ℕ) → List ℕ → Status → List ℕ → Type 0
IsOne words bytes a x =
    ((a ≡ Usage) × (¬ IsGood words) × (x ≡ usage))
    ⊎ (((a ≡ TooLong) × ((asked : Asked) × AsksFor words asked × (most_bytes < length bytes) × (x ≡ in_form asked.json TooLong (codes "too long\n"))))
    ⊎ ((asked : Asked) × AsksFor words asked × (length bytes ≤ most_bytes) × IsAnswerInForm asked bytes a x))

one_of : (words : List (List ℕ)) (bytes : List ℕ) (a : Status) (x : List ℕ) → Answer words bytes a x → IsOne words bytes a x
one_of words bytes Usage x p = inl (refl, p.0, p.1)
one_of words bytes TooLong x p = inr (inl (refl, p))
one_of words bytes a x p = inr (inr p)

-- texts are the same, where the words don't ask for a run
abbrev AreAsked : List (List ℕ) → List ℕ → List ℕ → Type 0
AreAsked words x y = ¬ AskForRun words → x ≡ y

once : (words : List (List ℕ)) (bytes : List ℕ) → IsOneBy (AreAsked words) (IsOne words bytes)
once words bytes a b x y (inl p) (inl q) = (p.0 ∙ sym q.0, λ no_run. p.2 ∙ sym q.2)
once words bytes a b x y (inl p) (inr (inl q)) = absurd (p.1 (q.1.0, q.1.1))
once words bytes a b x y (inl p) (inr (inr q)) = absurd (p.1 (q.0, q.1))
once words bytes a b x y (inr (inl p)) (inl q) = absurd (q.1 (p.1.0, p.1.1))
once words bytes a b x y (inr (inl p)) (inr (inl q)) = (
  p.0 ∙ sym q.0,
  λ no_run. p.1.3 ∙ (ap (λ (asked : Asked). in_form asked.json TooLong (codes "too long\n")) (asks_once words p.1.0 q.1.0 p.1.1 q.1.1) ∙ sym q.1.3),
)
once words bytes a b x y (inr (inl p)) (inr (inr q)) = absurd (omega (arith, p.1.2, q.2))
once words bytes a b x y (inr (inr p)) (inl q) = absurd (q.1 (p.0, p.1))
once words bytes a b x y (inr (inr p)) (inr (inl q)) = absurd (omega (arith, p.2, q.1.2))
once words bytes a b x y (inr (inr p)) (inr (inr q)) =
    let one = asked_once q.0 bytes a b x y (subst (λ asked. IsAnswerInForm asked bytes a x) (asks_once words p.0 q.0 p.1 q.1) p.3) q.3 in
    (one.0, λ no_run. one.1 (λ run. no_run (q.0, q.1, run)))

-- words and bytes have one status, and but for a run one text
pub answer_once : (words : List (List ℕ)) (bytes : List ℕ) → IsOneBy (AreAsked words) (Answer words bytes)
answer_once words bytes a b x y p q = once words bytes a b x y (one_of words bytes a x p) (one_of words bytes b y q)

-- the law of it
pub one_status : (words : List (List ℕ)) (bytes : List ℕ) (a b : Status) (x y : List ℕ) → Answer words bytes a x → Answer words bytes b y → a ≡ b
one_status words bytes a b x y p q = (answer_once words bytes a b x y p q).0

pub one_text : (words : List (List ℕ)) (bytes : List ℕ) (a b : Status) (x y : List ℕ) → ¬ AskForRun words → Answer words bytes a x → Answer words bytes b y → x ≡ y
one_text words bytes a b x y no_run p q = (answer_once words bytes a b x y p q).1 no_run
