-- The replies of the jobs.
use Rattle.std.proofs.Common.{◌≡◌, ◌∙◌, refl, sym, ap, subst, ℕ, ◌≤◌, List, length, Option, Some, None, inl, inr, string_bytes}
use Rattle.std.specs.Prelude.{Result, Ok, Err, IfOk, option_map}
use Rattle.hem_base.specs.declared.outside.OutOfMemory.{OutOfMemory}
use Rattle.hem_text.specs.declared.reader.TextFault.{TextFault}
use Rattle.hem_syntax.specs.Protocol.{Protocol}
use Rattle.hem_tree.specs.Tree.{Tree}
use Rattle.hem_work.specs.Work.{Work}
use Rattle.hem_check.specs.Discipline.{first_broken}
use Rattle.hem_check.specs.Refused.{refusal_of}
use Rattle.hem_check.specs.declared.refusal.Refusal.{Refusal}
use Rattle.hem_report.specs.RefusalText.{refusal_text}
use Rattle.hem_document.specs.declared.documents.TreeDocument.{TreeDocument}
use Rattle.hem_document.specs.declared.documents.PlayDocument.{PlayDocument}
use Rattle.hem_document.specs.declared.documents.WorkDocument.{WorkDocument}
use Rattle.hem_document.specs.declared.documents.Document.{Document}
use Rattle.hem_document.specs.SetUp.{document_of, tree_in, work_in}
use Rattle.hem_words.specs.Job.{AsksFor}
use Rattle.hem_words.specs.declared.job.Job.{Job}
use Rattle.hem_words.specs.declared.job.Asked.{Asked}
use Rattle.hem_words.specs.declared.job.Job.TheVariants.{Check, Group, Run, Walk, Emit, Play, Make}
use Rattle.hem_cli.specs.Texts.{fault_text, ended_text}
use Rattle.hem_system.specs.State.{State, Runs, start}
use Rattle.hem_trace.specs.Blocks.{Block, IsSerial, SameFirings, firings_of}
use Rattle.hem_trace.specs.Order.{entries_of, printed}
use Rattle.hem_cli.specs.Refusals.{IsRefused, IsUnready, IsReplyTo, IsAnswerTo}
use Rattle.hem_cli.specs.Preparing.{IsOf, IsPrepared}
use Rattle.hem_cli.specs.declared.preparing.Prepared.{Prepared}
use Rattle.hem_cli.specs.declared.preparing.Prepared.TheVariants.{ForJob}
use Rattle.hem_base.specs.declared.ids.Firing.{Firing}
use Rattle.hem_work.proofs.Fits.{lawful_work}
use Rattle.hem_cli.specs.Grouping.{IsReplayed}
use Rattle.hem_work.specs.Lawful.{IsLawfulWork}
use Rattle.hem_work.specs.Made.{made, made_fault}
use Rattle.hem_cli.specs.Making.{made_text}
use Rattle.hem_cli.specs.Generating.{IsGenerated}
use Rattle.hem_cli.specs.Running.{IsToEnd, MayMake, IsTold, IsSummed, IsEndOf}
use Rattle.hem_cli.specs.Form.{in_form}
use Rattle.hem_cli.specs.declared.running.Maker.{Maker}
use Rattle.hem_cli.specs.declared.running.Maker.TheVariants.{Workers, OneThread}
use Rattle.hem_cli.specs.Emitting.{IsEmitReply}
use Rattle.hem_cli.specs.Playing.{IsPlayReply}
use Rattle.hem_cli.specs.Answer.{Answer, IsVerdict, IsGroupReply, IsEndReply, IsMakeReply, IsJobAnswer, IsAnswerInForm, most_bytes}
use Rattle.hem_cli.specs.Outcome.{IsAfterReading}
use Rattle.hem_cli.specs.declared.preparing.Ready.{Ready}
use Rattle.hem_cli.specs.declared.reply.Reply.{Reply}
use Rattle.hem_cli.specs.declared.status.Status.{Status}
use Rattle.hem_cli.specs.declared.status.Status.TheVariants.{Done, Usage, WriteFault, TooLong, Text, Refused, Memory}

if_mapped : {A B : Type 0} (f : A → B) (o : Option A) (y : B) → option_map f o ≡ Some y → (x : A) × (o ≡ Some x) × (f x ≡ y)
if_mapped f None y is = cc
if_mapped f (Some x) y is = let same : f x ≡ y = cc in (x, refl, same)

-- the text of a refusal tells the protocol's first broken rule
pub refused_is : (p : Protocol) (refusal : Refusal) (text : List ℕ) → option_map (refusal_of p) (first_broken p) ≡ Some refusal → text ≡ refusal_text refusal → IsRefused p text
refused_is p refusal text is says =
    let found = if_mapped (refusal_of p) (first_broken p) refusal is in
    record { broken = found.0; first = found.1; says = says ∙ ap refusal_text (sym found.2) }

-- the reply to what the bytes are is the answer to them, and so is their first fault
pub read_answered : {D : Type 0} (F : TextFault → Type 0) (R : D → Type 0) (reply : D → Status → List ℕ → Type 0) (d : D) (r : Result Reply OutOfMemory) → R d
    → IfOk r (λ x. reply d x.status (string_bytes x.text)) → IfOk r (λ x. IsAnswerTo F R reply x.status (string_bytes x.text))
read_answered F R reply d (Ok x) reads replied = inr (d, reads, replied)
read_answered F R reply d (Err e) reads replied = tt

pub fault_answered : {D : Type 0} (F : TextFault → Type 0) (R : D → Type 0) (reply : D → Status → List ℕ → Type 0) (fault : TextFault) (r : Result Reply OutOfMemory) → F fault
    → IfOk r (λ x. x.status ≡ Text) → IfOk r (λ x. (string_bytes x.text) ≡ fault_text fault) → IfOk r (λ x. IsAnswerTo F R reply x.status (string_bytes x.text))
fault_answered F R reply fault (Ok x) is status text = inl (status, record { fault = fault; first = is; says = text })
fault_answered F R reply fault (Err e) is status text = tt

-- what is said of what is ready is said of its document
pub of_document : (d : WorkDocument) (ready : Ready) (P : Protocol → Tree → Work → Type 0) → IsOf d ready → P ready.accepted ready.tree ready.work → P d.protocol (tree_in d) (work_in d)
of_document d ready P of said =
    subst (λ p. P p (tree_in d) (work_in d)) of.protocol
    (subst (λ tree. P ready.accepted tree (work_in d)) of.tree (subst (λ work. P ready.accepted ready.tree work) of.work said))

-- the reply to a history comes after all is read, and so does each other
replayed_after : (p : Protocol) (tree : Tree) (work : Work) (h : List Firing) (a : Status) (x : List ℕ) → IsReplayed p tree work h a x → IsAfterReading a
replayed_after p tree work h a x (inl it) = subst IsAfterReading (sym it.0) tt
replayed_after p tree work h a x (inr it) = subst IsAfterReading (sym it.0) tt

unready_after : (d : WorkDocument) (a : Status) (x : List ℕ) → IsUnready d a x → IsAfterReading a
unready_after d a x (inl it) = subst IsAfterReading (sym it.0) tt
unready_after d a x (inr it) = subst IsAfterReading (sym it.0) tt

reply_to_after : (d : WorkDocument) (M : Status → List ℕ → Type 0) (a : Status) (x : List ℕ) → (M a x → IsAfterReading a) → IsReplyTo d M a x → IsAfterReading a
reply_to_after d M a x made (inl it) = unready_after d a x it
reply_to_after d M a x made (inr it) = made it.1

verdict_after : (p : Protocol) (a : Status) (x : List ℕ) → IsVerdict p a x → IsAfterReading a
verdict_after p a x (inl it) = subst IsAfterReading (sym it.0) tt
verdict_after p a x (inr it) = subst IsAfterReading (sym it.0) tt

group_after : (d : Document) (a : Status) (x : List ℕ) → IsGroupReply d a x → IsAfterReading a
group_after d a x = reply_to_after d.setup (IsReplayed d.setup.protocol (tree_in d.setup) (work_in d.setup) d.history) a x (replayed_after d.setup.protocol (tree_in d.setup) (work_in d.setup) d.history a x)

generated_after : (p : Protocol) (tree : Tree) (work : Work) (count seed : ℕ) (M : Work → List ℕ → Type 0) (a : Status) (x : List ℕ) → IsGenerated p tree work count seed M a x → IsAfterReading a
generated_after p tree work count seed M a x (inl it) = subst IsAfterReading (sym it.0) tt
generated_after p tree work count seed M a x (inr it) = subst IsAfterReading (sym it.0) tt

end_of_after : (maker : Maker) (count : Option ℕ) (seed : ℕ) (p : Protocol) (tree : Tree) (work : Work) (a : Status) (x : List ℕ) → IsEndOf maker count seed p tree work a x → IsAfterReading a
end_of_after maker None seed p tree work a x it = subst IsAfterReading (sym it.0) tt
end_of_after maker (Some count) seed p tree work a x it = generated_after p tree work count seed (λ w y. IsSummed maker p tree w y) a x it

end_after : (maker : Maker) (count : Option ℕ) (seed : ℕ) (d : WorkDocument) (a : Status) (x : List ℕ) → IsEndReply maker count seed d a x → IsAfterReading a
end_after maker count seed d a x = reply_to_after d (IsEndOf maker count seed d.protocol (tree_in d) (work_in d)) a x (end_of_after maker count seed d.protocol (tree_in d) (work_in d) a x)

make_after : (bytes : List ℕ) (count seed : ℕ) (d : WorkDocument) (a : Status) (x : List ℕ) → IsMakeReply bytes count seed d a x → IsAfterReading a
make_after bytes count seed d a x =
    let M : Work → List ℕ → Type 0 = λ w y. y ≡ made_text bytes d.protocol (tree_in d) w in
    reply_to_after d (IsGenerated d.protocol (tree_in d) (work_in d) count seed M) a x (generated_after d.protocol (tree_in d) (work_in d) count seed M a x)

emit_after : (d : TreeDocument) (a : Status) (x : List ℕ) → IsEmitReply d a x → IsAfterReading a
emit_after d a x (inl it) = subst IsAfterReading (sym it.0) tt
emit_after d a x (inr (_, inl it)) = subst IsAfterReading (sym it.0) tt
emit_after d a x (inr (_, inr it)) = subst IsAfterReading (sym it.0) tt

play_after : (most : ℕ) (d : PlayDocument) (a : Status) (x : List ℕ) → IsPlayReply most d a x → IsAfterReading a
play_after most d a x it = subst IsAfterReading (sym it.0) tt

answer_after : {D : Type 0} (F : TextFault → Type 0) (R : D → Type 0) (reply : D → Status → List ℕ → Type 0) → ((d : D) (a : Status) (x : List ℕ) → reply d a x → IsAfterReading a)
    → (a : Status) (x : List ℕ) → IsAnswerTo F R reply a x → IsAfterReading a
answer_after F R reply after a x (inl it) = subst IsAfterReading (sym it.0) tt
answer_after F R reply after a x (inr it) = after it.0 a x it.2

pub job_after : (job : Job) (bytes : List ℕ) (status : Status) (text : List ℕ) → IsJobAnswer job bytes status text → IsAfterReading status
job_after Check bytes = answer_after _ _ IsVerdict verdict_after
job_after Group bytes = answer_after _ _ IsGroupReply group_after
job_after (Run count seed) bytes = answer_after _ _ (IsEndReply Workers count seed) (end_after Workers count seed)
job_after (Walk count seed) bytes = answer_after _ _ (IsEndReply (OneThread seed) count seed) (end_after (OneThread seed) count seed)
job_after Emit bytes = answer_after _ _ IsEmitReply emit_after
job_after (Play most) bytes = answer_after _ _ (IsPlayReply most) (play_after most)
job_after (Make count seed) bytes = answer_after _ _ (IsMakeReply bytes count seed) (make_after bytes count seed)

-- the answer of what is asked for comes once all is read
asked_after : (asked : Asked) (bytes : List ℕ) (status : Status) (text : List ℕ) → IsAnswerInForm asked bytes status text → IsAfterReading status
asked_after asked bytes status text it = job_after asked.job bytes status it.plain it.answers

pub reply_after : (asked : Asked) (bytes : List ℕ) (r : Result Reply OutOfMemory) → IfOk r (λ x. IsAnswerInForm asked bytes x.status (string_bytes x.text)) → IfOk r (λ x. IsAfterReading x.status)
reply_after asked bytes (Ok x) told = asked_after asked bytes x.status (string_bytes x.text) told
reply_after asked bytes (Err e) told = tt

-- a job's reply in the form that is asked for
pub formed : (asked : Asked) (bytes : List ℕ) (reply : Reply) (r : Result Reply OutOfMemory) → IsJobAnswer asked.job bytes reply.status (string_bytes reply.text) → IfOk r (λ x. x.status ≡ reply.status)
    → IfOk r (λ x. string_bytes x.text ≡ in_form asked.json reply.status (string_bytes reply.text)) → IfOk r (λ x. IsAnswerInForm asked bytes x.status (string_bytes x.text))
formed asked bytes reply (Ok x) told status text =
    record {
      plain = string_bytes reply.text;
      answers = subst (λ a. IsJobAnswer asked.job bytes a (string_bytes reply.text)) (sym status) told;
      says = text ∙ ap (λ a. in_form asked.json a (string_bytes reply.text)) (sym status);
    }
formed asked bytes reply (Err e) told status text = tt

-- the answer of what is asked for is the answer to words that ask for it
asked_answered : (words : List (List ℕ)) (asked : Asked) (bytes : List ℕ) (status : Status) (text : List ℕ) → AsksFor words asked → length bytes ≤ most_bytes → IsAnswerInForm asked bytes status text → IsAfterReading status → Answer words bytes status text
asked_answered words asked bytes Usage text asks few told after = absurd after
asked_answered words asked bytes TooLong text asks few told after = absurd after
asked_answered words asked bytes status text asks few told after = (asked, asks, few, told)

-- and comes after all is read
pub answered : (words : List (List ℕ)) (asked : Asked) (bytes : List ℕ) (status : Status) (text : List ℕ) → AsksFor words asked → length bytes ≤ most_bytes → IsAnswerInForm asked bytes status text → IsAfterReading status × Answer words bytes status text
answered words asked bytes status text asks few told =
    let after = asked_after asked bytes status text told in
    (after, asked_answered words asked bytes status text asks few told after)

-- no answer is that memory ran out, or that the sink failed
pub no_memory : (words : List (List ℕ)) (bytes text : List ℕ) → Answer words bytes Memory text → ⊥
no_memory words bytes text answer = asked_after answer.0 bytes Memory text answer.3

pub no_write_fault : (words : List (List ℕ)) (bytes text : List ℕ) → Answer words bytes WriteFault text → ⊥
no_write_fault words bytes text answer = asked_after answer.0 bytes WriteFault text answer.3

-- a refusal is the reply to the protocol, and to each document of it
pub verdict_refused : (p : Protocol) (refusal : Refusal) (r : Result Reply OutOfMemory) → option_map (refusal_of p) (first_broken p) ≡ Some refusal → IfOk r (λ x. x.status ≡ Refused)
    → IfOk r (λ x. (q : Protocol) → option_map (refusal_of q) (first_broken q) ≡ Some refusal → IsRefused q (string_bytes x.text)) → IfOk r (λ x. IsVerdict p x.status (string_bytes x.text))
verdict_refused p refusal (Ok x) is status text = inl (status, text p is)
verdict_refused p refusal (Err e) is status text = tt

pub refused_before : (d : WorkDocument) (refusal : Refusal) (r : Result Reply OutOfMemory) (x : Reply) → r ≡ Ok x → option_map (refusal_of d.protocol) (first_broken d.protocol) ≡ Some refusal → IfOk r (λ y. y.status ≡ Refused)
    → IfOk r (λ y. (q : Protocol) → option_map (refusal_of q) (first_broken q) ≡ Some refusal → IsRefused q (string_bytes y.text)) → IsUnready d x.status (string_bytes x.text)
refused_before d refusal r x is refuses status text =
    inl (
      subst (λ s. IfOk s (λ y. y.status ≡ Refused)) is status,
      subst (λ s. IfOk s (λ y. (q : Protocol) → option_map (refusal_of q) (first_broken q) ≡ Some refusal → IsRefused q (string_bytes y.text))) is text d.protocol refuses,
    )

-- what is prepared of a document's parts is prepared of the document
pub prepared_of : (d : WorkDocument) (accepted : Protocol) (r : Result Prepared OutOfMemory) → accepted ≡ d.protocol → IfOk r (IsPrepared (document_of accepted d.tree d.work)) → IfOk r (IsPrepared d)
prepared_of d accepted r same prepared = subst (λ p. IfOk r (IsPrepared (document_of p d.tree d.work))) same prepared

-- the reply to what is ready is that to its document
pub ready_replied : (d : WorkDocument) (prepared : Prepared) (ready : Ready) (M : Protocol → Tree → Work → Status → List ℕ → Type 0) (r : Result Reply OutOfMemory) → IsPrepared d prepared → prepared ≡ ForJob ready
    → IfOk r (λ x. M ready.accepted ready.tree ready.work x.status (string_bytes x.text)) → IfOk r (λ x. IsReplyTo d (M d.protocol (tree_in d) (work_in d)) x.status (string_bytes x.text))
ready_replied d prepared ready M (Ok x) before is replied =
    let it = subst (IsPrepared d) is before in
    inr (it.0, of_document d ready (λ p tree work. M p tree work x.status (string_bytes x.text)) it.1 replied)
ready_replied d prepared ready M (Err e) before is replied = tt

-- the work that is ready is lawful
pub ready_work : (d : WorkDocument) (prepared : Prepared) (ready : Ready) → IsPrepared d prepared → prepared ≡ ForJob ready → IsLawfulWork ready.accepted ready.tree ready.work
ready_work d prepared ready before is =
    let it = subst (IsPrepared d) is before in
    let lawful : IsLawfulWork d.protocol (tree_in d) (work_in d) = lawful_work d.work d.protocol (tree_in d) it.0.lawful.work in
    subst (λ p. IsLawfulWork p ready.tree ready.work) (sym it.1.protocol)
    (subst (λ tree. IsLawfulWork d.protocol tree ready.work) (sym it.1.tree) (subst (λ work. IsLawfulWork d.protocol (tree_in d) work) (sym it.1.work) lawful))

-- the text of a history to its end and of its blocks
pub end_told : {S : Type 0} (bytes : S → List ℕ) (maker : Maker) (p q : Protocol) (tree : Tree) (work : Work) (journal handed told : List Firing) (end : State) (blocks given : List Block) (r : Result S OutOfMemory) → q ≡ p → IsToEnd p tree work journal end → MayMake maker p tree work journal end
    → handed ≡ journal → told ≡ journal
    → blocks ≡ printed (entries_of p tree (start p tree work) handed) → ((s : State) → Runs p tree (start p tree work) handed s → IsSerial p tree (start p tree work) blocks s) → SameFirings handed (firings_of blocks) → given ≡ blocks
    → IfOk r (λ s. bytes s ≡ ended_text q tree told given end) → IfOk r (λ s. IsTold maker p tree work (bytes s))
end_told bytes maker p q tree work journal handed told end blocks given (Ok s) same to_end made first second order serial firings blocks_are says =
    record {
      journal = journal;
      end = end;
      to_end = to_end;
      made = made;
      blocks = blocks;
      of = record {
        order = order ∙ ap (λ h. printed (entries_of p tree (start p tree work) h)) first;
        serial = serial end (subst (λ h. Runs p tree (start p tree work) h end) (sym first) to_end.runs);
        same = subst (λ h. SameFirings h (firings_of blocks)) first firings;
      };
      says = says ∙ (λ i. ended_text (same i) tree (second i) (blocks_are i) end);
    }
end_told bytes maker p q tree work journal handed told end blocks given (Err e) same to_end made first second order serial firings blocks_are says = tt

-- what a made work comes to
pub generated_done : (p q : Protocol) (tree : Tree) (work with_more : Work) (count seed : ℕ) (M : Work → List ℕ → Type 0) (a : Status) (x : List ℕ) → q ≡ p → with_more ≡ made q tree work count seed → made_fault q tree work count ≡ None → a ≡ Done → M with_more x → IsGenerated p tree work count seed M a x
generated_done p q tree work with_more count seed M a x same is faultless done it =
    inr (done, subst (λ y. made_fault y tree work count ≡ None) same faultless, subst (λ w. M w x) (is ∙ ap (λ y. made y tree work count seed) same) it)
