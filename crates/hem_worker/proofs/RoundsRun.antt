-- A round, one line after another.
use Rattle.std.proofs.Common.{◌≡◌, ap, sym, ◌∙◌, subst, ℕ, zero, suc, ◌+◌, ◌-◌, ◌<◌, ◌≤◌, arith, List, [], ◌∷◌, ◌++◌, length, length-append, Some, Ok, Err, Result, ⊎_elim, ◌⊎◌, inl, inr, ◌≢◌}
use Rattle.std.specs.Prelude.{◌^◌, map, slice_get, slice_set, OnOk, OnErr}
use Rattle.std.proofs.str.Laws.{order}
use Rattle.std.proofs.lemmas.Option.{slice_get_within}
use Rattle.std.proofs.lemmas.List.{length-map, length-set}
use Rattle.hem_system.proofs.Sets.{get_set_here, get_set_other}
use Rattle.hem_base.specs.declared.ids.Kind.{Kind}
use Rattle.hem_base.specs.declared.ids.LineId.{LineId}
use Rattle.hem_base.specs.declared.ids.ObjectId.{ObjectId}
use Rattle.hem_base.specs.declared.ids.Stamped.{Stamped}
use Rattle.hem_syntax.specs.Protocol.{Protocol}
use Rattle.hem_syntax.specs.Lawful.{IsProtocol}
use Rattle.hem_tree.specs.Tree.{Tree, IsLawful, children_of}
use Rattle.hem_system.specs.declared.lane.Lane.TheVariants.{Requests}
use Rattle.hem_system.specs.State.{State, local_at, list_at}
use Rattle.hem_turns.specs.OnLine.{OnLine, IsSeen, Turns, HaveFired}
use Rattle.hem_parts.proofs.AllRun.{there-too}
use Rattle.hem_worker.specs.Workers.{IsWorker, IsChangedAt, AreChanged, IsSameButRoom, IsJournalTaken, HasRoom, journaled, IsLineFired, IsLineStuck, AreParts}
use Rattle.hem_worker.specs.Rounds.{IsRoundOf}
use Rattle.hem_worker.proofs.SoFar.{IsSoFar, none-yet, one-more, all-done}
use Rattle.hem_worker.proofs.Lengthened.{all-lengthen}

same-or-other : (k place : ℕ) → (k ≡ place) ⊎ (k ≢ place)
same-or-other k place = grind arith

-- how many children's ends there are, and how long the journal is
turns-kids : (p : Protocol) (kind : Kind) (k : ℕ) (line : LineId) (object : ObjectId) (children : List ObjectId) (n : ℕ) (old new : OnLine) → Turns p kind k line object children n old new → length new.ends.kids ≡ length old.ends.kids
turns-kids p kind k line object children zero old new same = ap (λ (l : OnLine). length l.ends.kids) same
turns-kids p kind k line object children (suc n) old new turns = let fired = turns.2 in fired.fired.gives.kids.count ∙ fired.fired.takes.kids.count ∙ fired.looked.ends.kids.count ∙ turns-kids p kind k line object children n old turns.0 turns.1

turns-journal : (p : Protocol) (kind : Kind) (k : ℕ) (line : LineId) (object : ObjectId) (children : List ObjectId) (n : ℕ) (old new : OnLine) → Turns p kind k line object children n old new → length new.journal ≡ length old.journal + n
turns-journal p kind k line object children zero old new same = let e = ap (λ (l : OnLine). length l.journal) same in omega (arith, e)
turns-journal p kind k line object children (suc n) old new turns =
    let fired = turns.2 in
    let before = turns-journal p kind k line object children n old turns.0 turns.1 in
    let seen = ap (λ (l : OnLine). length l.journal) fired.looked.same in
    let more = ap length fired.fired.journal ∙ length-append fired.seen.journal _ in
    omega (arith, before, seen, more)

-- along firings, and the look after them
pub by-end : (p : Protocol) (kind : Kind) (k : ℕ) (line : LineId) (object : ObjectId) (children : List ObjectId) (n most : ℕ) (old new : OnLine) → n ≤ most → (fired : HaveFired p kind k line object children n most old new) → (IsSeen fired.last new) ⊎ (new ≡ fired.last)
by-end p kind k line object children n most old new within fired =
    ⊎_elim (λ less. inl (fired.idle less).looked) (λ past. (let same : n ≡ most = omega (arith, within, past) in inr (fired.all same))) (order n most)

fired-kids : (p : Protocol) (kind : Kind) (k : ℕ) (line : LineId) (object : ObjectId) (children : List ObjectId) (n most : ℕ) (old new : OnLine) → n ≤ most → HaveFired p kind k line object children n most old new → length new.ends.kids ≡ length old.ends.kids
fired-kids p kind k line object children n most old new within fired =
    let last = turns-kids p kind k line object children n old fired.last fired.turns in
    ⊎_elim (λ (seen : IsSeen fired.last new). seen.ends.kids.count ∙ last) (λ same. ap (λ (l : OnLine). length l.ends.kids) same ∙ last) (by-end p kind k line object children n most old new within fired)

fired-journal : (p : Protocol) (kind : Kind) (k : ℕ) (line : LineId) (object : ObjectId) (children : List ObjectId) (n most : ℕ) (old new : OnLine) → n ≤ most → HaveFired p kind k line object children n most old new → length new.journal ≡ length old.journal + n
fired-journal p kind k line object children n most old new within fired =
    let last = turns-journal p kind k line object children n old fired.last fired.turns in
    ⊎_elim (λ (seen : IsSeen fired.last new). ap (λ (l : OnLine). length l.journal) seen.same ∙ last) (λ same. ap (λ (l : OnLine). length l.journal) same ∙ last) (by-end p kind k line object children n most old new within fired)

-- one line's journal that grows
journaled-set : (lines : List OnLine) (i : ℕ) (a b : OnLine) (n : ℕ) → slice_get lines i ≡ Some a → length b.journal ≡ length a.journal + n → journaled (slice_set lines i b) ≡ journaled lines + n
journaled-set [] i a b n at grows = cc
journaled-set (x ∷ lines) zero a b n at grows =
    let same : x ≡ a = cc in
    let size : length x.journal ≡ length a.journal = ap (λ (l : OnLine). length l.journal) same in
    omega (arith, grows, size)
journaled-set (x ∷ lines) (suc i) a b n at grows = let rest = journaled-set lines i a b n at grows in omega (arith, rest)

module _ (p : Protocol) (kind : Kind) (k : ℕ) (object : ObjectId) (children : List ObjectId) (burst : ℕ) where
  -- so many firings were made on the lines before this place
  pub record IsRoundSoFar (n place : ℕ) (old now : List OnLine) : Type 0 where
    pub most : n ≤ burst
    pub so : IsSoFar (λ l. IsLineFired p kind k object children n burst l) place old now
    pub grows : journaled now ≡ journaled old + n

  pub round-start : (old : List OnLine) → IsRoundSoFar 0 0 old old
  round-start old = record { most = omega arith; so = none-yet _ old; grows = omega arith }

  raised : (n m l : ℕ) (a b : OnLine) → IsLineFired p kind k object children n burst l a b → IsLineFired p kind k object children (n + m) burst l a b
  raised n m l a b is = record { times = is.times; most = is.most; within = is.within; share = (let share = is.share in omega (arith, share)); fired = is.fired; all = λ less. is.all (omega (arith, less)) }

  pub round-more : (n m place : ℕ) (old now next : List OnLine) → IsRoundSoFar n place old now → m ≤ burst - n → IsChangedAt (HaveFired p kind k (record { 0 = place }) object children m (burst - n)) place now next → IsRoundSoFar (n + m) (place + 1) old next
  round-more n m place old now next so few change =
      let most = so.most in
      record {
        most = omega (arith, most, few);
        so = one-more _ place old now next
            (record { count = so.so.count; done = λ i a b less here there. raised n m i a b (so.so.done i a b less here there); left = so.so.left })
            (record { item = change.item; next = change.next; there = change.there; changed = record { times = m; most = burst - n; within = few; share = omega arith; fired = change.changed; all = λ less. omega (arith, less, most) }; after = change.after });
        grows = ap journaled change.after ∙ journaled-set now place change.item change.next m change.there (fired-journal p kind k (record { 0 = place }) object children m (burst - n) change.item change.next few change.changed) ∙ (let grown = so.grows in omega (arith, grown));
      }

  pub round-done : (n place : ℕ) (old now : List OnLine) → length old ≤ place → IsRoundSoFar n place old now → IsRoundOf p kind k object children burst n old now
  round-done n place old now most so = record { most = so.most; lines = all-done _ place old now most so.so; grows = so.grows }

  -- the line at the place is as it was
  pub line-there : (n place : ℕ) (old now : List OnLine) (line : OnLine) → IsRoundSoFar n place old now → slice_get now place ≡ Some line → slice_get old place ≡ Some line
  line-there n place old now line so at = sym (so.so.left place (omega arith)) ∙ at

  pub round-room : (n place : ℕ) (old now : List OnLine) (line : OnLine) → IsRoundSoFar n place old now → HasRoom burst old → slice_get now place ≡ Some line → burst - n ≤ line.room
  round-room n place old now line so room at = let all = room place line (line-there n place old now line so at) in omega (arith, all)

  -- the ends of all children are still there
  pub round-keeps : (n : ℕ) (old new : List OnLine) → IsRoundOf p kind k object children burst n old new → IsWorker children old → IsWorker children new
  round-keeps n old new round is =
      record {
        few_children = is.few_children;
        few_lines = (let few = is.few_lines in let count = round.lines.count in omega (arith, few, count));
        kids = λ l line at.
            let before = there-too new old l line (sym round.lines.count) at in
            let one = round.lines.each l before.0 line before.1 at in
            fired-kids p kind k (record { 0 = l }) object children one.times one.most before.0 line one.within one.fired ∙ is.kids l before.0 before.1;
      }

  -- where fewer firings were made than may be, nothing is possible
  pub round-stuck : (n : ℕ) (old new : List OnLine) → IsRoundOf p kind k object children burst n old new → n < burst → (l : ℕ) (line : OnLine) → slice_get new l ≡ Some line → IsLineStuck p kind k line
  round-stuck n old new round less l line at =
      let before = there-too new old l line (sym round.lines.count) at in
      let one = round.lines.each l before.0 line before.1 at in
      let idle = one.fired.idle (one.all less) in
      record {
        none = idle.none;
        up_requests = idle.looked.ends.asked_requests;
        up_responses = idle.looked.ends.asked_responses;
        kids = λ i kid there. (let last = there-too line.ends.kids one.fired.last.ends.kids i kid (sym idle.looked.ends.kids.count) there in (idle.looked.ends.kids.each i last.0 kid last.1 there).asked);
      }

  -- where no firing was made, there was a look alone
  pub round-looked : (n : ℕ) (old new : List OnLine) → IsRoundOf p kind k object children burst n old new → n ≡ 0 → 0 < burst → AreChanged (λ l. IsSeen) old new
  round-looked n old new round none some = record { count = round.lines.count; each = λ l a b here there. looked l a b (round.lines.each l a b here there) }
    where
      looked : (l : ℕ) (a b : OnLine) → IsLineFired p kind k object children n burst l a b → IsSeen a b
      looked l a b one =
          let idle = one.fired.idle (one.all (omega (arith, none, some))) in
          let zero_times : one.times ≡ 0 = (let share = one.share in omega (arith, share, none)) in
          let last : one.fired.last ≡ a = subst (λ m. Turns p kind k (record { 0 = l }) object children m a one.fired.last) zero_times one.fired.turns in
          subst (λ x. IsSeen x b) last idle.looked

  -- the lines are the object's parts as before
  pub round-parts : (n : ℕ) (old new : List OnLine) → IsRoundOf p kind k object children burst n old new → IsProtocol p → (tree : Tree) (start : State) → AreParts p tree start (record { object = object; kind = kind; self_count = k; children = children; lines = old }) → AreParts p tree start (record { object = object; kind = kind; self_count = k; children = children; lines = new })
  round-parts n old new round lawful tree start parts =
      record {
        stands = parts.stands;
        each = λ l line now at here.
            let before = there-too new old l now (sym round.lines.count) here in
            let one = round.lines.each l before.0 now before.1 here in
            all-lengthen p tree kind k (record { 0 = l }) object children (local_at line object.0) (list_at line object.0 Requests) one.times one.most before.0 now one.within lawful parts.stands (parts.each l line before.0 at before.1) one.fired;
      }

-- a new worker has no line
pub new-worker : (tree : Tree) (o : ℕ) (ids children : List ObjectId) (lines : List OnLine) → IsLawful tree → map (λ (id : ObjectId). id.0) ids ≡ children_of tree o → children ≡ ids → lines ≡ [] → IsWorker children lines
new-worker tree o ids children lines lawful are same none =
    let few = lawful.children o in
    let size = ap length (sym are) ∙ length-map ids (λ (id : ObjectId). id.0) in
    let count = ap length same in
    let empty = ap length none in
    record {
      few_children = omega (arith, few, size, count);
      few_lines = omega (arith, empty);
      kids = λ l line at. (let clash : slice_get [] l ≡ Some line = sym (ap (λ xs. slice_get xs l) none) ∙ at in cc);
    }

-- a line more
line-at-end : (lines : List OnLine) (line x : OnLine) (i : ℕ) → slice_get (lines ++ line ∷ []) i ≡ Some x → (slice_get lines i ≡ Some x) ⊎ (line ≡ x)
line-at-end [] line x zero at = inr cc
line-at-end [] line x (suc i) at = cc
line-at-end (y ∷ lines) line x zero at = inl at
line-at-end (y ∷ lines) line x (suc i) at = line-at-end lines line x i at

pub added-worker : {A B : Type 0} (result : Result A B) (children : List ObjectId) (old new : List OnLine) (line : OnLine) → OnOk result (new ≡ old ++ line ∷ []) → OnErr result (new ≡ old) → IsWorker children old → length old + 1 < 2 ^ 32 → length line.ends.kids ≡ length children → IsWorker children new
added-worker (Err e) children old new line ok err is few kids = subst (IsWorker children) (sym err) is
added-worker (Ok u) children old new line ok err is few kids =
    subst (IsWorker children) (sym ok)
    (record {
      few_children = is.few_children;
      few_lines = (let size = length-append old (line ∷ []) in omega (arith, few, size));
      kids = λ l x at. ⊎_elim (λ there. is.kids l x there) (λ same. ap (λ (y : OnLine). length y.ends.kids) (sym same) ∙ kids) (line-at-end old line x l at);
    })

-- room alone changes no ends
pub roomy-worker : (children : List ObjectId) (old new : List OnLine) → AreChanged (λ l. IsSameButRoom) old new → IsWorker children old → IsWorker children new
roomy-worker children old new same is =
    record {
      few_children = is.few_children;
      few_lines = (let few = is.few_lines in let count = same.count in omega (arith, few, count));
      kids = λ l line at. (let before = there-too new old l line (sym same.count) at in ap (λ (x : OnLine). length x.ends.kids) (same.each l before.0 line before.1 at).same ∙ is.kids l before.0 before.1);
    }

-- nor does a journal that is taken out
pub emptied-worker : (children : List ObjectId) (journal : List Stamped) (place : ℕ) (old new : List OnLine) → IsChangedAt (IsJournalTaken journal) place old new → IsWorker children old → IsWorker children new
emptied-worker children journal place old new change is =
    record {
      few_children = is.few_children;
      few_lines = (let few = is.few_lines in let count = ap length change.after ∙ length-set old place change.next in omega (arith, few, count));
      kids = λ l line at. by_place l line at (same-or-other l place);
    }
  where
    by_place : (l : ℕ) (line : OnLine) → slice_get new l ≡ Some line → (l ≡ place) ⊎ (l ≢ place) → length line.ends.kids ≡ length children
    by_place l line at (inl same) =
        let one : Some change.next ≡ Some line = sym (get_set_here old place change.next (slice_get_within old place change.item change.there)) ∙ sym (ap (λ (xs : List OnLine). slice_get xs place) change.after) ∙ sym (ap (slice_get new) same) ∙ at in
        let next : change.next ≡ line = cc in
        sym (ap (λ (x : OnLine). length x.ends.kids) next) ∙ ap (λ (x : OnLine). length x.ends.kids) change.changed.same ∙ is.kids place change.item change.there
    by_place l line at (inr other) = is.kids l line (sym (get_set_other old place l change.next other) ∙ sym (ap (λ (xs : List OnLine). slice_get xs l) change.after) ∙ at)
