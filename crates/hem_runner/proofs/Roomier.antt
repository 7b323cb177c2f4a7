-- Room alone changes nothing of a crew.
use Rattle.std.proofs.Common.{◌≡◌, refl, ap, sym, subst, ℕ, suc, arith, List, [], ◌∷◌, length, Option, Some}
use Rattle.std.specs.Prelude.{slice_get}
use Rattle.hem_base.specs.declared.ids.Message.{Message}
use Rattle.hem_syntax.specs.Protocol.{Protocol}
use Rattle.hem_object.specs.Local.{Local}
use Rattle.hem_tree.specs.Tree.{Tree}
use Rattle.hem_system.specs.declared.lane.Lane.TheVariants.{Requests}
use Rattle.hem_system.specs.State.{State, local_at, list_at}
use Rattle.hem_parts.proofs.AllRun.{there-too}
use Rattle.hem_ends.specs.Ends.{Ends}
use Rattle.hem_turns.specs.OnLine.{OnLine}
use Rattle.hem_worker.specs.LineParts.{HasPart}
use Rattle.hem_worker.specs.Workers.{Worker, AreChanged, IsSameButRoom, AreParts, journaled}
use Rattle.hem_worker.specs.Edges.{AreStill, channels_of}
use Rattle.hem_worker.proofs.Settled.{lines-channels}
use Rattle.hem_crew.specs.Rounds.{IsKept, IsStill, all_journaled}
use Rattle.hem_crew.proofs.Learning.{OnlyLearn}
use Rattle.hem_runner.specs.Rounds.{IsRoomier, AllHaveRoom}
use Rattle.hem_runner.proofs.Stills.{ends-self}

-- an object's part of a line doesn't speak of room
room-part : (p : Protocol) (tree : Tree) (k l o : ℕ) (start : Option Local) (requests : List Message) (old new : OnLine) → HasPart p tree k l o start requests old → IsSameButRoom old new → HasPart p tree k l o start requests new
room-part p tree k l o start requests old new had is =
    subst (HasPart p tree k l o start requests) (sym is.same)
    (record { part = had.part; is = had.is; journal = had.journal; last = had.last; received = had.received; sent = had.sent; answers = had.answers; kids = had.kids; selfs = had.selfs; few = had.few })

room-parts : (burst : ℕ) (p : Protocol) (tree : Tree) (start : State) (old new : Worker) → IsRoomier burst old new → AreParts p tree start old → AreParts p tree start new
room-parts burst p tree start old new is parts =
    subst (AreParts p tree start) (sym is.same)
    (record {
      stands = parts.stands;
      each = λ l line now at here. (let before = there-too new.lines old.lines l now (sym is.lines.count) here in room-part p tree old.self_count l old.object.0 (local_at line old.object.0) (list_at line old.object.0 Requests) before.0 now (parts.each l line before.0 at before.1) (is.lines.each l before.0 now before.1 here));
    })

pub roomier-kept : (burst : ℕ) (p : Protocol) (old new : Worker) → IsRoomier burst old new → IsKept p old new
roomier-kept burst p old new is =
    record {
      same = is.same;
      count = is.lines.count;
      parts = λ tree start parts. room-parts burst p tree start old new is parts;
      channels = lines-channels old.lines new.lines is.lines.count (λ l a b here there. ap (λ (line : OnLine). channels_of line.ends) (is.lines.each l a b here there).same);
    }

pub roomier-learn : (burst : ℕ) (old new : List Worker) → AreChanged (λ o. IsRoomier burst) old new → OnlyLearn old new
roomier-learn burst old new is =
    record {
      count = is.count;
      each = λ o a b here there.
          (let lines = (is.each o a b here there).lines in
          record { count = lines.count; each = λ l x y at this. subst (λ (ends : Ends). AreStill x.ends ends) (sym (ap (λ (line : OnLine). line.ends) (lines.each l x y at this).same)) (ends-self x.ends) });
    }

-- the same journals have as many firings
journaled-same : (old new : List OnLine) → length new ≡ length old → ((l : ℕ) (a b : OnLine) → slice_get old l ≡ Some a → slice_get new l ≡ Some b → b.journal ≡ a.journal) → journaled new ≡ journaled old
journaled-same [] [] count each = refl
journaled-same [] (b ∷ new) count each = absurd (omega (arith, count))
journaled-same (a ∷ old) [] count each = absurd (omega (arith, count))
journaled-same (a ∷ old) (b ∷ new) count each =
    let less : length new ≡ length old = omega (arith, count) in
    let rest = journaled-same old new less (λ l x y here there. each (suc l) x y here there) in
    let first = ap length (each 0 a b refl refl) in
    omega (arith, rest, first)

all-journaled-same : (old new : List Worker) → length new ≡ length old → ((o : ℕ) (a b : Worker) → slice_get old o ≡ Some a → slice_get new o ≡ Some b → journaled b.lines ≡ journaled a.lines) → all_journaled new ≡ all_journaled old
all-journaled-same [] [] count each = refl
all-journaled-same [] (b ∷ new) count each = absurd (omega (arith, count))
all-journaled-same (a ∷ old) [] count each = absurd (omega (arith, count))
all-journaled-same (a ∷ old) (b ∷ new) count each =
    let less : length new ≡ length old = omega (arith, count) in
    let rest = all-journaled-same old new less (λ o x y here there. each (suc o) x y here there) in
    let first = each 0 a b refl refl in
    omega (arith, rest, first)

pub roomier-journaled : (burst : ℕ) (old new : List Worker) → AreChanged (λ o. IsRoomier burst) old new → all_journaled new ≡ all_journaled old
roomier-journaled burst old new is =
    all-journaled-same old new is.count (λ o a b here there.
    let lines = (is.each o a b here there).lines in
    journaled-same a.lines b.lines lines.count (λ l x y at this. ap (λ (line : OnLine). line.journal) (lines.each l x y at this).same))

pub still-journaled : (p : Protocol) (old new : List Worker) → AreChanged (λ o. IsStill p) old new → all_journaled new ≡ all_journaled old
still-journaled p old new is =
    all-journaled-same old new is.count (λ o a b here there.
    let lines = (is.each o a b here there).lines in
    journaled-same a.lines b.lines lines.count (λ l x y at this. ap (λ (line : OnLine). line.journal) (lines.each l x y at this).same))

-- there is room afterwards
pub roomier-room : (burst : ℕ) (old new : List Worker) → AreChanged (λ o. IsRoomier burst) old new → AllHaveRoom burst new
roomier-room burst old new is o w at = let before = there-too new old o w (sym is.count) at in (is.each o before.0 w before.1 at).room
