-- Turns one after another lengthen the object's part.
use Rattle.std.proofs.Common.{◌≡◌, refl, ap, sym, ◌∙◌, subst, ℕ, zero, suc, ◌≤◌, arith, List, [], map, drop, Option, Some, None, length, ⊎_elim}
use Rattle.std.specs.Prelude.{slice_get}
use Rattle.std.specs.Option.{option_map_or}
use Rattle.std.proofs.str.Laws.{order}
use Rattle.hem_base.specs.declared.ids.Kind.{Kind}
use Rattle.hem_base.specs.declared.ids.LineId.{LineId}
use Rattle.hem_base.specs.declared.ids.ObjectId.{ObjectId}
use Rattle.hem_base.specs.declared.ids.Message.{Message}
use Rattle.hem_base.specs.declared.ids.Carried.{Carried}
use Rattle.hem_base.specs.declared.ids.Stamped.{Stamped}
use Rattle.hem_syntax.specs.Protocol.{Protocol}
use Rattle.hem_syntax.specs.Lawful.{IsProtocol}
use Rattle.hem_object.specs.Local.{Local}
use Rattle.hem_tree.specs.Tree.{Tree, children_of, place_among}
use Rattle.hem_system.specs.declared.lane.Lane.{Lane}
use Rattle.hem_system.specs.declared.lane.Lane.TheVariants.{UpRequests, UpResponses, Down, Requests, Answers}
use Rattle.hem_system.specs.Ended.{self_firings}
use Rattle.hem_wire.specs.Seen.{Giving, Getting}
use Rattle.hem_ends.specs.Ends.{Kid, Ends, IfThere}
use Rattle.hem_parts.specs.Steps.{empty_part}
use Rattle.hem_parts.specs.Tied.{IsPart}
use Rattle.hem_parts.proofs.Step.{part-empty}
use Rattle.hem_turns.specs.OnLine.{OnLine, sight_of, IsSeen, HasFired, Turns, HaveFired}
use Rattle.hem_turns.proofs.Chosen.{is-chosen}
use Rattle.hem_worker.specs.LineParts.{Stands, HasPart, AreUnused, IsNew, received_by, sent_by}
use Rattle.hem_worker.proofs.EndsKept.{looked-still, still-received, still-sent}
use Rattle.hem_worker.specs.Edges.{AreStill, IsLineStill}
use Rattle.hem_worker.proofs.Fired.{firing-lengthens}

-- the part stays where nothing goes through the ends
still-keeps : (p : Protocol) (tree : Tree) (k l o : ℕ) (start : Option Local) (requests : List Message) (old : OnLine) (ends : Ends) → HasPart p tree k l o start requests old → AreStill old.ends ends → HasPart p tree k l o start requests (record old { ends = ends })
still-keeps p tree k l o start requests old ends had still =
    record {
      part = had.part;
      is = had.is;
      journal = had.journal;
      last = had.last;
      received = λ k lane other mine. had.received k lane other mine ∙ sym (still-received tree o old.ends ends still k lane);
      sent = λ k lane other mine. had.sent k lane other mine ∙ sym (still-sent tree o old.ends ends still k lane);
      answers = had.answers;
      kids = still.kids.count ∙ had.kids;
      selfs = had.selfs;
      few = had.few;
    }

pub line-still-keeps : (p : Protocol) (tree : Tree) (k l o : ℕ) (start : Option Local) (requests : List Message) (old new : OnLine) → HasPart p tree k l o start requests old → IsLineStill old new → HasPart p tree k l o start requests new
line-still-keeps p tree k l o start requests old new had still = subst (HasPart p tree k l o start requests) (sym still.same) (still-keeps p tree k l o start requests old new.ends had still.ends)

-- so along a look
pub look-keeps : (p : Protocol) (tree : Tree) (k l o : ℕ) (start : Option Local) (requests : List Message) (old new : OnLine) → HasPart p tree k l o start requests old → IsSeen old new → HasPart p tree k l o start requests new
look-keeps p tree k l o start requests old new had seen = line-still-keeps p tree k l o start requests old new had (record { same = seen.same; ends = looked-still old.ends new.ends seen.ends })

pub turn-lengthens : (p : Protocol) (tree : Tree) (kind : Kind) (k : ℕ) (line : LineId) (object : ObjectId) (children : List ObjectId) (start : Option Local) (requests : List Message) (old new : OnLine) → IsProtocol p → Stands tree object kind children → HasPart p tree k line.0 object.0 start requests old → HasFired p kind k line object children old new → HasPart p tree k line.0 object.0 start requests new
turn-lengthens p tree kind k line object children start requests old new lawful stands had fired =
    let seen = look-keeps p tree k line.0 object.0 start requests old fired.seen had fired.looked in
    firing-lengthens p tree kind k line object children lawful stands fired.seen seen.kids fired.choice (is-chosen p kind fired.seen.local (sight_of k fired.seen) fired.choice fired.chosen) start requests new seen fired.fired

turns-lengthen : (p : Protocol) (tree : Tree) (kind : Kind) (k : ℕ) (line : LineId) (object : ObjectId) (children : List ObjectId) (start : Option Local) (requests : List Message) (n : ℕ) (old new : OnLine) → IsProtocol p → Stands tree object kind children → HasPart p tree k line.0 object.0 start requests old → Turns p kind k line object children n old new → HasPart p tree k line.0 object.0 start requests new
turns-lengthen p tree kind k line object children start requests zero old new lawful stands had same = subst (HasPart p tree k line.0 object.0 start requests) (sym same) had
turns-lengthen p tree kind k line object children start requests (suc n) old new lawful stands had turns =
    turn-lengthens p tree kind k line object children start requests turns.0 new lawful stands (turns-lengthen p tree kind k line object children start requests n old turns.0 lawful stands had turns.1) turns.2

pub all-lengthen : (p : Protocol) (tree : Tree) (kind : Kind) (k : ℕ) (line : LineId) (object : ObjectId) (children : List ObjectId) (start : Option Local) (requests : List Message) (n most : ℕ) (old new : OnLine) → n ≤ most → IsProtocol p → Stands tree object kind children → HasPart p tree k line.0 object.0 start requests old → HaveFired p kind k line object children n most old new → HasPart p tree k line.0 object.0 start requests new
all-lengthen p tree kind k line object children start requests n most old new within lawful stands had fired =
    let last = turns-lengthen p tree kind k line object children start requests n old fired.last lawful stands had fired.turns in
    ⊎_elim
    (λ less. look-keeps p tree k line.0 object.0 start requests fired.last new last (fired.idle less).looked)
    (λ past. (let same : n ≡ most = omega (arith, within, past) in subst (HasPart p tree k line.0 object.0 start requests) (sym (fired.all same)) last))
    (order n most)

-- nothing was received and sent by unused ends
unused-kids : (F : Kid → List Carried) (kids : List Kid) (i : ℕ) (found : Option Kid) → slice_get kids i ≡ found → ((kid : Kid) → slice_get kids i ≡ Some kid → F kid ≡ []) → [] ≡ option_map_or F (slice_get kids i) []
unused-kids F kids i None at none = sym (ap (λ o. option_map_or F o []) at)
unused-kids F kids i (Some kid) at none = sym (ap (λ o. option_map_or F o []) at ∙ none kid at)

unused-getting : (end : Option Getting) → IfThere (λ (getting : Getting). getting.received ≡ []) end → [] ≡ option_map_or (λ (getting : Getting). getting.received) end []
unused-getting None none = refl
unused-getting (Some getting) none = sym none

unused-giving : (end : Option Giving) → IfThere (λ (giving : Giving). giving.sent ≡ []) end → [] ≡ option_map_or (λ (giving : Giving). giving.sent) end []
unused-giving None none = refl
unused-giving (Some giving) none = sym none

none-received : (tree : Tree) (o : ℕ) (ends : Ends) → AreUnused ends → (k : ℕ) (lane : Lane) → [] ≡ received_by tree o ends k lane
none-received tree o ends unused k UpRequests = unused-kids (λ kid. kid.requests.received) ends.kids (place_among tree o k) (slice_get ends.kids (place_among tree o k)) refl (unused.requests (place_among tree o k))
none-received tree o ends unused k UpResponses = unused-kids (λ kid. kid.responses.received) ends.kids (place_among tree o k) (slice_get ends.kids (place_among tree o k)) refl (unused.responses (place_among tree o k))
none-received tree o ends unused k Down = unused-getting ends.down unused.down
none-received tree o ends unused k Requests = refl
none-received tree o ends unused k Answers = refl

none-sent : (tree : Tree) (o : ℕ) (ends : Ends) → AreUnused ends → (k : ℕ) (lane : Lane) → [] ≡ sent_by tree o ends k lane
none-sent tree o ends unused k UpRequests = unused-giving ends.up_requests unused.up_requests
none-sent tree o ends unused k UpResponses = unused-giving ends.up_responses unused.up_responses
none-sent tree o ends unused k Down = unused-kids (λ kid. kid.down.sent) ends.kids (place_among tree o k) (slice_get ends.kids (place_among tree o k)) refl (unused.kids (place_among tree o k))
none-sent tree o ends unused k Requests = refl
none-sent tree o ends unused k Answers = refl

-- a new line has the empty part
pub new-part : (p : Protocol) (tree : Tree) (k l o : ℕ) (line : OnLine) → IsNew (length (children_of tree o)) line → HasPart p tree k l o (Some line.local) line.requests line
new-part p tree k l o line new =
    record {
      part = empty_part;
      is = subst (IsPart p tree l o (Some line.local) line.requests empty_part (Some line.local)) (sym (ap (λ n. drop n line.requests) new.taken)) (part-empty p tree l o (Some line.local) line.requests);
      journal = sym new.journal;
      last = sym new.last;
      received = λ k lane other mine. none-received tree o line.ends new.ends k lane;
      sent = λ k lane other mine. none-sent tree o line.ends new.ends k lane;
      answers = sym new.answers;
      kids = new.kids;
      selfs = ap (λ js. self_firings p tree (map (λ (s : Stamped). s.firing) js) l o) new.journal ∙ sym new.selfs;
      few = (let none = new.selfs in omega (arith, none));
    }
