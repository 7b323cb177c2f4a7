-- The channels of an object's edges stay along its firings.
use Rattle.std.proofs.Common.{◌≡◌, ap, ◌∙◌, ℕ, zero, suc, ◌≤◌, Bool, List, map, Option, ⊎_elim}
use Rattle.std.specs.Prelude.{option_map}
use Rattle.hem_base.specs.Sets.{has_bit}
use Rattle.hem_base.specs.declared.ids.KidSet.{KidSet}
use Rattle.hem_base.specs.declared.ids.Kind.{Kind}
use Rattle.hem_base.specs.declared.ids.LineId.{LineId}
use Rattle.hem_base.specs.declared.ids.ObjectId.{ObjectId}
use Rattle.hem_base.specs.declared.ids.Carried.{Carried}
use Rattle.hem_syntax.specs.Protocol.{Protocol}
use Rattle.hem_fire.specs.declared.outs.To.{To}
use Rattle.hem_wire.specs.Seen.{Giving, Getting}
use Rattle.hem_ends.specs.Ends.{Ends, IsTaken, IsGiven, IsKidTaken, IsKidGiven, AreTaken, AreGiven, is_place, goes_down, goes_up_request, goes_up_response}
use Rattle.hem_turns.specs.OnLine.{OnLine, IsSeen, Turns, HaveFired}
use Rattle.hem_worker.specs.Rounds.{IsRoundOf}
use Rattle.hem_worker.specs.Edges.{channels_of}
use Rattle.hem_worker.proofs.EndsKept.{looked-still}
use Rattle.hem_worker.proofs.RoundsRun.{by-end}
use Rattle.hem_worker.proofs.Settled.{end-channel, kids-channels, still-channels, lines-channels}

taken-channels : (parent : Bool) (me : Option ℕ) (responses : KidSet) (old new : Ends) → AreTaken parent me responses old new → channels_of new ≡ channels_of old
taken-channels parent me responses old new taken =
    λ i. record {
      up_requests = ap (option_map (λ (giving : Giving). giving.channel)) taken.up_requests i;
      up_responses = ap (option_map (λ (giving : Giving). giving.channel)) taken.up_responses i;
      down = end-channel (λ getting. getting.channel) (IsTaken parent) old.down new.down (λ a b is. is.channel) taken.down i;
      kids = kids-channels _ (λ k. IsKidTaken (is_place me k) (has_bit responses.0 k)) old.kids new.kids (λ k a b is. (λ j. record { requests = is.requests.channel j; responses = is.responses.channel j; down = ap (λ (giving : Giving). giving.channel) is.down j })) taken.kids i;
    }

given-channels : (to : To) (c : Carried) (old new : Ends) → AreGiven to c old new → channels_of new ≡ channels_of old
given-channels to c old new given =
    λ i. record {
      up_requests = end-channel (λ giving. giving.channel) (IsGiven (goes_up_request to) c) old.up_requests new.up_requests (λ a b is. is.channel) given.up_requests i;
      up_responses = end-channel (λ giving. giving.channel) (IsGiven (goes_up_response to) c) old.up_responses new.up_responses (λ a b is. is.channel) given.up_responses i;
      down = ap (option_map (λ (getting : Getting). getting.channel)) given.down i;
      kids = kids-channels _ (λ k. IsKidGiven (goes_down to k) c) old.kids new.kids (λ k a b is. (λ j. record { requests = ap (λ (getting : Getting). getting.channel) is.requests j; responses = ap (λ (getting : Getting). getting.channel) is.responses j; down = is.down.channel j })) given.kids i;
    }

seen-channels : (old new : OnLine) → IsSeen old new → channels_of new.ends ≡ channels_of old.ends
seen-channels old new seen = still-channels old.ends new.ends (looked-still old.ends new.ends seen.ends)

turns-channels : (p : Protocol) (kind : Kind) (k : ℕ) (line : LineId) (object : ObjectId) (children : List ObjectId) (n : ℕ) (old new : OnLine) → Turns p kind k line object children n old new → channels_of new.ends ≡ channels_of old.ends
turns-channels p kind k line object children zero old new same = ap (λ (l : OnLine). channels_of l.ends) same
turns-channels p kind k line object children (suc n) old new turns =
    let fired = turns.2 in
    given-channels _ _ fired.fired.between new.ends fired.fired.gives
    ∙ taken-channels _ _ _ fired.seen.ends fired.fired.between fired.fired.takes
    ∙ seen-channels turns.0 fired.seen fired.looked
    ∙ turns-channels p kind k line object children n old turns.0 turns.1

fired-channels : (p : Protocol) (kind : Kind) (k : ℕ) (line : LineId) (object : ObjectId) (children : List ObjectId) (n most : ℕ) (old new : OnLine) → n ≤ most → HaveFired p kind k line object children n most old new → channels_of new.ends ≡ channels_of old.ends
fired-channels p kind k line object children n most old new within fired =
    let last = turns-channels p kind k line object children n old fired.last fired.turns in
    ⊎_elim (λ (seen : IsSeen fired.last new). seen-channels fired.last new seen ∙ last) (λ same. ap (λ (l : OnLine). channels_of l.ends) same ∙ last) (by-end p kind k line object children n most old new within fired)

pub round-channels : (p : Protocol) (kind : Kind) (k : ℕ) (object : ObjectId) (children : List ObjectId) (burst n : ℕ) (old new : List OnLine) → IsRoundOf p kind k object children burst n old new → map (λ (line : OnLine). channels_of line.ends) new ≡ map (λ (line : OnLine). channels_of line.ends) old
round-channels p kind k object children burst n old new round =
    lines-channels old new round.lines.count (λ l a b here there. (let one = round.lines.each l a b here there in fired-channels p kind k (record { 0 = l }) object children one.times one.most a b one.within one.fired))
