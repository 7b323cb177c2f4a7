-- What the two ends of a channel know of each other stays, where each only learns.
use Rattle.std.proofs.Common.{◌≡◌, refl, ap, sym, ◌∙◌, ℕ, ◌+◌, ◌≤◌, arith, List, ◌++◌, length, Option, Some, None, append_assoc}
use Rattle.std.specs.Prelude.{slice_get, option_and_then}
use mathlib.Core.List.{IsPrefix}
use Rattle.hem_tree.specs.Tree.{Tree, parent_of, place_among}
use Rattle.hem_parts.proofs.AllRun.{there-too}
use Rattle.hem_wire.specs.Channel.{open_slots}
use Rattle.hem_wire.specs.Seen.{Giving, Getting}
use Rattle.hem_ends.specs.Ends.{Kid, Ends, IfThere, BothOrNeither, IsPeeked, IsReserved}
use Rattle.hem_turns.specs.OnLine.{OnLine}
use Rattle.hem_worker.specs.Workers.{Worker, AreChanged}
use Rattle.hem_worker.specs.Edges.{IsKidStill, AreStill}
use Rattle.hem_crew.specs.Crew.{line_of}
use Rattle.hem_crew.specs.Knowing.{KnowAll, KnowNoMore, OnChannels, OnEdges}

pub prefix-longer : {A : Type 0} (xs ys zs : List A) → IsPrefix xs ys → IsPrefix ys zs → IsPrefix xs zs
prefix-longer xs ys zs p q = (p.0 ++ q.0, sym (append_assoc xs p.0 q.0) ∙ ap (λ l. l ++ q.0) p.1 ∙ q.1)

-- a fact of two ends holds on, where they only learn
abbrev pub GoesOn : (Giving → Getting → Type 0) → Type 0
GoesOn Know = (giving given : Giving) (getting gotten : Getting) → Know giving getting → IsReserved giving given → IsPeeked getting gotten → Know given gotten

-- a fact of two ends held before, where they only learned since
abbrev pub HeldBefore : (Giving → Getting → Type 0) → Type 0
HeldBefore Know = (giving given : Giving) (getting gotten : Getting) → Know given gotten → IsReserved giving given → IsPeeked getting gotten → Know giving getting

-- ends that know all know all later
pub know-all-later : GoesOn KnowAll
know-all-later giving given getting gotten know gives gets =
    record {
      waiting = know.waiting;
      all = gives.sent ∙ know.all ∙ ap (λ xs. xs ++ know.waiting) (sym gets.received);
      known = prefix-longer know.waiting getting.known gotten.known know.known gets.known;
      slots = (let same : given.channel.slots ≡ giving.channel.slots = ap (λ c. c.slots) gives.channel in let all = know.slots in let more = gives.slots in omega (arith, same, all, more));
    }

-- ends that know no more knew no more before
pub know-no-more-before : HeldBefore KnowNoMore
know-no-more-before giving given getting gotten know gives gets =
    record {
      waiting = know.waiting;
      all = sym gives.sent ∙ know.all ∙ ap (λ xs. xs ++ know.waiting) gets.received;
      known = prefix-longer getting.known gotten.known know.waiting gets.known know.known;
      slots = (let same : given.channel.slots ≡ giving.channel.slots = ap (λ c. c.slots) gives.channel in let all = know.slots in let more = gives.slots in omega (arith, same, all, more));
    }

-- the same of an end that may not be there
there-later : {A : Type 0} (F G : A → Type 0) (Change : A → A → Type 0) (old new : Option A) → ((a b : A) → F a → Change a b → G b) → IfThere F old → BothOrNeither Change old new → IfThere G new
there-later F G Change None None step know is = tt
there-later F G Change (Some a) (Some b) step know is = step a b know is
there-later F G Change None (Some b) step know is = elim is [ ]
there-later F G Change (Some a) None step know is = elim is [ ]

there-before : {A : Type 0} (F G : A → Type 0) (Change : A → A → Type 0) (old new : Option A) → ((a b : A) → G b → Change a b → F a) → IfThere G new → BothOrNeither Change old new → IfThere F old
there-before F G Change None None step know is = tt
there-before F G Change (Some a) (Some b) step know is = step a b know is
there-before F G Change None (Some b) step know is = elim is [ ]
there-before F G Change (Some a) None step know is = elim is [ ]

-- the same of an edge's three channels
channels-later : (Know : Giving → Getting → Type 0) (kid next : Kid) (low down : Ends) → GoesOn Know → OnChannels Know kid low → IsKidStill kid next → AreStill low down → OnChannels Know next down
channels-later Know kid next low down step know upper lower =
    record {
      requests = there-later (λ giving. Know giving kid.requests) (λ giving. Know giving next.requests) IsReserved low.up_requests down.up_requests (λ a b is more. step a b kid.requests next.requests is more upper.requests) know.requests lower.up_requests;
      responses = there-later (λ giving. Know giving kid.responses) (λ giving. Know giving next.responses) IsReserved low.up_responses down.up_responses (λ a b is more. step a b kid.responses next.responses is more upper.responses) know.responses lower.up_responses;
      down = there-later (λ getting. Know kid.down getting) (λ getting. Know next.down getting) IsPeeked low.down down.down (λ a b is more. step kid.down next.down a b is upper.down more) know.down lower.down;
    }

channels-before : (Know : Giving → Getting → Type 0) (kid next : Kid) (low down : Ends) → HeldBefore Know → OnChannels Know next down → IsKidStill kid next → AreStill low down → OnChannels Know kid low
channels-before Know kid next low down step know upper lower =
    record {
      requests = there-before (λ giving. Know giving kid.requests) (λ giving. Know giving next.requests) IsReserved low.up_requests down.up_requests (λ a b is more. step a b kid.requests next.requests is more upper.requests) know.requests lower.up_requests;
      responses = there-before (λ giving. Know giving kid.responses) (λ giving. Know giving next.responses) IsReserved low.up_responses down.up_responses (λ a b is more. step a b kid.responses next.responses is more upper.responses) know.responses lower.up_responses;
      down = there-before (λ getting. Know kid.down getting) (λ getting. Know next.down getting) IsPeeked low.down down.down (λ a b is more. step kid.down next.down a b is upper.down more) know.down lower.down;
    }

-- the ends of all workers only learn
pub record OnlyLearn (old new : List Worker) : Type 0 where
  pub count : length new ≡ length old
  pub each : (o : ℕ) (a b : Worker) → slice_get old o ≡ Some a → slice_get new o ≡ Some b → AreChanged (λ l x y. AreStill x.ends y.ends) a.lines b.lines

-- a line of an object before it only learned, and after
pub record WasThere (old : List Worker) (l o : ℕ) (new : OnLine) : Type 0 where
  pub line : OnLine
  pub there : line_of old l o ≡ Some line
  pub still : AreStill line.ends new.ends

pub record IsThere (old : OnLine) (new : List Worker) (l o : ℕ) : Type 0 where
  pub line : OnLine
  pub there : line_of new l o ≡ Some line
  pub still : AreStill old.ends line.ends

pub line-before : (old new : List Worker) (l o : ℕ) (now : OnLine) → OnlyLearn old new → line_of new l o ≡ Some now → WasThere old l o now
line-before old new l o now learn at = by_worker (slice_get new o) refl at
  where
    by_worker : (found : Option Worker) → slice_get new o ≡ found → option_and_then (λ (w : Worker). slice_get w.lines l) found ≡ Some now → WasThere old l o now
    by_worker None here is = cc
    by_worker (Some w) here is =
        let before = there-too new old o w (sym learn.count) here in
        let lines = learn.each o before.0 w before.1 here in
        let line = there-too w.lines before.0.lines l now (sym lines.count) is in
        record { line = line.0; there = ap (option_and_then (λ (w : Worker). slice_get w.lines l)) before.1 ∙ line.1; still = lines.each l line.0 now line.1 is }

pub line-after : (old new : List Worker) (l o : ℕ) (was : OnLine) → OnlyLearn old new → line_of old l o ≡ Some was → IsThere was new l o
line-after old new l o was learn at = by_worker (slice_get old o) refl at
  where
    by_worker : (found : Option Worker) → slice_get old o ≡ found → option_and_then (λ (w : Worker). slice_get w.lines l) found ≡ Some was → IsThere was new l o
    by_worker None here is = cc
    by_worker (Some w) here is =
        let after = there-too old new o w learn.count here in
        let lines = learn.each o w after.0 here after.1 in
        let line = there-too w.lines after.0.lines l was lines.count is in
        record { line = line.0; there = ap (option_and_then (λ (w : Worker). slice_get w.lines l)) after.1 ∙ line.1; still = lines.each l was line.0 is line.1 }

-- a fact of the ends of an edge, from the same before or after
pub edge-later : (Know : Giving → Getting → Type 0) (place l o high : ℕ) (old new : List Worker) → GoesOn Know → OnlyLearn old new → ((low up : OnLine) (kid : Kid) → line_of old l o ≡ Some low → line_of old l high ≡ Some up → slice_get up.ends.kids place ≡ Some kid → OnChannels Know kid low.ends) → (low up : OnLine) (kid : Kid) → line_of new l o ≡ Some low → line_of new l high ≡ Some up → slice_get up.ends.kids place ≡ Some kid → OnChannels Know kid low.ends
edge-later Know place l o high old new step learn know low up kid low_there up_there kid_there =
    let lower = line-before old new l o low learn low_there in
    let upper = line-before old new l high up learn up_there in
    let was = there-too up.ends.kids upper.line.ends.kids place kid (sym upper.still.kids.count) kid_there in
    channels-later Know was.0 kid lower.line.ends low.ends step
    (know lower.line upper.line was.0 lower.there upper.there was.1)
    (upper.still.kids.each place was.0 kid was.1 kid_there)
    lower.still

pub edge-before : (Know : Giving → Getting → Type 0) (place l o high : ℕ) (old new : List Worker) → HeldBefore Know → OnlyLearn old new → ((low up : OnLine) (kid : Kid) → line_of new l o ≡ Some low → line_of new l high ≡ Some up → slice_get up.ends.kids place ≡ Some kid → OnChannels Know kid low.ends) → (low up : OnLine) (kid : Kid) → line_of old l o ≡ Some low → line_of old l high ≡ Some up → slice_get up.ends.kids place ≡ Some kid → OnChannels Know kid low.ends
edge-before Know place l o high old new step learn know low up kid low_there up_there kid_there =
    let lower = line-after old new l o low learn low_there in
    let upper = line-after old new l high up learn up_there in
    let next = there-too up.ends.kids upper.line.ends.kids place kid upper.still.kids.count kid_there in
    channels-before Know kid next.0 low.ends lower.line.ends step
    (know lower.line upper.line next.0 lower.there upper.there next.1)
    (upper.still.kids.each place kid next.0 kid_there next.1)
    lower.still

-- so on all edges
pub edges-later : (Know : Giving → Getting → Type 0) (tree : Tree) (old new : List Worker) → GoesOn Know → OnlyLearn old new → OnEdges tree old Know → OnEdges tree new Know
edges-later Know tree old new step learn know l o high low up kid parent =
    edge-later Know (place_among tree high o) l o high old new step learn (λ a b c here there at. know l o high a b c parent here there at) low up kid

pub edges-before : (Know : Giving → Getting → Type 0) (tree : Tree) (old new : List Worker) → HeldBefore Know → OnlyLearn old new → OnEdges tree new Know → OnEdges tree old Know
edges-before Know tree old new step learn know l o high low up kid parent =
    edge-before Know (place_among tree high o) l o high old new step learn (λ a b c here there at. know l o high a b c parent here there at) low up kid
