-- Settling an edge on one line after another.
use Rattle.std.proofs.Common.{◌≡◌, refl, ap, sym, ◌∙◌, subst, ℕ, ◌+◌, ◌<◌, ◌≤◌, arith, List, [], length, map, Option, Some, None, ◌⊎◌, inl, inr, ◌≢◌}
use Rattle.std.specs.Prelude.{slice_get, slice_set, option_map}
use Rattle.std.proofs.lemmas.List.{append-nil, length-set}
use Rattle.std.proofs.lemmas.Option.{slice_get-map, slice_get_within}
use Rattle.hem_base.specs.declared.ids.ObjectId.{ObjectId}
use Rattle.hem_syntax.specs.Protocol.{Protocol}
use Rattle.hem_tree.specs.Tree.{Tree}
use Rattle.hem_system.specs.declared.lane.Lane.TheVariants.{Requests}
use Rattle.hem_system.specs.State.{State, local_at, list_at}
use Rattle.hem_system.proofs.Sets.{get_set_here, get_set_other}
use Rattle.hem_law.proofs.AllLines.{same_elements}
use Rattle.hem_parts.proofs.AllRun.{there-too, none-too}
use Rattle.hem_wire.specs.Channel.{Channel, open_slots}
use Rattle.hem_wire.specs.Seen.{Giving, Getting}
use Rattle.hem_ends.specs.Ends.{Kid, Ends, BothOrNeither, IsPeeked, IsReserved, AreKids}
use Rattle.hem_ends.specs.Edges.{IsUpSettled, IsDownSettled, IsEdge, IsEdgeSettled}
use Rattle.hem_turns.specs.OnLine.{OnLine}
use Rattle.hem_worker.specs.Workers.{Worker, IsWorker, AreParts}
use Rattle.hem_worker.specs.Edges.{Channels, channels_of, IsKidStill, AreStill, IsLineStill, AreJoined, IsLineSettled, AreSettled}
use Rattle.hem_worker.specs.Settling.{IsSettledOn}
use Rattle.hem_worker.proofs.EndsKept.{IsPair, pair-at}
use Rattle.hem_worker.proofs.Lengthened.{line-still-keeps}

-- what stays as it is stands still
peeked-same : (old new : Getting) → new ≡ old → IsPeeked old new
peeked-same old new same = record { channel = ap (λ g. g.channel) same; received = ap (λ g. g.received) same; known = ([], append-nil old.known ∙ sym (ap (λ (g : Getting). g.known) same)) }

reserved-same : (old new : Giving) → new ≡ old → IsReserved old new
reserved-same old new same = record { channel = ap (λ g. g.channel) same; sent = ap (λ g. g.sent) same; slots = (let e : open_slots new.free new.reserved ≡ open_slots old.free old.reserved = ap (λ (g : Giving). open_slots g.free g.reserved) same in omega (arith, e)) }

giving-there : (old new : Option Giving) → new ≡ old → BothOrNeither IsReserved old new
giving-there None None same = tt
giving-there (Some a) (Some b) same = reserved-same a b (let it : b ≡ a = cc in it)
giving-there None (Some b) same = cc
giving-there (Some a) None same = cc

getting-there : (old new : Option Getting) → new ≡ old → BothOrNeither IsPeeked old new
getting-there None None same = tt
getting-there (Some a) (Some b) same = peeked-same a b (let it : b ≡ a = cc in it)
getting-there None (Some b) same = cc
getting-there (Some a) None same = cc

kid-same : (old new : Kid) → new ≡ old → IsKidStill old new
kid-same old new same = record { requests = peeked-same old.requests new.requests (ap (λ (k : Kid). k.requests) same); responses = peeked-same old.responses new.responses (ap (λ (k : Kid). k.responses) same); down = reserved-same old.down new.down (ap (λ (k : Kid). k.down) same) }

-- the two sides of a settled channel
up-below : (a b : Option Giving) (g h : Getting) → IsUpSettled a b g h → BothOrNeither IsReserved a b
up-below None None g h is = tt
up-below (Some a) (Some b) g h is = is.gives
up-below None (Some b) g h is = elim is [ ]
up-below (Some a) None g h is = elim is [ ]

up-above : (a b : Option Giving) (g h : Getting) → IsUpSettled a b g h → IsPeeked g h
up-above None None g h is = peeked-same g h is
up-above (Some a) (Some b) g h is = is.gets
up-above None (Some b) g h is = elim is [ ]
up-above (Some a) None g h is = elim is [ ]

down-below : (g h : Giving) (a b : Option Getting) → IsDownSettled g h a b → BothOrNeither IsPeeked a b
down-below g h None None is = tt
down-below g h (Some a) (Some b) is = is.gets
down-below g h None (Some b) is = elim is [ ]
down-below g h (Some a) None is = elim is [ ]

down-above : (g h : Giving) (a b : Option Getting) → IsDownSettled g h a b → IsReserved g h
down-above g h None None is = reserved-same g h is
down-above g h (Some a) (Some b) is = is.gives
down-above g h None (Some b) is = elim is [ ]
down-above g h (Some a) None is = elim is [ ]

-- the object's ends, and the child's
kids-still : (old new : List Kid) → new ≡ old → AreKids (λ k. IsKidStill) old new
kids-still old new same = record { count = ap length same; each = λ k a b here there. (let one : Some b ≡ Some a = sym there ∙ ap (λ (ks : List Kid). slice_get ks k) same ∙ here in kid-same a b (let it : b ≡ a = cc in it)) }

same-or-other : (k place : ℕ) → (k ≡ place) ⊎ (k ≢ place)
same-or-other k place = grind arith

kids-changed : (place : ℕ) (old new : List Kid) (lower low : Ends) → IsEdgeSettled place old new lower low → AreKids (λ k. IsKidStill) old new
kids-changed place old new lower low is =
    record { count = ap length is.after ∙ length-set old place is.next; each = λ k a b here there. by_place k a b here there (same-or-other k place) }
  where
    changed : IsKidStill is.kid is.next
    changed = record { requests = up-above lower.up_requests low.up_requests is.kid.requests is.next.requests is.settled.requests; responses = up-above lower.up_responses low.up_responses is.kid.responses is.next.responses is.settled.responses; down = down-above is.kid.down is.next.down lower.down low.down is.settled.down }

    by_place : (k : ℕ) (a b : Kid) → slice_get old k ≡ Some a → slice_get new k ≡ Some b → (k ≡ place) ⊎ (k ≢ place) → IsKidStill a b
    by_place k a b here there (inl same) =
        let one : Some is.kid ≡ Some a = sym is.there ∙ sym (ap (slice_get old) same) ∙ here in
        let two : Some is.next ≡ Some b = sym (get_set_here old place is.next (slice_get_within old place is.kid is.there)) ∙ sym (ap (λ (ks : List Kid). slice_get ks place) is.after) ∙ sym (ap (slice_get new) same) ∙ there in
        let kid : is.kid ≡ a = cc in
        let next : is.next ≡ b = cc in
        subst (λ x. IsKidStill x b) kid (subst (λ x. IsKidStill is.kid x) next changed)
    by_place k a b here there (inr other) =
        let one : Some b ≡ Some a = sym there ∙ ap (λ (ks : List Kid). slice_get ks k) is.after ∙ get_set_other old place k is.next other ∙ here in
        kid-same a b (let it : b ≡ a = cc in it)

pub upper-still : (place : ℕ) (old new lower low : Ends) → IsEdgeSettled place old.kids new.kids lower low → new.up_requests ≡ old.up_requests → new.up_responses ≡ old.up_responses → new.down ≡ old.down → AreStill old new
upper-still place old new lower low is requests responses down = record { up_requests = giving-there old.up_requests new.up_requests requests; up_responses = giving-there old.up_responses new.up_responses responses; down = getting-there old.down new.down down; kids = kids-changed place old.kids new.kids lower low is }

pub lower-still : (place : ℕ) (old new : List Kid) (lower low : Ends) → IsEdgeSettled place old new lower low → AreStill lower low
lower-still place old new lower low is = record { up_requests = up-below lower.up_requests low.up_requests is.kid.requests is.next.requests is.settled.requests; up_responses = up-below lower.up_responses low.up_responses is.kid.responses is.next.responses is.settled.responses; down = down-below is.kid.down is.next.down lower.down low.down is.settled.down; kids = kids-still lower.kids low.kids is.settled.kids }

-- one line's ends after the settle of its edge
pub line-settled : (place : ℕ) (high low : OnLine) (up down : Ends) → IsEdgeSettled place high.ends.kids up.kids low.ends down → up.up_requests ≡ high.ends.up_requests → up.up_responses ≡ high.ends.up_responses → up.down ≡ high.ends.down → IsLineSettled place high (record high { ends = up }) low (record low { ends = down })
line-settled place high low up down edge requests responses same =
    record {
      upper = record { same = refl; ends = upper-still place high.ends up low.ends down edge requests responses same };
      lower = record { same = refl; ends = lower-still place high.ends.kids up.kids low.ends down edge };
      edge = edge;
    }

-- the lines before this one are settled, and no other is touched
pub record ArePairsSoFar (place line : ℕ) (upper upper_now lower lower_now : List OnLine) : Type 0 where
  pub upper_count : length upper_now ≡ length upper
  pub lower_count : length lower_now ≡ length lower
  pub done : (l : ℕ) (high high_next low low_next : OnLine) → l < line → slice_get upper l ≡ Some high → slice_get upper_now l ≡ Some high_next → slice_get lower l ≡ Some low → slice_get lower_now l ≡ Some low_next → IsLineSettled place high high_next low low_next
  pub upper_left : (l : ℕ) → line ≤ l → slice_get upper_now l ≡ slice_get upper l
  pub lower_left : (l : ℕ) → line ≤ l → slice_get lower_now l ≡ slice_get lower l

pub no-pair-yet : (place : ℕ) (upper lower : List OnLine) → ArePairsSoFar place 0 upper upper lower lower
no-pair-yet place upper lower = record { upper_count = refl; lower_count = refl; done = λ l high high_next low low_next less. absurd (omega (arith, less)); upper_left = λ l more. refl; lower_left = λ l more. refl }

split : (l line : ℕ) → l < line + 1 → (l < line) ⊎ (l ≡ line)
split l line less = grind arith

pub pair-more : (place line : ℕ) (upper upper_now upper_next lower lower_now lower_next : List OnLine) → ArePairsSoFar place line upper upper_now lower lower_now → IsSettledOn line place upper_now upper_next lower_now lower_next → ArePairsSoFar place (line + 1) upper upper_next lower lower_next
pair-more place line upper upper_now upper_next lower lower_now lower_next so change =
    record {
      upper_count = ap length change.upper_after ∙ length-set upper_now line change.high_next ∙ so.upper_count;
      lower_count = ap length change.lower_after ∙ length-set lower_now line change.low_next ∙ so.lower_count;
      done = λ l high high_next low low_next less h hn w wn. by_order l high high_next low low_next h hn w wn (split l line less);
      upper_left = λ l more. ap (λ (xs : List OnLine). slice_get xs l) change.upper_after ∙ get_set_other upper_now line l change.high_next (λ same. absurd (omega (arith, more, same))) ∙ so.upper_left l (omega (arith, more));
      lower_left = λ l more. ap (λ (xs : List OnLine). slice_get xs l) change.lower_after ∙ get_set_other lower_now line l change.low_next (λ same. absurd (omega (arith, more, same))) ∙ so.lower_left l (omega (arith, more));
    }
  where
    -- what stood at the line before, and what stands there now
    here-is : (old now next : List OnLine) (a b x y : OnLine) → slice_get now line ≡ Some x → slice_get now line ≡ slice_get old line → next ≡ slice_set now line y → slice_get old line ≡ Some a → slice_get next line ≡ Some b → (x ≡ a) × (y ≡ b)
    here-is old now next a b x y there left after here then =
        let one : Some x ≡ Some a = sym there ∙ left ∙ here in
        let two : Some y ≡ Some b = sym (get_set_here now line y (slice_get_within now line x there)) ∙ sym (ap (λ (xs : List OnLine). slice_get xs line) after) ∙ then in
        (cc, cc)

    by_order : (l : ℕ) (high high_next low low_next : OnLine) → slice_get upper l ≡ Some high → slice_get upper_next l ≡ Some high_next → slice_get lower l ≡ Some low → slice_get lower_next l ≡ Some low_next → (l < line) ⊎ (l ≡ line) → IsLineSettled place high high_next low low_next
    by_order l high high_next low low_next h hn w wn (inl less) =
        so.done l high high_next low low_next less h
        (sym (get_set_other upper_now line l change.high_next (λ same. absurd (omega (arith, less, same)))) ∙ sym (ap (λ (xs : List OnLine). slice_get xs l) change.upper_after) ∙ hn)
        w
        (sym (get_set_other lower_now line l change.low_next (λ same. absurd (omega (arith, less, same)))) ∙ sym (ap (λ (xs : List OnLine). slice_get xs l) change.lower_after) ∙ wn)
    by_order l high high_next low low_next h hn w wn (inr same) =
        let up = here-is upper upper_now upper_next high high_next change.high change.high_next change.high_there (so.upper_left line (omega arith)) change.upper_after (sym (ap (slice_get upper) same) ∙ h) (sym (ap (slice_get upper_next) same) ∙ hn) in
        let down = here-is lower lower_now lower_next low low_next change.low change.low_next change.low_there (so.lower_left line (omega arith)) change.lower_after (sym (ap (slice_get lower) same) ∙ w) (sym (ap (slice_get lower_next) same) ∙ wn) in
        subst (λ x. IsLineSettled place x high_next low low_next) up.0
        (subst (λ x. IsLineSettled place change.high x low low_next) up.1
        (subst (λ x. IsLineSettled place change.high change.high_next x low_next) down.0
        (subst (λ x. IsLineSettled place change.high change.high_next change.low x) down.1 change.settled)))

pub pairs-done : (place line : ℕ) (upper upper_now lower lower_now : List OnLine) → length upper ≤ line → ArePairsSoFar place line upper upper_now lower lower_now → AreSettled place upper upper_now lower lower_now
pairs-done place line upper upper_now lower lower_now most so =
    record { upper_count = so.upper_count; lower_count = so.lower_count; each = λ l high high_next low low_next h hn w wn. so.done l high high_next low low_next (let less = slice_get_within upper l high h in omega (arith, less, most)) h hn w wn }

pub pair-there : (place line : ℕ) (upper upper_now lower lower_now : List OnLine) (high : OnLine) → ArePairsSoFar place line upper upper_now lower lower_now → ((l : ℕ) (high : OnLine) → slice_get upper l ≡ Some high → place < length high.ends.kids) → slice_get upper_now line ≡ Some high → place < length high.ends.kids
pair-there place line upper upper_now lower lower_now high so there at = there line high (sym (so.upper_left line (omega arith)) ∙ at)

pub pair-joined : (place line : ℕ) (upper upper_now lower lower_now : List OnLine) (high low : OnLine) (kid : Kid) → ArePairsSoFar place line upper upper_now lower lower_now → AreJoined place upper lower → slice_get upper_now line ≡ Some high → slice_get lower_now line ≡ Some low → slice_get high.ends.kids place ≡ Some kid → IsEdge kid low.ends
pair-joined place line upper upper_now lower lower_now high low kid so joined at here is = joined line high low kid (sym (so.upper_left line (omega arith)) ∙ at) (sym (so.lower_left line (omega arith)) ∙ here) is

-- a worker whose lines stand still
pub record AreLinesStill (old new : List OnLine) : Type 0 where
  pub count : length new ≡ length old
  pub each : (l : ℕ) (a b : OnLine) → slice_get old l ≡ Some a → slice_get new l ≡ Some b → IsLineStill a b

pub uppers-still : (place : ℕ) (upper upper_next lower lower_next : List OnLine) → length lower ≡ length upper → AreSettled place upper upper_next lower lower_next → AreLinesStill upper upper_next
uppers-still place upper upper_next lower lower_next size is =
    record { count = is.upper_count; each = λ l a b here there. (let low = there-too upper lower l a size here in let next = there-too lower lower_next l low.0 is.lower_count low.1 in (is.each l a b low.0 next.0 here there low.1 next.1).upper) }

pub lowers-still : (place : ℕ) (upper upper_next lower lower_next : List OnLine) → length lower ≡ length upper → AreSettled place upper upper_next lower lower_next → AreLinesStill lower lower_next
lowers-still place upper upper_next lower lower_next size is =
    record { count = is.lower_count; each = λ l a b here there. (let high = there-too lower upper l a (sym size) here in let next = there-too upper upper_next l high.0 is.upper_count high.1 in (is.each l high.0 next.0 a b high.1 next.1 here there).lower) }

pub still-worker : (children : List ObjectId) (old new : List OnLine) → AreLinesStill old new → IsWorker children old → IsWorker children new
still-worker children old new still is =
    record {
      few_children = is.few_children;
      few_lines = (let few = is.few_lines in let count = still.count in omega (arith, few, count));
      kids = λ l line at. (let before = there-too new old l line (sym still.count) at in (still.each l before.0 line before.1 at).ends.kids.count ∙ is.kids l before.0 before.1);
    }

pub still-parts : (p : Protocol) (tree : Tree) (start : State) (w : Worker) (lines : List OnLine) → AreLinesStill w.lines lines → AreParts p tree start w → AreParts p tree start (record w { lines = lines })
still-parts p tree start w lines still parts =
    record {
      stands = parts.stands;
      each = λ l line now at here. (let before = there-too lines w.lines l now (sym still.count) here in line-still-keeps p tree w.self_count l w.object.0 (local_at line w.object.0) (list_at line w.object.0 Requests) before.0 now (parts.each l line before.0 at before.1) (still.each l before.0 now before.1 here));
    }

-- the channels stay
pub end-channel : {A : Type 0} (F : A → Channel) (Change : A → A → Type 0) (old new : Option A) → ((a b : A) → Change a b → F b ≡ F a) → BothOrNeither Change old new → option_map F new ≡ option_map F old
end-channel F Change None None same is = refl
end-channel F Change (Some a) (Some b) same is = ap Some (same a b is)
end-channel F Change None (Some b) same is = elim is [ ]
end-channel F Change (Some a) None same is = elim is [ ]

pub kids-channels : {B : Type 0} (F : Kid → B) (Change : ℕ → Kid → Kid → Type 0) (old new : List Kid) → ((i : ℕ) (a b : Kid) → Change i a b → F b ≡ F a) → AreKids Change old new → map F new ≡ map F old
kids-channels F Change old new same kids = same_elements (map F new) (map F old) (λ i. slice_get-map F new i ∙ by_pair i (pair-at Change old new i kids) ∙ sym (slice_get-map F old i))
  where
    by_pair : (i : ℕ) → IsPair Change old new i → option_map F (slice_get new i) ≡ option_map F (slice_get old i)
    by_pair i (inl none) = ap (option_map F) (none.1 ∙ sym none.0)
    by_pair i (inr it) = ap (option_map F) it.3 ∙ ap Some (same i it.0 it.1 it.4) ∙ sym (ap (option_map F) it.2)

pub still-channels : (old new : Ends) → AreStill old new → channels_of new ≡ channels_of old
still-channels old new still =
    λ i. record {
      up_requests = end-channel (λ giving. giving.channel) IsReserved old.up_requests new.up_requests (λ a b is. is.channel) still.up_requests i;
      up_responses = end-channel (λ giving. giving.channel) IsReserved old.up_responses new.up_responses (λ a b is. is.channel) still.up_responses i;
      down = end-channel (λ getting. getting.channel) IsPeeked old.down new.down (λ a b is. is.channel) still.down i;
      kids = kids-channels _ (λ k. IsKidStill) old.kids new.kids (λ k a b is. (λ j. record { requests = is.requests.channel j; responses = is.responses.channel j; down = is.down.channel j })) still.kids i;
    }

pub lines-channels : (old new : List OnLine) → length new ≡ length old → ((l : ℕ) (a b : OnLine) → slice_get old l ≡ Some a → slice_get new l ≡ Some b → channels_of b.ends ≡ channels_of a.ends) → map (λ (line : OnLine). channels_of line.ends) new ≡ map (λ (line : OnLine). channels_of line.ends) old
lines-channels old new count same = same_elements (map F new) (map F old) (λ l. slice_get-map F new l ∙ by_old l (slice_get old l) refl ∙ sym (slice_get-map F old l))
  where
    F : OnLine → Channels
    F line = channels_of line.ends

    by_old : (l : ℕ) (found : Option OnLine) → slice_get old l ≡ found → option_map F (slice_get new l) ≡ option_map F (slice_get old l)
    by_old l None at = ap (option_map F) (none-too old new l count at ∙ sym at)
    by_old l (Some a) at = let b = there-too old new l a count at in ap (option_map F) b.1 ∙ ap Some (same l a b.0 at b.1) ∙ sym (ap (option_map F) at)

pub still-lines-channels : (old new : List OnLine) → AreLinesStill old new → map (λ (line : OnLine). channels_of line.ends) new ≡ map (λ (line : OnLine). channels_of line.ends) old
still-lines-channels old new still = lines-channels old new still.count (λ l a b here there. still-channels a.ends b.ends (still.each l a b here there).ends)
