-- Workers that do nothing, one time after another.
use Rattle.std.proofs.Common.{◌≡◌, ◌≢◌, refl, ap, sym, ◌∙◌, subst, ℕ, ◌<◌, arith, List, [], length, Option, Some, None, ◌⊎◌, inl, inr}
use Rattle.std.specs.Prelude.{slice_get, slice_set}
use Rattle.std.proofs.lemmas.List.{append-nil, length-set}
use Rattle.std.proofs.lemmas.Option.{slice_get_within, same_Some}
use Rattle.hem_syntax.specs.Protocol.{Protocol}
use Rattle.hem_system.proofs.Sets.{get_set_here, get_set_other}
use Rattle.hem_parts.proofs.AllRun.{there-too}
use Rattle.hem_wire.specs.Seen.{Giving, Getting}
use Rattle.hem_ends.specs.Ends.{Kid, Ends, BothOrNeither, IsPeeked, IsReserved}
use Rattle.hem_turns.specs.OnLine.{OnLine}
use Rattle.hem_worker.specs.Workers.{Worker, AreChanged}
use Rattle.hem_worker.specs.Edges.{IsKidStill, AreStill, IsLineStill}
use Rattle.hem_crew.specs.Rounds.{IsKept, IsStill}
use Rattle.hem_crew.proofs.Learning.{prefix-longer, OnlyLearn}

-- an end that nothing is asked of
peeked-self : (g : Getting) → IsPeeked g g
peeked-self g = record { channel = refl; received = refl; known = ([], append-nil g.known) }

reserved-self : (g : Giving) → IsReserved g g
reserved-self g = record { channel = refl; sent = refl; slots = omega arith }

-- an end of which something is asked twice
peeked-then : (a b c : Getting) → IsPeeked a b → IsPeeked b c → IsPeeked a c
peeked-then a b c one two = record { channel = two.channel ∙ one.channel; received = two.received ∙ one.received; known = prefix-longer a.known b.known c.known one.known two.known }

reserved-then : (a b c : Giving) → IsReserved a b → IsReserved b c → IsReserved a c
reserved-then a b c one two = record { channel = two.channel ∙ one.channel; sent = two.sent ∙ one.sent; slots = (let first = one.slots in let second = two.slots in omega (arith, first, second)) }

-- an end that may not be there
both-self : {A : Type 0} (Change : A → A → Type 0) → ((a : A) → Change a a) → (end : Option A) → BothOrNeither Change end end
both-self Change self None = tt
both-self Change self (Some a) = self a

both-then : {A : Type 0} (Change : A → A → Type 0) → ((a b c : A) → Change a b → Change b c → Change a c) → (a b c : Option A) → BothOrNeither Change a b → BothOrNeither Change b c → BothOrNeither Change a c
both-then Change next None None None one two = tt
both-then Change next (Some a) (Some b) (Some c) one two = next a b c one two
both-then Change next None None (Some c) one two = elim two [ ]
both-then Change next None (Some b) c one two = elim one [ ]
both-then Change next (Some a) None c one two = elim one [ ]
both-then Change next (Some a) (Some b) None one two = elim two [ ]

-- an object's ends
kid-then : (a b c : Kid) → IsKidStill a b → IsKidStill b c → IsKidStill a c
kid-then a b c one two =
    record {
      requests = peeked-then a.requests b.requests c.requests one.requests two.requests;
      responses = peeked-then a.responses b.responses c.responses one.responses two.responses;
      down = reserved-then a.down b.down c.down one.down two.down;
    }

kid-self : (kid : Kid) → IsKidStill kid kid
kid-self kid = record { requests = peeked-self kid.requests; responses = peeked-self kid.responses; down = reserved-self kid.down }

-- two elements that stand at one place are one
same-there : {A : Type 0} (Change : A → A → Type 0) → ((x : A) → Change x x) → (xs : List A) (i : ℕ) (a b : A) → slice_get xs i ≡ Some a → slice_get xs i ≡ Some b → Change a b
same-there Change self xs i a b here there =
    let one : Some a ≡ Some b = sym here ∙ there in
    let same : a ≡ b = same_Some a b one in
    subst (λ x. Change a x) same (self a)

pub ends-self : (ends : Ends) → AreStill ends ends
ends-self ends =
    record {
      up_requests = both-self IsReserved reserved-self ends.up_requests;
      up_responses = both-self IsReserved reserved-self ends.up_responses;
      down = both-self IsPeeked peeked-self ends.down;
      kids = record { count = refl; each = λ k a b here there. same-there IsKidStill kid-self ends.kids k a b here there };
    }

ends-then : (a b c : Ends) → AreStill a b → AreStill b c → AreStill a c
ends-then a b c one two =
    record {
      up_requests = both-then IsReserved reserved-then a.up_requests b.up_requests c.up_requests one.up_requests two.up_requests;
      up_responses = both-then IsReserved reserved-then a.up_responses b.up_responses c.up_responses one.up_responses two.up_responses;
      down = both-then IsPeeked peeked-then a.down b.down c.down one.down two.down;
      kids = record {
        count = two.kids.count ∙ one.kids.count;
        each = λ k x z here there. (let y = there-too a.kids b.kids k x one.kids.count here in kid-then x y.0 z (one.kids.each k x y.0 here y.1) (two.kids.each k y.0 z y.1 there));
      };
    }

-- elements of a list
pub changed-self : {A : Type 0} (Change : A → A → Type 0) → ((x : A) → Change x x) → (xs : List A) → AreChanged (λ i. Change) xs xs
changed-self Change self xs = record { count = refl; each = λ i a b here there. same-there Change self xs i a b here there }

pub changed-then : {A : Type 0} (Change : A → A → Type 0) → ((x y z : A) → Change x y → Change y z → Change x z) → (xs ys zs : List A) → AreChanged (λ i. Change) xs ys → AreChanged (λ i. Change) ys zs → AreChanged (λ i. Change) xs zs
changed-then Change next xs ys zs one two =
    record {
      count = two.count ∙ one.count;
      each = λ i x z here there. (let y = there-too xs ys i x one.count here in next x y.0 z (one.each i x y.0 here y.1) (two.each i y.0 z y.1 there));
    }

-- a line
line-self : (line : OnLine) → IsLineStill line line
line-self line = record { same = refl; ends = ends-self line.ends }

line-then : (a b c : OnLine) → IsLineStill a b → IsLineStill b c → IsLineStill a c
line-then a b c one two = record { same = two.same ∙ ap (λ (line : OnLine). record line { ends = c.ends }) one.same; ends = ends-then a.ends b.ends c.ends one.ends two.ends }

-- a worker
pub kept-self : (p : Protocol) (w : Worker) → IsKept p w w
kept-self p w = record { same = refl; count = refl; parts = λ tree begun parts. parts; channels = refl }

pub kept-then : (p : Protocol) (a b c : Worker) → IsKept p a b → IsKept p b c → IsKept p a c
kept-then p a b c one two =
    record {
      same = two.same ∙ ap (λ (w : Worker). record w { lines = c.lines }) one.same;
      count = two.count ∙ one.count;
      parts = λ tree begun parts. two.parts tree begun (one.parts tree begun parts);
      channels = two.channels ∙ one.channels;
    }

pub still-self : (p : Protocol) (w : Worker) → IsStill p w w
still-self p w = record { kept = kept-self p w; lines = changed-self IsLineStill line-self w.lines }

pub still-then : (p : Protocol) (a b c : Worker) → IsStill p a b → IsStill p b c → IsStill p a c
still-then p a b c one two = record { kept = kept-then p a b c one.kept two.kept; lines = changed-then IsLineStill line-then a.lines b.lines c.lines one.lines two.lines }

-- ends of workers that do nothing only learn
pub still-learn : (p : Protocol) (old new : List Worker) → AreChanged (λ o. IsStill p) old new → OnlyLearn old new
still-learn p old new still =
    record {
      count = still.count;
      each = λ o a b here there. (let lines = (still.each o a b here there).lines in record { count = lines.count; each = λ l x y at is. (lines.each l x y at is).ends });
    }

same-or-other : (i place : ℕ) → (i ≡ place) ⊎ (i ≢ place)
same-or-other i place = grind arith

-- two elements are changed, and no other
pub two-changed : {A : Type 0} (Change : A → A → Type 0) (old : List A) (upper lower : ℕ) (high high_next low low_next : A) → upper < lower → ((x : A) → Change x x) → slice_get old upper ≡ Some high → slice_get old lower ≡ Some low → Change high high_next → Change low low_next → AreChanged (λ i. Change) old (slice_set (slice_set old upper high_next) lower low_next)
two-changed {A = A} Change old upper lower high high_next low low_next less self high_there low_there first second =
    record {
      count = length-set (slice_set old upper high_next) lower low_next ∙ length-set old upper high_next;
      each = λ i a b here there. by_lower i a b here there (same-or-other i lower);
    }
  where
    low_within : lower < length (slice_set old upper high_next)
    low_within = let count = length-set old upper high_next in let within = slice_get_within old lower low low_there in omega (arith, count, within)

    by_upper : (i : ℕ) (a b : A) → slice_get old i ≡ Some a → slice_get (slice_set old upper high_next) i ≡ Some b → (i ≡ upper) ⊎ (i ≢ upper) → Change a b
    by_upper i a b here there (inl same) =
        let one : Some high ≡ Some a = sym high_there ∙ ap (slice_get old) (sym same) ∙ here in
        let two : Some high_next ≡ Some b = sym (get_set_here old upper high_next (slice_get_within old upper high high_there)) ∙ ap (slice_get (slice_set old upper high_next)) (sym same) ∙ there in
        let was : high ≡ a = same_Some high a one in
        let is : high_next ≡ b = same_Some high_next b two in
        subst (λ x. Change x b) was (subst (λ x. Change high x) is first)
    by_upper i a b here there (inr other) = same-there Change self old i a b here (sym (get_set_other old upper i high_next other) ∙ there)

    by_lower : (i : ℕ) (a b : A) → slice_get old i ≡ Some a → slice_get (slice_set (slice_set old upper high_next) lower low_next) i ≡ Some b → (i ≡ lower) ⊎ (i ≢ lower) → Change a b
    by_lower i a b here there (inl same) =
        let one : Some low ≡ Some a = sym low_there ∙ ap (slice_get old) (sym same) ∙ here in
        let two : Some low_next ≡ Some b = sym (get_set_here (slice_set old upper high_next) lower low_next low_within) ∙ ap (slice_get (slice_set (slice_set old upper high_next) lower low_next)) (sym same) ∙ there in
        let was : low ≡ a = same_Some low a one in
        let is : low_next ≡ b = same_Some low_next b two in
        subst (λ x. Change x b) was (subst (λ x. Change low x) is second)
    by_lower i a b here there (inr other) = by_upper i a b here (sym (get_set_other (slice_set old upper high_next) lower i low_next other) ∙ there) (same-or-other i upper)

-- what stands at the two places afterwards
pub lower-there : {A : Type 0} (old : List A) (upper lower : ℕ) (up low down : A) → slice_get old lower ≡ Some low → slice_get (slice_set (slice_set old upper up) lower down) lower ≡ Some down
lower-there old upper lower up low down there =
    get_set_here (slice_set old upper up) lower down (let count = length-set old upper up in let within = slice_get_within old lower low there in omega (arith, count, within))

pub upper-there : {A : Type 0} (old : List A) (upper lower : ℕ) (high up down : A) → upper < lower → slice_get old upper ≡ Some high → slice_get (slice_set (slice_set old upper up) lower down) upper ≡ Some up
upper-there old upper lower high up down less there =
    get_set_other (slice_set old upper up) lower upper down (λ same. absurd (omega (arith, less, same)))
    ∙ get_set_here old upper up (slice_get_within old upper high there)
