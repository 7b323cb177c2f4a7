-- The numbers that go along with messages are those of their senders.
use Rattle.std.proofs.Common.{◌≡◌, ◌≢◌, refl, ap, sym, ◌∙◌, subst, ℕ, zero, suc, ◌+◌, ◌<◌, ◌≤◌, Bool, true, false, cond, List, [], ◌∷◌, ◌++◌, length, take, drop, arith, add-zero, zero-add, Option, Some, ◌⊎◌, inl, inr}
use Rattle.std.specs.Prelude.{◌==◌, ◌&&◌, slice_get, slice_set, option_and_then, count_by}
use Rattle.std.specs.Option.{option_map_or}
use Rattle.std.proofs.lemmas.Bool.{eq-eqb, eqb-true}
use Rattle.std.proofs.lemmas.List.{append-nil}
use Rattle.std.proofs.lemmas.List.Sums.{sum_by-cons}
use Rattle.hem_base.specs.declared.ids.Firing.{Firing}
use Rattle.hem_base.specs.declared.ids.Message.{Message}
use Rattle.hem_syntax.specs.Protocol.{Protocol}
use Rattle.hem_tree.specs.Tree.{Tree}
use Rattle.hem_system.specs.declared.lane.Lane.TheVariants.{Requests}
use Rattle.hem_system.specs.State.{State, Line, Effect, list_at, list_of, is_own_child, effect_of, takes, reaches, list_after, line_after, step_of, fire, run, Runs}
use Rattle.hem_system.specs.Laws.{list_in}
use Rattle.hem_system.specs.Events.{Event, event_of}
use Rattle.hem_system.proofs.Changed.{not_same}
use Rattle.hem_system.proofs.Own.{Came, came}
use Rattle.hem_trace.specs.History.{Channel, events, channels_taken, takes_from, sends_to, places_from, sender}
use Rattle.hem_trace.specs.Tags.{Tags, no_tags, tags_after, number_at, numbers_by_tags, numbers_of}
use Rattle.hem_trace.specs.Laws.{ChannelsAreEmpty, AreNumbersBySenders}
use Rattle.hem_trace.proofs.First.{events-step, number-own}
use Rattle.hem_trace.proofs.FirstTaken.{first-taken}
use Rattle.hem_trace.proofs.Waiting.{AreWaiting, waiting-next, first-waiting, slid, length-next}
use Rattle.hem_invariants.proofs.Choices.{both, if_some}
use Rattle.hem_invariants.proofs.Next.{at-object, list-elsewhere, list-here}
use Rattle.hem_invariants.proofs.Taken.{taken-there}

-- of each list the places of the senders whose messages wait
abbrev Places : Type 0
Places = Channel → List ℕ

-- the place of a sender before place i, whose number is that of event i
abbrev IsSender : List ℕ → ℕ → Option ℕ → Type 0
IsSender numbers i found = (j : ℕ) × (found ≡ Some j) × (j < i) × (slice_get numbers i ≡ slice_get numbers j)

-- the senders of events from place k on, where those before wait
abbrev AreSenders : Tree → List ℕ → Places → ℕ → List Event → Type 0
AreSenders tree numbers waiting k es =
    (i : ℕ) (e : Event) (c : Channel) → slice_get es i ≡ Some e → c.lane ≢ Requests → slice_get (channels_taken tree e) 0 ≡ Some c
    → IsSender numbers (k + i) (slice_get (waiting c ++ places_from (sends_to tree c) k es) (count_by (takes_from tree c) (take i es)))

-- the numbers from place k on are these events'
abbrev AreNumbers : Tree → Tags → List ℕ → ℕ → List Event → Type 0
AreNumbers tree tags numbers k es = (i : ℕ) → slice_get numbers (k + i) ≡ slice_get (numbers_by_tags tree tags k es) i

-- the senders that wait after an event at place k
abbrev places_after : Tree → Places → Event → ℕ → Places
places_after tree waiting e k c = drop (cond (takes_from tree c e) 1 0) (waiting c) ++ cond (sends_to tree c e) (k ∷ []) []

-- what is known of an event before whose place some senders wait
record IsFed (tree : Tree) (waiting : Places) (e : Event) : Type 0 where
  own : is_own_child tree e.firing.object.0 e.firing.me ≡ true
  fed : (c : Channel) → c.lane ≢ Requests → takes_from tree c e ≡ true → 0 < length (waiting c)

module _ (tree : Tree) (numbers : List ℕ) (waiting : Places) (tags : Tags) (k : ℕ) (e : Event) (es : List Event) (are : (c : Channel) → AreWaiting numbers k (waiting c) (tags c)) (numbered : AreNumbers tree tags numbers k (e ∷ es)) (known : IsFed tree waiting e) where
  -- the number of the event
  number-here : slice_get numbers k ≡ Some (number_at tree tags k e)
  number-here = let z : k + 0 ≡ k = add-zero k in ap (slice_get numbers) (sym z) ∙ numbered 0

  -- the numbers of the others
  numbers-rest : AreNumbers tree (tags_after tree tags e (number_at tree tags k e)) numbers (k + 1) es
  numbers-rest i = let z : (k + 1) + i ≡ k + suc i = omega arith in ap (slice_get numbers) z ∙ numbered (suc i)

  -- what waits after it
  waiting-rest : (c : Channel) → AreWaiting numbers (k + 1) (places_after tree waiting e k c) (tags_after tree tags e (number_at tree tags k e) c)
  waiting-rest c = waiting-next numbers k (number_at tree tags k e) (takes_from tree c e) (sends_to tree c e) (waiting c) (tags c) number-here (are c)

  -- the sender of what the event takes
  sender-here : (c : Channel) → slice_get (channels_taken tree e) 0 ≡ Some c → IsSender numbers (k + 0) (slice_get (waiting c ++ places_from (sends_to tree c) k (e ∷ es)) 0)
  sender-here c first =
      let taken = first-taken tree e c known.own first in
      let it = first-waiting numbers k (waiting c) (tags c) (known.fed c taken.no_request taken.taken) (are c) in
      let z : k + 0 ≡ k = add-zero k in
      let number : number_at tree tags k e ≡ it.1 = rw (first, it.3, number_at) refl in (
        it.0,
        first-of (waiting c) (places_from (sends_to tree c) k (e ∷ es)) it.0 it.2,
        (let less = it.4 in omega arith),
        ap (slice_get numbers) z ∙ number-here ∙ ap Some number ∙ sym it.5,
      )
    where
      first-of : (xs ys : List ℕ) (x : ℕ) → slice_get xs 0 ≡ Some x → slice_get (xs ++ ys) 0 ≡ Some x
      first-of [] ys x at = cc
      first-of (y ∷ xs) ys x at = at

  -- so of all events, where it is so of the others
  senders-step : AreSenders tree numbers (places_after tree waiting e k) (k + 1) es → AreSenders tree numbers waiting k (e ∷ es)
  senders-step rest zero d c at other first =
      let same : e ≡ d = (let both_are : Some e ≡ Some d = at in cc) in
      sender-here c (ap (λ (x : Event). slice_get (channels_taken tree x) 0) same ∙ first)
  senders-step rest (suc i) d c at other first =
      let z : (k + 1) + i ≡ k + suc i = omega arith in
      let count : count_by (takes_from tree c) (e ∷ take i es) ≡ cond (takes_from tree c e) 1 0 + count_by (takes_from tree c) (take i es) = sum_by-cons (λ x. cond (takes_from tree c x) 1 0) e (take i es) in
      let slide = slid (takes_from tree c e) (sends_to tree c e) k (waiting c) (places_from (sends_to tree c) (k + 1) es) (count_by (takes_from tree c) (take i es)) (known.fed c other) in
      subst (IsSender numbers (k + suc i)) (slide ∙ ap (slice_get (waiting c ++ places_from (sends_to tree c) k (e ∷ es))) (sym count)) (subst (λ n. IsSender numbers n (slice_get (places_after tree waiting e k c ++ places_from (sends_to tree c) (k + 1) es) (count_by (takes_from tree c) (take i es)))) z (rest i d c at other first))

-- the events of a step
step-by : (p : Protocol) (tree : Tree) (s : State) (f : Firing) (line : Line) (effect : Effect) → slice_get s f.line.0 ≡ Some line → effect_of p tree line f ≡ Some effect → step_of p tree s f ≡ Some (record { effect = effect; next = slice_set s f.line.0 (line_after tree f effect line) })
step-by p tree s f line effect at is = rw (at, is) refl

-- the events of a history that begins with a firing
events-came : (p : Protocol) (tree : Tree) (s next : State) (f : Firing) (h : List Firing) (it : Came p tree s f next) → events p tree s (f ∷ h) ≡ event_of f it.effect ∷ events p tree next h
events-came p tree s next f h it =
    events-step p tree s f h (record { effect = it.effect; next = slice_set s f.line.0 (line_after tree f it.effect it.line) }) (step-by p tree s f it.line it.effect it.there it.possible)
    ∙ ap (λ (n : State). event_of f it.effect ∷ events p tree n h) (sym it.after)

-- each list has at most as many messages as senders wait
abbrev Hold : State → Places → Type 0
Hold s waiting = (c : Channel) → c.lane ≢ Requests → length (list_in s c.line c.object c.lane) ≤ length (waiting c)

module _ (p : Protocol) (tree : Tree) (s next : State) (f : Firing) (it : Came p tree s f next) (waiting : Places) (hold : Hold s waiting) where
  -- where the firing takes, somebody waits
  fed-came : (c : Channel) → c.lane ≢ Requests → takes_from tree c (event_of f it.effect) ≡ true → 0 < length (waiting c)
  fed-came c other taken =
      let parts = both (f.line.0 == c.line) (takes tree f it.effect.outs c.object c.lane) taken in
      let head = taken-there p tree it.line f it.effect c.object c.lane it.possible parts.1 in
      let here : list_in s f.line.0 c.object c.lane ≡ list_at it.line c.object c.lane = ap (λ (o : Option Line). option_map_or (λ cell. list_of cell c.lane) (option_and_then (λ line. slice_get line c.object) o) []) it.there in
      let some : 0 < length (list_in s f.line.0 c.object c.lane) = some-there (list_in s f.line.0 c.object c.lane) head.0 (ap (λ ms. slice_get ms 0) here ∙ head.1) in
      let line : 0 < length (list_in s c.line c.object c.lane) = subst (λ l. 0 < length (list_in s l c.object c.lane)) (eqb-true f.line.0 c.line parts.0) some in
      omega (arith, line, hold c other)
    where
      some-there : (ms : List Message) (m : Message) → slice_get ms 0 ≡ Some m → 0 < length ms
      some-there [] m at = cc
      some-there (x ∷ ms) m at = omega arith

  -- after the firing too each list has at most as many messages as senders wait
  hold-came : (k : ℕ) → Hold next (places_after tree waiting (event_of f it.effect) k)
  hold-came k c other = by_line (f.line.0 == c.line) refl
    where
      same-tests : (n : ℕ) (t u r q : Bool) → t ≡ u → r ≡ q → n ≤ length (drop (cond u 1 0) (waiting c) ++ cond q (k ∷ []) []) → n ≤ length (drop (cond t 1 0) (waiting c) ++ cond r (k ∷ []) [])
      same-tests n t u r q one two less = rw (one, two) less

      by_here : length (list_in s f.line.0 c.object c.lane) ≤ length (waiting c) → ((list_in next f.line.0 c.object c.lane ≡ []) × (list_in s f.line.0 c.object c.lane ≡ [])) ⊎ (list_in next f.line.0 c.object c.lane ≡ list_after tree f it.effect.outs c.object c.lane (list_in s f.line.0 c.object c.lane)) → length (list_in next f.line.0 c.object c.lane) ≤ length (drop (cond (takes tree f it.effect.outs c.object c.lane) 1 0) (waiting c) ++ cond (reaches tree f it.effect.outs.to c.object c.lane) (k ∷ []) [])
      by_here less (inl none) = subst (λ (ms : List Message). length ms ≤ length (drop (cond (takes tree f it.effect.outs c.object c.lane) 1 0) (waiting c) ++ cond (reaches tree f it.effect.outs.to c.object c.lane) (k ∷ []) [])) (sym none.0) (omega arith)
      by_here less (inr now) = subst (λ (ms : List Message). length ms ≤ length (drop (cond (takes tree f it.effect.outs c.object c.lane) 1 0) (waiting c) ++ cond (reaches tree f it.effect.outs.to c.object c.lane) (k ∷ []) [])) (sym now) (length-next (takes tree f it.effect.outs c.object c.lane) (reaches tree f it.effect.outs.to c.object c.lane) it.effect.outs.message k (list_in s f.line.0 c.object c.lane) (waiting c) less)

      by_line : (b : Bool) → (f.line.0 == c.line) ≡ b → length (list_in next c.line c.object c.lane) ≤ length (places_after tree waiting (event_of f it.effect) k c)
      by_line true same =
          let line = eqb-true f.line.0 c.line same in
          same-tests (length (list_in next c.line c.object c.lane)) (takes_from tree c (event_of f it.effect)) (takes tree f it.effect.outs c.object c.lane) (sends_to tree c (event_of f it.effect)) (reaches tree f it.effect.outs.to c.object c.lane)
          (ap (λ b. b && takes tree f it.effect.outs c.object c.lane) same) (ap (λ b. b && reaches tree f it.effect.outs.to c.object c.lane) same)
          (subst (λ l. length (list_in next l c.object c.lane) ≤ length (drop (cond (takes tree f it.effect.outs c.object c.lane) 1 0) (waiting c) ++ cond (reaches tree f it.effect.outs.to c.object c.lane) (k ∷ []) [])) line
          (by_here (subst (λ l. length (list_in s l c.object c.lane) ≤ length (waiting c)) (sym line) (hold c other)) (list-here p tree s next f it c.object c.lane)))
      by_line false differs =
          let elsewhere = list-elsewhere p tree s next f it c.line c.object c.lane (not_same c.line f.line.0 (λ line. let is = eq-eqb f.line.0 c.line (sym line) in let clash : true ≡ false = sym is ∙ differs in cc)) in
          same-tests (length (list_in next c.line c.object c.lane)) (takes_from tree c (event_of f it.effect)) false (sends_to tree c (event_of f it.effect)) false
          (ap (λ b. b && takes tree f it.effect.outs c.object c.lane) differs) (ap (λ b. b && reaches tree f it.effect.outs.to c.object c.lane) differs)
          (subst (λ n. n ≤ length (waiting c ++ [])) (sym (ap length elsewhere)) (subst (λ (ws : List ℕ). length (list_in s c.line c.object c.lane) ≤ length ws) (sym (append-nil (waiting c))) (hold c other)))

-- each event's named child is its object's
abbrev OwnChildren : Tree → List Event → Type 0
OwnChildren tree es = (i : ℕ) (e : Event) → slice_get es i ≡ Some e → is_own_child tree e.firing.object.0 e.firing.me ≡ true

-- one event more
own-more : (tree : Tree) (d : Event) (es : List Event) → is_own_child tree d.firing.object.0 d.firing.me ≡ true → OwnChildren tree es → OwnChildren tree (d ∷ es)
own-more tree d es child rest zero e at =
    let same : d ≡ e = (let both_are : Some d ≡ Some e = at in cc) in
    subst (λ (x : Event). is_own_child tree x.firing.object.0 x.firing.me ≡ true) same child
own-more tree d es child rest (suc i) e at = rest i e at

-- the events of a run name own children
own-children : (p : Protocol) (tree : Tree) (s : State) (h : List Firing) (new : State) → run p tree s h ≡ Some new → OwnChildren tree (events p tree s h)
own-children p tree s [] new ran = λ i e at. cc
own-children p tree s (f ∷ h) new ran =
    let one = if_some (λ next. run p tree next h) (fire p tree s f) new ran in
    let it = came {p = p} {tree = tree} {old = s} {new = one.0} {f = f} (record { leads = one.1 }) in
    subst (OwnChildren tree) (sym (events-came p tree s one.0 f h it))
    (own-more tree (event_of f it.effect) (events p tree one.0 h) (at-object p tree s one.0 f it).child (own-children p tree one.0 h new one.2))

-- along a run the numbers are those of senders
run-senders : (p : Protocol) (tree : Tree) (numbers : List ℕ) (s : State) (h : List Firing) (new : State) (k : ℕ) (waiting : Places) (tags : Tags) → run p tree s h ≡ Some new → ((c : Channel) → AreWaiting numbers k (waiting c) (tags c)) → Hold s waiting → AreNumbers tree tags numbers k (events p tree s h) → AreSenders tree numbers waiting k (events p tree s h)
run-senders p tree numbers s [] new k waiting tags ran are hold numbered = λ i e c at other first. cc
run-senders p tree numbers s (f ∷ h) new k waiting tags ran are hold numbered =
    let one = if_some (λ next. run p tree next h) (fire p tree s f) new ran in
    let it = came {p = p} {tree = tree} {old = s} {new = one.0} {f = f} (record { leads = one.1 }) in
    let e = event_of f it.effect in
    let es = events p tree one.0 h in
    let whole = events-came p tree s one.0 f h it in
    let numbered_now = subst (AreNumbers tree tags numbers k) whole numbered in
    let known : IsFed tree waiting e = record { own = (at-object p tree s one.0 f it).child; fed = fed-came p tree s one.0 f it waiting hold } in
    subst (AreSenders tree numbers waiting k) (sym whole)
    (senders-step tree numbers waiting tags k e es are numbered_now known
    (run-senders p tree numbers one.0 h new (k + 1) (places_after tree waiting e k) (tags_after tree tags e (number_at tree tags k e)) one.2
    (waiting-rest tree numbers waiting tags k e es are numbered_now known)
    (hold-came p tree s one.0 f it waiting hold k)
    (numbers-rest tree numbers waiting tags k e es are numbered_now known)))

-- there are as many numbers as events
numbers-length : (tree : Tree) (tags : Tags) (k : ℕ) (es : List Event) → length (numbers_by_tags tree tags k es) ≡ length es
numbers-length tree tags k [] = refl
numbers-length tree tags k (e ∷ es) = ap suc (numbers-length tree (tags_after tree tags e (number_at tree tags k e)) (k + 1) es)

-- an event that takes from no channel has its own place
numbers-own : (tree : Tree) (tags : Tags) (k : ℕ) (es : List Event) (i : ℕ) (e : Event) → slice_get es i ≡ Some e → channels_taken tree e ≡ [] → slice_get (numbers_by_tags tree tags k es) i ≡ Some (k + i)
numbers-own tree tags k [] i e at none = cc
numbers-own tree tags k (d ∷ es) zero e at none =
    let same : d ≡ e = (let both_are : Some d ≡ Some e = at in cc) in
    ap Some (number-own tree tags k d (ap (channels_taken tree) same ∙ none) ∙ sym (add-zero k))
numbers-own tree tags k (d ∷ es) (suc i) e at none =
    let z : (k + 1) + i ≡ k + suc i = omega arith in
    numbers-own tree (tags_after tree tags d (number_at tree tags k d)) (k + 1) es i e at none ∙ ap Some z

-- the numbers that go along with the messages are those by senders
pub numbers-by-senders : (p : Protocol) (tree : Tree) (s now : State) (h : List Firing) → ChannelsAreEmpty s → Runs p tree s h now → AreNumbersBySenders tree (events p tree s h) (numbers_of tree (events p tree s h))
numbers-by-senders p tree s now h empty runs =
    let es = events p tree s h in
    let numbers = numbers_of tree es in
    let hold : Hold s (λ c. []) = λ c other. subst (λ (ms : List Message). length ms ≤ 0) (sym (empty c.line c.object c.lane other)) (omega arith) in
    let senders = run-senders p tree numbers s h now 0 (λ c. []) no_tags runs.leads (λ c. tt) hold (λ i. ap (slice_get numbers) (zero-add i)) in
    record {
      one_each = numbers-length tree no_tags 0 es;
      own = λ i e at none. numbers-own tree no_tags 0 es i e at none ∙ ap Some (zero-add i);
      sent = λ i e c at first.
          let taken = first-taken tree e c (own-children p tree s h now runs.leads i e at) first in
          subst (λ n. IsSender numbers n (sender tree es i c)) (zero-add i) (senders i e c at taken.no_request first);
    }
