-- Settling one edge after another.
use Rattle.std.proofs.Common.{◌≡◌, ap, sym, ◌∙◌, subst, ℕ, ◌+◌, ◌<◌, ◌≤◌, arith, List, [], map, length, get_or, Option, Some, None, ◌⊎◌, inl, inr, ⊎_elim}
use Rattle.std.specs.Prelude.{slice_get, slice_set, option_and_then}
use Rattle.std.proofs.lemmas.List.{append-nil, length-map}
use Rattle.std.proofs.lemmas.Option.{slice_get_within, slice_get-get_or, same_Some}
use Rattle.hem_base.specs.declared.ids.ObjectId.{ObjectId}
use Rattle.hem_syntax.specs.Protocol.{Protocol}
use Rattle.hem_tree.specs.Tree.{Tree, IsTree, parent_of, children_of, place_among}
use Rattle.hem_tree.proofs.Early.{lawful_early}
use Rattle.hem_locks.proofs.Still.{child_within}
use Rattle.hem_system.proofs.Sets.{get_set_here}
use Rattle.hem_system.proofs.Kids.{child_at}
use Rattle.hem_parts.proofs.AllRun.{there-too}
use Rattle.hem_wire.specs.Seen.{Giving, Getting}
use Rattle.hem_ends.specs.Ends.{Kid, IfThere}
use Rattle.hem_ends.specs.Edges.{KnowEachOther, IsUpSettled, IsDownSettled}
use Rattle.hem_turns.specs.OnLine.{OnLine}
use Rattle.hem_system.specs.State.{State}
use Rattle.hem_worker.specs.Workers.{Worker, AreChanged, AreParts}
use Rattle.hem_worker.specs.Edges.{channels, IsLineSettled, AreSettled}
use Rattle.hem_crew.specs.Crew.{line_of}
use Rattle.hem_crew.specs.Knowing.{KnowAll, KnowNoMore, OnChannels}
use Rattle.hem_crew.specs.Rounds.{IsStill, AreAllSettled}
use Rattle.hem_crew.proofs.Kept.{kept-crew}
use Rattle.hem_crew.proofs.Edges.{own-child}
use Rattle.hem_crew.proofs.Learning.{know-all-later, know-no-more-before, edge-later, edge-before}
use Rattle.hem_runner.specs.Settles.{IsCrewOf, FitTogether, AreSettledTogether, IsSettledAt, OnSome, AreSettledFor}
use Rattle.hem_runner.proofs.Fits.{IsChildAt, child-of, crew-fits}
use Rattle.hem_runner.proofs.Stills.{changed-self, changed-then, still-self, still-then, still-learn, two-changed, lower-there, upper-there}

split : (i place : ℕ) → i < place + 1 → (i < place) ⊎ (i ≡ place)
split i place less = grind arith

-- ends that know each other know all, and no more
each-all : (giving : Giving) (getting : Getting) → KnowEachOther giving getting → KnowAll giving getting
each-all giving getting know = record { waiting = getting.known; all = know.all; known = ([], append-nil getting.known); slots = (let exact = know.exact in omega (arith, exact)) }

each-no-more : (giving : Giving) (getting : Getting) → KnowEachOther giving getting → KnowNoMore giving getting
each-no-more giving getting know = record { waiting = getting.known; all = know.all; known = ([], append-nil getting.known); slots = (let exact = know.exact in omega (arith, exact)) }

-- a worker's line, by its crew
crew-line : (crew : List Worker) (l o : ℕ) (w : Worker) (line : OnLine) → slice_get crew o ≡ Some w → line_of crew l o ≡ Some line → slice_get w.lines l ≡ Some line
crew-line crew l o w line there at = sym (ap (option_and_then (λ (w : Worker). slice_get w.lines l)) there) ∙ at

module _ (Know : Giving → Getting → Type 0) (from : (giving : Giving) (getting : Getting) → KnowEachOther giving getting → Know giving getting) where
  up-knows : (a b : Option Giving) (g h : Getting) → IsUpSettled a b g h → IfThere (λ giving. Know giving h) b
  up-knows None None g h is = tt
  up-knows (Some a) (Some b) g h is = from b h is.settled
  up-knows None (Some b) g h is = elim is [ ]
  up-knows (Some a) None g h is = elim is [ ]

  down-knows : (g h : Giving) (a b : Option Getting) → IsDownSettled g h a b → IfThere (λ getting. Know h getting) b
  down-knows g h None None is = tt
  down-knows g h (Some a) (Some b) is = from h b is.settled
  down-knows g h None (Some b) is = elim is [ ]
  down-knows g h (Some a) None is = elim is [ ]

  line-knows : (place : ℕ) (high high_next low low_next : OnLine) (kid : Kid) → IsLineSettled place high high_next low low_next → slice_get high_next.ends.kids place ≡ Some kid → OnChannels Know kid low_next.ends
  line-knows place high high_next low low_next kid is at =
      let edge = is.edge in
      let one : Some edge.next ≡ Some kid = sym (changed-there high.ends.kids high_next.ends.kids place edge.kid edge.next edge.there edge.after) ∙ at in
      let same : edge.next ≡ kid = same_Some edge.next kid one in
      subst (λ k. OnChannels Know k low_next.ends) same
      (record {
        requests = up-knows low.ends.up_requests low_next.ends.up_requests edge.kid.requests edge.next.requests edge.settled.requests;
        responses = up-knows low.ends.up_responses low_next.ends.up_responses edge.kid.responses edge.next.responses edge.settled.responses;
        down = down-knows edge.kid.down edge.next.down low.ends.down low_next.ends.down edge.settled.down;
      })
    where
      changed-there : (old new : List Kid) (i : ℕ) (a b : Kid) → slice_get old i ≡ Some a → new ≡ slice_set old i b → slice_get new i ≡ Some b
      changed-there old new i a b there after = ap (λ (kids : List Kid). slice_get kids i) after ∙ get_set_here old i b (slice_get_within old i a there)

  -- the ends of an edge that was settled
  settled-knows : (place upper lower : ℕ) (old new : List Worker) → upper < lower → IsSettledAt place upper lower old new → (l : ℕ) (low up : OnLine) (kid : Kid) → line_of new l lower ≡ Some low → line_of new l upper ≡ Some up → slice_get up.ends.kids place ≡ Some kid → OnChannels Know kid low.ends
  settled-knows place upper lower old new less is l low up kid low_at up_at kid_at =
      let low_is = crew-line new l lower is.low_next low (ap (λ (crew : List Worker). slice_get crew lower) is.after ∙ lower-there old upper lower is.high_next is.low is.low_next is.low_there) low_at in
      let up_is = crew-line new l upper is.high_next up (ap (λ (crew : List Worker). slice_get crew upper) is.after ∙ upper-there old upper lower is.high is.high_next is.low_next less is.high_there) up_at in
      let low_was = there-too is.low_next.lines is.low.lines l low (sym is.settled.settled.lower_count) low_is in
      let up_was = there-too is.high_next.lines is.high.lines l up (sym is.settled.settled.upper_count) up_is in
      line-knows place up_was.0 up low_was.0 low kid (is.settled.settled.each l up_was.0 up low_was.0 low up_was.1 up_is low_was.1 low_is) kid_at

  knows-after : (tree : Tree) (high low : ℕ) (old new : List Worker) → high < low → parent_of tree low ≡ Some high → IsSettledAt (place_among tree high low) high low old new → OnSome (λ o parent. o ≡ low) tree new Know
  knows-after tree high low old new less parent is l o above lower up kid which over low_at up_at kid_at =
      let one : Some above ≡ Some high = sym over ∙ ap (parent_of tree) which ∙ parent in
      let same : above ≡ high = same_Some above high one in
      settled-knows (place_among tree high low) high low old new less is l lower up kid
      (ap (line_of new l) (sym which) ∙ low_at)
      (ap (line_of new l) (sym same) ∙ up_at)
      ((λ i. slice_get up.ends.kids (place_among tree (sym same i) (sym which i))) ∙ kid_at)

-- what a settled edge is, from what its settle says
pub settled-together : (place : ℕ) (high up low down : Worker) → AreSettled place high.lines up.lines low.lines down.lines → up ≡ record high { lines = up.lines } → down ≡ record low { lines = down.lines } → ((p : Protocol) (tree : Tree) (start : State) → AreParts p tree start high → AreParts p tree start up) → ((p : Protocol) (tree : Tree) (start : State) → AreParts p tree start low → AreParts p tree start down) → channels up ≡ channels high → channels down ≡ channels low → AreSettledTogether place high up low down
settled-together place high up low down settled upper lower upper_parts lower_parts upper_channels lower_channels =
    record {
      settled = settled;
      upper = λ p. record { same = upper; count = settled.upper_count; parts = upper_parts p; channels = upper_channels };
      lower = λ p. record { same = lower; count = settled.lower_count; parts = lower_parts p; channels = lower_channels };
    }

pub together-same : (place : ℕ) (high up low down high_is up_is low_is down_is : Worker) → high_is ≡ high → up_is ≡ up → low_is ≡ low → down_is ≡ down → AreSettledTogether place high_is up_is low_is down_is → AreSettledTogether place high up low down
together-same place high up low down high_is up_is low_is down_is one two three four is =
    subst (λ w. AreSettledTogether place w up low down) one
    (subst (λ w. AreSettledTogether place high_is w low down) two
    (subst (λ w. AreSettledTogether place high_is up_is w down) three
    (subst (λ w. AreSettledTogether place high_is up_is low_is w) four is)))

-- two workers of a settled edge do nothing
together-upper : (p : Protocol) (place : ℕ) (high high_next low low_next : Worker) → length low.lines ≡ length high.lines → AreSettledTogether place high high_next low low_next → IsStill p high high_next
together-upper p place high high_next low low_next size is =
    record {
      kept = is.upper p;
      lines = record {
        count = is.settled.upper_count;
        each = λ l a b here there. (let under = there-too high.lines low.lines l a size here in let next = there-too low.lines low_next.lines l under.0 is.settled.lower_count under.1 in (is.settled.each l a b under.0 next.0 here there under.1 next.1).upper);
      };
    }

together-lower : (p : Protocol) (place : ℕ) (high high_next low low_next : Worker) → length low.lines ≡ length high.lines → AreSettledTogether place high high_next low low_next → IsStill p low low_next
together-lower p place high high_next low low_next size is =
    record {
      kept = is.lower p;
      lines = record {
        count = is.settled.lower_count;
        each = λ l a b here there. (let over = there-too low.lines high.lines l a (sym size) here in let next = there-too high.lines high_next.lines l over.0 is.settled.upper_count over.1 in (is.settled.each l over.0 next.0 a b over.1 next.1 here there).lower);
      };
    }

-- one edge is settled
one-settled : (p : Protocol) (tree : Tree) (high low : ℕ) (old new : List Worker) → high < low → parent_of tree low ≡ Some high → ((upper lower : Worker) → slice_get old high ≡ Some upper → slice_get old low ≡ Some lower → FitTogether (place_among tree high low) upper lower) → IsSettledAt (place_among tree high low) high low old new → AreSettledFor (λ o parent. o ≡ low) tree old new
one-settled p tree high low old new less parent fit is =
    record {
      still = still;
      after = knows-after KnowAll each-all tree high low old new less parent is;
      before = λ l o above lower up kid which over.
          edge-before KnowNoMore (place_among tree above o) l o above old new know-no-more-before (still-learn p old new (still p))
          (λ a b c low_at up_at kid_at. knows-after KnowNoMore each-no-more tree high low old new less parent is l o above a b c which over low_at up_at kid_at)
          lower up kid;
    }
  where
    size : length is.low.lines ≡ length is.high.lines
    size = (fit is.high is.low is.high_there is.low_there).lines

    still : (q : Protocol) → AreChanged (λ o. IsStill q) old new
    still q =
        subst (AreChanged (λ o. IsStill q) old) (sym is.after)
        (two-changed (IsStill q) old high low is.high is.high_next is.low is.low_next less (still-self q) is.high_there is.low_there
        (together-upper q (place_among tree high low) is.high is.high_next is.low is.low_next size is.settled)
        (together-lower q (place_among tree high low) is.high is.high_next is.low is.low_next size is.settled))

-- no edge is settled
pub none-settled : (Which : ℕ → ℕ → Type 0) (tree : Tree) (crew : List Worker) → ((o high : ℕ) → Which o high → ⊥) → AreSettledFor Which tree crew crew
none-settled Which tree crew none =
    record {
      still = λ p. changed-self (IsStill p) (still-self p) crew;
      after = λ l o high low up kid which. absurd (none o high which);
      before = λ l o high low up kid which. absurd (none o high which);
    }

-- some edges are settled, and then others
pub more-settled : (p : Protocol) (First Second Both : ℕ → ℕ → Type 0) (tree : Tree) (old now next : List Worker) → ((o high : ℕ) → parent_of tree o ≡ Some high → Both o high → First o high ⊎ Second o high) → AreSettledFor First tree old now → AreSettledFor Second tree now next → AreSettledFor Both tree old next
more-settled p First Second Both tree old now next part one two =
    record {
      still = λ q. changed-then (IsStill q) (still-then q) old now next (one.still q) (two.still q);
      after = λ l o high low up kid which parent low_at up_at kid_at.
          ⊎_elim
          (λ first. edge-later KnowAll (place_among tree high o) l o high now next know-all-later (still-learn p now next (two.still p)) (λ a b c here there at. one.after l o high a b c first parent here there at) low up kid low_at up_at kid_at)
          (λ second. two.after l o high low up kid second parent low_at up_at kid_at)
          (part o high parent which);
      before = λ l o high low up kid which parent low_at up_at kid_at.
          ⊎_elim
          (λ first. one.before l o high low up kid first parent low_at up_at kid_at)
          (λ second. edge-before KnowNoMore (place_among tree high o) l o high old now know-no-more-before (still-learn p old now (one.still p)) (λ a b c here there at. two.before l o high a b c second parent here there at) low up kid low_at up_at kid_at)
          (part o high parent which);
    }

pub fewer-settled : (First Second : ℕ → ℕ → Type 0) (tree : Tree) (old new : List Worker) → ((o high : ℕ) → parent_of tree o ≡ Some high → Second o high → First o high) → AreSettledFor First tree old new → AreSettledFor Second tree old new
fewer-settled First Second tree old new part is =
    record {
      still = is.still;
      after = λ l o high low up kid which parent. is.after l o high low up kid (part o high parent which) parent;
      before = λ l o high low up kid which parent. is.before l o high low up kid (part o high parent which) parent;
    }

-- a crew stays one
pub still-crew : (tree : Tree) (old new : List Worker) → IsCrewOf tree old → ((p : Protocol) → AreChanged (λ o. IsStill p) old new) → IsCrewOf tree new
still-crew tree old new was still =
    record { p = was.p; begun = was.begun; k = was.k; slots = was.slots; is = kept-crew was.p tree was.begun was.k was.slots (λ o. IsStill was.p) old new (λ o a b is. is.kept) was.is (still was.p) }

-- the child at a place of an object, as the loop over its children comes to it
pub record IsReadyAt (tree : Tree) (crew : List Worker) (high place low : ℕ) : Type 0 where
  pub child : IsChildAt tree crew high place low
  pub is : IsCrewOf tree crew

pub child-ready : (Which : ℕ → ℕ → Type 0) (tree : Tree) (old now : List Worker) (high place : ℕ) (ids : List ObjectId) (d : ObjectId) → IsTree tree → IsCrewOf tree old → AreSettledFor Which tree old now → map (λ id. id.0) ids ≡ children_of tree high → place < length ids → IsReadyAt tree now high place (get_or ids place d).0
child-ready Which tree old now high place ids d law was so are less =
    let is = still-crew tree old now was so.still in
    record { child = child-of tree now high place ids (get_or ids place d) law is are (slice_get-get_or ids place d less); is = is }

pub ready-fits : (tree : Tree) (crew : List Worker) (high place low : ℕ) → IsReadyAt tree crew high place low → (upper lower : Worker) → slice_get crew high ≡ Some upper → slice_get crew low ≡ Some lower → FitTogether place upper lower
ready-fits tree crew high place low ready = crew-fits tree crew high place low ready.is ready.child

-- the loop over an object's children
pub below-more : (tree : Tree) (old now next : List Worker) (high place low : ℕ) → IsReadyAt tree now high place low → AreSettledFor (λ o parent. (parent ≡ high) × (place_among tree parent o < place)) tree old now → IsSettledAt place high low now next → AreSettledFor (λ o parent. (parent ≡ high) × (place_among tree parent o < place + 1)) tree old next
below-more tree old now next high place low ready so is =
    more-settled ready.is.p (λ o parent. (parent ≡ high) × (place_among tree parent o < place)) (λ o parent. o ≡ low) (λ o parent. (parent ≡ high) × (place_among tree parent o < place + 1)) tree old now next part so
    (one-settled ready.is.p tree high low now next ready.child.later ready.child.parent
    (λ upper lower up_there low_there. subst (λ n. FitTogether n upper lower) (sym ready.child.place_is) (ready-fits tree now high place low ready upper lower up_there low_there))
    (subst (λ n. IsSettledAt n high low now next) (sym ready.child.place_is) is))
  where
    same_child : (o parent : ℕ) → parent_of tree o ≡ Some parent → parent ≡ high → place_among tree parent o ≡ place → o ≡ low
    same_child o parent over same at =
        let mine : slice_get (children_of tree high) place ≡ Some o =
        (λ i. slice_get (children_of tree (sym same i)) (sym at i)) ∙ child_at tree parent o (own-child tree o parent over) in
        let theirs : slice_get (children_of tree high) place ≡ Some low = ap (slice_get (children_of tree high)) (sym ready.child.place_is) ∙ child_at tree high low (own-child tree low high ready.child.parent) in
        same_Some o low (sym mine ∙ theirs)

    part : (o parent : ℕ) → parent_of tree o ≡ Some parent → (parent ≡ high) × (place_among tree parent o < place + 1) → ((parent ≡ high) × (place_among tree parent o < place)) ⊎ (o ≡ low)
    part o parent over which = ⊎_elim (λ less. inl (which.0, less)) (λ same. inr (same_child o parent over which.0 same)) (split (place_among tree parent o) place which.1)

-- all children
pub below-done : (tree : Tree) (old now : List Worker) (high place : ℕ) (ids : List ObjectId) → map (λ id. id.0) ids ≡ children_of tree high → length ids ≤ place → AreSettledFor (λ o parent. (parent ≡ high) × (place_among tree parent o < place)) tree old now → AreSettledFor (λ o parent. parent ≡ high) tree old now
below-done tree old now high place ids are most is =
    fewer-settled (λ o parent. (parent ≡ high) × (place_among tree parent o < place)) (λ o parent. parent ≡ high) tree old now part is
  where
    part : (o parent : ℕ) → parent_of tree o ≡ Some parent → parent ≡ high → (parent ≡ high) × (place_among tree parent o < place)
    part o parent over same =
        let within = slice_get_within (children_of tree parent) (place_among tree parent o) o (child_at tree parent o (own-child tree o parent over)) in
        let size = ap (λ n. length (children_of tree n)) same ∙ ap length (sym are) ∙ length-map ids (λ (id : ObjectId). id.0) in
        (same, omega (arith, within, size, most))

-- the loop over all objects
pub all-more : (p : Protocol) (tree : Tree) (old now next : List Worker) (n : ℕ) → AreSettledFor (λ o parent. parent < n) tree old now → AreSettledFor (λ o parent. parent ≡ n) tree now next → AreSettledFor (λ o parent. parent < n + 1) tree old next
all-more p tree old now next n so is =
    more-settled p (λ o parent. parent < n) (λ o parent. parent ≡ n) (λ o parent. parent < n + 1) tree old now next (λ o parent over which. split parent n which) so is

pub all-settled : (p : Protocol) (tree : Tree) (old new : List Worker) (n : ℕ) → IsTree tree → length tree ≤ n → AreSettledFor (λ o parent. parent < n) tree old new → AreAllSettled p tree old new
all-settled p tree old new n law most is =
    record {
      still = is.still p;
      after = λ l o high low up kid parent. is.after l o high low up kid (early o high parent) parent;
      before = λ l o high low up kid parent. is.before l o high low up kid (early o high parent) parent;
    }
  where
    early : (o high : ℕ) → parent_of tree o ≡ Some high → high < n
    early o high parent = let less = (lawful_early tree law).early o high parent in let inside = child_within tree o high parent in omega (arith, less, inside, most)
