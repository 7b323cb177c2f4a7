-- The stamp of a firing that is possible with what an object knows is at most one past those that are known.
use Rattle.std.proofs.Common.{◌≡◌, ◌≢◌, refl, ap, sym, ◌∙◌, subst, ℕ, zero, suc, ◌+◌, ◌≤◌, arith, true, List, [], ◌∷◌, map, length, drop, Option, Some, None, inl, inr}
use Rattle.std.specs.Option.{option_map_or}
use Rattle.hem_base.specs.declared.ids.ObjectId.{ObjectId}
use Rattle.hem_base.specs.declared.ids.Message.{Message}
use Rattle.hem_base.specs.declared.ids.Carried.{Carried}
use Rattle.hem_base.specs.declared.ids.Firing.{Firing}
use Rattle.hem_base.specs.declared.ids.Stamped.{Stamped}
use Rattle.hem_syntax.specs.Protocol.{Protocol}
use Rattle.hem_tree.specs.Tree.{Tree, IsTree}
use Rattle.hem_system.specs.declared.lane.Lane.{Lane}
use Rattle.hem_system.specs.declared.lane.Lane.TheVariants.{UpRequests, UpResponses, Down, Requests, Answers}
use Rattle.hem_system.specs.State.{Line, State, Effect, sender_of, taker_of, is_own_child, place_of_me}
use Rattle.hem_system.proofs.Takers.{taker_is}
use Rattle.hem_trace.specs.Blocks.{Each}
use Rattle.hem_law.specs.Flows.{sent_on}
use Rattle.hem_law.proofs.ListFacts.{each-map, each-flat_map}
use Rattle.hem_parts.specs.Parts.{Made, carried_on, all_carried}
use Rattle.hem_parts.specs.Merged.{stamped_of}
use Rattle.hem_parts.specs.Stamps.{first_stamp, last_stamp}
use Rattle.hem_ends.specs.Ends.{look_of}
use Rattle.hem_ends.specs.Edges.{KnowEachOther}
use Rattle.hem_choice.specs.Choices.{stamp_after}
use Rattle.hem_turns.specs.OnLine.{OnLine}
use Rattle.hem_worker.specs.LineParts.{sent_by, known_by}
use Rattle.hem_worker.specs.Workers.{Worker}
use Rattle.hem_worker.proofs.Named.{IsNamed, named-child}
use Rattle.hem_worker.proofs.Waiting.{stamp-right}
use Rattle.hem_crew.specs.Crew.{line_of, IsCrew}
use Rattle.hem_crew.specs.Knowing.{OnEdges}
use Rattle.hem_crew.specs.Held.{sent_to, received_from, waiting_in}
use Rattle.hem_crew.proofs.PartAt.{IsThere, HasParts, parts_of}
use Rattle.hem_idle.proofs.Waits.{requests-known, responses-known, down-known}

-- the stamps of firings that were made
each-stamped : (n : ℕ) (made : List Made) → Each (λ x. x.stamp ≤ n) made → Each (λ (s : Stamped). s.stamp ≤ n) (map stamped_of made)
each-stamped n [] all = tt
each-stamped n (x ∷ made) all = (all.0, each-stamped n made all.1)

stamped-each : (n : ℕ) (made : List Made) → Each (λ (s : Stamped). s.stamp ≤ n) (map stamped_of made) → Each (λ x. x.stamp ≤ n) made
stamped-each n [] all = tt
stamped-each n (x ∷ made) all = (all.0, stamped-each n made all.1)

last-bounded : (n last : ℕ) (made : List Made) → last ≤ n → Each (λ x. x.stamp ≤ n) made → last_stamp last made ≤ n
last-bounded n last [] le all = le
last-bounded n last (x ∷ made) le all = last-bounded n x.stamp made all.0 all.1

-- the stamps of what they sent
sent-bounded : (n : ℕ) (tree : Tree) (k : ℕ) (lane : Lane) (made : List Made) → Each (λ x. x.stamp ≤ n) made → Each (λ (c : Carried). c.stamp ≤ n) (all_carried tree k lane made)
sent-bounded n tree k lane made all = each-flat_map (λ (c : Carried). c.stamp ≤ n) (carried_on tree k lane) made (each-map (λ x. x.stamp ≤ n) (λ x. Each (λ (c : Carried). c.stamp ≤ n) (carried_on tree k lane x)) made (λ x le. one x le (sent_on tree k lane x.event)) all)
  where
    one : (x : Made) → x.stamp ≤ n → (ms : List Message) → Each (λ (c : Carried). c.stamp ≤ n) (map (λ m. (let c : Carried = record { line = x.event.firing.line; message = m; stamp = x.stamp } in c)) ms)
    one x le [] = tt
    one x le (m ∷ ms) = (le, one x le ms)

each-dropped : (n m : ℕ) (cs : List Carried) → Each (λ (c : Carried). c.stamp ≤ n) cs → Each (λ (c : Carried). c.stamp ≤ n) (drop m cs)
each-dropped n zero cs all = all
each-dropped n (suc m) [] all = tt
each-dropped n (suc m) (c ∷ cs) all = each-dropped n m cs all.1

first-bounded : (n : ℕ) (cs : List Carried) → Each (λ (c : Carried). c.stamp ≤ n) cs → first_stamp cs ≤ n
first-bounded n [] all = omega arith
first-bounded n (c ∷ cs) all = all.0

module _ (p : Protocol) (tree : Tree) (begun : State) (k slots : ℕ) (crew : List Worker) (law : IsTree tree) (is : IsCrew p tree begun k slots crew) (knows : OnEdges tree crew KnowEachOther) (has : HasParts p tree begun k crew) (n : ℕ) (bounded : (l o : ℕ) → Each (λ x. x.stamp ≤ n) (parts_of has l o).made) where
  -- what was sent to a list, and what waits there
  sent-low : (l i : ℕ) (lane : Lane) → lane ≢ Answers → Each (λ (c : Carried). c.stamp ≤ n) (sent_to tree crew l i lane)
  sent-low l i lane other = by_sender (sender_of tree i lane) refl
    where
      by_sender : (found : Option ℕ) → sender_of tree i lane ≡ found → Each (λ (c : Carried). c.stamp ≤ n) (option_map_or (λ o. option_map_or (λ (line : OnLine). sent_by tree o line.ends i lane) (line_of crew l o) []) found [])
      by_sender None at = tt
      by_sender (Some o) at =
          subst (Each (λ (c : Carried). c.stamp ≤ n)) ((has.at l o).is.sends i lane at ∙ (has.at l o).sent i lane other at)
          (sent-bounded n tree i lane (parts_of has l o).made (bounded l o))

  waits-low : (l i : ℕ) (lane : Lane) → lane ≢ Answers → Each (λ (c : Carried). c.stamp ≤ n) (waiting_in tree crew l i lane)
  waits-low l i lane other = each-dropped n (length (received_from tree crew l i lane)) (sent_to tree crew l i lane) (sent-low l i lane other)

  module _ (l o : ℕ) (line : Line) (it : IsThere p tree k l o line crew) where
    -- the last stamp of an object, and the first that it knows of in each list from which it takes
    last-low : it.now.last ≤ n
    last-low =
        let journal : map stamped_of (parts_of has l o).made ≡ map stamped_of it.has.part.made = (has.at l o).made ∙ ap (λ found. option_map_or (λ (now : OnLine). now.journal) found []) it.new ∙ sym it.has.journal in
        let low = stamped-each n it.has.part.made (subst (Each (λ (s : Stamped). s.stamp ≤ n)) journal (each-stamped n (parts_of has l o).made (bounded l o))) in
        let last = last-bounded n 0 it.has.part.made (omega arith) low in
        subst (λ m. m ≤ n) it.has.last last

    first-low : (i : ℕ) (lane : Lane) → lane ≢ Requests → taker_of tree i lane ≡ Some o → first_stamp (known_by tree o it.now.ends i lane) ≤ n
    first-low i UpRequests other taker =
        subst (λ cs. first_stamp cs ≤ n) (sym (requests-known p tree begun k slots crew law is knows l o it.now it.new i taker)) (first-bounded n (waiting_in tree crew l i UpRequests) (waits-low l i UpRequests (λ same. cc)))
    first-low i UpResponses other taker =
        subst (λ cs. first_stamp cs ≤ n) (sym (responses-known p tree begun k slots crew law is knows l o it.now it.new i taker)) (first-bounded n (waiting_in tree crew l i UpResponses) (waits-low l i UpResponses (λ same. cc)))
    first-low i Down other taker =
        let same : o ≡ i = cc in
        subst (λ i. first_stamp (known_by tree o it.now.ends i Down) ≤ n) same
        (subst (λ cs. first_stamp cs ≤ n) (sym (down-known p tree begun k slots crew law is knows l o it.now it.new)) (first-bounded n (waiting_in tree crew l o Down) (waits-low l o Down (λ same. cc))))
    first-low i Requests other taker = absurd (other refl)
    first-low i Answers other taker = cc

  named-here : (o : ℕ) (me : Option ObjectId) → is_own_child tree o me ≡ true → IsNamed tree o (place_of_me tree o me) me
  named-here o None own = record { own = own; place = refl; none = refl; at = λ i is. refl }
  named-here o (Some child) own = named-child tree o child own

  -- so a possible firing has a stamp of at most one more
  pub stamp-low : (f : Firing) (e : Effect) (line : Line) → is_own_child tree f.object.0 f.me ≡ true → (it : IsThere p tree k f.line.0 f.object.0 line crew) → stamp_after it.now.last (look_of it.now.ends) (place_of_me tree f.object.0 f.me) e.outs ≤ n + 1
  stamp-low f e line own it =
      let right = stamp-right tree f e.took e.outs it.now.ends (place_of_me tree f.object.0 f.me) it.has.kids (named-here f.object.0 f.me own) it.now.last in
      elim right.least [
        | inl next ↦ (let last = last-low f.line.0 f.object.0 line it in omega (arith, next, last))
        | inr taken ↦ (let first = first-low f.line.0 f.object.0 line it taken.0 taken.1 taken.2 (taker_is tree f e.outs taken.0 taken.1 taken.3) in let same = taken.4 in omega (arith, first, same))
      ]
