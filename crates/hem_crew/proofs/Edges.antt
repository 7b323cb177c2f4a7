-- What waits between the two ends of each edge of a crew.
use Rattle.std.proofs.Common.{◌≡◌, ◌≢◌, refl, ap, sym, ◌∙◌, ℕ, arith, ◌<◌, true, List, [], ◌++◌, map, length, Option, Some, None, ◌⊎◌, inl, inr}
use Rattle.std.specs.Prelude.{slice_get, option_map, option_and_then}
use Rattle.std.specs.Option.{option_map_or}
use Rattle.std.proofs.lemmas.Bool.{eq-eqb}
use Rattle.std.proofs.lemmas.Option.{slice_get-map}
use Rattle.hem_base.specs.declared.ids.Carried.{Carried}
use Rattle.hem_syntax.specs.Protocol.{Protocol}
use Rattle.hem_tree.specs.Tree.{Tree, IsTree, is_number, is_child, parent_of, children_of, place_among}
use Rattle.hem_tree.proofs.Early.{lawful_early}
use Rattle.hem_tree.proofs.Lawful.{get_within}
use Rattle.hem_system.specs.declared.lane.Lane.{Lane}
use Rattle.hem_system.specs.declared.lane.Lane.TheVariants.{UpRequests, UpResponses, Down, Requests, Answers}
use Rattle.hem_system.specs.State.{State}
use Rattle.hem_system.proofs.Kids.{child_at}
use Rattle.hem_locks.proofs.Still.{child_within}
use Rattle.hem_parts.proofs.AllRun.{there-too, none-too}
use Rattle.hem_wire.specs.Channel.{Channel}
use Rattle.hem_wire.specs.Seen.{Giving, Getting}
use Rattle.hem_ends.specs.Ends.{Kid, IfThere}
use Rattle.hem_turns.specs.OnLine.{OnLine}
use Rattle.hem_worker.specs.Workers.{Worker}
use Rattle.hem_worker.specs.Edges.{Channels, channels_of, channels}
use Rattle.hem_worker.specs.LineParts.{received_by, sent_by}
use Rattle.hem_crew.specs.Crew.{line_of, channels_at, AreJoinedAt, IsCrew}
use Rattle.hem_crew.specs.Knowing.{KnowAll, OnEdges}
use Rattle.hem_crew.specs.Held.{sent_to, received_from}

-- the channels of an object on a line are those of its ends there
pub channels-there : (crew : List Worker) (l o : ℕ) → channels_at (map channels crew) l o ≡ option_map (λ (line : OnLine). channels_of line.ends) (line_of crew l o)
channels-there crew l o = ap (option_and_then (λ (lines : List Channels). slice_get lines l)) (slice_get-map channels crew o) ∙ by_worker (slice_get crew o)
  where
    by_worker : (found : Option Worker) → option_and_then (λ (lines : List Channels). slice_get lines l) (option_map channels found) ≡ option_map (λ (line : OnLine). channels_of line.ends) (option_and_then (λ (w : Worker). slice_get w.lines l) found)
    by_worker None = refl
    by_worker (Some w) = slice_get-map (λ (line : OnLine). channels_of line.ends) w.lines l

-- the ends of an edge on a line: the child's line, its parent's, and the parent's ends of the edge
pub record IsEdgeOf (tree : Tree) (crew : List Worker) (l k high : ℕ) : Type 0 where
  pub low : OnLine
  pub up : OnLine
  pub kid : Kid
  pub low_there : line_of crew l k ≡ Some low
  pub up_there : line_of crew l high ≡ Some up
  pub kid_there : slice_get up.ends.kids (place_among tree high k) ≡ Some kid

-- of a list that was sent the other was received first
pub record Begins (received sent : List Carried) : Type 0 where
  pub rest : List Carried
  pub whole : sent ≡ received ++ rest

up-begins : (end : Option Giving) (getting : Getting) (c : Channel) → option_map (λ (giving : Giving). giving.channel) end ≡ Some c → IfThere (λ giving. KnowAll giving getting) end → Begins getting.received (option_map_or (λ (giving : Giving). giving.sent) end [])
up-begins None getting c wired know = cc
up-begins (Some giving) getting c wired know = record { rest = know.waiting; whole = know.all }

down-begins : (giving : Giving) (end : Option Getting) (c : Channel) → option_map (λ (getting : Getting). getting.channel) end ≡ Some c → IfThere (λ getting. KnowAll giving getting) end → Begins (option_map_or (λ (getting : Getting). getting.received) end []) giving.sent
down-begins giving None c wired know = cc
down-begins giving (Some getting) c wired know = record { rest = know.waiting; whole = know.all }

down-none : (end : Option Getting) → option_map (λ (getting : Getting). getting.channel) end ≡ None → option_map_or (λ (getting : Getting). getting.received) end [] ≡ []
down-none None none = refl
down-none (Some getting) none = cc

begins-same : (received sent r s : List Carried) → received ≡ r → sent ≡ s → Begins r s → Begins received sent
begins-same received sent r s one two begins = record { rest = begins.rest; whole = two ∙ begins.whole ∙ ap (λ xs. xs ++ begins.rest) (sym one) }

none-begins : (sent : List Carried) → Begins [] sent
none-begins sent = record { rest = sent; whole = refl }

pub own-child : (tree : Tree) (low high : ℕ) → parent_of tree low ≡ Some high → is_child tree low high ≡ true
own-child tree low high parent = ap (λ found. is_number found high) parent ∙ eq-eqb high high refl

module _ (p : Protocol) (tree : Tree) (begun : State) (k slots : ℕ) (crew : List Worker) (law : IsTree tree) (is : IsCrew p tree begun k slots crew) where
  -- on a line both ends of an edge are there, or neither
  pub edge-or-none : (l low high : ℕ) → parent_of tree low ≡ Some high → IsEdgeOf tree crew l low high ⊎ ((line_of crew l low ≡ None) × (line_of crew l high ≡ None))
  edge-or-none l low high parent = by_line (slice_get lower.0.lines l) refl
    where
      low_in : low < length crew
      low_in = let inside = child_within tree low high parent in let count = is.count in omega (arith, inside, count)

      high_in : high < length crew
      high_in = let less = (lawful_early tree law).early low high parent in omega (arith, less, low_in)

      lower : (w : Worker) × (slice_get crew low ≡ Some w)
      lower = get_within crew low low_in

      upper : (w : Worker) × (slice_get crew high ≡ Some w)
      upper = get_within crew high high_in

      sized : length upper.0.lines ≡ length lower.0.lines
      sized = (is.each high upper.0 upper.1).lines ∙ sym (is.each low lower.0 lower.1).lines

      kids : (up : OnLine) → slice_get upper.0.lines l ≡ Some up → length up.ends.kids ≡ length (children_of tree high)
      kids up at =
          let member = is.each high upper.0 upper.1 in
          let line = there-too upper.0.lines begun l up (sym member.lines) at in
          (member.parts.each l line.0 up line.1 at).kids ∙ ap (λ o. length (children_of tree o)) member.object

      by_line : (found : Option OnLine) → slice_get lower.0.lines l ≡ found → IsEdgeOf tree crew l low high ⊎ ((line_of crew l low ≡ None) × (line_of crew l high ≡ None))
      by_line None at =
          inr (
            ap (option_and_then (λ (w : Worker). slice_get w.lines l)) lower.1 ∙ at,
            ap (option_and_then (λ (w : Worker). slice_get w.lines l)) upper.1 ∙ none-too lower.0.lines upper.0.lines l sized at,
          )
      by_line (Some now) at =
          let up = there-too lower.0.lines upper.0.lines l now sized at in
          let kid = there-too (children_of tree high) up.0.ends.kids (place_among tree high low) low (kids up.0 up.1) (child_at tree high low (own-child tree low high parent)) in
          inl (record {
            low = now;
            up = up.0;
            kid = kid.0;
            low_there = ap (option_and_then (λ (w : Worker). slice_get w.lines l)) lower.1 ∙ at;
            up_there = ap (option_and_then (λ (w : Worker). slice_get w.lines l)) upper.1 ∙ up.1;
            kid_there = kid.1;
          })

  -- the channels of the two ends are the same
  pub joined : (l low high : ℕ) → parent_of tree low ≡ Some high → (e : IsEdgeOf tree crew l low high) → AreJoinedAt slots (place_among tree high low) (channels_of e.up.ends) (channels_of e.low.ends)
  joined l low high parent e =
      is.wired.edges l low high (channels_of e.low.ends) (channels_of e.up.ends) parent
      (channels-there crew l low ∙ ap (option_map (λ (line : OnLine). channels_of line.ends)) e.low_there)
      (channels-there crew l high ∙ ap (option_map (λ (line : OnLine). channels_of line.ends)) e.up_there)

  module _ (knows : OnEdges tree crew KnowAll) where
    -- the three lists of an edge
    edge-flows : (l low high : ℕ) (lane : Lane) → lane ≢ Requests → lane ≢ Answers → parent_of tree low ≡ Some high → IsEdgeOf tree crew l low high → Begins (received_from tree crew l low lane) (sent_to tree crew l low lane)
    edge-flows l low high UpRequests other another parent e =
        begins-same (received_from tree crew l low UpRequests) (sent_to tree crew l low UpRequests) e.kid.requests.received (option_map_or (λ (giving : Giving). giving.sent) e.low.ends.up_requests [])
        (ap (λ found. option_map_or (λ o. option_map_or (λ (line : OnLine). received_by tree o line.ends low UpRequests) (line_of crew l o) []) found []) parent ∙ ap (λ found. option_map_or (λ (line : OnLine). received_by tree high line.ends low UpRequests) found []) e.up_there ∙ ap (λ found. option_map_or (λ (kid : Kid). kid.requests.received) found []) e.kid_there)
        (ap (λ found. option_map_or (λ (line : OnLine). sent_by tree low line.ends low UpRequests) found []) e.low_there)
        (let both = joined l low high parent e in up-begins e.low.ends.up_requests e.kid.requests both.kid.requests both.edge.requests (knows l low high e.low e.up e.kid parent e.low_there e.up_there e.kid_there).requests)
    edge-flows l low high UpResponses other another parent e =
        begins-same (received_from tree crew l low UpResponses) (sent_to tree crew l low UpResponses) e.kid.responses.received (option_map_or (λ (giving : Giving). giving.sent) e.low.ends.up_responses [])
        (ap (λ found. option_map_or (λ o. option_map_or (λ (line : OnLine). received_by tree o line.ends low UpResponses) (line_of crew l o) []) found []) parent ∙ ap (λ found. option_map_or (λ (line : OnLine). received_by tree high line.ends low UpResponses) found []) e.up_there ∙ ap (λ found. option_map_or (λ (kid : Kid). kid.responses.received) found []) e.kid_there)
        (ap (λ found. option_map_or (λ (line : OnLine). sent_by tree low line.ends low UpResponses) found []) e.low_there)
        (let both = joined l low high parent e in up-begins e.low.ends.up_responses e.kid.responses both.kid.responses both.edge.responses (knows l low high e.low e.up e.kid parent e.low_there e.up_there e.kid_there).responses)
    edge-flows l low high Down other another parent e =
        begins-same (received_from tree crew l low Down) (sent_to tree crew l low Down) (option_map_or (λ (getting : Getting). getting.received) e.low.ends.down []) e.kid.down.sent
        (ap (λ found. option_map_or (λ (line : OnLine). received_by tree low line.ends low Down) found []) e.low_there)
        (ap (λ found. option_map_or (λ o. option_map_or (λ (line : OnLine). sent_by tree o line.ends low Down) (line_of crew l o) []) found []) parent ∙ ap (λ found. option_map_or (λ (line : OnLine). sent_by tree high line.ends low Down) found []) e.up_there ∙ ap (λ found. option_map_or (λ (kid : Kid). kid.down.sent) found []) e.kid_there)
        (let both = joined l low high parent e in down-begins e.kid.down e.low.ends.down both.kid.down both.edge.down (knows l low high e.low e.up e.kid parent e.low_there e.up_there e.kid_there).down)
    edge-flows l low high Requests other another parent e = absurd (other refl)
    edge-flows l low high Answers other another parent e = absurd (another refl)

    -- where neither end is there, nothing was sent and received
    none-flows : (l low high : ℕ) (lane : Lane) → lane ≢ Requests → lane ≢ Answers → parent_of tree low ≡ Some high → line_of crew l low ≡ None → line_of crew l high ≡ None → Begins (received_from tree crew l low lane) (sent_to tree crew l low lane)
    none-flows l low high UpRequests other another parent low_none high_none =
        begins-same (received_from tree crew l low UpRequests) (sent_to tree crew l low UpRequests) [] []
        (ap (λ found. option_map_or (λ o. option_map_or (λ (line : OnLine). received_by tree o line.ends low UpRequests) (line_of crew l o) []) found []) parent ∙ ap (λ found. option_map_or (λ (line : OnLine). received_by tree high line.ends low UpRequests) found []) high_none)
        (ap (λ found. option_map_or (λ (line : OnLine). sent_by tree low line.ends low UpRequests) found []) low_none)
        (none-begins [])
    none-flows l low high UpResponses other another parent low_none high_none =
        begins-same (received_from tree crew l low UpResponses) (sent_to tree crew l low UpResponses) [] []
        (ap (λ found. option_map_or (λ o. option_map_or (λ (line : OnLine). received_by tree o line.ends low UpResponses) (line_of crew l o) []) found []) parent ∙ ap (λ found. option_map_or (λ (line : OnLine). received_by tree high line.ends low UpResponses) found []) high_none)
        (ap (λ found. option_map_or (λ (line : OnLine). sent_by tree low line.ends low UpResponses) found []) low_none)
        (none-begins [])
    none-flows l low high Down other another parent low_none high_none =
        begins-same (received_from tree crew l low Down) (sent_to tree crew l low Down) [] []
        (ap (λ found. option_map_or (λ (line : OnLine). received_by tree low line.ends low Down) found []) low_none)
        (ap (λ found. option_map_or (λ o. option_map_or (λ (line : OnLine). sent_by tree o line.ends low Down) (line_of crew l o) []) found []) parent ∙ ap (λ found. option_map_or (λ (line : OnLine). sent_by tree high line.ends low Down) found []) high_none)
        (none-begins [])
    none-flows l low high Requests other another parent low_none high_none = absurd (other refl)
    none-flows l low high Answers other another parent low_none high_none = absurd (another refl)

    -- over the edge that the root lacks nothing is received
    pub nothing-down : (l o : ℕ) (found : Option OnLine) → parent_of tree o ≡ None → line_of crew l o ≡ found → option_map_or (λ (line : OnLine). received_by tree o line.ends o Down) found [] ≡ []
    nothing-down l o None parent at = refl
    nothing-down l o (Some line) parent at =
        down-none line.ends.down (is.wired.root l o (channels_of line.ends) parent (channels-there crew l o ∙ ap (option_map (λ (line : OnLine). channels_of line.ends)) at)).down

    root-flows : (l o : ℕ) (lane : Lane) → lane ≢ Requests → lane ≢ Answers → parent_of tree o ≡ None → Begins (received_from tree crew l o lane) (sent_to tree crew l o lane)
    root-flows l o UpRequests other another parent =
        begins-same (received_from tree crew l o UpRequests) (sent_to tree crew l o UpRequests) [] (sent_to tree crew l o UpRequests)
        (ap (λ found. option_map_or (λ high. option_map_or (λ (line : OnLine). received_by tree high line.ends o UpRequests) (line_of crew l high) []) found []) parent)
        refl (none-begins (sent_to tree crew l o UpRequests))
    root-flows l o UpResponses other another parent =
        begins-same (received_from tree crew l o UpResponses) (sent_to tree crew l o UpResponses) [] (sent_to tree crew l o UpResponses)
        (ap (λ found. option_map_or (λ high. option_map_or (λ (line : OnLine). received_by tree high line.ends o UpResponses) (line_of crew l high) []) found []) parent)
        refl (none-begins (sent_to tree crew l o UpResponses))
    root-flows l o Down other another parent =
        begins-same (received_from tree crew l o Down) (sent_to tree crew l o Down) [] []
        (nothing-down l o (line_of crew l o) parent refl)
        (ap (λ found. option_map_or (λ high. option_map_or (λ (line : OnLine). sent_by tree high line.ends o Down) (line_of crew l high) []) found []) parent)
        (none-begins [])
    root-flows l o Requests other another parent = absurd (other refl)
    root-flows l o Answers other another parent = absurd (another refl)

    -- so what was received from each list is a beginning of what was sent to it
    pub flows : (l o : ℕ) (lane : Lane) → lane ≢ Requests → lane ≢ Answers → Begins (received_from tree crew l o lane) (sent_to tree crew l o lane)
    flows l o lane other another = by_parent (parent_of tree o) refl
      where
        by_edge : (high : ℕ) → parent_of tree o ≡ Some high → IsEdgeOf tree crew l o high ⊎ ((line_of crew l o ≡ None) × (line_of crew l high ≡ None)) → Begins (received_from tree crew l o lane) (sent_to tree crew l o lane)
        by_edge high parent (inl e) = edge-flows l o high lane other another parent e
        by_edge high parent (inr none) = none-flows l o high lane other another parent none.0 none.1

        by_parent : (found : Option ℕ) → parent_of tree o ≡ found → Begins (received_from tree crew l o lane) (sent_to tree crew l o lane)
        by_parent None parent = root-flows l o lane other another parent
        by_parent (Some high) parent = by_edge high parent (edge-or-none l o high parent)
