-- What the ends of an object know to wait is what waits, where the ends of each channel know each other.
use Rattle.std.proofs.Common.{◌≡◌, refl, ap, sym, ◌∙◌, ℕ, zero, suc, ◌+◌, List, [], ◌∷◌, ◌++◌, map, length, drop, Option, Some, None, inl, inr}
use Rattle.std.specs.Prelude.{slice_get, option_map}
use Rattle.std.specs.Option.{option_map_or}
use Rattle.std.proofs.lemmas.List.Prefix.{front_rest}
use Rattle.std.proofs.lemmas.Option.{slice_get-map}
use Rattle.hem_base.specs.declared.ids.Carried.{Carried}
use Rattle.hem_syntax.specs.Protocol.{Protocol}
use Rattle.hem_tree.specs.Tree.{Tree, IsTree, parent_of, place_among}
use Rattle.hem_system.specs.declared.lane.Lane.{Lane}
use Rattle.hem_system.specs.declared.lane.Lane.TheVariants.{UpRequests, UpResponses, Down}
use Rattle.hem_system.specs.State.{State}
use Rattle.hem_wire.specs.Channel.{Channel, open_slots}
use Rattle.hem_wire.specs.Seen.{Giving, Getting}
use Rattle.hem_ends.specs.Ends.{Kid, IfThere}
use Rattle.hem_ends.specs.Edges.{KnowEachOther}
use Rattle.hem_turns.specs.OnLine.{OnLine}
use Rattle.hem_worker.specs.LineParts.{received_by, sent_by, known_by}
use Rattle.hem_worker.specs.Workers.{Worker}
use Rattle.hem_worker.specs.Edges.{KidChannels, channels_of}
use Rattle.hem_crew.specs.Crew.{line_of, IsCrew}
use Rattle.hem_crew.specs.Knowing.{OnEdges}
use Rattle.hem_crew.specs.Held.{sent_to, received_from, waiting_in}
use Rattle.hem_crew.proofs.Edges.{IsEdgeOf, edge-or-none, joined, channels-there}

-- what waits between two ends that know each other, in so many slots
pub record Waits (slots : ℕ) (giving : Giving) (getting : Getting) : Type 0 where
  pub all : giving.sent ≡ getting.received ++ getting.known
  pub exact : open_slots giving.free giving.reserved + length getting.known ≡ slots

waits-in : (slots : ℕ) (giving : Giving) (getting : Getting) (c : Channel) → giving.channel ≡ c → c.slots ≡ slots → KnowEachOther giving getting → Waits slots giving getting
waits-in slots giving getting c channel size know = record { all = know.all; exact = know.exact ∙ ap (λ (c : Channel). c.slots) channel ∙ size }

-- an end that is there
up-there : (slots : ℕ) (end : Option Giving) (getting : Getting) (c : Channel) → option_map (λ (giving : Giving). giving.channel) end ≡ Some c → c.slots ≡ slots → IfThere (λ giving. KnowEachOther giving getting) end → (giving : Giving) × (end ≡ Some giving) × Waits slots giving getting
up-there slots None getting c wired size know = cc
up-there slots (Some giving) getting c wired size know = (giving, refl, waits-in slots giving getting c (let same : giving.channel ≡ c = cc in same) size know)

down-there : (slots : ℕ) (giving : Giving) (end : Option Getting) (c d : Channel) → option_map (λ (getting : Getting). getting.channel) end ≡ Some c → giving.channel ≡ d → d.slots ≡ slots → IfThere (λ getting. KnowEachOther giving getting) end → (getting : Getting) × (end ≡ Some getting) × Waits slots giving getting
down-there slots giving None c d wired channel size know = cc
down-there slots giving (Some getting) c d wired channel size know = (getting, refl, waits-in slots giving getting d channel size know)

-- an edge of a crew whose ends know each other
pub record IsKnownEdge (tree : Tree) (crew : List Worker) (slots l k high : ℕ) : Type 0 where
  pub of : IsEdgeOf tree crew l k high
  pub requests : Giving
  pub responses : Giving
  pub down : Getting
  pub requests_there : of.low.ends.up_requests ≡ Some requests
  pub responses_there : of.low.ends.up_responses ≡ Some responses
  pub down_there : of.low.ends.down ≡ Some down
  pub requests_wait : Waits slots requests of.kid.requests
  pub responses_wait : Waits slots responses of.kid.responses
  pub down_wait : Waits slots of.kid.down down

kid-channels : (kids : List Kid) (i : ℕ) (kid : Kid) (c : KidChannels) → slice_get kids i ≡ Some kid → slice_get (map (λ (kid : Kid). (let c : KidChannels = record { requests = kid.requests.channel; responses = kid.responses.channel; down = kid.down.channel } in c)) kids) i ≡ Some c → kid.down.channel ≡ c.down
kid-channels kids i kid c at there =
    let of : Kid → KidChannels = λ kid. record { requests = kid.requests.channel; responses = kid.responses.channel; down = kid.down.channel } in
    let both : Some (of kid) ≡ Some c = sym (slice_get-map of kids i ∙ ap (option_map of) at) ∙ there in
    let same : of kid ≡ c = cc in
    ap (λ (c : KidChannels). c.down) same

module _ (p : Protocol) (tree : Tree) (begun : State) (k slots : ℕ) (crew : List Worker) (law : IsTree tree) (is : IsCrew p tree begun k slots crew) (knows : OnEdges tree crew KnowEachOther) where
  known-edge : (l low high : ℕ) → parent_of tree low ≡ Some high → IsEdgeOf tree crew l low high → IsKnownEdge tree crew slots l low high
  known-edge l low high parent e =
      let both = joined p tree begun k slots crew law is l low high parent e in
      let know = knows l low high e.low e.up e.kid parent e.low_there e.up_there e.kid_there in
      let requests = up-there slots e.low.ends.up_requests e.kid.requests both.kid.requests both.edge.requests both.edge.request_slots know.requests in
      let responses = up-there slots e.low.ends.up_responses e.kid.responses both.kid.responses both.edge.responses both.edge.response_slots know.responses in
      let down = down-there slots e.kid.down e.low.ends.down both.kid.down both.kid.down both.edge.down (kid-channels e.up.ends.kids (place_among tree high low) e.kid both.kid e.kid_there both.there) both.edge.down_slots know.down in
      record {
        of = e;
        requests = requests.0;
        responses = responses.0;
        down = down.0;
        requests_there = requests.1;
        responses_there = responses.1;
        down_there = down.1;
        requests_wait = requests.2;
        responses_wait = responses.2;
        down_wait = down.2;
      }

  -- the edge of an object on a line to its parent, and that of its parent to it
  pub edge-below : (l low high : ℕ) (now : OnLine) → parent_of tree low ≡ Some high → line_of crew l low ≡ Some now → IsKnownEdge tree crew slots l low high
  edge-below l low high now parent there =
      elim (edge-or-none p tree begun k slots crew law is l low high parent) [
        | inl e ↦ known-edge l low high parent e
        | inr none ↦ absurd (let clash : None ≡ Some now = sym none.0 ∙ there in cc)
      ]

  pub edge-above : (l low high : ℕ) (now : OnLine) → parent_of tree low ≡ Some high → line_of crew l high ≡ Some now → IsKnownEdge tree crew slots l low high
  edge-above l low high now parent there =
      elim (edge-or-none p tree begun k slots crew law is l low high parent) [
        | inl e ↦ known-edge l low high parent e
        | inr none ↦ absurd (let clash : None ≡ Some now = sym none.1 ∙ there in cc)
      ]

-- what waits in the three lists of such an edge
module _ {tree : Tree} {crew : List Worker} {slots l low high : ℕ} (parent : parent_of tree low ≡ Some high) (e : IsKnownEdge tree crew slots l low high) where
  abbrev at_parent : Lane → (ℕ → OnLine → List Carried) → Option ℕ → List Carried
  at_parent lane read found = option_map_or (λ o. option_map_or (read o) (line_of crew l o) []) found []

  left-over : (received sent rest r s : List Carried) → received ≡ r → sent ≡ s → s ≡ r ++ rest → drop (length received) sent ≡ rest
  left-over received sent rest r s one two whole = front_rest sent received rest (two ∙ whole ∙ ap (λ front. front ++ rest) (sym one))

  pub requests-wait : waiting_in tree crew l low UpRequests ≡ e.of.kid.requests.known
  requests-wait =
      left-over (received_from tree crew l low UpRequests) (sent_to tree crew l low UpRequests) e.of.kid.requests.known e.of.kid.requests.received e.requests.sent
      (ap (at_parent UpRequests (λ o line. received_by tree o line.ends low UpRequests)) parent
      ∙ ap (λ found. option_map_or (λ (line : OnLine). received_by tree high line.ends low UpRequests) found []) e.of.up_there
      ∙ ap (λ found. option_map_or (λ (kid : Kid). kid.requests.received) found []) e.of.kid_there)
      (ap (λ found. option_map_or (λ (line : OnLine). sent_by tree low line.ends low UpRequests) found []) e.of.low_there
      ∙ ap (λ found. option_map_or (λ (giving : Giving). giving.sent) found []) e.requests_there)
      e.requests_wait.all

  pub responses-wait : waiting_in tree crew l low UpResponses ≡ e.of.kid.responses.known
  responses-wait =
      left-over (received_from tree crew l low UpResponses) (sent_to tree crew l low UpResponses) e.of.kid.responses.known e.of.kid.responses.received e.responses.sent
      (ap (at_parent UpResponses (λ o line. received_by tree o line.ends low UpResponses)) parent
      ∙ ap (λ found. option_map_or (λ (line : OnLine). received_by tree high line.ends low UpResponses) found []) e.of.up_there
      ∙ ap (λ found. option_map_or (λ (kid : Kid). kid.responses.received) found []) e.of.kid_there)
      (ap (λ found. option_map_or (λ (line : OnLine). sent_by tree low line.ends low UpResponses) found []) e.of.low_there
      ∙ ap (λ found. option_map_or (λ (giving : Giving). giving.sent) found []) e.responses_there)
      e.responses_wait.all

  pub down-waits : waiting_in tree crew l low Down ≡ e.down.known
  down-waits =
      left-over (received_from tree crew l low Down) (sent_to tree crew l low Down) e.down.known e.down.received e.of.kid.down.sent
      (ap (λ found. option_map_or (λ (line : OnLine). received_by tree low line.ends low Down) found []) e.of.low_there
      ∙ ap (λ found. option_map_or (λ (getting : Getting). getting.received) found []) e.down_there)
      (ap (at_parent Down (λ o line. sent_by tree o line.ends low Down)) parent
      ∙ ap (λ found. option_map_or (λ (line : OnLine). sent_by tree high line.ends low Down) found []) e.of.up_there
      ∙ ap (λ found. option_map_or (λ (kid : Kid). kid.down.sent) found []) e.of.kid_there)
      e.down_wait.all

-- what an object's ends know to wait in each list from which it takes is what waits there
module _ (p : Protocol) (tree : Tree) (begun : State) (k slots : ℕ) (crew : List Worker) (law : IsTree tree) (is : IsCrew p tree begun k slots crew) (knows : OnEdges tree crew KnowEachOther) (l o : ℕ) (now : OnLine) (there : line_of crew l o ≡ Some now) where
  same-line : (line : OnLine) → line_of crew l o ≡ Some line → line ≡ now
  same-line line at = let both : Some line ≡ Some now = sym at ∙ there in cc

  pub requests-known : (low : ℕ) → parent_of tree low ≡ Some o → known_by tree o now.ends low UpRequests ≡ waiting_in tree crew l low UpRequests
  requests-known low parent =
      let e = edge-above p tree begun k slots crew law is knows l low o now parent there in
      ap (λ (line : OnLine). known_by tree o line.ends low UpRequests) (sym (same-line e.of.up e.of.up_there))
      ∙ ap (λ found. option_map_or (λ (kid : Kid). kid.requests.known) found []) e.of.kid_there
      ∙ sym (requests-wait parent e)

  pub responses-known : (low : ℕ) → parent_of tree low ≡ Some o → known_by tree o now.ends low UpResponses ≡ waiting_in tree crew l low UpResponses
  responses-known low parent =
      let e = edge-above p tree begun k slots crew law is knows l low o now parent there in
      ap (λ (line : OnLine). known_by tree o line.ends low UpResponses) (sym (same-line e.of.up e.of.up_there))
      ∙ ap (λ found. option_map_or (λ (kid : Kid). kid.responses.known) found []) e.of.kid_there
      ∙ sym (responses-wait parent e)

  -- the root has no end toward a parent
  none-known : (end : Option Getting) → option_map (λ (getting : Getting). getting.channel) end ≡ None → option_map_or (λ (getting : Getting). getting.known) end [] ≡ []
  none-known None none = refl
  none-known (Some getting) none = cc

  dropped-none : (n : ℕ) (xs : List Carried) → xs ≡ [] → drop n xs ≡ []
  dropped-none zero xs none = none
  dropped-none (suc n) [] none = refl
  dropped-none (suc n) (x ∷ xs) none = cc

  pub down-known : known_by tree o now.ends o Down ≡ waiting_in tree crew l o Down
  down-known = by_parent (parent_of tree o) refl
    where
      by_parent : (parent : Option ℕ) → parent_of tree o ≡ parent → known_by tree o now.ends o Down ≡ waiting_in tree crew l o Down
      by_parent (Some high) parent =
          let e = edge-below p tree begun k slots crew law is knows l o high now parent there in
          ap (λ (line : OnLine). known_by tree o line.ends o Down) (sym (same-line e.of.low e.of.low_there))
          ∙ ap (λ found. option_map_or (λ (getting : Getting). getting.known) found []) e.down_there
          ∙ sym (down-waits parent e)
      by_parent None parent =
          let top = (is.wired.root l o (channels_of now.ends) parent (channels-there crew l o ∙ ap (option_map (λ (line : OnLine). channels_of line.ends)) there)).down in
          let nothing : sent_to tree crew l o Down ≡ [] = ap (λ found. option_map_or (λ high. option_map_or (λ (line : OnLine). sent_by tree high line.ends o Down) (line_of crew l high) []) found []) parent in
          none-known now.ends.down top ∙ sym (dropped-none (length (received_from tree crew l o Down)) (sent_to tree crew l o Down) nothing)
