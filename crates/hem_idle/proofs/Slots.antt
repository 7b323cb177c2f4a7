-- Where nothing is possible on a line, a slot is reserved wherever a possible firing sends: the lists are too short to be full.
use Rattle.std.proofs.Common.{◌≡◌, refl, ap, sym, ◌∙◌, subst, ℕ, suc, ◌+◌, ◌<◌, ◌≤◌, arith, Bool, true, false, not, ◌&&◌, List, [], ◌∷◌, map, length, Some}
use Rattle.std.specs.Prelude.{◌||◌, slice_get, option_map}
use Rattle.std.specs.List.{list_all, enumerate_from}
use Rattle.std.specs.Option.{option_map_or}
use Rattle.std.proofs.lemmas.List.{length-map}
use Rattle.std.proofs.lemmas.Option.{slice_get-map}
use Rattle.hem_base.specs.Sets.{has_bit}
use Rattle.hem_base.specs.declared.ids.Kind.{Kind}
use Rattle.hem_base.specs.declared.ids.Carried.{Carried}
use Rattle.hem_base.specs.declared.ids.Firing.{Firing}
use Rattle.hem_syntax.specs.Protocol.{Protocol}
use Rattle.hem_object.specs.Local.{IsWellFormed}
use Rattle.hem_fire.specs.declared.outs.To.{To}
use Rattle.hem_fire.specs.declared.outs.To.TheVariants as to
use Rattle.hem_tree.specs.Tree.{Tree, IsTree, parent_of, children_of, place_among}
use Rattle.hem_tree.proofs.Lawful.{get_within}
use Rattle.hem_system.specs.declared.lane.Lane.TheVariants.{UpRequests, UpResponses, Down}
use Rattle.hem_system.specs.State.{Cell, Line, State, Effect}
use Rattle.hem_system.proofs.Kids.{at_child}
use Rattle.hem_system.proofs.Takers.{parent_is}
use Rattle.hem_rows.proofs.Choices.{if_mapped}
use Rattle.hem_locks.specs.Clean.{AreFew}
use Rattle.hem_locks.specs.Acted.{IsActed}
use Rattle.hem_locks.proofs.Still.{child_within}
use Rattle.hem_law.specs.Printed.{IsFresh}
use Rattle.hem_parts.specs.Parts.{messages_of}
use Rattle.hem_parts.proofs.AllRun.{there-too}
use Rattle.hem_wire.specs.Channel.{open_slots}
use Rattle.hem_wire.specs.Seen.{Giving, Getting}
use Rattle.hem_ends.specs.declared.kids.KidLook.{KidLook}
use Rattle.hem_ends.specs.Ends.{Kid, IfThere, IsAsked, kid_look, look_of}
use Rattle.hem_ends.specs.Edges.{KnowEachOther}
use Rattle.hem_choice.specs.Choices.{may_send}
use Rattle.hem_turns.specs.OnLine.{OnLine}
use Rattle.hem_worker.specs.Workers.{Worker, IsLineStuck}
use Rattle.hem_crew.specs.Crew.{line_of, IsCrew}
use Rattle.hem_crew.specs.Knowing.{OnEdges}
use Rattle.hem_crew.specs.Held.{waiting_in, held_cell}
use Rattle.hem_crew.proofs.PartAt.{IsThere}
use Rattle.hem_idle.proofs.Waits.{Waits, edge-below, edge-above, requests-wait, responses-wait, down-waits}
use Rattle.hem_idle.proofs.Reached.{request-above, response-above, kid-below}

-- an end that knows of no open slot has a full channel
full : (slots : ℕ) (giving : Giving) (getting : Getting) → Waits slots giving getting → giving.reserved ≡ false → IsAsked giving → length getting.known ≡ slots
full slots giving getting waits none asked =
    let shut : open_slots giving.free giving.reserved ≡ giving.free = ap (open_slots giving.free) none in
    let free = asked none in
    let exact = waits.exact in
    omega (arith, shut, free, exact)

-- a list with more than so many messages isn't short
too-long : (slots most : ℕ) (waiting known : List Carried) → most < slots → waiting ≡ known → length known ≡ slots → length (messages_of waiting) ≤ most → ⊥
too-long slots most waiting known less same size short =
    let mapped = length-map waiting (λ (c : Carried). c.message) in
    let lengths = ap length same in
    absurd (omega (arith, less, size, short, mapped, lengths))

-- a test of all that fails, fails at one
one-shut : (set i : ℕ) (looks : List KidLook) → list_all (λ k. not (has_bit set k.0) || k.1.is_open) (enumerate_from i looks) ≡ false → (j : ℕ) × (look : KidLook) × (slice_get looks j ≡ Some look) × (look.is_open ≡ false)
one-shut set i [] none = cc
one-shut set i (look ∷ looks) none = by_first (has_bit set i) look.is_open refl none (one-shut set (i + 1) looks)
  where
    by_first : (bit open_slot : Bool) → look.is_open ≡ open_slot → ((not bit || open_slot) && list_all (λ k. not (has_bit set k.0) || k.1.is_open) (enumerate_from (i + 1) looks)) ≡ false → (list_all (λ k. not (has_bit set k.0) || k.1.is_open) (enumerate_from (i + 1) looks) ≡ false → (j : ℕ) × (look : KidLook) × (slice_get looks j ≡ Some look) × (look.is_open ≡ false)) → (j : ℕ) × (found : KidLook) × (slice_get (look ∷ looks) j ≡ Some found) × (found.is_open ≡ false)
    by_first true false is none rest = (0, look, refl, is)
    by_first true true is none rest = let it = rest none in (suc it.0, it.1, it.2, it.3)
    by_first false false is none rest = let it = rest none in (suc it.0, it.1, it.2, it.3)
    by_first false true is none rest = let it = rest none in (suc it.0, it.1, it.2, it.3)

module _ (p : Protocol) (tree : Tree) (begun : State) (k slots : ℕ) (crew : List Worker) (law : IsTree tree) (fresh : IsFresh tree begun) (is : IsCrew p tree begun k slots crew) (knows : OnEdges tree crew KnowEachOther) (room : 2 < slots) where
  module _ (l o : ℕ) (line : Line) (line_there : slice_get begun l ≡ Some line) (it : IsThere p tree k l o line crew) (kind : Kind) (stuck : IsLineStuck p kind k it.now) (few : (i : ℕ) (cell : Cell) → slice_get line i ≡ Some cell → AreFew (held_cell tree crew l i cell)) where
    same-now : (now : OnLine) → line_of crew l o ≡ Some now → now ≡ it.now
    same-now now at = let both : Some now ≡ Some it.now = sym at ∙ it.new in cc

    -- the ends toward the parent
    request-open : (high : ℕ) → parent_of tree o ≡ Some high → option_map_or (λ (giving : Giving). giving.reserved) it.now.ends.up_requests false ≡ false → ⊥
    request-open high parent none =
        let e = edge-below p tree begun k slots crew law is knows l o high it.now parent it.new in
        let there : it.now.ends.up_requests ≡ Some e.requests = ap (λ (now : OnLine). now.ends.up_requests) (sym (same-now e.of.low e.of.low_there)) ∙ e.requests_there in
        let shut : e.requests.reserved ≡ false = sym (ap (λ found. option_map_or (λ (giving : Giving). giving.reserved) found false) there) ∙ none in
        let asked : IsAsked e.requests = subst (IfThere IsAsked) there stuck.up_requests in
        too-long slots 1 (waiting_in tree crew l o UpRequests) e.of.kid.requests.known (omega arith) (requests-wait parent e) (full slots e.requests e.of.kid.requests e.requests_wait shut asked) (few o it.cell it.old).up_requests

    response-open : (high : ℕ) → parent_of tree o ≡ Some high → option_map_or (λ (giving : Giving). giving.reserved) it.now.ends.up_responses false ≡ false → ⊥
    response-open high parent none =
        let e = edge-below p tree begun k slots crew law is knows l o high it.now parent it.new in
        let there : it.now.ends.up_responses ≡ Some e.responses = ap (λ (now : OnLine). now.ends.up_responses) (sym (same-now e.of.low e.of.low_there)) ∙ e.responses_there in
        let shut : e.responses.reserved ≡ false = sym (ap (λ found. option_map_or (λ (giving : Giving). giving.reserved) found false) there) ∙ none in
        let asked : IsAsked e.responses = subst (IfThere IsAsked) there stuck.up_responses in
        too-long slots 1 (waiting_in tree crew l o UpResponses) e.of.kid.responses.known (omega arith) (responses-wait parent e) (full slots e.responses e.of.kid.responses e.responses_wait shut asked) (few o it.cell it.old).up_responses

    -- the ends toward a child
    kid-open : (c : ℕ) (kid : Kid) → slice_get it.now.ends.kids c ≡ Some kid → kid.down.reserved ≡ false → ⊥
    kid-open c kid at shut =
        let child = there-too it.now.ends.kids (children_of tree o) c kid (sym it.has.kids) at in
        let own = at_child tree o c child.0 child.1 in
        let parent = parent_is tree child.0 o own.0 in
        let e = edge-above p tree begun k slots crew law is knows l child.0 o it.now parent it.new in
        let found : Some kid ≡ Some e.of.kid = sym at ∙ ap (slice_get it.now.ends.kids) (sym own.1) ∙ ap (λ (now : OnLine). slice_get now.ends.kids (place_among tree o child.0)) (sym (same-now e.of.up e.of.up_there)) ∙ e.of.kid_there in
        let same : kid ≡ e.of.kid = cc in
        let inside = child_within tree child.0 o parent in
        let size = fresh.sized l line line_there in
        let cell = get_within line child.0 (omega (arith, inside, size)) in
        too-long slots 2 (waiting_in tree crew l child.0 Down) e.down.known room (down-waits parent e)
        (full slots e.of.kid.down e.down e.down_wait (ap (λ (kid : Kid). kid.down.reserved) (sym same) ∙ shut) (subst (λ (kid : Kid). IsAsked kid.down) same (stuck.kids c kid at)))
        (few child.0 cell.0 cell.1).down

    look-open : (c : ℕ) (look : KidLook) → slice_get (map kid_look it.now.ends.kids) c ≡ Some look → look.is_open ≡ false → ⊥
    look-open c look at shut =
        let kid = if_mapped kid_look (slice_get it.now.ends.kids c) look (sym (slice_get-map kid_look it.now.ends.kids c) ∙ at) in
        kid-open c kid.0 kid.1 (ap (λ (look : KidLook). look.is_open) kid.2 ∙ shut)

    -- so a slot is reserved wherever a message goes
    goes-open : (way : To) → (way ≡ to.UpRequest → (high : ℕ) × (parent_of tree o ≡ Some high)) → (way ≡ to.UpResponse → (high : ℕ) × (parent_of tree o ≡ Some high)) → ((c : ℕ) → way ≡ to.Kid c → c < length (children_of tree o)) → may_send (look_of it.now.ends) way ≡ false → ⊥
    goes-open to.Nobody request response kid none = cc
    goes-open to.Answer request response kid none = cc
    goes-open to.UpRequest request response kid none = let above = request refl in request-open above.0 above.1 none
    goes-open to.UpResponse request response kid none = let above = response refl in response-open above.0 above.1 none
    goes-open (to.Kid c) request response kid none =
        let less = kid c refl in
        let count = it.has.kids in
        let there = get_within it.now.ends.kids c (omega (arith, less, count)) in
        let seen : slice_get (map kid_look it.now.ends.kids) c ≡ Some (kid_look there.0) = slice_get-map kid_look it.now.ends.kids c ∙ ap (option_map kid_look) there.1 in
        kid-open c there.0 there.1 (sym (ap (λ found. option_map_or (λ (look : KidLook). look.is_open) found false) seen) ∙ none)
    goes-open (to.Kids set) request response kid none =
        let one = one-shut set.0 0 (map kid_look it.now.ends.kids) none in
        look-open one.0 one.1 one.2 one.3

  pub may-send : (f : Firing) (e : Effect) (kind : Kind) (line held : Line) (line_there : slice_get begun f.line.0 ≡ Some line) (it : IsThere p tree k f.line.0 f.object.0 line crew) → IsLineStuck p kind k it.now → ((i : ℕ) (cell : Cell) → slice_get line i ≡ Some cell → AreFew (held_cell tree crew f.line.0 i cell)) → (acted : IsActed p tree held f e) → IsWellFormed p acted.kind (length (children_of tree f.object.0)) acted.local → may_send (look_of it.now.ends) e.outs.to ≡ false → ⊥
  may-send f e kind line held line_there it stuck few acted formed none =
      goes-open f.line.0 f.object.0 line line_there it kind stuck few e.outs.to
      (request-above p tree held f e law acted)
      (response-above p tree held f e law acted)
      (λ c goes. kid-below p tree held f e acted c formed goes)
      none
