-- A firing keeps the invariant of locks at each edge of its line.
use Rattle.std.proofs.Common.{◌≡◌, ◌≢◌, refl, ap, sym, ◌∙◌, subst, ℕ, ◌+◌, ◌≤◌, true, false, ◌&&◌, cond, List, [], arith, zero-add, Option, Some, None, inl, inr, ◌⊎◌}
use Rattle.std.specs.Prelude.{◌==◌, slice_get, option_map}
use Rattle.std.specs.Option.{option_map_or}
use Rattle.std.proofs.lemmas.Bool.Decides.{eqb_tells}
use Rattle.hem_base.specs.Sets.{has_bit}
use Rattle.hem_base.specs.declared.ids.KidSet.{KidSet}
use Rattle.hem_base.specs.declared.ids.Message.{Message}
use Rattle.hem_base.specs.declared.ids.Firing.{Firing}
use Rattle.hem_object.specs.declared.state.Lock.{Lock}
use Rattle.hem_syntax.specs.Protocol.{Protocol}
use Rattle.hem_object.specs.Local.{Local}
use Rattle.hem_template.specs.Template.{row_of}
use Rattle.hem_template.specs.declared.row.Taking.{Taking}
use Rattle.hem_template.specs.declared.row.Taking.TheVariants.{NothingTaken, FromRequester, ParentRequest, ParentResponse, FromKids}
use Rattle.hem_fire.specs.Heads.{Heads}
use Rattle.hem_tree.specs.Tree.{Tree, IsTree, parent_of, is_child, place_among}
use Rattle.hem_tree.proofs.Early.{lawful_early}
use Rattle.hem_system.specs.declared.lane.Lane.{Lane}
use Rattle.hem_system.specs.declared.lane.Lane.TheVariants.{UpRequests, UpResponses, Down}
use Rattle.hem_system.specs.State.{Cell, Line, Effect, list_of, head_at, local_at, heads_of, place_of_me, takes, cell_after, line_after}
use Rattle.hem_system.proofs.Changed.{lists_stay, not_same, is_same}
use Rattle.hem_rows.specs.Acts.{IsThere, takes_me, takes_kids, AreHeads}
use Rattle.hem_locks.specs.Acted.{IsActed}
use Rattle.hem_locks.specs.Edges.{for_kid, awaits, EdgeHolds, CellsHold, EdgesHold}
use Rattle.hem_rows.proofs.Choices.{both, if_mapped}
use Rattle.hem_rows.proofs.Bits.{no_bit}
use Rattle.hem_system.proofs.Own.{slice_get-map_each}
use Rattle.hem_locks.proofs.EdgeStep.{Flow, Balances, edge_after}
use Rattle.hem_locks.proofs.LockNumbers.{one_if-few}
use Rattle.hem_locks.proofs.Sums.{SumsAbove, SumsBelow, sums_above, sums_below}
use Rattle.hem_locks.proofs.Places.{flow_of, flow_above, flow_below, named_head, kid_head, child_of, other_child, not_own_child, no_leaf}

-- the cells of a line after a firing
pub cell_now : (tree : Tree) (f : Firing) (e : Effect) (line : Line) (k : ℕ) (new : Cell) → slice_get (line_after tree f e line) k ≡ Some new → (old : Cell) × (slice_get line k ≡ Some old) × (cell_after tree f e k old ≡ new)
cell_now tree f e line k new at = if_mapped (cell_after tree f e k) (slice_get line k) new (sym (rw zero-add at (slice_get-map_each (cell_after tree f e) 0 line k)) ∙ at)

-- the local state of an object that is there
pub local_of : (line : Line) (o : ℕ) (cell : Cell) (local : Local) → slice_get line o ≡ Some cell → local_at line o ≡ Some local → local ≡ cell.local
local_of line o cell local at there =
    let is : Some cell.local ≡ Some local = sym (ap (option_map (λ (c : Cell). c.local)) at) ∙ there in
    cc

-- the head of a list of an object that is there
pub head_of : (line : Line) (o : ℕ) (cell : Cell) (lane : Lane) → slice_get line o ≡ Some cell → head_at line o lane ≡ slice_get (list_of cell lane) 0
head_of line o cell lane at = ap (λ (c : Option Cell). slice_get (option_map_or (λ cell. list_of cell lane) c []) 0) at

-- the child's request is there where it is taken
pub me_there : (p : Protocol) (taking : Taking) (local : Local) (heads : Heads) → takes_me taking ≡ true → AreHeads p taking local heads → IsThere heads.request
me_there p FromRequester local heads takes there = there
me_there p NothingTaken local heads takes there = cc
me_there p ParentRequest local heads takes there = cc
me_there p ParentResponse local heads takes there = cc
me_there p FromKids local heads takes there = cc

-- and so is each child's response
kid_there : (p : Protocol) (taking : Taking) (local : Local) (heads : Heads) (kids : KidSet) (c : ℕ) (head : Option Message) → kids ≡ takes_kids taking local → has_bit kids.0 c ≡ true → slice_get heads.kids c ≡ Some head → AreHeads p taking local heads → IsThere head
kid_there p FromKids local heads kids c head is bit at there = there c head (rw is at bit) at
kid_there p NothingTaken local heads kids c head is bit at there = absurd (let none = no_bit c in let some : has_bit 0 c ≡ true = rw is at bit in cc)
kid_there p FromRequester local heads kids c head is bit at there = absurd (let none = no_bit c in let some : has_bit 0 c ≡ true = rw is at bit in cc)
kid_there p ParentRequest local heads kids c head is bit at there = absurd (let none = no_bit c in let some : has_bit 0 c ≡ true = rw is at bit in cc)
kid_there p ParentResponse local heads kids c head is bit at there = absurd (let none = no_bit c in let some : has_bit 0 c ≡ true = rw is at bit in cc)

-- the invariant at an edge, with the lists as a firing leaves them and the local states given
with_flow : (p : Protocol) (tree : Tree) (f : Firing) (e : Effect) (c k high : ℕ) (upper lower : Cell) (up' low' : Local) (flow : Flow) → CellsHold p c upper lower → flow_of tree f e.outs k ≡ flow → (cell_after tree f e high upper).local ≡ up' → (cell_after tree f e k lower).local ≡ low' → Balances p c upper.local up' lower.local low' lower.up_requests lower.up_responses lower.down flow e.outs.message → CellsHold p c (cell_after tree f e high upper) (cell_after tree f e k lower)
with_flow p tree f e c k high upper lower up' low' flow holds flow_is up_is low_is moves =
    let as_flow = subst (λ (x : Flow). Balances p c upper.local up' lower.local low' lower.up_requests lower.up_responses lower.down x e.outs.message) (sym flow_is) moves in
    let as_low = subst (λ (x : Local). Balances p c upper.local up' lower.local x lower.up_requests lower.up_responses lower.down (flow_of tree f e.outs k) e.outs.message) (sym low_is) as_flow in
    let as_up = subst (λ (x : Local). Balances p c upper.local x lower.local (cell_after tree f e k lower).local lower.up_requests lower.up_responses lower.down (flow_of tree f e.outs k) e.outs.message) (sym up_is) as_low in
    edge_after p c upper.local (cell_after tree f e high upper).local lower.local (cell_after tree f e k lower).local lower.up_requests lower.up_responses lower.down (flow_of tree f e.outs k) e.outs.message holds as_up

-- the object that fires, and another
pub own_local : (tree : Tree) (f : Firing) (e : Effect) (k : ℕ) (cell : Cell) → (k == f.object.0) ≡ true → (cell_after tree f e k cell).local ≡ e.after
own_local tree f e k cell own = ap (λ b. cond b e.after cell.local) own

pub other_local : (tree : Tree) (f : Firing) (e : Effect) (k : ℕ) (cell : Cell) → (k == f.object.0) ≡ false → (cell_after tree f e k cell).local ≡ cell.local
other_local tree f e k cell other = ap (λ b. cond b e.after cell.local) other

-- at the edge of the object that fires
edge_below : (p : Protocol) (tree : Tree) (line : Line) (f : Firing) (e : Effect) → IsTree tree → IsActed p tree line f e → (high : ℕ) (upper lower : Cell) → parent_of tree f.object.0 ≡ Some high → slice_get line f.object.0 ≡ Some lower → CellsHold p (place_among tree high f.object.0) upper lower → CellsHold p (place_among tree high f.object.0) (cell_after tree f e high upper) (cell_after tree f e f.object.0 lower)
edge_below p tree line f e lawful it high upper lower parent at holds =
    let o = f.object.0 in
    let c = place_among tree high o in
    let local = local_of line o lower it.local at it.there in
    let early = (lawful_early tree lawful).early o high parent in
    let other : (high == o) ≡ false = not_same high o (λ same. absurd (omega (arith, same, early))) in
    let sums = sums_below p it.kind it.template (place_of_me tree o f.me) it.local (heads_of tree line o f.me) e.after e.outs lower.down (sym (head_of line o lower Down at)) it.acts in
    let sums_here = subst (λ (x : Local). SumsBelow p x e.after e.outs lower.down) local sums in
    with_flow p tree f e c o high upper lower upper.local e.after _ holds
    (flow_below tree f e.outs o (is_same o) (not_own_child tree lawful o high parent))
    (other_local tree f e high upper other)
    (own_local tree f e o lower (is_same o))
    (record {
      request_there = λ never. absurd cc;
      response_there = λ never. absurd cc;
      uplock = omega (arith, sums_here.uplock);
      downlock = omega (arith, sums_here.downlock);
      known = refl;
      behind = awaits_few c upper.local.down;
      single = sums_here.single;
      spared = holds.spared;
    })
  where
    awaits_few : (c : ℕ) (lock : Option Lock) → 0 + awaits c lock ≤ 1
    awaits_few c None = omega arith
    awaits_few c (Some lock) = omega (arith, one_if-few (has_bit lock.awaited.0 c))

-- at the edges of its children
edge_above : (p : Protocol) (tree : Tree) (line : Line) (f : Firing) (e : Effect) → IsTree tree → IsActed p tree line f e → (k : ℕ) (upper lower : Cell) → parent_of tree k ≡ Some f.object.0 → slice_get line f.object.0 ≡ Some upper → slice_get line k ≡ Some lower → CellsHold p (place_among tree f.object.0 k) upper lower → CellsHold p (place_among tree f.object.0 k) (cell_after tree f e f.object.0 upper) (cell_after tree f e k lower)
edge_above p tree line f e lawful it k upper lower parent at_high at holds =
    let o = f.object.0 in
    let c = place_among tree o k in
    let me = place_of_me tree o f.me in
    let heads = heads_of tree line o f.me in
    let child = child_of tree k o parent in
    let local = local_of line o upper it.local at_high it.there in
    let early = (lawful_early tree lawful).early k o parent in
    let other : (k == o) ≡ false = not_same k o (λ same. absurd (omega (arith, same, early))) in
    let few : for_kid c it.local.down + awaits c it.local.down ≤ 1 = subst (λ (x : Local). for_kid c x.down + awaits c x.down ≤ 1) (sym local) holds.spared in
    let sums = sums_above p it.kind it.template c me it.local heads e.after e.outs (no_leaf tree lawful k o it.kind parent it.kind_is) few it.acts in
    let sums_here = subst (λ (x : Local). SumsAbove p c me x e.after e.outs) local sums in
    let flow = flow_above tree f e.outs k other child it.own_child in
    with_flow p tree f e c k o upper lower e.after lower.local _ holds flow
    (own_local tree f e o upper (is_same o))
    (other_local tree f e k lower other)
    (record {
      request_there = λ taken.
          let named : takes tree f e.outs k UpRequests ≡ true = ap (λ (x : Flow). x.takes_request) flow ∙ taken in
          let parts = both (e.outs.taken_request && option_map_or (λ child. child.0 == k) f.me false) (is_child tree k o) named in
          let parts' = both e.outs.taken_request (option_map_or (λ child. child.0 == k) f.me false) parts.0 in
          let there = me_there p (row_of it.template).taking it.local heads (sym it.acts.taken_request ∙ parts'.0) it.acts.there in
          (there.0, sym (head_of line k lower UpRequests at) ∙ sym (named_head line o k f.me parts'.1) ∙ there.1);
      response_there = λ taken.
          let there = kid_there p (row_of it.template).taking it.local heads e.outs.taken_kids c (head_at line k UpResponses) it.acts.taken_kids taken (kid_head tree line o k f.me child) it.acts.there in
          (there.0, sym (head_of line k lower UpResponses at) ∙ there.1);
      uplock = omega (arith, sums_here.uplock);
      downlock = omega (arith, sums_here.downlock);
      known = sums_here.known;
      behind = sums_here.behind;
      single = holds.single;
      spared = sums_here.spared;
    })

-- at every other edge
edge_beside : (p : Protocol) (tree : Tree) (f : Firing) (e : Effect) (c k high : ℕ) (upper lower : Cell) → (high == f.object.0) ≡ false → (k == f.object.0) ≡ false → is_child tree k f.object.0 ≡ false → CellsHold p c upper lower → CellsHold p c (cell_after tree f e high upper) (cell_after tree f e k lower)
edge_beside p tree f e c k high upper lower other_high other child holds =
    let stays = lists_stay tree f e.outs k lower other child in
    let up = sym (other_local tree f e high upper other_high) in
    let low = sym (other_local tree f e k lower other) in
    let requests = sym (ap (λ (x : Cell). x.up_requests) stays) in
    let responses = sym (ap (λ (x : Cell). x.up_responses) stays) in
    let down = sym (ap (λ (x : Cell). x.down) stays) in
    let one = subst (λ (x : Local). EdgeHolds p c x lower.local lower.up_requests lower.up_responses lower.down) up holds in
    let two = subst (λ (x : Local). EdgeHolds p c (cell_after tree f e high upper).local x lower.up_requests lower.up_responses lower.down) low one in
    let three = subst (λ (x : List Message). EdgeHolds p c (cell_after tree f e high upper).local (cell_after tree f e k lower).local x lower.up_responses lower.down) requests two in
    let four = subst (λ (x : List Message). EdgeHolds p c (cell_after tree f e high upper).local (cell_after tree f e k lower).local (cell_after tree f e k lower).up_requests x lower.down) responses three in
    subst (λ (x : List Message). EdgeHolds p c (cell_after tree f e high upper).local (cell_after tree f e k lower).local (cell_after tree f e k lower).up_requests (cell_after tree f e k lower).up_responses x) down four

-- at each edge
edge_kept : (p : Protocol) (tree : Tree) (line : Line) (f : Firing) (e : Effect) → IsTree tree → IsActed p tree line f e → (k high : ℕ) (upper lower : Cell) → parent_of tree k ≡ Some high → slice_get line high ≡ Some upper → slice_get line k ≡ Some lower → CellsHold p (place_among tree high k) upper lower → CellsHold p (place_among tree high k) (cell_after tree f e high upper) (cell_after tree f e k lower)
edge_kept p tree line f e lawful it k high upper lower parent at_high at holds = by_object (eqb_tells k f.object.0) (eqb_tells high f.object.0)
  where
    by_object : ((k == f.object.0) ≡ true) × (k ≡ f.object.0) ⊎ ((k == f.object.0) ≡ false) × (k ≢ f.object.0) → ((high == f.object.0) ≡ true) × (high ≡ f.object.0) ⊎ ((high == f.object.0) ≡ false) × (high ≢ f.object.0) → CellsHold p (place_among tree high k) (cell_after tree f e high upper) (cell_after tree f e k lower)
    by_object (inl own) parent_is =
        subst (λ (k : ℕ). parent_of tree k ≡ Some high → slice_get line k ≡ Some lower → CellsHold p (place_among tree high k) upper lower → CellsHold p (place_among tree high k) (cell_after tree f e high upper) (cell_after tree f e k lower)) (sym own.1)
        (λ parent at holds. edge_below p tree line f e lawful it high upper lower parent at holds) parent at holds
    by_object (inr other) (inl own) =
        subst (λ (high : ℕ). parent_of tree k ≡ Some high → slice_get line high ≡ Some upper → CellsHold p (place_among tree high k) upper lower → CellsHold p (place_among tree high k) (cell_after tree f e high upper) (cell_after tree f e k lower)) (sym own.1)
        (λ parent at_high holds. edge_above p tree line f e lawful it k upper lower parent at_high at holds) parent at_high holds
    by_object (inr other) (inr other_high) =
        edge_beside p tree f e (place_among tree high k) k high upper lower other_high.0 other.0 (other_child tree k high f.object.0 parent other_high.1) holds

-- a firing keeps the invariant at each edge of its line
pub edges_kept : (p : Protocol) (tree : Tree) (line : Line) (f : Firing) (e : Effect) → IsTree tree → IsActed p tree line f e → EdgesHold p tree line → EdgesHold p tree (line_after tree f e line)
edges_kept p tree line f e lawful it holds =
    record {
      edge = λ k high upper lower parent at_high at.
          let up = cell_now tree f e line high upper at_high in
          let low = cell_now tree f e line k lower at in
          subst (λ (x : Cell). CellsHold p (place_among tree high k) x lower) up.2
          (subst (λ (x : Cell). CellsHold p (place_among tree high k) (cell_after tree f e high up.0) x) low.2
          (edge_kept p tree line f e lawful it k high up.0 low.0 parent up.1 low.1 (holds.edge k high up.0 low.0 parent up.1 low.1)));
    }
