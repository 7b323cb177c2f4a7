-- An answer falls: the objects that wait for it do nothing until it comes, and each then hands it on.
use Rattle.std.proofs.Common.{◌≡◌, ◌≢◌, refl, ap, sym, ◌∙◌, subst, ℕ, ◌+◌, ◌<◌, ◌≤◌, Bool, true, false, ◌&&◌, List, [], ◌∷◌, length, arith, Option, Some, None, inl, inr, ◌⊎◌}
use Rattle.std.specs.Prelude.{◌==◌, slice_get}
use Rattle.std.proofs.lemmas.Bool.Decides.{eqb_tells}
use Rattle.hem_base.specs.declared.ids.Message.{Message}
use Rattle.hem_base.specs.declared.ids.Firing.{Firing}
use Rattle.hem_template.specs.declared.template_name.TemplateName.TheVariants.{ImmDown, RqUpDown}
use Rattle.hem_object.specs.declared.state.Lock.{Lock}
use Rattle.hem_syntax.specs.Protocol.{Protocol}
use Rattle.hem_object.specs.Local.{Local}
use Rattle.hem_template.specs.Template.{row_of}
use Rattle.hem_template.specs.declared.row.Taking.TheVariants.{ParentResponse}
use Rattle.hem_tree.specs.Tree.{Tree, IsTree, is_child, place_among}
use Rattle.hem_tree.proofs.Early.{lawful_early}
use Rattle.hem_system.specs.declared.lane.Lane.TheVariants.{UpRequests, Down}
use Rattle.hem_system.specs.State.{Cell, Line, Effect, takes, reaches, heads_of, head_at, place_of_me, cell_after, line_after}
use Rattle.hem_rows.specs.Acts.{IsThere, is_down_request, is_down_response, Acts}
use Rattle.hem_locks.specs.Acted.{IsActed}
use Rattle.hem_locks.specs.Edges.{one_if, count, responses_first, is_kid, for_kid, held, CellsHold, LocksHold}
use Rattle.hem_locks.specs.Clean.{IsClean, AreInLine}
use Rattle.hem_locks.specs.Allowed.{HasTemplate}
use Rattle.hem_rows.proofs.Choices.{if_mapped}
use Rattle.hem_locks.proofs.Counts.{changed, count-cons, count-changed, length-changed, request_first}
use Rattle.hem_locks.proofs.Clean.{clean_by, is_held}
use Rattle.hem_locks.proofs.Places.{up_requests_above}
use Rattle.hem_locks.proofs.Still.{child_within}
use Rattle.hem_locks.proofs.Allowed.{request_clean}
use Rattle.hem_system.proofs.Changed.{is_same, not_same}
use Rattle.hem_system.proofs.Takers.{parent_is}
use Rattle.hem_locks.proofs.LockNumbers.{held-few}
use Rattle.hem_locks.proofs.Lines.{head_of, local_of, own_local, other_local}
use Rattle.hem_windows.specs.Pending.{IsPending, IsOneOf, takes_of}
use Rattle.hem_windows.specs.Answering.{IsAnswering}
use Rattle.hem_tree.proofs.Lawful.{get_within}
use Rattle.hem_windows.proofs.ByTemplate.{only_response, response_there, response_frees, down_held-keeps_up}
use Rattle.hem_windows.proofs.Pending.{cell_next, KeepUp, still_works, same_template, child_named}

-- of a parent's messages no request is the first, where a response is among them or the child is not awaited
request_head : (p : Protocol) (ms : List Message) (m : Message) → slice_get ms 0 ≡ Some m → is_down_request p m ≡ true → 1 ≤ count (is_down_request p) ms
request_head p [] m at asks = cc
request_head p (x ∷ ms) m at asks =
    let same : x ≡ m = cc in
    let one : one_if (is_down_request p x) ≡ 1 = ap (λ y. one_if (is_down_request p y)) same ∙ ap one_if asks in
    omega (arith, one, count-cons (is_down_request p) x ms)

no_response : (p : Protocol) (ms : List Message) (m : Message) → slice_get ms 0 ≡ Some m → is_down_request p m ≡ true → responses_first p ms ≡ true → count (is_down_response p) ms ≡ 0
no_response p [] m at asks order = cc
no_response p (x ∷ ms) m at asks order = let same : x ≡ m = cc in request_first p x ms (ap (is_down_request p) same ∙ asks) order

no_request_head : (p : Protocol) (c : ℕ) (high low : Cell) → CellsHold p c high low → 1 ≤ count (is_down_response p) low.down + for_kid c high.local.down → (m : Message) → slice_get low.down 0 ≡ Some m → is_down_request p m ≡ false
no_request_head p c high low holds stands m at = by_class (is_down_request p m) refl
  where
    by_class : (b : Bool) → is_down_request p m ≡ b → b ≡ false
    by_class false is = refl
    by_class true is =
        let none = no_response p low.down m at is holds.order in
        let some = request_head p low.down m at is in
        let down = holds.downlock in
        let spared = holds.spared in
        absurd (omega arith)

-- objects that wait below an object with a free downlock are clean
lows_clean : (p : Protocol) (tree : Tree) (line : Line) (high : ℕ) (lows : List ℕ) (k : ℕ) (cell : Cell) → LocksHold p tree line → ((upper : Cell) → slice_get line high ≡ Some upper → upper.local.down ≡ None) → AreInLine tree line high lows → IsOneOf k lows → slice_get line k ≡ Some cell → IsClean cell
lows_clean p tree line high [] k cell holds free works none at = absurd none
lows_clean p tree line high (low ∷ lows) k cell holds free works one at = by_place one (λ rest. lows_clean p tree line low lows k cell holds (λ upper at. (low_clean upper at).downlock) works.1 rest at)
  where
    low_clean : (lower : Cell) → slice_get line low ≡ Some lower → IsClean lower
    low_clean lower at =
        let it = works.0 in
        let c = place_among tree high low in
        let one : for_kid c it.cell.local.up ≡ 1 = ap (for_kid c) it.up ∙ ap (is_kid c) it.holder ∙ ap one_if (is_same c) in
        clean_by p c it.cell lower (holds.edges.edge low high it.cell lower it.parent it.there at) (free it.cell it.there) (omega (arith, one))

    by_place : (k ≡ low) ⊎ IsOneOf k lows → (IsOneOf k lows → IsClean cell) → IsClean cell
    by_place (inl is) rest = low_clean cell (ap (slice_get line) (sym is) ∙ at)
    by_place (inr is) rest = rest is

-- the downlock of the head is free
head_free : (p : Protocol) (tree : Tree) (line : Line) (high top : ℕ) (lows : List ℕ) → IsAnswering p tree line high top lows → (upper : Cell) → slice_get line top ≡ Some upper → upper.local.down ≡ None
head_free p tree line high top lows it upper at = let both : Some it.cell ≡ Some upper = sym it.there ∙ at in let same : it.cell ≡ upper = cc in ap (λ (c : Cell). c.local.down) (sym same) ∙ it.free

-- an empty list has no head
no_head : (line : Line) (o : ℕ) (cell : Cell) → slice_get line o ≡ Some cell → cell.down ≡ [] → head_at line o Down ≡ None
no_head line o cell at none = head_of line o cell Down at ∙ ap (λ (ms : List Message). slice_get ms 0) none

nothing_there : (head : Option Message) (m : Message) → head ≡ None → head ≡ Some m → ⊥
nothing_there head m none some = cc

-- no object below the head fires
pub lows_silent : (p : Protocol) (tree : Tree) (line : Line) (f : Firing) (e : Effect) (high top : ℕ) (lows : List ℕ) → LocksHold p tree line → IsActed p tree line f e → IsAnswering p tree line high top lows → IsOneOf f.object.0 lows → ⊥
lows_silent p tree line f e high top lows holds it answering one =
    let o = f.object.0 in
    let heads = heads_of tree line o f.me in
    let cell = if_mapped (λ (c : Cell). c.local) (slice_get line o) it.local it.there in
    let clean = lows_clean p tree line top lows o cell.0 holds (head_free p tree line high top lows answering) answering.works one cell.1 in
    let local = local_of line o cell.0 it.local cell.1 it.there in
    let nothing : heads.parent ≡ None = no_head line o cell.0 cell.1 clean.down in
    let none : (m : Message) → heads.parent ≡ Some m → is_down_request p m ≡ false = λ m at. absurd (nothing_there heads.parent m nothing at) in
    let takes = only_response p it.kind it.template (place_of_me tree o f.me) it.local heads e.after e.outs clean.uplock.0 (ap (λ (l : Local). l.up) local ∙ clean.uplock.1) (ap (λ (l : Local). l.down) local ∙ clean.downlock) none it.acts in
    let m = response_there p it.kind it.template (place_of_me tree o f.me) it.local heads e.after e.outs takes it.acts in
    nothing_there heads.parent m.0 nothing m.1

-- the head takes the response
pub head_takes : (p : Protocol) (tree : Tree) (line : Line) (f : Firing) (e : Effect) (high : ℕ) (lows : List ℕ) → LocksHold p tree line → (it : IsActed p tree line f e) → IsAnswering p tree line high f.object.0 lows → (row_of it.template).taking ≡ ParentResponse
head_takes p tree line f e high lows holds it answering =
    let o = f.object.0 in
    let heads = heads_of tree line o f.me in
    let c = place_among tree high o in
    let cell = answering.cell in
    let edge = holds.edges.edge o high answering.upper cell answering.parent answering.at_high answering.there in
    let local = local_of line o cell it.local answering.there it.there in
    let stands = answering.stands in
    let few = held-few cell.local.up in
    let lock = is_held cell.local.up (omega (arith, edge.uplock)) in
    only_response p it.kind it.template (place_of_me tree o f.me) it.local heads e.after e.outs lock.0 (ap (λ (l : Local). l.up) local ∙ lock.1) (ap (λ (l : Local). l.down) local ∙ answering.free)
    (λ m at. no_request_head p c answering.upper cell edge stands m (sym (head_of line o cell Down answering.there) ∙ at)) it.acts

-- objects of a line of objects stand below its first
below_first : (tree : Tree) (line : Line) (high : ℕ) (lows : List ℕ) (k : ℕ) → IsTree tree → AreInLine tree line high lows → IsOneOf k lows → high < k
below_first tree line high [] k lawful works none = absurd none
below_first tree line high (low ∷ lows) k lawful works (inl is) = let early = (lawful_early tree lawful).early low high works.0.parent in omega (arith, is)
below_first tree line high (low ∷ lows) k lawful works (inr rest) =
    let early = (lawful_early tree lawful).early low high works.0.parent in
    let later = below_first tree line low lows k lawful works.1 rest in
    omega arith

-- others than the firing object keep their uplocks
others_keep : (tree : Tree) (line : Line) (f : Firing) (e : Effect) (ks : List ℕ) → ((k : ℕ) → IsOneOf k ks → k ≢ f.object.0) → KeepUp tree line f e ks
others_keep tree line f e ks others k cell one at = ap (λ (l : Local). l.up) (other_local tree f e k cell (not_same k f.object.0 (others k one)))

-- an empty list to which nothing is sent stays empty
stays_empty : (takes : Bool) (m : Message) (ms : List Message) → length ms ≡ 0 → length (changed takes false m ms) ≡ 0
stays_empty true m [] none = refl
stays_empty false m [] none = refl
stays_empty takes m (x ∷ ms) none = absurd (omega arith)

no_requests : (tree : Tree) (f : Firing) (e : Effect) (k : ℕ) (cell : Cell) → (k == f.object.0) ≡ false → length cell.up_requests ≡ 0 → length (cell_after tree f e k cell).up_requests ≡ 0
no_requests tree f e k cell other none =
    ap (λ b. length (changed (takes tree f e.outs k UpRequests) b e.outs.message cell.up_requests)) (up_requests_above tree f e.outs.to k other)
    ∙ stays_empty (takes tree f e.outs k UpRequests) e.outs.message cell.up_requests none

-- responses to an object that doesn't fire stay
responses_stay : (p : Protocol) (tree : Tree) (f : Firing) (e : Effect) (k : ℕ) (cell : Cell) → (k == f.object.0) ≡ false → count (is_down_response p) cell.down ≤ count (is_down_response p) (cell_after tree f e k cell).down
responses_stay p tree f e k cell other =
    let not : takes tree f e.outs k Down ≡ false = last_false e.outs.taken_parent (k == f.object.0) other in
    let sends = reaches tree f e.outs.to k Down in
    let size = count-changed (is_down_response p) false sends e.outs.message cell.down in
    let same : count (is_down_response p) (cell_after tree f e k cell).down ≡ count (is_down_response p) (changed false sends e.outs.message cell.down) = ap (λ b. count (is_down_response p) (changed b sends e.outs.message cell.down)) not in
    omega (arith, size, same)
  where
    last_false : (a b : Bool) → b ≡ false → (a && b) ≡ false
    last_false true b is = is
    last_false false b is = refl

-- a firing of another object leaves the answer on its way
pub answering_stays : (p : Protocol) (tree : Tree) (line : Line) (f : Firing) (e : Effect) (high top : ℕ) (lows : List ℕ) → IsTree tree → LocksHold p tree line → LocksHold p tree (line_after tree f e line) → IsActed p tree line f e → IsAnswering p tree line high top lows → ((k : ℕ) → IsOneOf k (top ∷ lows) → k ≢ f.object.0) → IsAnswering p tree (line_after tree f e line) high top lows
answering_stays p tree line f e high top lows lawful holds kept it answering others =
    let c = place_among tree high top in
    let upper = answering.upper in
    let cell = answering.cell in
    let other = not_same top f.object.0 (others top (inl refl)) in
    let upper' = cell_after tree f e high upper in
    let cell' = cell_after tree f e top cell in
    let at_high = cell_next tree f e line high upper answering.at_high in
    let at = cell_next tree f e line top cell answering.there in
    let edge = holds.edges.edge top high upper cell answering.parent answering.at_high answering.there in
    let now = kept.edges.edge top high upper' cell' answering.parent at_high at in
    let same = other_local tree f e top cell other in
    let held_same : held cell'.local.up ≡ held cell.local.up = ap (λ (l : Local). held l.up) same in
    let few = held-few cell.local.up in
    let up = edge.uplock in
    let stands = answering.stands in
    let none : length cell'.up_requests ≡ 0 = no_requests tree f e top cell other (omega arith) in
    let responses = responses_stay p tree f e top cell other in
    record {
      parent = answering.parent;
      upper = upper';
      at_high = at_high;
      cell = cell';
      there = at;
      stands = by_lock upper.local.down refl none responses held_same now.uplock up few stands;
      works = still_works tree line f e top lows (others_keep tree line f e (top ∷ lows) others) answering.works;
      free = ap (λ (l : Local). l.down) same ∙ answering.free;
    }
  where
    c : ℕ
    c = place_among tree high top

    by_lock : (lock : Option Lock) → answering.upper.local.down ≡ lock
        → length (cell_after tree f e top answering.cell).up_requests ≡ 0
        → count (is_down_response p) answering.cell.down ≤ count (is_down_response p) (cell_after tree f e top answering.cell).down
        → held (cell_after tree f e top answering.cell).local.up ≡ held answering.cell.local.up
        → length (cell_after tree f e top answering.cell).up_requests + count (is_down_response p) (cell_after tree f e top answering.cell).down + for_kid c (cell_after tree f e high answering.upper).local.up + for_kid c (cell_after tree f e high answering.upper).local.down ≡ held (cell_after tree f e top answering.cell).local.up
        → length answering.cell.up_requests + count (is_down_response p) answering.cell.down + for_kid c answering.upper.local.up + for_kid c answering.upper.local.down ≡ held answering.cell.local.up
        → held answering.cell.local.up ≤ 1
        → 1 ≤ count (is_down_response p) answering.cell.down + for_kid c answering.upper.local.down
        → 1 ≤ count (is_down_response p) (cell_after tree f e top answering.cell).down + for_kid c (cell_after tree f e high answering.upper).local.down
    by_lock None is none responses held_same now up few stands = let free : for_kid c answering.upper.local.down ≡ 0 = ap (for_kid c) is in omega arith
    by_lock (Some lock) is none responses held_same now up few stands = by_object (eqb_tells high f.object.0)
      where
        by_object : ((high == f.object.0) ≡ true) × (high ≡ f.object.0) ⊎ ((high == f.object.0) ≡ false) × (high ≢ f.object.0) → 1 ≤ count (is_down_response p) (cell_after tree f e top answering.cell).down + for_kid c (cell_after tree f e high answering.upper).local.down
        by_object (inr other) =
            let same : for_kid c (cell_after tree f e high answering.upper).local.down ≡ for_kid c answering.upper.local.down = ap (λ (l : Local). for_kid c l.down) (other_local tree f e high answering.upper other.0) in
            omega arith
        by_object (inl own) =
            let here : slice_get line f.object.0 ≡ Some answering.upper = ap (slice_get line) (sym own.1) ∙ answering.at_high in
            let local = local_of line f.object.0 answering.upper it.local here it.there in
            let keeps = down_held-keeps_up p it.kind it.template (place_of_me tree f.object.0 f.me) it.local (heads_of tree line f.object.0 f.me) e.after e.outs lock (ap (λ (l : Local). l.down) local ∙ is) it.acts in
            let same : for_kid c (cell_after tree f e high answering.upper).local.up ≡ for_kid c answering.upper.local.up = ap (λ (l : Local). for_kid c l.up) (own_local tree f e high answering.upper own.0) ∙ ap (for_kid c) keeps ∙ ap (λ (l : Local). for_kid c l.up) local in
            omega arith

-- the firing of the head hands the answer on to the next
pub answering_falls : (p : Protocol) (tree : Tree) (line : Line) (f : Firing) (e : Effect) (high low : ℕ) (lows : List ℕ) → IsTree tree → LocksHold p tree line → LocksHold p tree (line_after tree f e line) → IsActed p tree line f e → IsAnswering p tree line high f.object.0 (low ∷ lows) → IsAnswering p tree (line_after tree f e line) f.object.0 low lows
answering_falls p tree line f e high low lows lawful holds kept it answering =
    let o = f.object.0 in
    let c = place_among tree o low in
    let works = answering.works.0 in
    let upper = works.cell in
    let parent = works.parent in
    let early = (lawful_early tree lawful).early low o parent in
    let lower = get_within line low (let inside = child_within tree low o parent in omega (arith, holds.size)) in
    let other : (low == o) ≡ false = not_same low o (λ same. absurd (omega (arith, same))) in
    let clean = lows_clean p tree line o (low ∷ lows) low lower.0 holds (head_free p tree line high o (low ∷ lows) answering) answering.works (inl refl) lower.1 in
    let edge = holds.edges.edge low o upper lower.0 parent works.there lower.1 in
    let one : for_kid c upper.local.up ≡ 1 = ap (for_kid c) works.up ∙ ap (is_kid c) works.holder ∙ ap one_if (is_same c) in
    let held_low : held lower.0.local.up ≡ 1 = ap held clean.uplock.1 in
    let upper' = cell_after tree f e o upper in
    let lower' = cell_after tree f e low lower.0 in
    let at_high = cell_next tree f e line o upper works.there in
    let at = cell_next tree f e line low lower.0 lower.1 in
    let now = kept.edges.edge low o upper' lower' parent at_high at in
    let stays = other_local tree f e low lower.0 other in
    let held_now : held lower'.local.up ≡ 1 = ap (λ (l : Local). held l.up) stays ∙ held_low in
    let takes = head_takes p tree line f e high (low ∷ lows) holds it answering in
    let freed = response_frees p it.kind it.template (place_of_me tree o f.me) it.local (heads_of tree line o f.me) e.after e.outs takes it.acts in
    let no_up : for_kid c upper'.local.up ≡ 0 = ap (λ (l : Local). for_kid c l.up) (own_local tree f e o upper (is_same o)) ∙ ap (for_kid c) freed in
    let none : length lower'.up_requests ≡ 0 = no_requests tree f e low lower.0 other (omega (arith, edge.uplock, one, held_low)) in
    record {
      parent = parent;
      upper = upper';
      at_high = at_high;
      cell = lower';
      there = at;
      stands = omega (arith, now.uplock, no_up, none, held_now);
      works = still_works tree line f e low lows (others_keep tree line f e (low ∷ lows) (λ k one same. absurd (let later = below_first tree line o (low ∷ lows) k lawful answering.works one in omega (arith, same)))) answering.works.1;
      free = ap (λ (l : Local). l.down) stays ∙ clean.downlock;
    }

-- a firing that takes a child's request and doesn't send it on
record Final (e : Effect) : Type 0 where
  taken : e.outs.taken_request ≡ true
  up : e.after.up ≡ None

-- a firing that takes the pending request and doesn't send it on begins the answer
pub answering_begins : (p : Protocol) (tree : Tree) (line : Line) (f : Firing) (e : Effect) (top : ℕ) (lows : List ℕ) → IsTree tree → LocksHold p tree line → LocksHold p tree (line_after tree f e line) → IsActed p tree line f e → IsPending tree line top lows → takes_of top f ≡ true → HasTemplate p tree f ImmDown ⊎ HasTemplate p tree f RqUpDown → IsAnswering p tree (line_after tree f e line) f.object.0 top lows
answering_begins p tree line f e top lows lawful holds kept it pending taken has =
    let o = f.object.0 in
    let child = child_named tree top f f.me refl taken in
    let own : is_child tree child.0.0 o ≡ true = rw child.1 at it.own_child in
    let is_own : is_child tree top o ≡ true = ap (λ k. is_child tree k o) (sym child.2) ∙ own in
    let parent = parent_is tree top o is_own in
    let c = place_among tree o top in
    let early = (lawful_early tree lawful).early top o parent in
    let other : (top == o) ≡ false = not_same top o (λ same. absurd (omega (arith, same))) in
    let upper = if_mapped (λ (x : Cell). x.local) (slice_get line o) it.local it.there in
    let cell = pending.cell in
    let edge = holds.edges.edge top o upper.0 cell parent upper.1 pending.there in
    let upper' = cell_after tree f e o upper.0 in
    let cell' = cell_after tree f e top cell in
    let at_high = cell_next tree f e line o upper.0 upper.1 in
    let at = cell_next tree f e line top cell pending.there in
    let now = kept.edges.edge top o upper' cell' parent at_high at in
    let stays = other_local tree f e top cell other in
    let acts = final it has in
    let clean = request_clean p tree line f e child.0 holds.edges it acts.taken child.1 cell (ap (slice_get line) child.2 ∙ pending.there) in
    let takes_it : takes tree f e.outs top UpRequests ≡ true = all_true e.outs.taken_request (takes_of top f) (is_child tree top o) acts.taken taken is_own in
    let size = length-changed true (reaches tree f e.outs.to top UpRequests) e.outs.message cell.up_requests (λ t. first cell.up_requests pending.asks) in
    let not_sent : one_if (reaches tree f e.outs.to top UpRequests) ≡ 0 = ap one_if (up_requests_above tree f e.outs.to top other) in
    let same : length cell'.up_requests ≡ length (changed true (reaches tree f e.outs.to top UpRequests) e.outs.message cell.up_requests) = ap (λ b. length (changed b (reaches tree f e.outs.to top UpRequests) e.outs.message cell.up_requests)) takes_it in
    let asks = pending.asks in
    let held_top : held cell.local.up ≡ 1 = ap held clean.uplock.1 in
    let held_now : held cell'.local.up ≡ 1 = ap (λ (l : Local). held l.up) stays ∙ held_top in
    let no_up : for_kid c upper'.local.up ≡ 0 = ap (λ (l : Local). for_kid c l.up) (own_local tree f e o upper.0 (is_same o)) ∙ ap (for_kid c) acts.up in
    record {
      parent = parent;
      upper = upper';
      at_high = at_high;
      cell = cell';
      there = at;
      stands = omega (arith, now.uplock, edge.uplock, size, same, not_sent, held_top, held_now, no_up);
      works = still_works tree line f e top lows (others_keep tree line f e (top ∷ lows) (λ k one same. absurd (deeper k one (omega (arith, early)) same))) pending.works;
      free = ap (λ (l : Local). l.down) stays ∙ clean.downlock;
    }
  where
    all_true : (a b c : Bool) → a ≡ true → b ≡ true → c ≡ true → (a && b && c) ≡ true
    all_true a b c x y z = rw (x, y, z) refl

    first : (ms : List Message) → 1 ≤ length ms → IsThere (slice_get ms 0)
    first [] some = absurd (omega arith)
    first (m ∷ ms) some = (m, refl)

    deeper : (k : ℕ) → IsOneOf k (top ∷ lows) → f.object.0 < top → k ≡ f.object.0 → ⊥
    deeper k (inl is) early same = omega (arith, is, same)
    deeper k (inr rest) early same = let later = below_first tree line top lows k lawful pending.works rest in omega (arith, same)

    final : (it : IsActed p tree line f e) → HasTemplate p tree f ImmDown ⊎ HasTemplate p tree f RqUpDown → Final e
    final it (inl has) =
        let acts = subst (λ t. Acts p it.kind (row_of t) (place_of_me tree f.object.0 f.me) it.local (heads_of tree line f.object.0 f.me) e.after e.outs) (same_template p tree line f e ImmDown it has) it.acts in
        record { taken = acts.taken_request; up = acts.up_after ∙ acts.up_before }
    final it (inr has) =
        let acts = subst (λ t. Acts p it.kind (row_of t) (place_of_me tree f.object.0 f.me) it.local (heads_of tree line f.object.0 f.me) e.after e.outs) (same_template p tree line f e RqUpDown it has) it.acts in
        record { taken = acts.taken_request; up = acts.up_after ∙ acts.up_before }
