-- The invariant of locks at an edge, by the lists and locks of a line.
use Rattle.std.proofs.Common.{◌≡◌, ℕ, ◌+◌, ◌≤◌, Bool, true, false, cond, List, [], ◌∷◌, length, refl, sym, ap, ◌∙◌, subst, arith, Option, Some, None}
use Rattle.std.specs.Prelude.{◌==◌, slice_get, filter, option_map, option_and_then}
use Rattle.std.specs.List.{list_all}
use Rattle.std.specs.Option.{option_map_or}
use Rattle.std.proofs.lemmas.Bool.{eqb-true}
use Rattle.hem_base.specs.declared.ids.Message.{Message}
use Rattle.hem_object.specs.declared.state.By.{By}
use Rattle.hem_object.specs.declared.state.By.TheVariants.{Processor, Kid, Parent, Own}
use Rattle.hem_object.specs.declared.state.Lock.{Lock}
use Rattle.hem_syntax.specs.Protocol.{Protocol}
use Rattle.hem_object.specs.Local.{Local}
use Rattle.hem_tree.specs.Tree.{Tree, children_of, is_child, place_among, IsTree}
use Rattle.hem_tree.proofs.Early.{lawful_early}
use Rattle.hem_tree.proofs.Lawful.{get_within}
use Rattle.hem_system.specs.declared.lane.Lane.{Lane}
use Rattle.hem_system.specs.declared.lane.Lane.TheVariants.{UpRequests, UpResponses, Down}
use Rattle.hem_system.specs.State.{Cell, Line, list_of, list_at}
use Rattle.hem_system.proofs.Kids.{child_at}
use Rattle.hem_system.proofs.Takers.{parent_is}
use Rattle.hem_rows.specs.Acts.{is_down_request, is_down_response}
use Rattle.hem_locks.specs.Edges.{count, is_kid, for_kid, for_parent, awaits, held, responses_first, LocksHold}
use Rattle.hem_shape.specs.Progress.{child, processor}
use Rattle.hem_numbered.specs.Numbers.{asker_of, uplock_at, downlock_at}
use Rattle.hem_rows.proofs.Choices.{both}
use Rattle.hem_numbered.proofs.LineSteps.{child_within}
use Rattle.hem_numbered.proofs.ToRequester.{request_no_response}

-- at the edge from a child k to its parent o
pub record EdgeAt (p : Protocol) (tree : Tree) (line : Line) (k o : ℕ) : Type 0 where
  pub uplock : length (list_at line k UpRequests) + count (is_down_response p) (list_at line k Down) + for_kid (place_among tree o k) (uplock_at line o) + for_kid (place_among tree o k) (downlock_at line o) ≡ held (uplock_at line k)
  pub downlock : count (is_down_request p) (list_at line k Down) + length (list_at line k UpResponses) + for_parent (downlock_at line k) ≡ awaits (place_among tree o k) (downlock_at line o)
  pub order : responses_first p (list_at line k Down) ≡ true
  pub single : held (uplock_at line k) + held (downlock_at line k) ≤ 1 + for_parent (downlock_at line k)

pub edge_at : (p : Protocol) (tree : Tree) (line : Line) → IsTree tree → LocksHold p tree line → (k o : ℕ) → is_child tree k o ≡ true → EdgeAt p tree line k o
edge_at p tree line lawful holds k o own =
    let in_tree = child_within tree k o own in
    let before = (lawful_early tree lawful).early k o (parent_is tree k o own) in
    let size = holds.size in
    let low = get_within line k (omega (arith, in_tree, size)) in
    let high = get_within line o (omega (arith, in_tree, size, before)) in
    let edge = holds.edges.edge k o high.0 low.0 (parent_is tree k o own) high.1 low.1 in
    let asks = list_is k low.0 UpRequests low.1 in
    let answers = list_is k low.0 UpResponses low.1 in
    let down = list_is k low.0 Down low.1 in
    let up_o = up_is o high.0 high.1 in
    let down_o = down_is o high.0 high.1 in
    let up_k = up_is k low.0 low.1 in
    let down_k = down_is k low.0 low.1 in
    record {
      uplock = (λ i. length (asks i) + count (is_down_response p) (down i) + for_kid (place_among tree o k) (up_o i) + for_kid (place_among tree o k) (down_o i)) ∙ edge.uplock ∙ sym (ap held up_k);
      downlock = (λ i. count (is_down_request p) (down i) + length (answers i) + for_parent (down_k i)) ∙ edge.downlock ∙ sym (ap (awaits (place_among tree o k)) down_o);
      order = ap (responses_first p) down ∙ edge.order;
      single = subst (λ l. held (uplock_at line k) + held l ≤ 1 + for_parent l) (sym down_k) (subst (λ l. held l + held low.0.local.down ≤ 1 + for_parent low.0.local.down) (sym up_k) edge.single);
    }
  where
    list_is : (k : ℕ) (cell : Cell) (lane : Lane) → slice_get line k ≡ Some cell → list_at line k lane ≡ list_of cell lane
    list_is k cell lane at = ap (λ c. option_map_or (λ cell. list_of cell lane) c []) at

    up_is : (k : ℕ) (cell : Cell) → slice_get line k ≡ Some cell → uplock_at line k ≡ cell.local.up
    up_is k cell at = ap (λ c. option_and_then (λ (local : Local). local.up) (option_map (λ (cell : Cell). cell.local) c)) at

    down_is : (k : ℕ) (cell : Cell) → slice_get line k ≡ Some cell → downlock_at line k ≡ cell.local.down
    down_is k cell at = ap (λ c. option_and_then (λ (local : Local). local.down) (option_map (λ (cell : Cell). cell.local) c)) at

-- a list of requests has no response
no_responses : (p : Protocol) (ms : List Message) → list_all (is_down_request p) ms ≡ true → count (is_down_response p) ms ≡ 0
no_responses p [] all = refl
no_responses p (m ∷ ms) all =
    let parts = both (is_down_request p m) (list_all (is_down_request p) ms) all in
    ap (λ b. length (cond b (m ∷ filter (is_down_response p) ms) (filter (is_down_response p) ms))) (request_no_response p m.id parts.0) ∙ no_responses p ms parts.1

-- where responses come first and there is one, the first message is one
pub response_first : (p : Protocol) (ms : List Message) → responses_first p ms ≡ true → 1 ≤ count (is_down_response p) ms → (m : Message) × (slice_get ms 0 ≡ Some m) × (is_down_response p m ≡ true)
response_first p [] order some = absurd (omega (arith, some))
response_first p (m ∷ ms) order some = by_class (is_down_response p m) refl order
  where
    by_class : (b : Bool) → is_down_response p m ≡ b → cond b (responses_first p ms) (list_all (is_down_request p) (m ∷ ms)) ≡ true → (q : Message) × (slice_get (m ∷ ms) 0 ≡ Some q) × (is_down_response p q ≡ true)
    by_class true is order = (m, refl, is)
    by_class false is order = absurd (let none = no_responses p (m ∷ ms) order in omega (arith, some, none))

-- so where the first is a request there is no response
pub no_request_first : (p : Protocol) (ms : List Message) (m : Message) → responses_first p ms ≡ true → slice_get ms 0 ≡ Some m → is_down_request p m ≡ true → 1 ≤ count (is_down_response p) ms → ⊥
no_request_first p ms m order at is some =
    let first = response_first p ms order some in
    let same : first.0 ≡ m = (let both : Some first.0 ≡ Some m = sym first.1 ∙ at in cc) in
    let bad : true ≡ false = sym first.2 ∙ ap (is_down_response p) same ∙ request_no_response p m.id is in
    cc

-- a lock that counts at a child's edge is held for that child
pub counted_child : (tree : Tree) (o k : ℕ) (lock : Option Lock) → is_child tree k o ≡ true → 1 ≤ for_kid (place_among tree o k) lock → (l : Lock) × (lock ≡ Some l) × (asker_of tree o l.by ≡ child k)
counted_child tree o k None own some = absurd (omega (arith, some))
counted_child tree o k (Some l) own some = (l, refl, by_by l.by some)
  where
    by_by : (by : By) → 1 ≤ is_kid (place_among tree o k) by → asker_of tree o by ≡ child k
    by_by Processor some = absurd (omega (arith, some))
    by_by (Kid d) some = same_place (place_among tree o k == d) refl some
      where
        same_place : (b : Bool) → (place_among tree o k == d) ≡ b → 1 ≤ cond b 1 0 → asker_of tree o (Kid d) ≡ child k
        same_place true is some = ap (λ c. option_map_or child c processor) (ap (λ i. slice_get (children_of tree o) i) (sym (eqb-true (place_among tree o k) d is)) ∙ child_at tree o k own)
        same_place false is some = absurd (omega (arith, some))
    by_by Parent some = absurd (omega (arith, some))
    by_by Own some = absurd (omega (arith, some))
