-- Where no lock of a line is held, nothing is under way on it.
use Rattle.std.proofs.Common.{◌≡◌, refl, ap, ℕ, ◌+◌, arith, Bool, true, false, cond, List, [], ◌∷◌, filter, length, Option, Some, None}
use Rattle.std.specs.Prelude.{slice_get}
use Rattle.std.specs.List.{list_all}
use Rattle.std.proofs.lemmas.Option.{slice_get_within}
use Rattle.hem_base.specs.declared.ids.Message.{Message}
use Rattle.hem_syntax.specs.Protocol.{Protocol}
use Rattle.hem_tree.specs.Tree.{Tree, IsTree, parent_of, place_among}
use Rattle.hem_tree.proofs.Early.{lawful_early}
use Rattle.hem_tree.proofs.Lawful.{get_within}
use Rattle.hem_system.specs.State.{Cell, Line}
use Rattle.hem_rows.specs.Acts.{is_down_request, is_down_response}
use Rattle.hem_rows.proofs.Choices.{both}
use Rattle.hem_locks.specs.Edges.{count, held, awaits, responses_first, LocksHold}
use Rattle.hem_locks.specs.Clean.{IsStill, LineIsStill, HoldsNone}

none-long : {A : Type 0} (xs : List A) → length xs ≡ 0 → xs ≡ []
none-long [] none = refl
none-long (x ∷ xs) none = absurd (omega (arith, none))

one-more : (test : Message → Bool) (m : Message) (ms : List Message) → test m ≡ true → count test (m ∷ ms) ≡ count test ms + 1
one-more test m ms is = let more : count test (m ∷ ms) ≡ length (m ∷ filter test ms) = ap (λ b. length (cond b (m ∷ filter test ms) (filter test ms))) is in omega (arith, more)

-- responses and then requests, but none of either, are nothing
nothing-down : (p : Protocol) (ms : List Message) → responses_first p ms ≡ true → count (is_down_response p) ms ≡ 0 → count (is_down_request p) ms ≡ 0 → ms ≡ []
nothing-down p [] order answers asks = refl
nothing-down p (m ∷ ms) order answers asks = by_class (is_down_response p m) refl order
  where
    by_class : (b : Bool) → is_down_response p m ≡ b → cond b (responses_first p ms) (list_all (is_down_request p) (m ∷ ms)) ≡ true → m ∷ ms ≡ []
    by_class true is rest = let more = one-more (is_down_response p) m ms is in absurd (omega (arith, more, answers))
    by_class false is rest = let more = one-more (is_down_request p) m ms (both (is_down_request p m) (list_all (is_down_request p) ms) rest).0 in absurd (omega (arith, more, asks))

module _ (p : Protocol) (tree : Tree) (line : Line) (lawful : IsTree tree) (holds : LocksHold p tree line) (none : (o : ℕ) (cell : Cell) → slice_get line o ≡ Some cell → HoldsNone cell) where
  still-object : (o : ℕ) (cell : Cell) → slice_get line o ≡ Some cell → IsStill cell
  still-object o cell at = by_parent (parent_of tree o) refl
    where
      by_parent : (parent : Option ℕ) → parent_of tree o ≡ parent → IsStill cell
      by_parent None is = let top = (holds.objects.object o cell at).top is in record { up_requests = top.up_requests; up_responses = top.up_responses; down = top.down }
      by_parent (Some k) is =
          let early = (lawful_early tree lawful).early o k is in
          let inside = slice_get_within line o cell at in
          let high = get_within line k (omega (arith, early, inside)) in
          let c = place_among tree k o in
          let edge = holds.edges.edge o k high.0 cell is high.1 at in
          let free : held cell.local.up ≡ 0 = ap held (none o cell at).uplock in
          let idle : awaits c high.0.local.down ≡ 0 = ap (awaits c) (none k high.0 high.1).downlock in
          record {
            up_requests = none-long cell.up_requests (omega (arith, edge.uplock, free));
            up_responses = none-long cell.up_responses (omega (arith, edge.downlock, idle));
            down = nothing-down p cell.down edge.order (omega (arith, edge.uplock, free)) (omega (arith, edge.downlock, idle));
          }

  pub nothing-under-way : LineIsStill line
  nothing-under-way = record { object = still-object }
