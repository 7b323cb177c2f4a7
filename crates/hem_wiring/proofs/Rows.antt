-- One object more on a line.
use Rattle.std.proofs.Common.{◌≡◌, ◌≢◌, refl, ap, sym, ◌∙◌, subst, ℕ, ◌+◌, ◌<◌, ◌≤◌, Bool, true, false, cond, arith, List, [], ◌∷◌, ◌++◌, length, Some, None, ⊎_elim, add-one}
use Rattle.std.specs.Prelude.{◌==◌, slice_get}
use Rattle.std.proofs.str.Laws.{order}
use Rattle.std.proofs.lemmas.List.{length_push, length-set}
use Rattle.std.proofs.lemmas.Option.{slice_get_within}
use Rattle.hem_tree.specs.Tree.{Tree, is_number, parent_of, is_child, place_among}
use Rattle.hem_tree.proofs.Paths.{IsEarly}
use Rattle.hem_tree.proofs.Lawful.{count_more, one_if, count_bounded}
use Rattle.hem_system.proofs.Sets.{get_set_here, get_set_other}
use Rattle.hem_system.proofs.Takers.{parent_is}
use Rattle.hem_ends.specs.Ends.{Ends}
use Rattle.hem_worker.specs.LineParts.{AreUnused}
use Rattle.hem_worker.specs.Edges.{channels_of}
use Rattle.hem_crew.specs.Crew.{AreJoinedAt, HasNoParent}
use Rattle.hem_wiring.proofs.Pushed.{get_left, get_last}
use Rattle.hem_wiring.specs.Wiring.{IsJoinedAt, AreEnds}
use Rattle.hem_wiring.proofs.Channels.{IsGrown, same_grown, joined_grown, grown_edge, grown_root, last_edge, joined_unused}

-- what an object's ends were before object n came
record IsFrom (tree : Tree) (n o : ℕ) (row : List Ends) (own : Ends) : Type 0 where
  before : Ends
  at : slice_get row o ≡ Some before
  grown : IsGrown before own
  unused : AreUnused before → AreUnused own
  size : length own.kids ≡ length before.kids + cond (is_child tree n o) 1 0

-- object n comes to a line
record IsNext (tree : Tree) (slots n : ℕ) (row new : List Ends) : Type 0 where
  own : Ends
  count : length new ≡ n + 1
  there : slice_get new n ≡ Some own
  each : (o : ℕ) (e : Ends) → o < n → slice_get new o ≡ Some e → IsFrom tree n o row e
  unused : AreUnused own
  kids : own.kids ≡ []
  edge : (high : ℕ) (up : Ends) → parent_of tree n ≡ Some high → slice_get new high ≡ Some up → AreJoinedAt slots (place_among tree high n) (channels_of up) (channels_of own)
  root : parent_of tree n ≡ None → HasNoParent (channels_of own)

-- how many children of an object stand before the next one
one_more : (tree : Tree) (o n : ℕ) → place_among tree o (n + 1) ≡ place_among tree o n + cond (is_child tree n o) 1 0
one_more tree o n = by_test (is_child tree n o) (rw add-one (count_more (λ k. is_child tree k o) n))
  where
    by_test : (b : Bool) → place_among tree o (n + 1) ≡ place_among tree o n + one_if b → place_among tree o (n + 1) ≡ place_among tree o n + cond b 1 0
    by_test true is = is
    by_test false is = is

-- no child of an object stands before it or at its place
none_yet : (tree : Tree) (n : ℕ) → IsEarly tree → place_among tree n (n + 1) ≡ 0
none_yet tree n early =
    let few : place_among tree n (n + 1) ≤ 0 = count_bounded (λ k. is_child tree k n) 0 (n + 1) (λ k less child. let later = early.early k n (parent_is tree k n child) in absurd (omega arith)) in
    omega (arith, few)

-- with it the line's ends are those of one object more
next_ends : (tree : Tree) (slots n : ℕ) (row new : List Ends) → IsEarly tree → AreEnds tree slots n row → IsNext tree slots n row new → AreEnds tree slots (n + 1) new
next_ends tree slots n row new early were next =
    record {
      count = next.count;
      unused = λ o own at. by_place (λ o own. AreUnused own) (λ o own less from. from.unused (were.unused o from.before from.at)) next.unused o own at;
      kids = λ o own at. by_place (λ o own. length own.kids ≡ place_among tree o (n + 1)) (λ o own less from. from.size ∙ ap (λ m. m + cond (is_child tree n o) 1 0) (were.kids o from.before from.at) ∙ sym (one_more tree o n)) (ap length next.kids ∙ sym (none_yet tree n early)) o own at;
      edges = λ o high low up parent here there. by_place (λ o low. parent_of tree o ≡ Some high → AreJoinedAt slots (place_among tree high o) (channels_of up) (channels_of low)) (λ o low less from parent. earlier o high low up less from parent there) (λ parent. next.edge high up parent there) o low here parent;
      root = λ o own none at. by_place (λ o own. parent_of tree o ≡ None → HasNoParent (channels_of own)) (λ o own less from none. grown_root from.before own from.grown (were.root o from.before none from.at)) next.root o own at none;
    }
  where
    by_place : (Fact : ℕ → Ends → Type 0) → ((o : ℕ) (own : Ends) → o < n → IsFrom tree n o row own → Fact o own) → Fact n next.own → (o : ℕ) (own : Ends) → slice_get new o ≡ Some own → Fact o own
    by_place Fact before last o own at =
        let within = slice_get_within new o own at in
        ⊎_elim
        (λ less. before o own less (next.each o own less at))
        (λ past.
        let same : n ≡ o = omega (arith, within, next.count, past) in
        let one : Some next.own ≡ Some own = sym next.there ∙ ap (slice_get new) same ∙ at in
        let it : next.own ≡ own = cc in
        subst (λ m. Fact m own) same (subst (Fact n) it last))
        (order o n)

    earlier : (o high : ℕ) (low up : Ends) → o < n → IsFrom tree n o row low → parent_of tree o ≡ Some high → slice_get new high ≡ Some up → AreJoinedAt slots (place_among tree high o) (channels_of up) (channels_of low)
    earlier o high low up less from parent there =
        let before = early.early o high parent in
        let upper = next.each high up (omega (arith, before, less)) there in
        grown_edge slots (place_among tree high o) upper.before up from.before low upper.grown from.grown (were.edges o high from.before upper.before parent from.at upper.at)

same_number : (a b : ℕ) → (a == b) ≡ true → a ≡ b
same_number a b is = grind arith

other_number : (a b : ℕ) → (a == b) ≡ false → b ≡ a → ⊥
other_number a b is same = grind arith

-- whether an object is the parent
is_parent : (tree : Tree) (n high o : ℕ) → parent_of tree n ≡ Some high → is_child tree n o ≡ (high == o)
is_parent tree n high o parent = ap (λ p. is_number p o) parent

-- an object without a parent comes
pub root_comes : (tree : Tree) (slots n : ℕ) (row : List Ends) → IsEarly tree → parent_of tree n ≡ None → AreEnds tree slots n row → AreEnds tree slots (n + 1) (row ++ record { up_requests = None; up_responses = None; down = None; kids = [] } ∷ [])
root_comes tree slots n row early none were =
    let own : Ends = record { up_requests = None; up_responses = None; down = None; kids = [] } in
    next_ends tree slots n row (row ++ own ∷ []) early were (record {
      own = own;
      count = length_push row own ∙ ap (λ m. m + 1) were.count;
      there = ap (slice_get (row ++ own ∷ [])) (sym were.count) ∙ get_last row own;
      each = λ o e less at. record {
        before = e;
        at = sym (get_left row (own ∷ []) o (omega (arith, less, were.count))) ∙ at;
        grown = same_grown e;
        unused = λ unused. unused;
        size = let not : is_child tree n o ≡ false = ap (λ p. is_number p o) none in rw not (omega arith);
      };
      unused = record { up_requests = tt; up_responses = tt; down = tt; requests = λ i kid at. cc; responses = λ i kid at. cc; kids = λ i kid at. cc };
      kids = refl;
      edge = λ high up parent at. absurd (let clash : None ≡ Some high = sym none ∙ parent in cc);
      root = λ none. record { requests = refl; responses = refl; down = refl };
    })

-- an object comes whose parent is there
pub child_comes : (tree : Tree) (slots n high : ℕ) (row next : List Ends) (low : Ends) → IsEarly tree → parent_of tree n ≡ Some high → AreEnds tree slots n row → IsJoinedAt slots high row next low → AreEnds tree slots (n + 1) (next ++ low ∷ [])
child_comes tree slots n high row next low early parent were joined =
    next_ends tree slots n row (next ++ low ∷ []) early were (record {
      own = low;
      count = length_push next low ∙ ap (λ m. m + 1) size;
      there = ap (slice_get (next ++ low ∷ [])) (sym size) ∙ get_last next low;
      each = λ o e less at. from o e (high == o) refl (sym (get_left next (low ∷ []) o (omega (arith, less, size))) ∙ at);
      unused = joined.joined.edge.unused;
      kids = joined.joined.edge.kids;
      edge = λ upper up is at. edge upper up is at;
      root = λ none. absurd (let clash : None ≡ Some high = sym none ∙ parent in cc);
    })
  where
    size : length next ≡ n
    size = ap length joined.after ∙ length-set row high joined.next ∙ were.count

    here : slice_get next high ≡ Some joined.next
    here = ap (λ (xs : List Ends). slice_get xs high) joined.after ∙ get_set_here row high joined.next (slice_get_within row high joined.up joined.there)

    from : (o : ℕ) (e : Ends) (b : Bool) → (high == o) ≡ b → slice_get next o ≡ Some e → IsFrom tree n o row e
    from o e true is at =
        let same : high ≡ o = same_number high o is in
        let one : Some joined.next ≡ Some e = sym here ∙ ap (slice_get next) same ∙ at in
        let it : joined.next ≡ e = cc in
        let child : is_child tree n o ≡ true = is_parent tree n high o parent ∙ is in
        let grown = joined_grown slots joined.up joined.next low joined.joined in
        record {
          before = joined.up;
          at = ap (slice_get row) (sym same) ∙ joined.there;
          grown = subst (IsGrown joined.up) it grown;
          unused = λ unused. subst AreUnused it (joined_unused slots joined.up joined.next low joined.joined unused);
          size = rw child (ap (λ (e : Ends). length e.kids) (sym it ∙ joined.joined.after) ∙ length_push joined.up.kids joined.joined.kid);
        }
    from o e false is at =
        let other : o ≢ high = other_number high o is in
        let not : is_child tree n o ≡ false = is_parent tree n high o parent ∙ is in
        record {
          before = e;
          at = sym (get_set_other row high o joined.next other) ∙ sym (ap (λ (xs : List Ends). slice_get xs o) joined.after) ∙ at;
          grown = same_grown e;
          unused = λ unused. unused;
          size = rw not (omega arith);
        }

    edge : (upper : ℕ) (up : Ends) → parent_of tree n ≡ Some upper → slice_get (next ++ low ∷ []) upper ≡ Some up → AreJoinedAt slots (place_among tree upper n) (channels_of up) (channels_of low)
    edge upper up is at =
        let both : Some high ≡ Some upper = sym parent ∙ is in
        let same : high ≡ upper = cc in
        let less = early.early n high parent in
        let one : Some joined.next ≡ Some up = sym here ∙ sym (get_left next (low ∷ []) high (omega (arith, less, size))) ∙ ap (slice_get (next ++ low ∷ [])) same ∙ at in
        let it : joined.next ≡ up = cc in
        subst (λ m. AreJoinedAt slots (place_among tree m n) (channels_of up) (channels_of low)) same
        (subst (λ (e : Ends). AreJoinedAt slots (place_among tree high n) (channels_of e) (channels_of low)) it
        (last_edge slots (place_among tree high n) joined.up joined.next low (were.kids high joined.up joined.there) joined.joined))

-- at the beginning there is none
pub no_ends : (tree : Tree) (slots : ℕ) → AreEnds tree slots 0 []
no_ends tree slots =
    record {
      count = refl;
      unused = λ o own at. cc;
      kids = λ o own at. cc;
      edges = λ o high low up parent here there. cc;
      root = λ o own none at. cc;
    }
