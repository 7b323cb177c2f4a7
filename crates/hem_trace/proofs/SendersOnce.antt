-- The state at the start has no message in a channel, and there is one list of numbers by senders.
use Rattle.std.proofs.Common.{◌≡◌, ◌≢◌, refl, ap, sym, ◌∙◌, subst, ℕ, zero, suc, ◌<◌, ◌≤◌, List, [], ◌∷◌, length, arith, Option, Some, None}
use Rattle.std.specs.Prelude.{slice_get}
use Rattle.std.specs.Option.{option_map_or}
use Rattle.std.proofs.lemmas.Option.{slice_get_past}
use Rattle.hem_syntax.specs.Protocol.{Protocol}
use Rattle.hem_tree.specs.Tree.{Tree, Node}
use Rattle.hem_work.specs.Work.{Work, requests_of}
use Rattle.hem_system.specs.declared.lane.Lane.{Lane}
use Rattle.hem_system.specs.declared.lane.Lane.TheVariants.{UpRequests, UpResponses, Down, Requests, Answers}
use Rattle.hem_system.specs.State.{Cell, list_of, cell_at, first_cell, start}
use Rattle.hem_system.specs.Events.{Event}
use Rattle.hem_trace.specs.History.{Channel, channels_taken}
use Rattle.hem_trace.specs.Laws.{ChannelsAreEmpty, AreNumbersBySenders}
use Rattle.hem_invariants.proofs.Starts.{first-at}

-- an object at the start has requests alone
first-channels : (p : Protocol) (tree : Tree) (work : Work) (line o : ℕ) (node : Node) (lane : Lane) → lane ≢ Requests → list_of (first_cell p tree (requests_of work line) o node) lane ≡ []
first-channels p tree work line o node UpRequests other = refl
first-channels p tree work line o node UpResponses other = refl
first-channels p tree work line o node Down other = refl
first-channels p tree work line o node Answers other = refl
first-channels p tree work line o node Requests other = absurd (other refl)

-- so no channel has a message
pub start-channels : (p : Protocol) (tree : Tree) (work : Work) → ChannelsAreEmpty (start p tree work)
start-channels p tree work l k lane other = by_cell (cell_at (start p tree work) l k) refl
  where
    by_cell : (found : Option Cell) → cell_at (start p tree work) l k ≡ found → option_map_or (λ cell. list_of cell lane) found [] ≡ []
    by_cell None at = refl
    by_cell (Some cell) at =
        let it = first-at p tree work l k cell at in
        subst (λ (c : Cell). list_of c lane ≡ []) it.is (first-channels p tree work it.line k it.node lane other)

-- lists with the same element at each place
same-lists : (xs ys : List ℕ) → ((i : ℕ) → slice_get xs i ≡ slice_get ys i) → xs ≡ ys
same-lists [] [] same = refl
same-lists [] (y ∷ ys) same = let never : None ≡ Some y = same 0 in cc
same-lists (x ∷ xs) [] same = let never : Some x ≡ None = same 0 in cc
same-lists (x ∷ xs) (y ∷ ys) same =
    let head : x ≡ y = (let both_are : Some x ≡ Some y = same 0 in cc) in
    let tail = same-lists xs ys (λ i. same (suc i)) in
    cc (head, tail)

-- a place without an element is past the end
past-end : (es : List Event) (i : ℕ) → slice_get es i ≡ None → length es ≤ i
past-end [] i none = omega arith
past-end (e ∷ es) zero none = cc
past-end (e ∷ es) (suc i) none = omega (arith, past-end es i none)

module _ (tree : Tree) (es : List Event) (one other : List ℕ) (is : AreNumbersBySenders tree es one) (also : AreNumbersBySenders tree es other) where
  -- the number of an event, where those before have one number
  same-at : (i : ℕ) (e : Event) → slice_get es i ≡ Some e → ((j : ℕ) → j < i → slice_get one j ≡ slice_get other j) → slice_get one i ≡ slice_get other i
  same-at i e at before = by_first (channels_taken tree e) refl
    where
      by_first : (cs : List Channel) → channels_taken tree e ≡ cs → slice_get one i ≡ slice_get other i
      by_first [] none = is.own i e at none ∙ sym (also.own i e at none)
      by_first (c ∷ cs) some =
          let a = is.sent i e c at (ap (λ (xs : List Channel). slice_get xs 0) some) in
          let b = also.sent i e c at (ap (λ (xs : List Channel). slice_get xs 0) some) in
          let same : a.0 ≡ b.0 = (let both_are : Some a.0 ≡ Some b.0 = sym a.1 ∙ b.1 in cc) in
          a.3 ∙ before a.0 a.2 ∙ ap (slice_get other) same ∙ sym b.3

  -- past the end there is none
  same-here : (i : ℕ) → ((j : ℕ) → j < i → slice_get one j ≡ slice_get other j) → slice_get one i ≡ slice_get other i
  same-here i before = by_event (slice_get es i) refl
    where
      by_event : (found : Option Event) → slice_get es i ≡ found → slice_get one i ≡ slice_get other i
      by_event (Some e) at = same-at i e at before
      by_event None at =
          let past = past-end es i at in
          slice_get_past one i (omega (arith, past, is.one_each)) ∙ sym (slice_get_past other i (omega (arith, past, also.one_each)))

  -- by those before, up to each place
  same-below : (n j : ℕ) → j < n → slice_get one j ≡ slice_get other j
  same-below zero j less = absurd (omega arith)
  same-below (suc n) j less = same-here j (λ m before. same-below n m (omega arith))

  -- so there is one list of numbers by senders
  pub numbers-once : one ≡ other
  numbers-once = same-lists one other (λ i. same-below (suc i) i (omega arith))
