-- Where all messages that an event takes have one number, each event has the number of all that it takes.
use Rattle.std.proofs.Common.{◌≡◌, ◌≢◌, refl, ap, sym, ◌∙◌, subst, ℕ, zero, suc, ◌+◌, ◌<◌, Bool, true, false, ◌&&◌, cond, List, [], ◌∷◌, ◌++◌, map, length, arith, Option, Some, None}
use Rattle.std.specs.Prelude.{◌==◌, filter, slice_get, option_to_list}
use Rattle.std.specs.Option.{option_map_or}
use Rattle.hem_base.specs.Sets.{has_bit}
use Rattle.hem_base.specs.declared.ids.ObjectId.{ObjectId}
use Rattle.hem_base.specs.declared.ids.Firing.{Firing}
use Rattle.hem_syntax.specs.Protocol.{Protocol}
use Rattle.hem_tree.specs.Tree.{Tree, children_of, is_child, place_among}
use Rattle.hem_system.specs.declared.lane.Lane.{Lane}
use Rattle.hem_system.specs.declared.lane.Lane.TheVariants.{UpRequests, UpResponses, Down, Requests, Answers}
use Rattle.hem_system.specs.State.{State, takes, run}
use Rattle.hem_system.proofs.Kids.{child_at}
use Rattle.hem_system.specs.Events.{Event}
use Rattle.hem_trace.specs.History.{Channel, channels_taken, takes_from, events}
use Rattle.hem_trace.specs.Tags.{Tags, no_tags, tags_after, number_at}
use Rattle.hem_trace.specs.Blocks.{Each}
use Rattle.hem_trace.specs.Order.{entries_of}
use Rattle.hem_law.specs.Normal.{AreNumbered, TakesOneNumber, TakeOneNumber}
use Rattle.hem_law.specs.Printed.{IsFresh}
use Rattle.hem_rows.proofs.Choices.{both}
use Rattle.hem_law.proofs.EventFacts.{IsFedOn}
use Rattle.hem_law.proofs.TakenChannels.{NamesOwnChild, run-own, channels-taken}
use Rattle.hem_law.proofs.Transactions.{numbered, number-taken, tags-length, run-fed}

-- an event that takes from a channel has some among its channels
filtered-some : (test : ℕ → Bool) (ks : List ℕ) (i k : ℕ) → slice_get ks i ≡ Some k → test k ≡ true → filter test ks ≡ [] → ⊥
filtered-some test [] i k at passes none = cc
filtered-some test (x ∷ ks) i k at passes none = by_place i at (test x) refl none (λ j later rest. filtered-some test ks j k later passes rest)
  where
    by_place : (i : ℕ) → slice_get (x ∷ ks) i ≡ Some k → (b : Bool) → test x ≡ b → cond b (x ∷ filter test ks) (filter test ks) ≡ [] → ((j : ℕ) → slice_get ks j ≡ Some k → filter test ks ≡ [] → ⊥) → ⊥
    by_place i at true is none rest = cc
    by_place zero at false is none rest = let same : x ≡ k = cc in let clash : false ≡ true = sym is ∙ ap test same ∙ passes in cc
    by_place (suc i) at false is none rest = rest i at none

mapped-none : {A B : Type 0} (f : A → B) (xs : List A) → map f xs ≡ [] → xs ≡ []
mapped-none f [] none = refl
mapped-none f (x ∷ xs) none = cc

append-none : {A : Type 0} (xs ys : List A) → xs ++ ys ≡ [] → (xs ≡ []) × (ys ≡ [])
append-none [] ys none = (refl, none)
append-none (x ∷ xs) ys none = cc

me-none : (k : ℕ) (taken : Bool) (me : Option ObjectId) → taken ≡ true → option_map_or (λ child. child.0 == k) me false ≡ true → cond taken (option_to_list me) [] ≡ [] → ⊥
me-none k false me is named none = cc
me-none k true None is named none = cc
me-none k true (Some child) is named none = cc

one-none : {A : Type 0} (b : Bool) (x : A) → b ≡ true → cond b (x ∷ []) [] ≡ [] → ⊥
one-none true x is none = cc
one-none false x is none = cc

channels-some : (tree : Tree) (e : Event) (k : ℕ) (lane : Lane) → lane ≢ Requests → takes tree e.firing e.outs k lane ≡ true → channels_taken tree e ≡ [] → ⊥
channels-some tree e k UpRequests other is none =
    let parts = both (e.outs.taken_request && option_map_or (λ child. child.0 == k) e.firing.me false) (is_child tree k e.firing.object.0) is in
    let two = both e.outs.taken_request (option_map_or (λ child. child.0 == k) e.firing.me false) parts.0 in
    me-none k e.outs.taken_request e.firing.me two.0 two.1 (mapped-none _ (cond e.outs.taken_request (option_to_list e.firing.me) []) (append-none _ _ (append-none _ _ none).0).0)
channels-some tree e k Down other is none = one-none e.outs.taken_parent _ (both e.outs.taken_parent (k == e.firing.object.0) is).0 (append-none _ _ (append-none _ _ none).0).1
channels-some tree e k UpResponses other is none =
    let o = e.firing.object.0 in
    let parts = both (is_child tree k o) (has_bit e.outs.taken_kids.0 (place_among tree o k)) is in
    filtered-some (λ k. has_bit e.outs.taken_kids.0 (place_among tree o k)) (children_of tree o) (place_among tree o k) k (child_at tree o k parts.0) parts.1 (mapped-none _ (filter (λ k. has_bit e.outs.taken_kids.0 (place_among tree o k)) (children_of tree o)) (append-none _ _ none).1)
channels-some tree e k Requests other is none = other refl
channels-some tree e k Answers other is none = cc

-- the number of an event is that of each message that it takes
one-taken : (tree : Tree) (tags : Tags) (k : ℕ) (e : Event) → NamesOwnChild tree e → ((d : Channel) → d.lane ≢ Requests → takes_from tree d e ≡ true → 0 < length (tags d)) → TakesOneNumber tree tags e → (c : Channel) → c.lane ≢ Requests → takes_from tree c e ≡ true → slice_get (tags c) 0 ≡ Some (number_at tree tags k e)
one-taken tree tags k e own fed one c other takes_it = by_channels (channels_taken tree e) refl (channels-taken tree e own)
  where
    by_tags : (d : Channel) (ds : List Channel) (ns : List ℕ) → channels_taken tree e ≡ d ∷ ds → tags d ≡ ns → 0 < length ns → slice_get (tags c) 0 ≡ slice_get (tags d) 0 → slice_get (tags c) 0 ≡ Some (number_at tree tags k e)
    by_tags d ds [] taken waiting some same = absurd (omega arith)
    by_tags d ds (n ∷ ns) taken waiting some same = same ∙ ap (λ ms. slice_get ms 0) waiting ∙ ap Some (sym (number-taken tree tags k e d ds n ns taken waiting))

    by_channels : (ds : List Channel) → channels_taken tree e ≡ ds → Each (λ d. (d.lane ≢ Requests) × (takes_from tree d e ≡ true)) ds → slice_get (tags c) 0 ≡ Some (number_at tree tags k e)
    by_channels [] none all = absurd (channels-some tree e c.object c.lane other (both (e.firing.line.0 == c.line) (takes tree e.firing e.outs c.object c.lane) takes_it).1 none)
    by_channels (d ∷ ds) taken all = by_tags d ds (tags d) taken refl (fed d all.0.0 all.0.1) (one.same c d other all.0.0 takes_it all.0.1)

numbered-all : (p : Protocol) (tree : Tree) (tags : Tags) (k : ℕ) (es : List Event) → Each (NamesOwnChild tree) es → ((c : Channel) → c.lane ≢ Requests → IsFedOn tree c (length (tags c)) es) → TakeOneNumber tree tags k es → AreNumbered tree tags (numbered p tree tags k es)
numbered-all p tree tags k [] own fed one = tt
numbered-all p tree tags k (e ∷ es) own fed one =
    let n = number_at tree tags k e in (
      one-taken tree tags k e own.0 (λ d other. (fed d other).0) one.0,
      numbered-all p tree (tags_after tree tags e n) (k + 1) es own.1 (λ c other. subst (λ m. IsFedOn tree c m es) (sym (tags-length tree tags n e c)) (fed c other).1) one.1,
    )

-- the entries of a history, of which each event takes messages of one number, have the number of all that they take
pub are-numbered : (p : Protocol) (tree : Tree) (s : State) (h : List Firing) (new : State) → IsFresh tree s → run p tree s h ≡ Some new → TakeOneNumber tree no_tags 0 (events p tree s h) → AreNumbered tree no_tags (entries_of p tree s h)
are-numbered p tree s h new fresh ran one = numbered-all p tree no_tags 0 (events p tree s h) (run-own p tree s h new ran) (run-fed p tree s h new fresh ran) one
