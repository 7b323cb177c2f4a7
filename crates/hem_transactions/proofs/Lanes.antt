-- What a firing sends to a child, and that the numbers on other lines stay.
use Rattle.std.proofs.Common.{◌≡◌, ◌≢◌, sym, ap, ◌∙◌, ℕ, Bool, true, false, ◌&&◌, cond, List, [], ◌∷◌, ◌++◌, append-nil, drop, None, Some, ⊎_elim}
use Rattle.std.specs.Prelude.{◌==◌, slice_get}
use Rattle.std.proofs.lemmas.Bool.{eq-eqb, eqb-true, ne_eqb, cases_eq, and_parts, false_from_ne_true}
use Rattle.std.proofs.lemmas.Option.{same_Some, none-some}
use Rattle.hem_base.specs.declared.ids.Firing.{Firing}
use Rattle.hem_base.specs.declared.ids.ObjectId.{ObjectId}
use Rattle.hem_fire.specs.declared.outs.To.TheVariants.{Kid}
use Rattle.hem_tree.specs.Tree.{Tree, is_child, children_of, place_among}
use Rattle.hem_system.specs.declared.lane.Lane.TheVariants.{UpRequests, UpResponses, Down}
use Rattle.hem_system.specs.State.{takes, reaches}
use Rattle.hem_system.specs.Events.{Event}
use Rattle.hem_system.proofs.Kids.{child_at, at_child}
use Rattle.hem_trace.specs.Tags.{Tags, tags_after}
use Rattle.hem_transactions.specs.declared.line.LineNumbers.{LineNumbers}
use Rattle.hem_transactions.specs.Carried.{numbers_at, CarriesOn}
use Rattle.hem_transactions.specs.Along.{MessageSent}

-- a message down to the child at a place
kid_reached : (tree : Tree) (o c k : ℕ) (child : ObjectId) → slice_get (children_of tree o) c ≡ Some child.0 → (true && k == child.0) ≡ (is_child tree k o && place_among tree o k == c)
kid_reached tree o c k child at =
    ⊎_elim
    (λ (same : k ≡ child.0).
    let it = at_child tree o c child.0 at in
    eq-eqb k child.0 same
    ∙ sym (ap (λ b. b && place_among tree o k == c) (ap (λ k. is_child tree k o) same ∙ it.0) ∙ eq-eqb (place_among tree o k) c (ap (place_among tree o) same ∙ it.1)))
    (λ (differ : k ≢ child.0).
    ne_eqb k child.0 differ
    ∙ sym (false_from_ne_true (is_child tree k o && place_among tree o k == c)
    (λ both. let parts = and_parts (is_child tree k o) (place_among tree o k == c) both in
    differ (same_Some k child.0 (sym (child_at tree o k parts.0) ∙ ap (slice_get (children_of tree o)) (eqb-true (place_among tree o k) c parts.1) ∙ at)))))
    (cases_eq k child.0)

-- or to none, where there is no such child
nobody_reached : (tree : Tree) (o c k : ℕ) → slice_get (children_of tree o) c ≡ None → false ≡ (is_child tree k o && place_among tree o k == c)
-- or to none, where there is no such child
nobody_reached tree o c k at =
    sym (false_from_ne_true (is_child tree k o && place_among tree o k == c)
    (λ both. let parts = and_parts (is_child tree k o) (place_among tree o k == c) both in
    none-some k (sym at ∙ sym (ap (slice_get (children_of tree o)) (eqb-true (place_among tree o k) c parts.1)) ∙ child_at tree o k parts.0)))

-- a list to which nothing is sent
unsent : (xs : List ℕ) (n : ℕ) → xs ≡ xs ++ cond false (n ∷ []) []
unsent xs n = sym (append-nil xs)

-- so the lists of the line after a message to one child, or to none
pub kid_sent : (tree : Tree) (f : Firing) (c n : ℕ) (child : ObjectId) (old : LineNumbers) (down : List (List ℕ)) → slice_get (children_of tree f.object.0) c ≡ Some child.0 → ((k : ℕ) → numbers_at down k ≡ numbers_at old.down k ++ cond (true && k == child.0) (n ∷ []) []) → MessageSent tree f (Kid c) n old (record { up_requests = old.up_requests; up_responses = old.up_responses; down = down })
kid_sent tree f c n child old down at sent =
    record {
      up_requests = λ k. unsent (numbers_at old.up_requests k) n;
      up_responses = λ k. unsent (numbers_at old.up_responses k) n;
      down = λ k. sent k ∙ ap (λ b. numbers_at old.down k ++ cond b (n ∷ []) []) (kid_reached tree f.object.0 c k child at);
    }

pub nobody_sent : (tree : Tree) (f : Firing) (c n : ℕ) (old : LineNumbers) → slice_get (children_of tree f.object.0) c ≡ None → MessageSent tree f (Kid c) n old old
nobody_sent tree f c n old at =
    record {
      up_requests = λ k. unsent (numbers_at old.up_requests k) n;
      up_responses = λ k. unsent (numbers_at old.up_responses k) n;
      down = λ k. unsent (numbers_at old.down k) n ∙ ap (λ b. numbers_at old.down k ++ cond b (n ∷ []) []) (nobody_reached tree f.object.0 c k at);
    }

-- a list of another line stays
lane_stays : (b taken sent : Bool) (n : ℕ) (xs tags : List ℕ) → b ≡ false → xs ≡ tags → xs ≡ drop (cond (b && taken) 1 0) tags ++ cond (b && sent) (n ∷ []) []
lane_stays b taken sent n xs tags other are = are ∙ sym (append-nil tags) ∙ ap (λ b. drop (cond (b && taken) 1 0) tags ++ cond (b && sent) (n ∷ []) []) (sym other)

pub stays_elsewhere : (tree : Tree) (tags : Tags) (e : Event) (n l : ℕ) (line : LineNumbers) → l ≢ e.firing.line.0 → CarriesOn tags l line → CarriesOn (tags_after tree tags e n) l line
stays_elsewhere tree tags e n l line differ are =
    let f = e.firing in
    let other = ne_eqb f.line.0 l (λ same. differ (sym same)) in
    record {
      up_requests = λ k. lane_stays (f.line.0 == l) (takes tree f e.outs k UpRequests) (reaches tree f e.outs.to k UpRequests) n _ _ other (are.up_requests k);
      up_responses = λ k. lane_stays (f.line.0 == l) (takes tree f e.outs k UpResponses) (reaches tree f e.outs.to k UpResponses) n _ _ other (are.up_responses k);
      down = λ k. lane_stays (f.line.0 == l) (takes tree f e.outs k Down) (reaches tree f e.outs.to k Down) n _ _ other (are.down k);
    }
