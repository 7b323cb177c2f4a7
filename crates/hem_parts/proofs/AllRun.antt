-- Tied parts run merged, on all lines.
use Rattle.std.proofs.Common.{◌≡◌, refl, ap, sym, ◌∙◌, subst, ℕ, zero, suc, ◌<◌, ◌≤◌, List, [], ◌∷◌, length, arith, Option, Some, None}
use Rattle.std.specs.Prelude.{◌==◌, filter, slice_get, option_map}
use Rattle.std.proofs.lemmas.Bool.{eq-eqb}
use Rattle.std.proofs.lemmas.Option.{slice_get_past}
use Rattle.hem_base.specs.declared.ids.Firing.{Firing}
use Rattle.hem_syntax.specs.Protocol.{Protocol}
use Rattle.hem_object.specs.Local.{Local}
use Rattle.hem_tree.specs.Tree.{Tree}
use Rattle.hem_system.specs.State.{State, Line, local_at, run}
use Rattle.hem_system.specs.Events.{Event}
use Rattle.hem_trace.specs.History.{events, line_events}
use Rattle.hem_trace.specs.Blocks.{Each}
use Rattle.hem_law.specs.Lists.{IsPairwise, IsOrdered}
use Rattle.hem_law.specs.Chains.{firings, IsChain}
use Rattle.hem_law.specs.Lines.{line_firings, LineRuns}
use Rattle.hem_law.specs.Parts.{at_object, IsMerge}
use Rattle.hem_law.specs.Printed.{IsFresh}
use Rattle.hem_law.proofs.ListFacts.{each-map, pairwise-filter}
use Rattle.hem_law.proofs.Filters.{filter-both, filter-map}
use Rattle.hem_law.proofs.AllLines.{lines-run, events-line, all-firings, same-events}
use Rattle.hem_parts.specs.Parts.{Made, Parts, events_of}
use Rattle.hem_parts.specs.Tied.{IsOwn, AreTied}
use Rattle.hem_parts.specs.Merged.{made_on, merged, IsMergeOf}
use Rattle.hem_parts.proofs.LineRuns.{made_by, line-parts-run}
use Rattle.hem_parts.proofs.MergedParts.{stamps-rise, merged-merges}

-- where no stamp falls, none comes too late
rising-ordered : (xs : List Made) → IsPairwise (λ x y. x.stamp ≤ y.stamp) xs → IsOrdered (λ x y. x.stamp < y.stamp) xs
rising-ordered [] rising = tt
rising-ordered (x ∷ xs) rising = ((λ less. omega arith), each-map (λ y. x.stamp ≤ y.stamp) (λ y. y.stamp < x.stamp → ⊥) xs (λ y le less. omega arith) rising.0, rising-ordered xs rising.1)

-- a line of a merge is a merge of the line's parts
pub line-merges : (parts : Parts) (xs : List Made) (l : ℕ) → IsMergeOf parts xs → IsMerge (λ x. x.event) (λ x y. x.stamp < y.stamp) (made_by (parts l)) (made_on l xs)
line-merges parts xs l merge =
    record {
      own = λ o. sym (filter-both (λ x. x.event.firing.object.0 == o) (λ x. x.event.firing.line.0 == l) xs) ∙ merge.own l o;
      ordered = rising-ordered (made_on l xs) (pairwise-filter (λ x y. x.stamp ≤ y.stamp) (λ x. x.event.firing.line.0 == l) xs merge.rising);
    }

pub events-on : (l : ℕ) (xs : List Made) → filter (λ e. e.firing.line.0 == l) (events_of xs) ≡ events_of (made_on l xs)
events-on l xs = filter-map (λ e. e.firing.line.0 == l) (λ x. x.event) xs

pub firings-on : (l : ℕ) (xs : List Made) → line_firings l (firings (events_of xs)) ≡ firings (events_of (made_on l xs))
firings-on l xs = filter-map (λ f. f.line.0 == l) (λ e. e.firing) (events_of xs) ∙ ap firings (events-on l xs)

-- where no object made anything, nothing was made
nothing-made : (ys : List Made) → ((o : ℕ) → at_object (λ x. x.event) o ys ≡ []) → ys ≡ []
nothing-made [] none = refl
nothing-made (y ∷ ys) none =
    let o = y.event.firing.object.0 in
    let first : at_object (λ x. x.event) o (y ∷ ys) ≡ y ∷ at_object (λ x. x.event) o ys = rw (eq-eqb o o refl) refl in
    let clash : y ∷ at_object (λ x. x.event) o ys ≡ [] = sym first ∙ none o in
    cc

-- lists of the same length have elements at the same places
pub there-too : {A B : Type 0} (xs : List A) (ys : List B) (i : ℕ) (x : A) → length ys ≡ length xs → slice_get xs i ≡ Some x → (y : B) × (slice_get ys i ≡ Some y)
there-too [] ys i x size at = cc
there-too (z ∷ xs) [] i x size at = cc
there-too (z ∷ xs) (y ∷ ys) zero x size at = (y, refl)
there-too (z ∷ xs) (y ∷ ys) (suc i) x size at = there-too xs ys i x (let less : length ys ≡ length xs = omega (arith, size) in less) at

pub none-too : {A B : Type 0} (xs : List A) (ys : List B) (i : ℕ) → length ys ≡ length xs → slice_get xs i ≡ None → slice_get ys i ≡ None
none-too xs [] i size at = refl
none-too [] (y ∷ ys) i size at = cc
none-too (z ∷ xs) (y ∷ ys) zero size at = cc
none-too (z ∷ xs) (y ∷ ys) (suc i) size at = none-too xs ys i (let less : length ys ≡ length xs = omega (arith, size) in less) at

-- each line runs, by its own events
pub line-by-line : (p : Protocol) (tree : Tree) (old : State) (parts : Parts) (new : State) (xs : List Made) (l : ℕ) (line : Option Line) → IsFresh tree old → AreTied p tree old parts new → IsMergeOf parts xs → slice_get old l ≡ line → LineRuns p tree line (firings (events_of (made_on l xs))) (slice_get new l)
line-by-line p tree old parts new xs l None fresh tied merge at =
    let none = nothing-made (made_on l xs) (λ o. (line-merges parts xs l merge).own o ∙ tied.none l o at) in
    (ap (λ ys. firings (events_of ys)) none, none-too old new l tied.lines at)
line-by-line p tree old parts new xs l (Some line) fresh tied merge at =
    let end = there-too old new l line tied.lines at in
    let ran = line-parts-run p tree l line (parts l) (made_on l xs) end.0 (fresh.sized l line at) (λ k lane other. fresh.empty l k lane line other at) (tied.each l line end.0 at end.1) (line-merges parts xs l merge) in
    (end.0, ran.0, end.1)

-- a merge of tied parts runs from the state before to the state after
pub merges-run : (p : Protocol) (tree : Tree) (old : State) (parts : Parts) (new : State) (xs : List Made) → IsFresh tree old → AreTied p tree old parts new → IsMergeOf parts xs → run p tree old (firings (events_of xs)) ≡ Some new
merges-run p tree old parts new xs fresh tied merge =
    lines-run p tree old (firings (events_of xs)) new
    (λ l. subst (λ fs. LineRuns p tree (slice_get old l) fs (slice_get new l)) (sym (firings-on l xs)) (line-by-line p tree old parts new xs l (slice_get old l) fresh tied merge refl))

pub no-events : (es : List Event) → firings es ≡ [] → es ≡ []
no-events [] none = refl
no-events (e ∷ es) none = cc

-- and its events are those of that run
pub merges-events : (p : Protocol) (tree : Tree) (old : State) (parts : Parts) (new : State) (xs : List Made) → IsFresh tree old → AreTied p tree old parts new → IsMergeOf parts xs → events p tree old (firings (events_of xs)) ≡ events_of xs
merges-events p tree old parts new xs fresh tied merge = same-events (events p tree old h) (events_of xs) (all-firings p tree old h new ran) (λ l. on_line l (slice_get old l) refl)
  where
    h : List Firing
    h = firings (events_of xs)

    ran : run p tree old h ≡ Some new
    ran = merges-run p tree old parts new xs fresh tied merge

    on_line : (l : ℕ) (line : Option Line) → slice_get old l ≡ line → filter (λ e. e.firing.line.0 == l) (events p tree old h) ≡ filter (λ e. e.firing.line.0 == l) (events_of xs)
    on_line l None at =
        let none = nothing-made (made_on l xs) (λ o. (line-merges parts xs l merge).own o ∙ tied.none l o at) in
        let fired : firings (filter (λ e. e.firing.line.0 == l) (events p tree old h)) ≡ [] = sym (filter-map (λ f. f.line.0 == l) (λ e. e.firing) (events p tree old h)) ∙ ap (line_firings l) (all-firings p tree old h new ran) ∙ firings-on l xs ∙ ap (λ ys. firings (events_of ys)) none in
        no-events _ fired ∙ sym (events-on l xs ∙ ap events_of none)
    on_line l (Some line) at =
        let end = there-too old new l line tied.lines at in
        let ran_line = line-parts-run p tree l line (parts l) (made_on l xs) end.0 (fresh.sized l line at) (λ k lane other. fresh.empty l k lane line other at) (tied.each l line end.0 at end.1) (line-merges parts xs l merge) in
        events-line p tree old h new l line ran at
        ∙ ap (line_events p tree line) (firings-on l xs)
        ∙ ran_line.1
        ∙ sym (events-on l xs)

-- an object that isn't there makes nothing
no-chain : (p : Protocol) (tree : Tree) (start : Option Local) (made : List Made) (end : Option Local) → start ≡ None → IsChain p tree start (events_of made) end → made ≡ []
no-chain p tree start [] end none chain = refl
no-chain p tree start (x ∷ made) end none chain = let clash : None ≡ Some chain.1.now = sym none ∙ chain.1.here in cc

-- what a part is, on any line
pub part-own : (p : Protocol) (tree : Tree) (old : State) (parts : Parts) (new : State) (l o : ℕ) (line : Option Line) → AreTied p tree old parts new → slice_get old l ≡ line → Each (IsOwn l o) (parts l o).made
part-own p tree old parts new l o None tied at = subst (Each (IsOwn l o)) (sym (tied.none l o at)) tt
part-own p tree old parts new l o (Some line) tied at = let end = there-too old new l line tied.lines at in ((tied.each l line end.0 at end.1).each o).own

pub part-rises : (p : Protocol) (tree : Tree) (old : State) (parts : Parts) (new : State) (l o : ℕ) (line : Option Line) → AreTied p tree old parts new → slice_get old l ≡ line → IsPairwise (λ x y. x.stamp < y.stamp) (parts l o).made
part-rises p tree old parts new l o None tied at = subst (IsPairwise (λ x y. x.stamp < y.stamp)) (sym (tied.none l o at)) tt
part-rises p tree old parts new l o (Some line) tied at =
    let end = there-too old new l line tied.lines at in
    (stamps-rise tree (parts l o).made (parts l o).received 0 ((tied.each l line end.0 at end.1).each o).stamps).1

past-objects : (p : Protocol) (tree : Tree) (old : State) (parts : Parts) (new : State) (l o : ℕ) (line : Option Line) → IsFresh tree old → AreTied p tree old parts new → length tree ≤ o → slice_get old l ≡ line → (parts l o).made ≡ []
past-objects p tree old parts new l o None fresh tied past at = tied.none l o at
past-objects p tree old parts new l o (Some line) fresh tied past at =
    let end = there-too old new l line tied.lines at in
    let size = fresh.sized l line at in
    let gone : slice_get line o ≡ None = slice_get_past line o (let le : length line ≤ o = omega (arith, size) in le) in
    no-chain p tree (local_at line o) (parts l o).made (local_at end.0 o) (ap (option_map (λ cell. cell.local)) gone) ((tied.each l line end.0 at end.1).each o).chain

-- all that was made, in order, is a merge
pub tied-merges : (p : Protocol) (tree : Tree) (old : State) (parts : Parts) (new : State) → IsFresh tree old → AreTied p tree old parts new → IsMergeOf parts (merged (length old) (length tree) parts)
tied-merges p tree old parts new fresh tied =
    merged-merges (length old) (length tree) parts
    (λ l o. part-own p tree old parts new l o (slice_get old l) tied refl)
    (λ l o past. tied.none l o (slice_get_past old l past))
    (λ l o past. past-objects p tree old parts new l o (slice_get old l) fresh tied past refl)
    (λ l o. part-rises p tree old parts new l o (slice_get old l) tied refl)

-- so it runs
pub merged-run : (p : Protocol) (tree : Tree) (old : State) (parts : Parts) (new : State) → IsFresh tree old → AreTied p tree old parts new → run p tree old (firings (events_of (merged (length old) (length tree) parts))) ≡ Some new
merged-run p tree old parts new fresh tied = merges-run p tree old parts new (merged (length old) (length tree) parts) fresh tied (tied-merges p tree old parts new fresh tied)

pub merged-events : (p : Protocol) (tree : Tree) (old : State) (parts : Parts) (new : State) → IsFresh tree old → AreTied p tree old parts new → events p tree old (firings (events_of (merged (length old) (length tree) parts))) ≡ events_of (merged (length old) (length tree) parts)
merged-events p tree old parts new fresh tied = merges-events p tree old parts new (merged (length old) (length tree) parts) fresh tied (tied-merges p tree old parts new fresh tied)
