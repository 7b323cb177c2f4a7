-- Journals of workers, by the places of their lines and objects.
use Rattle.std.proofs.Common.{◌≡◌, refl, ap, sym, ◌∙◌, ℕ, zero, suc, ◌+◌, List, [], ◌∷◌, ◌++◌, map, length, arith, Option, Some, None, append_assoc, length-append}
use Rattle.std.specs.Prelude.{slice_get, flat_map, option_and_then}
use Rattle.std.specs.Option.{option_map_or}
use Rattle.std.proofs.lemmas.Grind.{flat_map-append}
use Rattle.std.proofs.lemmas.List.Folds.{flat_map-map}
use Rattle.hem_base.specs.declared.ids.Stamped.{Stamped}
use Rattle.hem_tree.specs.Tree.{below}
use Rattle.hem_parts.specs.Parts.{Parts}
use Rattle.hem_parts.specs.Merged.{stamped_of, all_made}
use Rattle.hem_merge.specs.Journals.{all_of}
use Rattle.hem_turns.specs.OnLine.{OnLine}
use Rattle.hem_worker.specs.Workers.{Worker, journaled}
use Rattle.hem_crew.specs.Crew.{line_of, journal_on, journals_of}
use Rattle.hem_crew.specs.Rounds.{all_journaled}

-- the numbers below n + 1 are 0 and those after it
below-first : {A : Type 0} (g : ℕ → List A) (n : ℕ) → flat_map g (below (suc n)) ≡ g 0 ++ flat_map (λ i. g (suc i)) (below n)
below-first g zero = refl
below-first g (suc n) =
    flat_map-append g (below (suc n)) (suc n ∷ [])
    ∙ ap (λ xs. xs ++ (g (suc n) ++ [])) (below-first g n)
    ∙ append_assoc (g 0) (flat_map (λ i. g (suc i)) (below n)) (g (suc n) ++ [])
    ∙ ap (λ xs. g 0 ++ xs) (sym (flat_map-append (λ i. g (suc i)) (below n) (n ∷ [])))

-- what is made of each element, by place
pub by-place : {A B : Type 0} (f : A → List B) (xs : List A) → flat_map f xs ≡ flat_map (λ i. option_map_or f (slice_get xs i) []) (below (length xs))
by-place f [] = refl
by-place f (x ∷ xs) = ap (λ ys. f x ++ ys) (by-place f xs) ∙ sym (below-first (λ i. option_map_or f (slice_get (x ∷ xs) i) []) (length xs))

-- lists of lists, joined
flat-twice : {A B C : Type 0} (f : B → List C) (g : A → List B) (xs : List A) → flat_map f (flat_map g xs) ≡ flat_map (λ x. flat_map f (g x)) xs
flat-twice f g [] = refl
flat-twice f g (x ∷ xs) = flat_map-append f (g x) (flat_map g xs) ∙ ap (λ ys. flat_map f (g x) ++ ys) (flat-twice f g xs)

map-append : {A B : Type 0} (f : A → B) (xs ys : List A) → map f (xs ++ ys) ≡ map f xs ++ map f ys
map-append f [] ys = refl
map-append f (x ∷ xs) ys = ap (λ zs. f x ∷ zs) (map-append f xs ys)

map-flat : {A B C : Type 0} (f : B → C) (g : A → List B) (xs : List A) → map f (flat_map g xs) ≡ flat_map (λ x. map f (g x)) xs
map-flat f g [] = refl
map-flat f g (x ∷ xs) = map-append f (g x) (flat_map g xs) ∙ ap (λ ys. map f (g x) ++ ys) (map-flat f g xs)

-- the journals of all workers, line after line
journals-joined : (lines : ℕ) (crew : List Worker) → all_of (journals_of lines crew) ≡ flat_map (λ l. flat_map (journal_on l) crew) (below lines)
journals-joined lines crew = flat-twice (λ (journal : List Stamped). journal) (λ l. map (journal_on l) crew) (below lines) ∙ (λ i. flat_map (λ l. on_line l i) (below lines))
  where
    on_line : (l : ℕ) → flat_map (λ (journal : List Stamped). journal) (map (journal_on l) crew) ≡ flat_map (journal_on l) crew
    on_line l = flat_map-map (λ (journal : List Stamped). journal) (journal_on l) crew

-- where the parts of a crew have its journals, what they made is what the journals say
pub journals-made : (lines objects : ℕ) (crew : List Worker) (parts : Parts) → length crew ≡ objects → ((l o : ℕ) → map stamped_of (parts l o).made ≡ option_map_or (λ (line : OnLine). line.journal) (line_of crew l o) []) → all_of (journals_of lines crew) ≡ map stamped_of (all_made lines objects parts)
journals-made lines objects crew parts count same =
    journals-joined lines crew
    ∙ (λ i. flat_map (λ l. on_line l i) (below lines))
    ∙ sym (map-flat stamped_of (λ l. flat_map (λ o. (parts l o).made) (below objects)) (below lines))
  where
    at_place : (l : ℕ) (found : Option Worker) → option_map_or (journal_on l) found [] ≡ option_map_or (λ (line : OnLine). line.journal) (option_and_then (λ (w : Worker). slice_get w.lines l) found) []
    at_place l None = refl
    at_place l (Some w) = refl

    on_line : (l : ℕ) → flat_map (journal_on l) crew ≡ map stamped_of (flat_map (λ o. (parts l o).made) (below objects))
    on_line l =
        by-place (journal_on l) crew
        ∙ ap (λ n. flat_map (λ o. option_map_or (journal_on l) (slice_get crew o) []) (below n)) count
        ∙ (λ i. flat_map (λ o. (at_place l (slice_get crew o) ∙ sym (same l o)) i) (below objects))
        ∙ sym (map-flat stamped_of (λ o. (parts l o).made) (below objects))

-- how long the joined lists are
flat-none : {A B : Type 0} (xs : List A) → flat_map {A = B} (λ (x : A). []) xs ≡ []
flat-none [] = refl
flat-none (x ∷ xs) = flat-none xs

lengths-add : {A B : Type 0} (f g : A → List B) (xs : List A) → length (flat_map (λ x. f x ++ g x) xs) ≡ length (flat_map f xs) + length (flat_map g xs)
lengths-add f g [] = refl
lengths-add f g (x ∷ xs) =
    let rest = lengths-add f g xs in
    let whole = length-append (f x ++ g x) (flat_map (λ x. f x ++ g x) xs) in
    let here = length-append (f x) (g x) in
    let left = length-append (f x) (flat_map f xs) in
    let right = length-append (g x) (flat_map g xs) in
    omega (arith, rest, whole, here, left, right)

journaled-flat : (lines : List OnLine) → length (flat_map (λ (line : OnLine). line.journal) lines) ≡ journaled lines
journaled-flat [] = refl
journaled-flat (line ∷ lines) = let rest = journaled-flat lines in let both = length-append line.journal (flat_map (λ (line : OnLine). line.journal) lines) in omega (arith, rest, both)

-- as many firings as the workers' journals have
pub journals-count : (lines : ℕ) (crew : List Worker) → ((o : ℕ) (w : Worker) → slice_get crew o ≡ Some w → length w.lines ≡ lines) → length (all_of (journals_of lines crew)) ≡ all_journaled crew
journals-count lines crew sized = ap length (journals-joined lines crew) ∙ counted crew sized
  where
    one : (w : Worker) → length w.lines ≡ lines → length (flat_map (λ l. journal_on l w) (below lines)) ≡ journaled w.lines
    one w same =
        ap (λ n. length (flat_map (λ l. journal_on l w) (below n))) (sym same)
        ∙ ap length (sym (by-place (λ (line : OnLine). line.journal) w.lines))
        ∙ journaled-flat w.lines

    counted : (crew : List Worker) → ((o : ℕ) (w : Worker) → slice_get crew o ≡ Some w → length w.lines ≡ lines) → length (flat_map (λ l. flat_map (journal_on l) crew) (below lines)) ≡ all_journaled crew
    counted [] sized = ap length (flat-none {B = Stamped} (below lines))
    counted (w ∷ crew) sized =
        let rest = counted crew (λ o w at. sized (suc o) w at) in
        let first = one w (sized 0 w refl) in
        let both = lengths-add (λ l. journal_on l w) (λ l. flat_map (journal_on l) crew) (below lines) in
        omega (arith, rest, first, both)
