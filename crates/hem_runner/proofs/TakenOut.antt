-- The journals of a crew, taken out one after another.
use Rattle.std.proofs.Common.{◌≡◌, refl, ap, sym, ◌∙◌, ℕ, zero, suc, ◌+◌, ◌<◌, ◌≤◌, arith, add-one, List, [], ◌∷◌, ◌++◌, length, map, take, Option, Some, append_assoc}
use Rattle.std.specs.Prelude.{slice_get}
use Rattle.std.specs.Option.{option_map_or}
use Rattle.std.proofs.lemmas.Grind.{flat_map-append}
use Rattle.std.proofs.lemmas.List.{append-nil, length-set}
use Rattle.hem_base.specs.declared.ids.Stamped.{Stamped}
use Rattle.hem_tree.specs.Tree.{below}
use Rattle.hem_system.proofs.Sets.{get_set_other}
use Rattle.hem_parts.proofs.AllRun.{there-too}
use Rattle.hem_turns.specs.OnLine.{OnLine}
use Rattle.hem_worker.specs.Workers.{Worker, IsChangedAt, AreChanged, IsJournalTaken}
use Rattle.hem_worker.proofs.SoFar.{IsSoFar, one-more, all-done}
use Rattle.hem_crew.specs.Crew.{journal_on, journals_of}
use Rattle.hem_crew.proofs.Kept.{maps-same}
use Rattle.hem_runner.specs.Runs.{IsLineTaken}

-- one journal of a worker
pub journal-is : (line : ℕ) (old new : Worker) (journal : List Stamped) → IsChangedAt (IsJournalTaken journal) line old.lines new.lines → journal ≡ journal_on line old
journal-is line old new journal change = sym (ap (λ (found : Option OnLine). option_map_or (λ (line : OnLine). line.journal) found []) change.there ∙ change.changed.taken)

pub line-taken : (line : ℕ) (old new : Worker) (journal : List Stamped) → IsChangedAt (IsJournalTaken journal) line old.lines new.lines → IsLineTaken line old new
line-taken line old new journal change =
    record {
      count = ap length change.after ∙ length-set old.lines line change.next;
      others = λ l other. ap (λ (found : Option OnLine). option_map_or (λ (line : OnLine). line.journal) found []) (ap (λ (lines : List OnLine). slice_get lines l) change.after ∙ get_set_other old.lines line l change.next other);
    }

-- what is made of the first elements, with one more
map-take : {A B : Type 0} (f : A → B) (xs : List A) (n : ℕ) (x : A) → slice_get xs n ≡ Some x → map f (take (suc n) xs) ≡ map f (take n xs) ++ f x ∷ []
map-take f [] n x at = cc
map-take f (y ∷ xs) zero x at = let same : y ≡ x = cc in ap (λ z. f z ∷ []) same
map-take f (y ∷ xs) (suc n) x at = ap (λ zs. f y ∷ zs) (map-take f xs n x at)

map-all : {A B : Type 0} (f : A → B) (xs : List A) (n : ℕ) → length xs ≤ n → map f (take n xs) ≡ map f xs
map-all f [] zero most = refl
map-all f [] (suc n) most = refl
map-all f (x ∷ xs) zero most = absurd (omega (arith, most))
map-all f (x ∷ xs) (suc n) most = ap (λ ys. f x ∷ ys) (map-all f xs n (omega (arith, most)))

-- the journals of a line, object after object
pub record AreTakenSoFar (line at : ℕ) (begun journals : List (List Stamped)) (old now : List Worker) : Type 0 where
  pub so : IsSoFar (λ o. IsLineTaken line) at old now
  pub are : journals ≡ begun ++ map (journal_on line) (take at old)

pub taken-more : (line at : ℕ) (begun journals longer : List (List Stamped)) (journal : List Stamped) (old now next : List Worker) → AreTakenSoFar line at begun journals old now → ((w : Worker) → slice_get now at ≡ Some w → journal ≡ journal_on line w) → IsChangedAt (IsLineTaken line) at now next → longer ≡ journals ++ journal ∷ [] → AreTakenSoFar line (at + 1) begun longer old next
taken-more line at begun journals longer journal old now next so is change after =
    let there : slice_get old at ≡ Some change.item = sym (so.so.left at (omega arith)) ∙ change.there in
    record {
      so = one-more (λ o. IsLineTaken line) at old now next so.so change;
      are =
          after
          ∙ ap (λ (js : List (List Stamped)). js ++ journal ∷ []) so.are
          ∙ append_assoc begun (map (journal_on line) (take at old)) (journal ∷ [])
          ∙ ap (λ (j : List Stamped). begun ++ (map (journal_on line) (take at old) ++ j ∷ [])) (is change.item change.there)
          ∙ ap (λ (js : List (List Stamped)). begun ++ js) (sym (map-take (journal_on line) old at change.item there))
          ∙ ap (λ n. begun ++ map (journal_on line) (take n old)) (sym (add-one at));
    }

pub taken-done : (line at : ℕ) (begun journals : List (List Stamped)) (old now : List Worker) → length old ≤ at → AreTakenSoFar line at begun journals old now → journals ≡ begun ++ map (journal_on line) old
taken-done line at begun journals old now most so = so.are ∙ ap (λ (js : List (List Stamped)). begun ++ js) (map-all (journal_on line) old at most)

pub line-done : (line at : ℕ) (begun journals : List (List Stamped)) (old now : List Worker) → length old ≤ at → AreTakenSoFar line at begun journals old now → AreChanged (λ o. IsLineTaken line) old now
line-done line at begun journals old now most so = all-done (λ o. IsLineTaken line) at old now most so.so

-- a worker of which the journals of the lines before this one were taken
pub record IsLeft (line : ℕ) (old now : Worker) : Type 0 where
  pub count : length now.lines ≡ length old.lines
  pub journals : (l : ℕ) → line ≤ l → journal_on l now ≡ journal_on l old

-- the journals of all workers, line after line
pub record AreLinesTaken (line : ℕ) (journals : List (List Stamped)) (old now : List Worker) : Type 0 where
  pub left : AreChanged (λ o. IsLeft line) old now
  pub are : journals ≡ journals_of line old

pub lines-more : (line : ℕ) (journals longer : List (List Stamped)) (old now next : List Worker) → AreLinesTaken line journals old now → longer ≡ journals ++ map (journal_on line) now → AreChanged (λ o. IsLineTaken line) now next → AreLinesTaken (line + 1) longer old next
lines-more line journals longer old now next so after taken =
    record {
      left = record {
        count = taken.count ∙ so.left.count;
        each = λ o a c here there.
            (let b = there-too old now o a so.left.count here in
            let first = so.left.each o a b.0 here b.1 in
            let second = taken.each o b.0 c b.1 there in
            record { count = second.count ∙ first.count; journals = λ l more. second.others l (λ same. absurd (omega (arith, more, same))) ∙ first.journals l (omega (arith, more)) });
      };
      are =
          after
          ∙ ap (λ (js : List (List Stamped)). js ++ map (journal_on line) now) so.are
          ∙ ap (λ (js : List (List Stamped)). journals_of line old ++ js) same
          ∙ ap (λ (js : List (List Stamped)). journals_of line old ++ js) (sym (append-nil (map (journal_on line) old)))
          ∙ sym (flat_map-append (λ l. map (journal_on l) old) (below line) (line ∷ []))
          ∙ ap (λ n. journals_of n old) (sym (add-one line));
    }
  where
    same : map (journal_on line) now ≡ map (journal_on line) old
    same = maps-same (journal_on line) old now so.left.count (λ o a b here there. (so.left.each o a b here there).journals line (omega arith))

pub lines-there : (line lines : ℕ) (journals : List (List Stamped)) (old now : List Worker) → ((o : ℕ) (w : Worker) → slice_get old o ≡ Some w → length w.lines ≡ lines) → line < lines → AreLinesTaken line journals old now → (o : ℕ) (w : Worker) → slice_get now o ≡ Some w → line < length w.lines
lines-there line lines journals old now sized less so o w at =
    let before = there-too now old o w (sym so.left.count) at in
    let count = (so.left.each o before.0 w before.1 at).count in
    let size = sized o before.0 before.1 in
    omega (arith, count, size, less)
