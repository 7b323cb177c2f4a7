use Rattle.std.proofs.Common.{◌≡◌, ◌<◌, ℕ, true, length, map, Some}
use Rattle.std.specs.Prelude.{slice_get}
use Rattle.hem_walk.specs.Walk.{position}
use Rattle.hem_walk.specs.Marks.{is_in}
use Rattle.hem_walk.specs.Near.{reaches_place}
use Rattle.hem_walk.proofs.working.Walking.mark_below.Given as goal

-- the children so far to which it sends are put in
abbrev pub invariant-loop-place : goal.invariant-loop-place
invariant-loop-place l =
    record {
      below : (i low : ℕ) → i < l.place → slice_get (map (λ id. id.0) l.children) i ≡ Some low → reaches_place l.to i ≡ true → is_in l.marks (position l.tree l.firing.line.0 low) ≡ true;
      kept : (n : ℕ) → is_in l.initial.marks n ≡ true → is_in l.marks n ≡ true;
      size : length l.marks ≡ length l.initial.marks;
    }
