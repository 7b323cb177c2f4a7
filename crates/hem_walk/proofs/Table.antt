-- The table of the self firings: at the start, and with one firing more.
use Rattle.std.proofs.Common.{◌≡◌, ◌≢◌, refl, sym, ap, ◌∙◌, subst, ℕ, zero, suc, ◌+◌, ◌*◌, ◌<◌, ◌^◌, arith, Bool, true, false, ◌&&◌, List, [], ◌∷◌, ◌++◌, length, Option, Some, eqb-true, length-set}
use Rattle.std.specs.Prelude.{◌==◌, ◌/◌, ◌%◌, slice_set, slice_index, replicate}
use Rattle.std.proofs.lemmas.List.{get_or-set_same, get_or-set_other, length-map, length-replicate}
use Rattle.hem_base.specs.declared.ids.Firing.{Firing}
use Rattle.hem_syntax.specs.Protocol.{Protocol}
use Rattle.hem_tree.specs.Tree.{Tree, below}
use Rattle.hem_tree.proofs.Lawful.{length_below}
use Rattle.hem_work.specs.Work.{Work, requests_of}
use Rattle.hem_system.specs.State.{State, Fires, start, run, first_line, line_after}
use Rattle.hem_system.specs.Ended.{is_self, is_at, self_firings}
use Rattle.hem_system.proofs.Own.{came}
use Rattle.hem_rows.proofs.Choices.{both}
use Rattle.hem_bound.specs.Starts as bound
use Rattle.hem_work.specs.Generator.{number_after}
use Rattle.hem_walk.specs.Walk.{position, IsThere, AreTurns}
use Rattle.hem_walk.specs.Working.{Walking, IsCounted, IsSoFar}
use Rattle.hem_walk.proofs.Positions.{below_all, same_place}
use Rattle.hem_walk.proofs.Counting.{counted_here, counted_elsewhere, counted_other}

-- a firing that isn't of a self rule changes no count
pub table_same : (p : Protocol) (tree : Tree) (h : List Firing) (s : State) (selfs : List ℕ) (f : Firing) → IsCounted p tree h s selfs → is_self p tree f ≡ false → IsCounted p tree (h ++ f ∷ []) s selfs
table_same p tree h s selfs f it other =
    record {
      few_lines = it.few_lines;
      size = it.size;
      each = λ l o there. it.each l o there ∙ sym (counted_other p tree h f l o other);
    }

-- two positions are one only where line and object are
apart : (tree : Tree) (s : State) (f : Firing) (l o : ℕ) → IsThere tree s f.line.0 f.object.0 → IsThere tree s l o → is_at l o f ≡ false → position tree l o ≢ position tree f.line.0 f.object.0
apart tree s f l o here there differs same =
    let a = same_place tree l o there.object in
    let b = same_place tree f.line.0 f.object.0 here.object in
    let line : f.line.0 ≡ l = sym b.0 ∙ sym (ap (λ n. n / length tree) same) ∙ a.0 in
    let object : f.object.0 ≡ o = sym b.1 ∙ sym (ap (λ n. n % length tree) same) ∙ a.1 in
    clash f.line.0 l f.object.0 o line object differs
  where
    clash : (a l b o : ℕ) → a ≡ l → b ≡ o → (a == l && b == o) ≡ false → ⊥
    clash a l b o first second differs = grind arith

-- a self firing raises the count at its position
pub table_raised : (p : Protocol) (tree : Tree) (h : List Firing) (s : State) (selfs : List ℕ) (f : Firing) → IsCounted p tree h s selfs → IsThere tree s f.line.0 f.object.0 → is_self p tree f ≡ true → IsCounted p tree (h ++ f ∷ []) s (slice_set selfs (position tree f.line.0 f.object.0) (slice_index selfs (position tree f.line.0 f.object.0) + 1))
table_raised p tree h s selfs f it here self =
    let at = position tree f.line.0 f.object.0 in
    let n = slice_index selfs at in
    record {
      few_lines = it.few_lines;
      size = length-set selfs at (n + 1) ∙ it.size;
      each = λ l o there. by_place l o there (is_at l o f) refl;
    }
  where
    by_place : (l o : ℕ) → IsThere tree s l o → (b : Bool) → is_at l o f ≡ b → slice_index (slice_set selfs (position tree f.line.0 f.object.0) (slice_index selfs (position tree f.line.0 f.object.0) + 1)) (position tree l o) ≡ self_firings p tree (h ++ f ∷ []) l o
    by_place l o there false differs =
        get_or-set_other selfs (position tree f.line.0 f.object.0) (position tree l o) (slice_index selfs (position tree f.line.0 f.object.0) + 1) 0 (apart tree s f l o here there differs)
        ∙ it.each l o there
        ∙ sym (counted_elsewhere p tree h f l o differs)
    by_place l o there true same =
        let parts = both (f.line.0 == l) (f.object.0 == o) same in
        let line = eqb-true f.line.0 l parts.0 in
        let object = eqb-true f.object.0 o parts.1 in
        let at = position tree f.line.0 f.object.0 in
        let inside = below_all tree s f.line.0 f.object.0 here in
        let size = it.size in
        (λ i. slice_index (slice_set selfs at (slice_index selfs at + 1)) (position tree (sym line i) (sym object i)))
        ∙ get_or-set_same selfs at (slice_index selfs at + 1) 0 (omega arith)
        ∙ ap (λ n. n + 1) (it.each f.line.0 f.object.0 here)
        ∙ sym (counted_here p tree h f self)
        ∙ (λ i. self_firings p tree (h ++ f ∷ []) (line i) (object i))

-- a firing leaves as many lines
pub table_kept : (p : Protocol) (tree : Tree) (h : List Firing) (old new : State) (selfs : List ℕ) (f : Firing) → IsCounted p tree h old selfs → Fires p tree old f new → IsCounted p tree h new selfs
table_kept p tree h old new selfs f it fires =
    let step = came fires in
    let lines : length new ≡ length old = ap length step.after ∙ length-set old f.line.0 (line_after tree f step.effect step.line) in
    record {
      few_lines = (let few = it.few_lines in omega arith);
      size = it.size ∙ sym (ap (λ n. n * length tree) lines);
      each = λ l o there. it.each l o (record { line = (let inside = there.line in omega arith); object = there.object });
    }

-- the state at the start has the lines of the work
pub start_lines : (p : Protocol) (tree : Tree) (work : Work) → length (start p tree work) ≡ work.lines
start_lines p tree work = length-map (below work.lines) (λ l. first_line p tree (requests_of work l)) ∙ length_below work.lines

-- a walk with no firing so far
pub so_far_none : (p : Protocol) (tree : Tree) (work : Work) (seed : ℕ) (w : Walking) → work.lines < 2 ^ 32 → w.system ≡ start p tree work → w.journal ≡ [] → w.selfs ≡ replicate (work.lines * length tree) 0 → w.number ≡ number_after seed 0 → IsSoFar p tree work seed w
so_far_none p tree work seed w few system journal selfs number =
    let lines : length w.system ≡ work.lines = ap length system ∙ start_lines p tree work in
    record {
      runs = record { leads = ap (λ h. run_of h) journal ∙ ap Some (sym system) };
      turns = subst (AreTurns p tree work seed) (sym journal) (record { each = λ i f now at ran. cc });
      number = number ∙ sym (ap (λ (h : List Firing). number_after seed (length h)) journal);
      counted =
          record {
            few_lines = omega arith;
            size = ap length selfs ∙ length-replicate (work.lines * length tree) 0 ∙ sym (ap (λ n. n * length tree) lines);
            each = λ l o there. ap (λ xs. slice_index xs (position tree l o)) selfs ∙ zeros (work.lines * length tree) (position tree l o) ∙ sym (ap (λ h. self_firings p tree h l o) journal);
          };
      within = subst (bound.IsWithin p tree work.self_count) (sym journal) (record { few = λ l o. omega arith });
    }
  where
    run_of : List Firing → Option State
    run_of h = run p tree (start p tree work) h

    zeros : (n i : ℕ) → slice_index (replicate n 0) i ≡ 0
    zeros zero i = refl
    zeros (suc n) zero = refl
    zeros (suc n) (suc i) = zeros n i
