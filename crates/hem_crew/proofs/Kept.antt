-- Crews stay crews along rounds and settles.
use Rattle.std.proofs.Common.{◌≡◌, refl, ap, sym, ◌∙◌, subst, ℕ, suc, Bool, List, [], ◌∷◌, map, length, arith, Option, Some, None}
use Rattle.std.specs.Prelude.{slice_get, flat_map}
use Rattle.std.specs.Option.{option_map_or}
use Rattle.hem_syntax.specs.Protocol.{Protocol}
use Rattle.hem_tree.specs.Tree.{Tree, below}
use Rattle.hem_system.specs.State.{State}
use Rattle.hem_parts.proofs.AllRun.{there-too, none-too}
use Rattle.hem_turns.specs.OnLine.{OnLine}
use Rattle.hem_worker.specs.Workers.{Worker, AreChanged}
use Rattle.hem_worker.specs.Edges.{channels, IsLineStill}
use Rattle.hem_crew.specs.Crew.{IsMember, IsWired, IsCrew, journal_on, journals_of}
use Rattle.hem_crew.specs.Rounds.{IsKept, IsShare, IsRoundOfAll, IsStill, AreAllSettled}

-- what is read of each element stays, where each element's stays
pub maps-same : {A B : Type 0} (f : A → B) (old new : List A) → length new ≡ length old → ((i : ℕ) (a b : A) → slice_get old i ≡ Some a → slice_get new i ≡ Some b → f b ≡ f a) → map f new ≡ map f old
maps-same f [] [] count each = refl
maps-same f [] (b ∷ new) count each = cc
maps-same f (a ∷ old) [] count each = cc
maps-same f (a ∷ old) (b ∷ new) count each =
    let less : length new ≡ length old = omega (arith, count) in
    let head : f b ≡ f a = each 0 a b refl refl in
    let rest = maps-same f old new less (λ i x y here there. each (suc i) x y here there) in
    λ i. head i ∷ rest i

-- a worker that stays its object's is the object's member
kept-member : (p : Protocol) (tree : Tree) (begun : State) (k o : ℕ) (old new : Worker) → IsMember p tree begun k o old → IsKept p old new → IsMember p tree begun k o new
kept-member p tree begun k o old new was kept =
    record {
      object = ap (λ (w : Worker). w.object.0) kept.same ∙ was.object;
      self_count = ap (λ (w : Worker). w.self_count) kept.same ∙ was.self_count;
      lines = kept.count ∙ was.lines;
      parts = kept.parts tree begun was.parts;
    }

pub kept-crew : (p : Protocol) (tree : Tree) (begun : State) (k slots : ℕ) (Change : ℕ → Worker → Worker → Type 0) (old new : List Worker) → ((o : ℕ) (a b : Worker) → Change o a b → IsKept p a b) → IsCrew p tree begun k slots old → AreChanged Change old new → IsCrew p tree begun k slots new
kept-crew p tree begun k slots Change old new kept crew changed =
    record {
      count = changed.count ∙ crew.count;
      each = λ o w at. (let before = there-too new old o w (sym changed.count) at in kept-member p tree begun k o before.0 w (crew.each o before.0 before.1) (kept o before.0 w (changed.each o before.0 w before.1 at)));
      wired = subst (IsWired tree slots) (sym (maps-same channels old new changed.count (λ o a b here there. (kept o a b (changed.each o a b here there)).channels))) crew.wired;
    }

pub rounds-keep : (p : Protocol) (tree : Tree) (begun : State) (k slots : ℕ) (any : Bool) (old new : List Worker) → IsCrew p tree begun k slots old → IsRoundOfAll p any old new → IsCrew p tree begun k slots new
rounds-keep p tree begun k slots any old new crew round = kept-crew p tree begun k slots (λ o. IsShare p any) old new (λ o a b share. share.turn.kept) crew round.each

pub settles-keep : (p : Protocol) (tree : Tree) (begun : State) (k slots : ℕ) (old new : List Worker) → IsCrew p tree begun k slots old → AreAllSettled p tree old new → IsCrew p tree begun k slots new
settles-keep p tree begun k slots old new crew settled = kept-crew p tree begun k slots (λ o. IsStill p) old new (λ o a b still. still.kept) crew settled.still

-- a worker that does nothing keeps its journals
journal-stays : (l : ℕ) (old new : List OnLine) (found : Option OnLine) → AreChanged (λ l. IsLineStill) old new → slice_get old l ≡ found → option_map_or (λ (line : OnLine). line.journal) (slice_get new l) [] ≡ option_map_or (λ (line : OnLine). line.journal) (slice_get old l) []
journal-stays l old new None changed at = ap (λ f. option_map_or (λ (line : OnLine). line.journal) f []) (none-too old new l changed.count at ∙ sym at)
journal-stays l old new (Some line) changed at =
    let next = there-too old new l line changed.count at in
    let still = changed.each l line next.0 at next.1 in
    ap (λ f. option_map_or (λ (line : OnLine). line.journal) f []) next.1 ∙ ap (λ (line : OnLine). line.journal) still.same ∙ sym (ap (λ f. option_map_or (λ (line : OnLine). line.journal) f []) at)

pub journals-stay : (p : Protocol) (tree : Tree) (lines : ℕ) (old new : List Worker) → AreAllSettled p tree old new → journals_of lines new ≡ journals_of lines old
journals-stay p tree lines old new settled = λ i. flat_map (λ l. on_line l i) (below lines)
  where
    on_line : (l : ℕ) → map (journal_on l) new ≡ map (journal_on l) old
    on_line l = maps-same (journal_on l) old new settled.still.count (λ o a b here there. journal-stays l a.lines b.lines (slice_get a.lines l) (settled.still.each o a b here there).lines refl)
