-- Turns of a crew, up to the last.
use Rattle.std.proofs.Common.{◌≡◌, ap, ◌∙◌, subst, ℕ, ◌+◌, ◌≤◌, arith, Bool, false, cond, nat_lt, List, ◌++◌, take, drop, length, Some, ⊎_elim}
use Rattle.std.specs.Prelude.{slice_get}
use Rattle.std.proofs.Math.Seq.{take-append_seam}
use Rattle.hem_syntax.specs.Protocol.{Protocol}
use Rattle.hem_syntax.specs.Lawful.{IsProtocol}
use Rattle.hem_check.specs.Discipline.{IsDisciplined}
use Rattle.hem_check.proofs.Clauses.{templated}
use Rattle.hem_tree.specs.Tree.{Tree, IsLawful}
use Rattle.hem_work.specs.Work.{Work}
use Rattle.hem_work.specs.Lawful.{IsLawfulWork}
use Rattle.hem_system.specs.State.{State, start}
use Rattle.hem_worker.specs.Workers.{Worker}
use Rattle.hem_crew.specs.Crew.{IsCrew}
use Rattle.hem_crew.specs.Knowing.{KnowAll, OnEdges}
use Rattle.hem_crew.specs.Rounds.{IsRoundOfAll, AreAllSettled, all_journaled}
use Rattle.hem_crew.proofs.Kept.{kept-crew, rounds-keep, settles-keep}
use Rattle.hem_crew.proofs.Few.{crew-few}
use Rattle.hem_crew.proofs.Merging.{start-lines}
use Rattle.hem_crew.proofs.Learning.{know-all-later, edges-later}
use Rattle.hem_idle.proofs.Bounded.{firings-bounded}
use Rattle.hem_runner.specs.Settles.{IsCrewOf}
use Rattle.hem_runner.specs.Rounds.{IsRoomier, IsTurnOfAll, IsAtEnd}
use Rattle.hem_runner.proofs.Shares.{none-or-some}
use Rattle.hem_runner.proofs.Roomier.{roomier-kept, roomier-learn, roomier-journaled, still-journaled}

module _ (p : Protocol) (tree : Tree) (burst : ℕ) (any : Bool) (old new : List Worker) (turn : IsTurnOfAll p tree burst any old new) where
  turn-ready : (begun : State) (k slots : ℕ) → IsCrew p tree begun k slots old → IsCrew p tree begun k slots turn.roomier
  turn-ready begun k slots is =
      kept-crew p tree begun k slots (λ o. IsRoomier burst) turn.settled turn.roomier (λ o a b roomier. roomier-kept burst p a b roomier)
      (settles-keep p tree begun k slots old turn.settled is turn.settles) turn.reserves

  pub turn-crew : (begun : State) (k slots : ℕ) → IsCrew p tree begun k slots old → IsCrew p tree begun k slots new
  turn-crew begun k slots is = rounds-keep p tree begun k slots any turn.roomier new (turn-ready begun k slots is) turn.round

  turn-known : OnEdges tree turn.roomier KnowAll
  turn-known = edges-later KnowAll tree turn.settled turn.roomier know-all-later (roomier-learn burst turn.settled turn.roomier turn.reserves) turn.settles.after

  pub turn-longer : all_journaled old + cond any 1 0 ≤ all_journaled new
  turn-longer =
      let one = still-journaled p old turn.settled turn.settles.still in
      let two = roomier-journaled burst turn.settled turn.roomier turn.reserves in
      let longer = turn.round.longer in
      omega (arith, one, two, longer)

  -- where none fired, and then all edges are settled, the crew is at its end
  pub turn-last : (begun : State) (k slots : ℕ) (end : List Worker) → any ≡ false → IsCrew p tree begun k slots old → AreAllSettled p tree new end → IsAtEnd p tree begun k slots end
  turn-last begun k slots end none is settled =
      record {
        known = turn.roomier;
        idle = new;
        is = turn-ready begun k slots is;
        knows = turn-known;
        round = subst (λ b. IsRoundOfAll p b turn.roomier new) none turn.round;
        settled = settled;
      }

-- a crew makes no more firings than a work within the limits has
pub no-more-turns : (p : Protocol) (tree : Tree) (work : Work) (slots : ℕ) (crew settled : List Worker) → IsProtocol p → IsDisciplined p → IsLawful tree → IsLawfulWork p tree work → IsCrew p tree (start p tree work) work.self_count slots crew → AreAllSettled p tree crew settled → all_journaled crew ≤ 38400000
no-more-turns p tree work slots crew settled lawful disciplined law fits is settles =
    let few = crew-few p tree work slots settled lawful law.shape (templated p disciplined) (settles-keep p tree (start p tree work) work.self_count slots crew settled is settles) settles.after in
    let most = firings-bounded p tree work law fits in
    let same = still-journaled p crew settled settles.still in
    omega (arith, few, most, same)

-- a turn in which some worker fired lengthens the journals
pub turn-counted : (p : Protocol) (tree : Tree) (burst fired count : ℕ) (old new : List Worker) → IsTurnOfAll p tree burst (nat_lt 0 fired) old new → (fired ≡ 0 → ⊥) → count ≤ all_journaled old → count + 1 ≤ all_journaled new
turn-counted p tree burst fired count old new turn some_fired few =
    let longer = turn-longer p tree burst (nat_lt 0 fired) old new turn in
    ⊎_elim (λ none. absurd (some_fired none.0)) (λ one. (let is = one.1 in omega (arith, longer, is, few))) (none-or-some fired)

pub none-fired : (fired : ℕ) → fired ≡ 0 → nat_lt 0 fired ≡ false
none-fired fired none = ap (nat_lt 0) none

-- a crew at its end is a crew, with all lines
pub end-lines : (p : Protocol) (tree : Tree) (work : Work) (k slots : ℕ) (crew : List Worker) → IsAtEnd p tree (start p tree work) k slots crew → (o : ℕ) (w : Worker) → slice_get crew o ≡ Some w → length w.lines ≡ work.lines
end-lines p tree work k slots crew end o w at =
    let idle = rounds-keep p tree (start p tree work) k slots false end.known end.idle end.is end.round in
    let is = settles-keep p tree (start p tree work) k slots end.idle crew idle end.settled in
    (is.each o w at).lines ∙ start-lines p tree work

pub crew-of : (p : Protocol) (tree : Tree) (begun : State) (k slots : ℕ) (crew : List Worker) → IsCrew p tree begun k slots crew → IsCrewOf tree crew
crew-of p tree begun k slots crew is = record { p = p; begun = begun; k = k; slots = slots; is = is }

-- a vector whose slice was left by a run has that crew
pub crew-left : (p : Protocol) (tree : Tree) (work : Work) (slots n : ℕ) (old crew : List Worker) → n ≡ length old → IsCrew p tree (start p tree work) work.self_count slots old → IsAtEnd p tree (start p tree work) work.self_count slots crew → take n (crew ++ drop (length crew) old) ≡ crew
crew-left p tree work slots n old crew size was end =
    let idle = rounds-keep p tree (start p tree work) work.self_count slots false end.known end.idle end.is end.round in
    let same = end.settled.still.count in
    let now = idle.count in
    let before = was.count in
    let long : n ≡ length crew = omega (arith, size, same, now, before) in
    ap (λ n. take n (crew ++ drop (length crew) old)) long ∙ take-append_seam crew (drop (length crew) old)
