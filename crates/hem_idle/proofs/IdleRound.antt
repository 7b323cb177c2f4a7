-- What the ends know in a round in which no worker fires.
use Rattle.std.proofs.Common.{◌≡◌, refl, sym, ℕ, false, List, Some}
use Rattle.std.specs.Prelude.{slice_get}
use Rattle.hem_syntax.specs.Protocol.{Protocol}
use Rattle.hem_tree.specs.Tree.{Tree}
use Rattle.hem_rows.proofs.Choices.{if_some}
use Rattle.hem_parts.proofs.AllRun.{there-too}
use Rattle.hem_ends.specs.Edges.{KnowEachOther}
use Rattle.hem_turns.specs.OnLine.{OnLine}
use Rattle.hem_worker.proofs.EndsKept.{looked-still}
use Rattle.hem_worker.specs.Workers.{Worker, IsLineStuck}
use Rattle.hem_crew.specs.Crew.{line_of}
use Rattle.hem_crew.specs.Knowing.{KnowAll, KnowNoMore, OnEdges}
use Rattle.hem_crew.specs.Rounds.{IsRoundOfAll}
use Rattle.hem_crew.proofs.Learning.{OnlyLearn, know-all-later, edges-later}
use Rattle.hem_idle.proofs.Exact.{channels-exactly}

-- what a worker has of a line, by its worker
pub record IsOnLine (crew : List Worker) (l o : ℕ) (now : OnLine) : Type 0 where
  pub worker : Worker
  pub there : slice_get crew o ≡ Some worker
  pub line : slice_get worker.lines l ≡ Some now

pub on-line : (crew : List Worker) (l o : ℕ) (now : OnLine) → line_of crew l o ≡ Some now → IsOnLine crew l o now
on-line crew l o now is =
    let it = if_some (λ (w : Worker). slice_get w.lines l) (slice_get crew o) now is in
    record { worker = it.0; there = it.1; line = it.2 }

module _ (p : Protocol) (known idle : List Worker) (round : IsRoundOfAll p false known idle) where
  -- the ends only learn
  round-learns : OnlyLearn known idle
  round-learns =
      record {
        count = round.each.count;
        each = λ o a b here there.
            let share = round.each.each o a b here there in
            let looked = share.turn.looked (share.none refl) in
            record { count = looked.count; each = λ l x y before after. looked-still x.ends y.ends (looked.each l x y before after).ends };
      }

  -- after it nothing is possible on any line
  pub stuck-line : (l o : ℕ) (now : OnLine) (here : IsOnLine idle l o now) → IsLineStuck p here.worker.kind here.worker.self_count now
  stuck-line l o now here =
      let worker = there-too idle known o here.worker (sym round.each.count) here.there in
      let share = round.each.each o worker.0 here.worker worker.1 here.there in
      share.turn.stuck (share.none refl) l now here.line

  -- what the ends knew they still know
  pub round-knows : (tree : Tree) → OnEdges tree known KnowAll → OnEdges tree idle KnowAll
  round-knows tree know = edges-later KnowAll tree known idle know-all-later round-learns know

-- where the ends know all and no more they know each other
pub edges-exactly : (tree : Tree) (crew : List Worker) → OnEdges tree crew KnowAll → OnEdges tree crew KnowNoMore → OnEdges tree crew KnowEachOther
edges-exactly tree crew all more l o high low up kid parent low_there up_there kid_there =
    channels-exactly kid low.ends (all l o high low up kid parent low_there up_there kid_there) (more l o high low up kid parent low_there up_there kid_there)
