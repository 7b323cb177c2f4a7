-- What a whole run comes to, and how that is read off the workers at its end.
use Rattle.std.specs.Prelude.{ℕ, ◌≡◌, Bool, ◌&&◌, List, [], length, sum_by, slice_index_or}
use Rattle.std.specs.Option.{option_map_or}
use Rattle.std.specs.List.{list_all}
use Rattle.hem_base.specs.declared.ids.Firing.{Firing}
use Rattle.hem_syntax.specs.Protocol.{Protocol}
use Rattle.hem_tree.specs.Tree.{Tree}
use Rattle.hem_work.specs.Work.{Work}
use Rattle.hem_system.specs.declared.lane.Lane.TheVariants.{Answers}
use Rattle.hem_system.specs.State.{State, cell_at, list_of}
use Rattle.hem_system.specs.Quiet.{holds_none, has_no_lock, is_quiet}
use Rattle.hem_bound.specs.Sums.{total}
use Rattle.hem_turns.specs.OnLine.{OnLine, asked}
use Rattle.hem_worker.specs.Workers.{Worker}
use Rattle.hem_runner.specs.Runs.{IsRun}

-- how many answers an object has on a line
abbrev pub answers_at : State → ℕ → ℕ → ℕ
answers_at s l o = option_map_or (λ cell. length (list_of cell Answers)) (cell_at s l o) 0

-- how many answers all objects have on a line
abbrev pub answers_on : State → ℕ → ℕ
answers_on s l = total (length (slice_index_or s l [])) (answers_at s l)

-- how many answers there are on all lines
abbrev pub answers_in : State → ℕ
answers_in s = total (length s) (answers_on s)

-- what some whole run comes to: whether its end is quiet, and how many answers are there
pub record IsTally (p : Protocol) (tree : Tree) (work : Work) (quiet : Bool) (answers : ℕ) : Type 0 where
  pub journal : List Firing
  pub end : State
  pub run : IsRun p tree work journal end
  pub quiet_is : quiet ≡ is_quiet end
  pub answers_are : answers ≡ answers_in end

-- whether an object is at rest on a line: it holds no lock, and no request is left
abbrev pub is_at_rest : OnLine → Bool
is_at_rest line = has_no_lock line.local && holds_none (asked line)

-- whether each object of a crew is at rest on each line
abbrev pub all_at_rest : List Worker → Bool
all_at_rest crew = list_all (λ w. list_all is_at_rest w.lines) crew

-- how many answers an object has on all its lines
abbrev pub answered_by : List OnLine → ℕ
answered_by lines = sum_by (λ line. length line.answers) lines

-- how many answers all objects of a crew have
abbrev pub all_answered : List Worker → ℕ
all_answered crew = sum_by (λ w. answered_by w.lines) crew
