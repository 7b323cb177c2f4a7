-- What a run with generated requests comes to.
use Rattle.std.specs.Prelude.{ℕ, Bool, ◌++◌, codes, decimal}
use Rattle.hem_syntax.specs.Protocol.{Text}
use Rattle.hem_tree.specs.Tree.{Tree}
use Rattle.hem_work.specs.Work.{Work}
use Rattle.hem_system.specs.State.{State}
use Rattle.hem_system.specs.Quiet.{is_quiet}
use Rattle.hem_bound.specs.Starts.{requests_in}
use Rattle.hem_report.specs.JournalText.{end_word}
use Rattle.hem_runner.specs.Tally.{answers_in}

-- the word, how many requests the work has, and how many answers there are
abbrev pub tally_text : Tree → Work → Bool → ℕ → Text
tally_text tree work quiet answers = end_word quiet ++ codes "requests " ++ decimal (requests_in tree work) ++ codes "\nanswers " ++ decimal answers ++ codes "\n"

-- so of the state in which a run ends
abbrev pub summary_text : Tree → Work → State → Text
summary_text tree work end = tally_text tree work (is_quiet end) (answers_in end)
