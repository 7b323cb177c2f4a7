-- What the jobs `run` and `walk` make of a work: a history to its end.
use Rattle.std.specs.Prelude.{◌≡◌, ℕ, Bool, List, Option, Some, None, ⊤}
use Rattle.hem_base.specs.declared.ids.Firing.{Firing}
use Rattle.hem_syntax.specs.Protocol.{Protocol}
use Rattle.hem_tree.specs.Tree.{Tree}
use Rattle.hem_work.specs.Work.{Work}
use Rattle.hem_system.specs.State.{State, Runs, start}
use Rattle.hem_system.specs.Ended.{Within, Ended}
use Rattle.hem_system.specs.Quiet.{is_quiet}
use Rattle.hem_runner.specs.Tally.{answers_in}
use Rattle.hem_trace.specs.Blocks.{Block}
use Rattle.hem_walk.specs.Walk.{IsWalk}
use Rattle.hem_cli.specs.Texts.{ended_text}
use Rattle.hem_cli.specs.Summary.{summary_text}
use Rattle.hem_cli.specs.Grouping.{AreBlocksOf}
use Rattle.hem_cli.specs.Generating.{IsGenerated}
use Rattle.hem_cli.specs.declared.running.Maker.{Maker}
use Rattle.hem_cli.specs.declared.running.Maker.TheVariants.{Workers, OneThread}
use Rattle.hem_cli.specs.declared.status.Status.{Status}
use Rattle.hem_cli.specs.declared.status.Status.TheVariants.{Done}

-- a history from the start to its end: to a state in which only self firings are possible, and these all spent
pub record IsToEnd (p : Protocol) (tree : Tree) (work : Work) (h : List Firing) (end : State) : Type 0 where
  pub runs : Runs p tree (start p tree work) h end
  pub within : Within p tree h work.self_count
  pub ended : Ended p tree h end work.self_count

-- workers may make each history to the end, and one thread makes the walk from its seed
abbrev pub MayMake : Maker → Protocol → Tree → Work → List Firing → State → Type 0
MayMake Workers p tree work h end = ⊤
MayMake (OneThread seed) p tree work h end = IsWalk p tree work seed h end

-- a history to the end, and the text of it: the word, its firings, its blocks and the end state
pub record IsTold (maker : Maker) (p : Protocol) (tree : Tree) (work : Work) (text : List ℕ) : Type 0 where
  pub journal : List Firing
  pub end : State
  pub to_end : IsToEnd p tree work journal end
  pub made : MayMake maker p tree work journal end
  pub blocks : List Block
  pub of : AreBlocksOf p tree work journal end blocks
  pub says : text ≡ ended_text p tree journal blocks end

-- a history to the end, and what it comes to: whether its end is quiet, and how many answers are there
pub record ComesTo (maker : Maker) (p : Protocol) (tree : Tree) (work : Work) (quiet : Bool) (answers : ℕ) : Type 0 where
  pub journal : List Firing
  pub end : State
  pub to_end : IsToEnd p tree work journal end
  pub made : MayMake maker p tree work journal end
  pub quiet_is : quiet ≡ is_quiet end
  pub answers_are : answers ≡ answers_in end

-- a history to the end, and the text of what it comes to: the word, and how many requests and answers there are
pub record IsSummed (maker : Maker) (p : Protocol) (tree : Tree) (work : Work) (text : List ℕ) : Type 0 where
  pub journal : List Firing
  pub end : State
  pub to_end : IsToEnd p tree work journal end
  pub made : MayMake maker p tree work journal end
  pub says : text ≡ summary_text tree work end

-- what is made of a work: without a count a history with its blocks, and with a count what one over the work with the generated requests comes to
abbrev pub IsEndOf : Maker → Option ℕ → ℕ → Protocol → Tree → Work → Status → List ℕ → Type 0
IsEndOf maker None seed p tree work status text = (status ≡ Done) × IsTold maker p tree work text
IsEndOf maker (Some count) seed p tree work status text = IsGenerated p tree work count seed (λ with_more text. IsSummed maker p tree with_more text) status text
