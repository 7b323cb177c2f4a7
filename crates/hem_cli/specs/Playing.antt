-- What the job `play` makes of modules and a feed.
use Rattle.std.specs.Prelude.{◌≡◌, List, ℕ, fold}
use Rattle.hem_module.specs.declared.turns.Played.{Played}
use Rattle.hem_module.specs.Modules.{Modules}
use Rattle.hem_module.specs.States.{State, start_of, fed}
use Rattle.hem_module.specs.Turns.{IsPlayed}
use Rattle.hem_modtext.specs.declared.feed.Fed.{Fed}
use Rattle.hem_modprint.specs.PlayText.{play_text}
use Rattle.hem_document.specs.declared.documents.PlayDocument.{PlayDocument}
use Rattle.hem_cli.specs.declared.status.Status.{Status}
use Rattle.hem_cli.specs.declared.status.Status.TheVariants.{Done}

-- the state with one item more at the end of its queue
abbrev pub fed_one : State → Fed → State
fed_one s f = fed s f.queue f.item

-- the state at the start, with the queues fed in text order
abbrev pub fed_start : Modules → List Fed → State
fed_start m feed = fold fed_one (start_of m) feed

-- a play of so many firings at most from the start with the queues fed, and the text of how it ends
pub record IsPlay (m : Modules) (feed : List Fed) (most : ℕ) (text : List ℕ) : Type 0 where
  pub played : Played
  pub end : State
  pub is : IsPlayed m (fed_start m feed) most end played
  pub says : text ≡ play_text m end played

-- the reply of `play` to a document
abbrev pub IsPlayReply : ℕ → PlayDocument → Status → List ℕ → Type 0
IsPlayReply most d status text = (status ≡ Done) × IsPlay d.modules d.feed most text
