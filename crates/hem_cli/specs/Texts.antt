-- The texts of faults, as bytes, and the texts of histories.
use Rattle.std.specs.Prelude.{List, ◌++◌, codes, decimal}
use Rattle.hem_text.specs.declared.text.Place.{Place}
use Rattle.hem_text.specs.declared.text.Cause.{Cause}
use Rattle.hem_text.specs.declared.text.Cause.TheVariants as cause
use Rattle.hem_tree.specs.declared.setup.SetupFault.{SetupFault}
use Rattle.hem_tree.specs.declared.setup.SetupCause.{SetupCause}
use Rattle.hem_tree.specs.declared.setup.SetupCause.TheVariants as rule
use Rattle.hem_text.specs.declared.reader.TextFault.{TextFault}
use Rattle.hem_syntax.specs.Protocol.{Protocol, Text}
use Rattle.hem_tree.specs.Tree.{Tree}
use Rattle.hem_base.specs.declared.ids.Firing.{Firing}
use Rattle.hem_system.specs.State.{State}
use Rattle.hem_trace.specs.Blocks.{Block}
use Rattle.hem_report.specs.BlocksText.{blocks_text}
use Rattle.hem_report.specs.StateText.{word_of, state_text}
use Rattle.hem_report.specs.JournalText.{journal_text, end_word_of}

-- a place: line and column
abbrev pub place_text : Place → Text
place_text place = decimal place.line ++ codes ":" ++ decimal place.column

-- why a token can't stand
abbrev pub cause_text : Cause → Text
cause_text cause.Unknown = codes "unknown"
cause_text cause.Repeated = codes "repeated"
cause_text cause.Expected = codes "expected"
cause_text cause.TooMany = codes "too many"

-- which rule of a tree or a work is broken
abbrev pub rule_text : SetupCause → Text
rule_text rule.Objects = codes "objects"
rule_text rule.Children = codes "children"
rule_text rule.Levels = codes "levels"
rule_text rule.Lines = codes "lines"
rule_text rule.SelfCount = codes "self"
rule_text rule.Object = codes "object"
rule_text rule.Line = codes "line"
rule_text rule.Request = codes "request"
rule_text rule.Requests = codes "requests"
rule_text rule.Starts = codes "starts"

-- the first fault of a text
abbrev pub fault_text : TextFault → Text
fault_text f = codes "text " ++ place_text f.place ++ codes " " ++ cause_text f.cause ++ codes "\n"

-- the first broken rule of a tree or a work
abbrev pub setup_text : SetupFault → Text
setup_text f = codes "setup " ++ place_text f.place ++ codes " " ++ rule_text f.cause ++ codes "\n"

-- a history that runs to the end: the word, the blocks, and the end
abbrev pub grouped_text : Protocol → Tree → List Block → State → Text
grouped_text p tree blocks end = word_of end ++ blocks_text p blocks ++ state_text p tree end

-- a history to its end: the word, its firings, the blocks, and the end
abbrev pub ended_text : Protocol → Tree → List Firing → List Block → State → Text
ended_text p tree journal blocks end = end_word_of end ++ journal_text p journal ++ blocks_text p blocks ++ state_text p tree end
