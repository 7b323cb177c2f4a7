-- The text of a journal, and the word for the state in which a run ends.
use Rattle.std.specs.Prelude.{Bool, cond, List, ◌++◌, length, flat_map, codes, decimal}
use Rattle.hem_base.specs.declared.ids.Firing.{Firing}
use Rattle.hem_syntax.specs.Protocol.{Protocol, Text}
use Rattle.hem_system.specs.State.{State}
use Rattle.hem_system.specs.Quiet.{is_quiet}
use Rattle.hem_report.specs.Texts.{firing_text}

-- how many firings there are, and each firing
abbrev pub journal_text : Protocol → List Firing → Text
journal_text p journal = codes "journal " ++ decimal (length journal) ++ codes "\n" ++ flat_map (firing_text p) journal

-- the word for the end of a run, by whether its state is quiet
abbrev pub end_word : Bool → Text
end_word quiet = cond quiet (codes "quiet\n") (codes "stuck\n")

-- the word for a state in which a run ends
abbrev pub end_word_of : State → Text
end_word_of s = end_word (is_quiet s)
