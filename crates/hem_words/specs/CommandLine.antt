-- The command line: one word JOB, the flag --json, and the options --count and --seed with a value each, in any place.
use Rattle.std.specs.Prelude.{◌≡◌, Bool, true, false, List, [], Option, Some, None, codes}
use Rattle.std.specs.Str.{bytes_eq}
use Rattle.clap.specs.Words.{App, Rule, Text, first_of, matches_of, new_app, new_rule, with_rule, fault_of}
use Rattle.clap.specs.Simple.{on_top}
use Rattle.clap.specs.declared.builder.action.ArgAction.TheVariants.{Set, SetTrue}

-- the word that must stand
abbrev pub required_word : Text → Rule
required_word name = record (new_rule name) { required = true; action = Some Set }

-- an option with one value
abbrev pub option_named : Text → Rule
option_named name = record (new_rule name) { long = Some name; action = Some Set }

-- a flag, an option without a value
abbrev pub flag_named : Text → Rule
flag_named name = record (new_rule name) { long = Some name; action = Some SetTrue }

-- a command line that has neither the program's name, nor a flag for help or for the version
abbrev pub bare : App → App
bare a = on_top (λ s. record s { no_binary_name = true; disable_help_flag = true; disable_version_flag = true }) a

-- `JOB`
abbrev pub job_alone : App
job_alone = with_rule (bare (new_app (codes "hem"))) (required_word (codes "JOB"))

-- `JOB [--json] [--count N] [--seed N]`
abbrev pub command_line : App
command_line = with_rule (with_rule (with_rule job_alone (flag_named (codes "json"))) (option_named (codes "count"))) (option_named (codes "seed"))

-- the command line takes the words: each names what it has, none twice, each option has its value, and JOB is there
abbrev pub AreTaken : List Text → Type 0
AreTaken words = fault_of command_line words ≡ []

-- the texts that words give: of the job, and of each option that is there; and whether the flag is there
pub record Given : Type 0 where
  pub job : Option Text
  pub count : Option Text
  pub seed : Option Text
  pub json : Bool

-- the text that words give for a name
abbrev pub text_given : List Text → Text → Option Text
text_given words name = first_of name (matches_of command_line words)

-- whether a flag is there, by its text: `true` where it is
abbrev pub is_there : Option Text → Bool
is_there (Some text) = bytes_eq text (codes "true")
is_there None = false

-- the texts that the words give, and the flag
abbrev pub given_in : List Text → Given
given_in words = record { job = text_given words (codes "JOB"); count = text_given words (codes "count"); seed = text_given words (codes "seed"); json = is_there (text_given words (codes "json")) }
