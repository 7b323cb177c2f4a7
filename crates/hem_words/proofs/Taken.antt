-- What the command line takes, and what it gives.
use Rattle.std.proofs.Common.{◌≡◌, ◌∙◌, refl, sym, ap, Bool, true, List, [], Option}
use Rattle.std.specs.Prelude.{codes}
use Rattle.clap.specs.Words.{App, Text, first_of, first_value, found_of, is_simple, is_simple_and_free, matches_of, fault_of, HasMatchesOf}
use Rattle.clap.specs.declared.parser.matches.ArgMatches.{ArgMatches}
use Rattle.clap.proofs.OnLiterals.{clap_on_literals}
use Rattle.clap.proofs.WalkLemmas.{first_value-rows}
use Rattle.hem_words.specs.CommandLine.{command_line, text_given, is_there, given_in, AreTaken}

pub simple : is_simple command_line ≡ true
unfolding clap_on_literals
simple = refl

pub simple_and_free : is_simple_and_free command_line ≡ true
unfolding clap_on_literals
simple_and_free = refl

-- a value of the matches is the text given for its name
pub value_given : (a : App) (words : List Text) (m : ArgMatches) (name : Text) → a ≡ command_line → HasMatchesOf a words m → first_value (found_of m) name ≡ text_given words name
value_given a words m name is matches =
    let rows = (matches (ap is_simple is ∙ simple)).0 in
    first_value-rows (found_of m) name ∙ (ap (first_of name) rows ∙ ap (λ x. first_of name (matches_of x words)) is)

-- the texts given, and the flag
pub all_given : (words : List Text) (job count seed json : Option Text) (flag : Bool) → job ≡ text_given words (codes "JOB") → count ≡ text_given words (codes "count") → seed ≡ text_given words (codes "seed") → flag ≡ is_there json → json ≡ text_given words (codes "json") → record { job = job; count = count; seed = seed; json = flag } ≡ given_in words
all_given words job count seed json flag one two three there four = λ i. record { job = one i; count = two i; seed = three i; json = (there ∙ ap is_there four) i }

-- where the matches are there the words are taken
pub are_taken : (a : App) (words : List Text) → a ≡ command_line → (is_simple_and_free a ≡ true → fault_of a words ≡ []) → AreTaken words
are_taken a words is none = sym (ap (λ x. fault_of x words) is) ∙ none (ap is_simple_and_free is ∙ simple_and_free)
