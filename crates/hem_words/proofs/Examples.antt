-- Words that are written out, and what the command line makes of them.
use Rattle.std.proofs.Common.{◌≡◌, refl, List, [], ◌∷◌, Option, Some, None, Bool, true, false, codes}
use Rattle.clap.specs.Walk.{is_empty}
use Rattle.clap.specs.Words.{Text, fault_of}
use Rattle.clap.proofs.OnLiterals.{clap_on_literals}
use Rattle.hem_words.specs.CommandLine.{command_line, Given, given_in}

-- words with what they give, where they are taken
abbrev reading : List Text → Option Given
reading words = elim (is_empty (fault_of command_line words)) [ true ↦ Some (given_in words) | false ↦ None ]

abbrev gives : Text → Option Text → Option Text → Bool → Option Given
gives job count seed json = Some (record { job = Some job; count = count; seed = seed; json = json })

-- words, and what they are read as
pub record TakenWords : Type 0 where
  job : reading (codes "group" ∷ []) ≡ gives (codes "group") None None false
  behind_two_hyphens : reading (codes "--" ∷ codes "group" ∷ []) ≡ gives (codes "group") None None false
  options_behind : reading (codes "walk" ∷ codes "--count" ∷ codes "5" ∷ codes "--seed=7" ∷ []) ≡ gives (codes "walk") (Some (codes "5")) (Some (codes "7")) false
  options_before : reading (codes "--seed" ∷ codes "7" ∷ codes "--count=5" ∷ codes "walk" ∷ []) ≡ gives (codes "walk") (Some (codes "5")) (Some (codes "7")) false
  no_value : reading (codes "walk" ∷ codes "--count=" ∷ []) ≡ gives (codes "walk") (Some []) None false
  nothing : reading [] ≡ None
  two_jobs : reading (codes "walk" ∷ codes "walk" ∷ []) ≡ None
  option_twice : reading (codes "walk" ∷ codes "--count" ∷ codes "5" ∷ codes "--count=5" ∷ []) ≡ None
  option_cut_short : reading (codes "walk" ∷ codes "--count" ∷ []) ≡ None
  option_as_value : reading (codes "walk" ∷ codes "--count" ∷ codes "--seed" ∷ codes "7" ∷ []) ≡ None
  other_option : reading (codes "walk" ∷ codes "--jason" ∷ []) ≡ None
  flag_behind : reading (codes "walk" ∷ codes "--json" ∷ []) ≡ gives (codes "walk") None None true
  flag_before : reading (codes "--json" ∷ codes "run" ∷ codes "--count" ∷ codes "5" ∷ []) ≡ gives (codes "run") (Some (codes "5")) None true
  flag_between : reading (codes "make" ∷ codes "--count" ∷ codes "5" ∷ codes "--json" ∷ codes "--seed=7" ∷ []) ≡ gives (codes "make") (Some (codes "5")) (Some (codes "7")) true
  flag_twice : reading (codes "walk" ∷ codes "--json" ∷ codes "--json" ∷ []) ≡ None
  flag_with_value : reading (codes "walk" ∷ codes "--json=true" ∷ []) ≡ None
  flag_as_value : reading (codes "walk" ∷ codes "--count" ∷ codes "--json" ∷ []) ≡ None
  flag_behind_two_hyphens : reading (codes "walk" ∷ codes "--" ∷ codes "--json" ∷ []) ≡ None
  front_of_the_flag : reading (codes "walk" ∷ codes "--js" ∷ []) ≡ None
  front_of_an_option : reading (codes "walk" ∷ codes "--cou" ∷ codes "5" ∷ []) ≡ None
  help : reading (codes "-h" ∷ []) ≡ None
  long_help : reading (codes "--help" ∷ []) ≡ None
  version : reading (codes "--version" ∷ []) ≡ None

pub taken_words : TakenWords
unfolding clap_on_literals
taken_words = record {
  job = refl;
  behind_two_hyphens = refl;
  options_behind = refl;
  options_before = refl;
  no_value = refl;
  nothing = refl;
  two_jobs = refl;
  option_twice = refl;
  option_cut_short = refl;
  option_as_value = refl;
  other_option = refl;
  flag_behind = refl;
  flag_before = refl;
  flag_between = refl;
  flag_twice = refl;
  flag_with_value = refl;
  flag_as_value = refl;
  flag_behind_two_hyphens = refl;
  front_of_the_flag = refl;
  front_of_an_option = refl;
  help = refl;
  long_help = refl;
  version = refl;
}
