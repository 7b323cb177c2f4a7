-- The jobs, and the words that ask for them and for the form of their answers.
use Rattle.std.specs.Prelude.{◌≡◌, ℕ, ◌≤◌, true, List, length, Option, Some, None, codes, ⊤}
use Rattle.std.specs.Char.{is_ascii_digit}
use Rattle.std.specs.List.{list_all}
use Rattle.hem_text.specs.Numbers.{number_of}
use Rattle.hem_words.specs.CommandLine.{Given, AreTaken, given_in}
use Rattle.hem_words.specs.declared.job.Job.{Job}
use Rattle.hem_words.specs.declared.job.Job.TheVariants.{Check, Group, Run, Walk, Emit, Play, Make}
use Rattle.hem_words.specs.declared.job.Asked.{Asked}

-- one to twenty digits that write the number n, of at most `most`
pub record IsNumber (most : ℕ) (text : List ℕ) (n : ℕ) : Type 0 where
  pub some : 1 ≤ length text
  pub few : length text ≤ 20
  pub digits : list_all is_ascii_digit text ≡ true
  pub value : n ≡ number_of text
  pub within : n ≤ most

-- a count: a number from 1 to 100000
abbrev pub IsCount : List ℕ → ℕ → Type 0
IsCount text n = IsNumber 100000 text n × (1 ≤ n)

-- the count that may be there
abbrev pub IsCountOf : Option (List ℕ) → Option ℕ → Type 0
IsCountOf None None = ⊤
IsCountOf (Some text) (Some n) = IsCount text n
IsCountOf _ _ = ⊥

-- how many firings a play makes at most: the count, and 100000 where none is there
abbrev pub IsMostOf : Option (List ℕ) → ℕ → Type 0
IsMostOf None n = n ≡ 100000
IsMostOf (Some text) n = IsCount text n

-- a seed of 64 bits, and 1 where none is there
abbrev pub IsSeedOf : Option (List ℕ) → ℕ → Type 0
IsSeedOf None n = n ≡ 1
IsSeedOf (Some text) n = IsNumber 18446744073709551615 text n

-- the texts ask for a job: neither option goes with `check`, `group` and `emit`, both may with `walk`, a count alone with `play`, `make` wants a count, and `run` one where there is a seed
abbrev pub IsJobOf : Given → Job → Type 0
IsJobOf g Check = (g.job ≡ Some (codes "check")) × (g.count ≡ None) × (g.seed ≡ None)
IsJobOf g Group = (g.job ≡ Some (codes "group")) × (g.count ≡ None) × (g.seed ≡ None)
IsJobOf g (Run count seed) = (g.job ≡ Some (codes "run")) × IsCountOf g.count count × IsSeedOf g.seed seed × (g.count ≡ None → g.seed ≡ None)
IsJobOf g (Walk count seed) = (g.job ≡ Some (codes "walk")) × IsCountOf g.count count × IsSeedOf g.seed seed
IsJobOf g Emit = (g.job ≡ Some (codes "emit")) × (g.count ≡ None) × (g.seed ≡ None)
IsJobOf g (Play most) = (g.job ≡ Some (codes "play")) × IsMostOf g.count most × (g.seed ≡ None)
IsJobOf g (Make count seed) = (g.job ≡ Some (codes "make")) × IsCountOf g.count (Some count) × IsSeedOf g.seed seed

-- the words ask for a job, and by the flag for its answer in JSON form
abbrev pub AsksFor : List (List ℕ) → Asked → Type 0
AsksFor words asked = AreTaken words × IsJobOf (given_in words) asked.job × (asked.json ≡ (given_in words).json)

-- the words that are good: those that ask for something
abbrev pub IsGood : List (List ℕ) → Type 0
IsGood words = (asked : Asked) × AsksFor words asked
