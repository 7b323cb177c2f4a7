-- Journals, and what their merge is.
use Rattle.std.specs.Prelude.{◌≡◌, List, map, flat_map, IsPermutation}
use Rattle.hem_base.specs.declared.ids.Firing.{Firing}
use Rattle.hem_base.specs.declared.ids.Stamped.{Stamped}
use Rattle.hem_parts.specs.Merged.{IsSorted}

-- the stamped firings of all journals, one journal after another
abbrev pub all_of : List (List Stamped) → List Stamped
all_of journals = flat_map (λ journal. journal) journals

-- the history has the firings of all journals, each as often, in the order of stamp, line and object
pub record IsMerged (journals : List (List Stamped)) (history : List Firing) : Type 0 where
  pub stamped : List Stamped
  pub same : IsPermutation (all_of journals) stamped
  pub sorted : IsSorted (λ s. s) stamped
  pub firings : map (λ s. s.firing) stamped ≡ history
