-- What a merge of the journals of tied parts is.
use Rattle.std.proofs.Common.{◌≡◌, sym, ap, ◌∙◌, subst, List, map, length}
use Rattle.std.specs.Prelude.{IsPermutation}
use Rattle.hem_base.specs.declared.ids.Firing.{Firing}
use Rattle.hem_base.specs.declared.ids.Stamped.{Stamped}
use Rattle.hem_syntax.specs.Protocol.{Protocol}
use Rattle.hem_tree.specs.Tree.{Tree}
use Rattle.hem_system.specs.State.{State}
use Rattle.hem_law.specs.Printed.{IsFresh}
use Rattle.hem_parts.specs.Parts.{Parts}
use Rattle.hem_parts.specs.Tied.{AreTied}
use Rattle.hem_parts.specs.Merged.{stamped_of, all_made, journal}
use Rattle.hem_parts.proofs.SortedOnce.{sorted-journal}
use Rattle.hem_merge.specs.Journals.{all_of, IsMerged}

pub merged-journal : (journals : List (List Stamped)) (history : List Firing) (p : Protocol) (tree : Tree) (old : State) (parts : Parts) (new : State) → IsMerged journals history → IsFresh tree old → AreTied p tree old parts new → all_of journals ≡ map stamped_of (all_made (length old) (length tree) parts) → history ≡ map (λ s. s.firing) (journal (length old) (length tree) parts)
merged-journal journals history p tree old parts new is fresh tied same =
    sym is.firings ∙ ap (map (λ (s : Stamped). s.firing)) (sorted-journal p tree old parts new is.stamped fresh tied (subst (λ ss. IsPermutation ss is.stamped) same is.same) is.sorted)
