-- Quiet states.
use Rattle.std.proofs.Common.{◌≡◌, refl, List, [], ◌∷◌}
use Rattle.std.specs.List.{list_all}
use Rattle.std.proofs.lemmas.List.Folds.{list_all-map}
use Rattle.hem_system.specs.declared.cell.Cell.{Cell as Kept}
use Rattle.hem_system.specs.Cells.{seen, state_of}
use Rattle.hem_system.specs.Quiet.{is_idle, is_quiet}

-- a state is quiet where all that is kept is idle
pub quiet-state : (lines : List (List Kept)) → is_quiet (state_of lines) ≡ list_all (λ line. list_all (λ cell. is_idle (seen cell)) line) lines
quiet-state [] = refl
quiet-state (line ∷ lines) = rw (list_all-map is_idle seen line, quiet-state lines) refl
