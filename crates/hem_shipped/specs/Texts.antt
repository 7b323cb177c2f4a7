-- The shipped protocols: which text each name stands for.
use Rattle.std.specs.Prelude.{ℕ, List, [], ◌∷◌, ◌++◌, Option, Some, None, codes, if◌then◌else◌}
use Rattle.std.specs.Str.{bytes_eq}
use Rattle.hem_shipped.specs.MsiInclusive.{msi_inclusive_lines}
use Rattle.hem_shipped.specs.MesiInclusive.{mesi_inclusive_lines}
use Rattle.hem_shipped.specs.MsiNoninclusive.{msi_noninclusive_lines}
use Rattle.hem_shipped.specs.MesiNoninclusive.{mesi_noninclusive_lines}

-- the text of these lines, each with its end
unfoldable pub text_of_lines : List (List ℕ) → List ℕ
text_of_lines [] = []
text_of_lines (line ∷ rest) = line ++ codes "\n" ++ text_of_lines rest

-- the text of the shipped protocol of that name, where there is one
abbrev pub text_of : List ℕ → Option (List ℕ)
text_of name =
    if bytes_eq name (codes "msi_inclusive") then Some (text_of_lines msi_inclusive_lines)
    else if bytes_eq name (codes "mesi_inclusive") then Some (text_of_lines mesi_inclusive_lines)
    else if bytes_eq name (codes "msi_noninclusive") then Some (text_of_lines msi_noninclusive_lines)
    else if bytes_eq name (codes "mesi_noninclusive") then Some (text_of_lines mesi_noninclusive_lines)
    else None
