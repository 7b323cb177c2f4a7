-- The JSON form of a text.
use Rattle.std.specs.Prelude.{ℕ, List, [], ◌∷◌, ◌++◌, ◌==◌, if◌then◌else◌, codes, decimal}
use Rattle.std.specs.List.{onto_first, join_by}
use Rattle.json.specs.Print.{quoted}

-- the lines of a text, without their line feeds: a last piece that has none is a line too
abbrev pub lines_of : List ℕ → List (List ℕ)
lines_of [] = []
lines_of (byte ∷ rest) = if byte == 10 then [] ∷ lines_of rest else onto_first byte (lines_of rest)

-- an object as compact text: the array of the text's lines, and the status
abbrev pub json_text : List ℕ → ℕ → List ℕ
json_text text status = codes "{\"lines\":[" ++ join_by quoted (codes ",") (lines_of text) ++ codes "],\"status\":" ++ decimal status ++ codes "}\n"
