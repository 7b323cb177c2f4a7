-- The first line of a text.
use Rattle.std.proofs.Common.{◌≡◌, ◌≢◌, ◌∙◌, refl, ap, arith, ℕ, suc, ◌<◌, false, ◌++◌, List, [], ◌∷◌, length, get_or}
use Rattle.std.proofs.lemmas.Bool.Decides.{nat_tests}
use Rattle.std.specs.Prelude.{◌==◌}
use Rattle.std.specs.List.{onto_first}
use Rattle.hem_json.specs.Form.{lines_of}

-- a byte that is no line feed
no_feed : (byte : ℕ) (rest : List ℕ) → byte ≢ 10 → lines_of (byte ∷ rest) ≡ onto_first byte (lines_of rest)
no_feed byte rest other = let is : (byte == 10) ≡ false = grind (arith, nat_tests) in rw is refl

-- where a line feed stands behind some others, these are the first line
pub line_cut : (line after : List ℕ) → ((i : ℕ) → i < length line → get_or line i 0 ≢ 10) → lines_of (line ++ 10 ∷ after) ≡ line ∷ lines_of after
line_cut [] after none = refl
line_cut (byte ∷ line) after none =
    no_feed byte (line ++ 10 ∷ after) (none 0 (omega arith)) ∙ ap (onto_first byte) (line_cut line after (λ i less. none (suc i) (omega (arith, less))))

-- and where there is no line feed the text is one line
pub line_whole : (line : List ℕ) → 0 < length line → ((i : ℕ) → i < length line → get_or line i 0 ≢ 10) → lines_of line ≡ line ∷ []
line_whole [] some none = absurd (omega (arith, some))
line_whole (byte ∷ []) some none = no_feed byte [] (none 0 (omega arith))
line_whole (byte ∷ next ∷ line) some none =
    no_feed byte (next ∷ line) (none 0 (omega arith)) ∙ ap (onto_first byte) (line_whole (next ∷ line) (omega arith) (λ i less. none (suc i) (omega (arith, less))))
