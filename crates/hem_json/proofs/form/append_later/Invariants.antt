use Rattle.std.proofs.Common.{◌≡◌, ◌++◌, flat_map, codes, length}
use denote.Text.{Utf8}
use denote.Shadow.{shadow}
use Rattle.json.specs.Print.{quoted}
use Rattle.hem_json.specs.Form.{lines_of}
use Rattle.hem_json.proofs.form.append_later.Given as goal

-- what is there and the lines that are left are what there was and all the lines
abbrev pub invariant-loop-rest : goal.invariant-loop-rest
invariant-loop-rest l =
    shadow (Utf8 l.rest)
    × (l.out ++ flat_map (λ line. codes "," ++ quoted line) (lines_of l.rest) ≡ l.fn.out ++ flat_map (λ line. codes "," ++ quoted line) (lines_of l.fn.text))

abbrev pub decreases-loop-rest : goal.decreases-loop-rest
decreases-loop-rest l = length l.rest
