-- The form of an answer.
use Rattle.std.specs.Prelude.{Bool, ℕ, List, if◌then◌else◌}
use Rattle.hem_json.specs.Form.{json_text}
use Rattle.hem_cli.specs.Code.{code_of}
use Rattle.hem_cli.specs.declared.status.Status.{Status}

-- a plain text as it is written: itself, or where JSON is asked for its JSON form with the number of the status
abbrev pub in_form : Bool → Status → List ℕ → List ℕ
in_form json status plain = if json then json_text plain (code_of status) else plain
