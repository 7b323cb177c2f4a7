use Rattle.std.proofs.Common.{◌∙◌, ap, arith}
use Rattle.std.proofs.lemmas.Str.Pattern.{split_parts}
use Rattle.hem_json.specs.Form.{lines_of}
use Rattle.hem_json.proofs.Lines.{line_cut, line_whole}
use Rattle.hem_json.proofs.form.first_line.Goals as goal

pub returns-in-Some-clause-first : goal.returns-in-Some-clause-first
returns-in-Some-clause-first c = λ some.
    let parts = rw c.in-Some.is at (split_parts 10 c.args.text.now c.split_once.result c.split_once.ensures.cases (omega arith)) in
    ap lines_of parts.0 ∙ line_cut c.in-Some.line.now c.in-Some.after.now parts.1

pub returns-in-None-clause-first : goal.returns-in-None-clause-first
returns-in-None-clause-first c = λ some.
    line_whole c.args.text.now some (rw c.in-None.is at (split_parts 10 c.args.text.now c.split_once.result c.split_once.ensures.cases (omega arith)))
