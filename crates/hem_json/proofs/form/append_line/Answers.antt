use Rattle.std.proofs.Common.{◌≡◌, ◌∙◌, subst, string_bytes, ◌++◌}
use Rattle.std.specs.Prelude.{OnOk}
use Rattle.serde_json.proofs.FreeTexts.{text_of_str}
use Rattle.hem_json.proofs.form.append_line.Goals as goal

pub returns-in-Ok : goal.returns-in-Ok
returns-in-Ok c =
    let events = c.in-Ok.ensures.events in
    subst (λ string. OnOk c.text.result (c.text.new.self ≡ c.args.out.now ++ string))
    (c.deref.ensures ∙ text_of_str c.args.line.now events.0 (string_bytes c.in-Ok.string) events.1 events.2) c.text.ensures.ok
