use Rattle.std.proofs.Common.{◌∙◌, ap}
use Rattle.std.specs.List.{list_any}
use Rattle.hem_modtext.specs.Draft.{Read, same_key}
use Rattle.hem_modtext.proofs.Keys.{among_keys}
use Rattle.hem_modtext.proofs.draft.Draft.stands_already.Goals as goal

pub returns : goal.returns
returns c =
    c.contains.ensures
    ∙ among_keys c.key_with-key.result c.self.inside.keys.keys
    ∙ ap (λ (e : Read). list_any (same_key c.key_with-key.result) e.keys) c.self.view_is
    ∙ ap (λ key. list_any (same_key key) c.args.self.now.keys) c.key_with-key.ensures
