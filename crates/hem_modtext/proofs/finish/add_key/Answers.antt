use Rattle.std.proofs.Common.{◌∙◌, ◌++◌, ◌∷◌, [], ap}
use Rattle.std.specs.Prelude.{if◌then◌else◌}
use Rattle.hem_modtext.proofs.Keys.{among_keys}
use Rattle.hem_modtext.proofs.finish.add_key.Goals as goal

pub returns-in-Ok : goal.returns-in-Ok
returns-in-Ok c =
    let keys = c.args.keys.now.keys in
    c.in-Ok.ensures.keys ∙ ap (λ b. if b then keys else keys ++ c.args.key ∷ []) (among_keys c.args.key keys ∙ c.requires.fresh)
