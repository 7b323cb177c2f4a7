use Rattle.std.proofs.Common.{◌≡◌, ◌∙◌, ◌++◌, ◌∷◌, [], sym, ap, subst, false}
use Rattle.hem_base.specs.Names.{IsName}
use Rattle.hem_syntax.specs.Names.{AreNamed, is_among}
use Rattle.hem_syntax.proofs.Tables.{insert_new, all_push}
use Rattle.hem_syntax.proofs.names.Named.push.Goals as goal

pub invariant_of-self-2 : goal.invariant_of-self-2
invariant_of-self-2 g c =
    let new : is_among c.self.inside.entries.entries c.args.name ≡ false = ap (λ l. is_among l c.args.name) c.self.view_is ∙ c.requires in
    let pushed = c.in_ok-insert.ensures.entries ∙ insert_new c.self.inside.entries.entries c.args.name c.args.value new in
    subst AreNamed (sym pushed) (all_push (λ n. IsName n.0) c.self.inside.entries.entries (c.args.name, c.args.value) c.self.invariant c.as_bytes-bytes.ensures.name)

pub returns-clause-ok : goal.returns-clause-ok
returns-clause-ok g c =
    let new : is_among c.self.inside.entries.entries c.args.name ≡ false = ap (λ l. is_among l c.args.name) c.self.view_is ∙ c.requires in
    c.in_ok-insert.ensures.entries ∙ insert_new c.self.inside.entries.entries c.args.name c.args.value new ∙ ap (λ l. l ++ (c.args.name, c.args.value) ∷ []) c.self.view_is
