use Rattle.std.proofs.Common.{get_or, sym, ap, ◌∙◌, []}
use Rattle.std.specs.Option.{option_copied}
use Rattle.std.proofs.lemmas.Option.{get_or_from_slice_get}
use Rattle.hem_work.proofs.Tables.{none_there}
use Rattle.hem_work.proofs.work.Work.requests.Goals as goal

pub returns-in-None : goal.returns-in-None
returns-in-None c =
    rw (← c.self.view_is)
    (sym (ap (λ row. get_or row c.args.leaf.0 []) (none_there c.self.inside.requests c.args.line.0 [] (sym c.get.ensures ∙ ap option_copied c.in-None.is))))

pub returns-in-None-get : goal.returns-in-None-get
returns-in-None-get c =
    rw (← c.self.view_is)
    (sym (ap (λ row. get_or row c.args.leaf.0 []) (get_or_from_slice_get c.self.inside.requests c.args.line.0 c.in-Some.row.now [] (sym c.get.ensures ∙ ap option_copied c.in-Some.is)) ∙ none_there c.in-Some.row.now c.args.leaf.0 [] (sym c.get-in-Some.ensures ∙ ap option_copied c.in-None-get.is)))
