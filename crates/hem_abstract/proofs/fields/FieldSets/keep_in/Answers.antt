use Rattle.std.proofs.Common.{sym, ◌∙◌}
use Rattle.std.proofs.lemmas.Option.{slice_get_within}
use Rattle.hem_abstract.proofs.fields.FieldSets.keep_in.Goals as goal

pub put-requires : goal.put-requires
put-requires c = slice_get_within c.args.self.now.sets c.args.field c.in-Some.old (sym c.at.ensures ∙ c.in-Some.is)
