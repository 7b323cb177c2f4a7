use Rattle.std.specs.Str.{bytes_eq}
use Rattle.hem_syntax.proofs.Tables.{has_place}
use Rattle.hem_syntax.proofs.names.Named.has.Goals as goal

pub returns : goal.returns
returns g c = rw (c.is_some.ensures, c.place.ensures) (has_place (λ n. bytes_eq n.0 c.args.text.now) c.args.self.now)
