use Rattle.hem_abstract.specs.Partners.{alone}
use Rattle.hem_abstract.specs.Stable.{abstract_states}
use Rattle.hem_abstract.proofs.Breaches.{told-some, told-none}
use Rattle.hem_abstract.proofs.stability.breach_alone.Goals as goal

pub returns-in-Some : goal.returns-in-Some
returns-in-Some c = told-some (abstract_states c.args.p.now c.args.kind) c.args.up.now (alone c.args.down.now) c.args.up.now.name c.alone.result c.least_state.result c.in-Some.at c.alone.ensures c.least_state.ensures c.in-Some.is

pub returns-in-None : goal.returns-in-None
returns-in-None c = told-none (abstract_states c.args.p.now c.args.kind) c.args.up.now (alone c.args.down.now) c.args.up.now.name c.alone.result c.least_state.result c.alone.ensures c.least_state.ensures c.in-None.is
