use Rattle.std.proofs.Common.{◌∙◌, ap}
use Rattle.std.specs.List.{list_any}
use Rattle.hem_module.specs.Step.{test_holds}
use Rattle.hem_module.specs.Places.{test_of}
use Rattle.hem_module.specs.States.{held_of}
use Rattle.hem_module.proofs.Lists.{any_map}
use Rattle.hem_module.proofs.step.clause_holds.Goals as goal

pub returns : goal.returns
returns c =
    c.any_holds.ensures
    ∙ ap (list_any (λ t. test_holds (held_of c.args.s.now) (test_of t))) c.as_slice.ensures
    ∙ any_map (test_holds (held_of c.args.s.now)) test_of c.args.clause.now.atoms
