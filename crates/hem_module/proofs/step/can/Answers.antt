use Rattle.std.proofs.Common.{◌∙◌, ap}
use Rattle.std.specs.List.{list_all}
use Rattle.hem_module.specs.Step.{clause_holds}
use Rattle.hem_module.specs.Places.{clause_of}
use Rattle.hem_module.specs.States.{held_of}
use Rattle.hem_module.proofs.Lists.{all_map}
use Rattle.hem_module.proofs.step.can.Goals as goal

pub returns : goal.returns
returns c =
    c.all_hold.ensures
    ∙ ap (list_all (λ x. clause_holds (held_of c.args.s.now) (clause_of x))) c.as_slice.ensures
    ∙ all_map (clause_holds (held_of c.args.s.now)) clause_of c.args.rule.now.clauses
