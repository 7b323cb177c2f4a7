use Rattle.std.proofs.Common.{◌∙◌, ap}
use Rattle.std.specs.List.{list_all}
use Rattle.hem_module.specs.Step.{test_holds}
use Rattle.hem_module.specs.Places.{test_of}
use Rattle.hem_module.specs.States.{held_of}
use Rattle.hem_module.proofs.Lists.{all_map}
use Rattle.hem_module.proofs.plan.is_done.Goals as goal

pub returns : goal.returns
returns c =
    c.all_hold.ensures
    ∙ ap (list_all (λ t. test_holds (held_of c.args.s.now) (test_of t))) c.as_slice.ensures
    ∙ all_map (test_holds (held_of c.args.s.now)) test_of c.args.action.now.cond
