use Rattle.hem_fire.proofs.view.view_of.Goals as goal

pub returns-in-Kids : goal.returns-in-Kids
returns-in-Kids c = rw c.in-Kids.is (c.view_of_responses.ensures c.in-Kids.field-0 c.args.me)
