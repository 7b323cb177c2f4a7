use Rattle.hem_object.proofs.local.Local.targets.Goals as goal

pub returns-in-Others : goal.returns-in-Others
returns-in-Others c = rw c.in-Others.is c.others_in.ensures
