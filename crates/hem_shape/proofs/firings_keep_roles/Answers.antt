use Rattle.hem_tree.proofs.Early.{lawful_early}
use Rattle.hem_shape.proofs.RolesKept.{roles_kept, at_most_three, goes_on_beside}
use Rattle.hem_shape.proofs.Phases.{fired_parent}
use Rattle.hem_shape.proofs.firings_keep_roles.Goals as goal

pub returns : goal.returns
returns c = record { kept = roles_kept; three = at_most_three; beside = goes_on_beside; connected = λ tree at made o earlier lawful phases less some other. fired_parent tree (lawful_early tree lawful) at made o earlier phases less some other }
