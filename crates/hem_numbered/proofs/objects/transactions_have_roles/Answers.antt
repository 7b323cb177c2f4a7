use Rattle.hem_numbered.proofs.Joined.{history_roles, normal_roles}
use Rattle.hem_numbered.proofs.objects.transactions_have_roles.Goals as goal

pub returns : goal.returns
returns c = record { made = history_roles; normal = normal_roles }
