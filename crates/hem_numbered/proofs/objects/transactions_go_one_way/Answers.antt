use Rattle.hem_numbered.proofs.OneWay.{one_way}
use Rattle.hem_numbered.proofs.objects.transactions_go_one_way.Goals as goal

pub returns : goal.returns
returns c = one_way
