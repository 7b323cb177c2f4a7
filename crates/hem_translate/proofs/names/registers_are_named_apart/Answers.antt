use Rattle.hem_translate.proofs.NamedApart.{registers_once}
use Rattle.hem_translate.proofs.names.registers_are_named_apart.Goals as goal

pub returns : goal.returns
returns c = registers_once c.modules_may_be_written.ensures c.args.tree.now c.objects-objects.ensures.lawful c.args.p.now c.part-lawful.ensures.lawful
