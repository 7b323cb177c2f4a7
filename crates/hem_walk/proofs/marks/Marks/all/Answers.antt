use Rattle.hem_walk.proofs.Bits.{all_in}
use Rattle.hem_walk.proofs.marks.Marks.all.Goals as goal

pub returns-clause-all : goal.returns-clause-all
returns-clause-all c = all_in c.args.count _ (c.in_ok-words.ensures.items_if_clones_equal (λ y same. same))
