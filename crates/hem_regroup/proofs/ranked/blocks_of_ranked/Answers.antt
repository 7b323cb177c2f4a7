use Rattle.std.proofs.Common.{◌∙◌, sym, subst, ℕ, List, [], ◌∷◌, length}
use Rattle.hem_tree.specs.Tree.{below}
use Rattle.hem_regroup.specs.declared.numbered.Numbered.{Numbered}
use Rattle.hem_regroup.specs.Members.{IsBelow}
use Rattle.hem_regroup.specs.Normal.{normal_members, AreBelow}
use Rattle.hem_regroup.specs.Starts.{AreAmong}
use Rattle.hem_regroup.proofs.OverTurns.{below_whole}
use Rattle.hem_regroup.proofs.RankNumbers.{in_below, stands_below}
use Rattle.hem_regroup.proofs.Started.{normal-whole}
use Rattle.hem_regroup.proofs.ranked.blocks_of_ranked.Goals as goal

among_below : (count : ℕ) (xs : List Numbered) → AreBelow count xs → AreAmong xs (below count)
among_below count [] low = tt
among_below count (x ∷ xs) low = (stands_below count x.number low.0, among_below count xs low.1)

pub blocks_in_order-requires : goal.blocks_in_order-requires
blocks_in_order-requires c =
    let count = length c.args.starts.now in
    let all = c.args.all.now in
    let among = among_below count all c.requires in
    subst (λ ms. IsBelow count ms) (sym (c.as_slice.ensures.value ∙ c.in_ok-members.ensures))
    (below_whole count (normal_members all) (below count) (in_below count) (normal-whole all 0 all (below count) among among))
