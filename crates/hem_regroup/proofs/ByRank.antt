-- The blocks of transactions by rank are those by number.
use Rattle.std.proofs.Common.{◌≡◌, refl, sym, ap, ◌∙◌, subst, ℕ, suc, ◌+◌, ◌<◌, true, cond, List, [], ◌∷◌, map, length, get_or, arith}
use Rattle.std.specs.Prelude.{◌==◌}
use Rattle.std.proofs.lemmas.Bool.{eq-eqb, or_left, or_right}
use Rattle.hem_base.specs.declared.ids.Firing.{Firing}
use Rattle.hem_syntax.specs.Protocol.{Protocol}
use Rattle.hem_tree.specs.Tree.{Tree, below}
use Rattle.hem_law.specs.Orders.{stands_in}
use Rattle.hem_regroup.specs.declared.member.Member.{Member}
use Rattle.hem_regroup.specs.Members.{precedes}
use Rattle.hem_regroup.specs.Turns.{turns}
use Rattle.hem_regroup.specs.Normal.{normal_members, AreBelow}
use Rattle.hem_regroup.specs.Printed.{block_of, blocks_of}
use Rattle.hem_regroup.specs.Ready.{Ascends}
use Rattle.hem_regroup.specs.Starts.{starts}
use Rattle.hem_regroup.specs.Ranks.{firsts, AreRanks, started}
use Rattle.hem_regroup.specs.Numbering.{numbered_at, numbered_by}
use Rattle.hem_regroup.proofs.Grouped.{turns_left}
use Rattle.hem_regroup.proofs.Started.{all_ascend, start-below}
use Rattle.hem_regroup.proofs.Renumbered.{other_number, other_block, blocks-renumbered}
use Rattle.hem_regroup.proofs.RankNumbers.{number_of, same_inside, keeps_apart, in_below, starts_mapped, numbers_mapped}

-- the transactions of numbered firings are those of the numbers
pub starts-firsts : (p : Protocol) (tree : Tree) (k : ℕ) (h : List Firing) (numbers : List ℕ) → length numbers ≡ length h → starts k (numbered_by p tree h numbers) ≡ firsts k numbers
starts-firsts p tree k [] [] same = refl
starts-firsts p tree k [] (n ∷ numbers) same = absurd (omega (arith, same))
starts-firsts p tree k (f ∷ h) [] same = absurd (omega (arith, same))
starts-firsts p tree k (f ∷ h) (n ∷ numbers) same = ap (λ ns. cond (k == n) (n ∷ ns) ns) (starts-firsts p tree (k + 1) h numbers (omega (arith, same)))

-- firings with other numbers
numbered-other : (p : Protocol) (tree : Tree) (f : ℕ → ℕ) (h : List Firing) (ranks : List ℕ) → numbered_by p tree h (map f ranks) ≡ map (other_number f) (numbered_by p tree h ranks)
numbered-other p tree f [] ranks = refl
numbered-other p tree f (x ∷ h) [] = refl
numbered-other p tree f (x ∷ h) (r ∷ ranks) = ap (λ xs. numbered_at p tree x (f r) ∷ xs) (numbered-other p tree f h ranks)

-- blocks of ranks as those of the transactions
all-started : (starts : List ℕ) (bound : ℕ) (ms : List Member) (ts : List ℕ) → ((t : ℕ) → stands_in ts t ≡ true → t < length starts) → map (other_block (number_of starts bound)) (map (block_of ms) ts) ≡ map (started starts) (map (block_of ms) ts)
all-started starts bound ms [] low = refl
all-started starts bound ms (t ∷ ts) low =
    (λ i. record { number = same_inside starts t (bound + t) 0 (low t (or_left (t == t) (stands_in ts t) (eq-eqb t t refl))) i; firings = (block_of ms t).firings }
    ∷ all-started starts bound ms ts (λ u there. low u (or_right (t == u) (stands_in ts u) there)) i)

-- the ranks are below the number of transactions
pub ranks_below : (p : Protocol) (tree : Tree) (h : List Firing) (numbers begun ranks : List ℕ) → length numbers ≡ length h → AreRanks numbers begun ranks → AreBelow (length begun) (numbered_by p tree h ranks)
ranks_below p tree h numbers begun ranks same it = each_below h ranks (λ k inside. it.below k (let size = it.size in omega (arith, inside, size)))
  where
    each_below : (h : List Firing) (ranks : List ℕ) → ((k : ℕ) → k < length ranks → get_or ranks k 0 < length begun) → AreBelow (length begun) (numbered_by p tree h ranks)
    each_below [] ranks low = tt
    each_below (f ∷ h) [] low = tt
    each_below (f ∷ h) (r ∷ ranks) low = (low 0 (omega arith), each_below h ranks (λ k inside. low (suc k) (omega (arith, inside))))

pub ranked_blocks : (p : Protocol) (tree : Tree) (h : List Firing) (numbers begun ranks : List ℕ) → length numbers ≡ length h → AreRanks numbers begun ranks → map (started begun) (blocks_of (normal_members (numbered_by p tree h ranks)) (below (length begun))) ≡ blocks_of (normal_members (numbered_by p tree h numbers)) (starts 0 (numbered_by p tree h numbers))
ranked_blocks p tree h numbers begun ranks same it =
    let all = numbered_by p tree h numbers in
    let by_rank = numbered_by p tree h ranks in
    let left : starts 0 all ≡ begun = starts-firsts p tree 0 h numbers same ∙ sym it.starts_are in
    let bound = length all in
    let f = number_of begun bound in
    let apart = keeps_apart begun bound (subst Ascends left (all_ascend all)) (λ u there. start-below all u (ap (λ ns. stands_in ns u) left ∙ there)) in
    let ms = normal_members by_rank in
    let ts = turns (length (below (length begun))) (precedes ms) (below (length begun)) in
    sym (all-started begun bound ms ts (λ t there. in_below (length begun) t (turns_left (length (below (length begun))) (precedes ms) (below (length begun)) t there)))
    ∙ sym (blocks-renumbered f apart by_rank (below (length begun)))
    ∙ ap (λ ns. blocks_of (normal_members (map (other_number f) by_rank)) ns) (starts_mapped begun bound ∙ sym left)
    ∙ ap (λ xs. blocks_of (normal_members xs) (starts 0 all)) (sym (numbered-other p tree f h ranks) ∙ ap (numbered_by p tree h) (numbers_mapped begun ranks numbers bound it.size it.below it.are))
