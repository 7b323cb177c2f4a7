-- The most firings that a lawful work may have, in numbers.
use Rattle.std.proofs.Common.{◌≡◌, refl, ap, sym, ◌∙◌, ℕ, zero, suc, ◌+◌, ◌*◌, ◌≤◌, arith, length}
use Rattle.std.specs.Prelude.{sum_by}
use Rattle.std.proofs.lemmas.List.Sums.{sum_by_push}
use Rattle.std.proofs.lemmas.Nat.{mul-le}
use Rattle.hem_syntax.specs.Protocol.{Protocol}
use Rattle.hem_tree.specs.Tree.{Tree, IsLawful, below}
use Rattle.hem_work.specs.Work.{Work, requests_of, requests_in_all}
use Rattle.hem_work.specs.Lawful.{IsLawfulWork}
use Rattle.hem_work.proofs.MadeFits.{own_count}
use Rattle.hem_bound.specs.Sums.{total}
use Rattle.hem_bound.proofs.Sums.{total_same}
use Rattle.hem_bound.specs.Starts.{requests_in}

-- a sum over the numbers below n
total-is : (n : ℕ) (f : ℕ → ℕ) → total n f ≡ sum_by f (below n)
total-is zero f = refl
total-is (suc n) f = ap (λ m. m + f n) (total-is n f) ∙ sym (sum_by_push f (below n) n)

-- the requests of a work are those of all its lists
requests-counted : (p : Protocol) (tree : Tree) (work : Work) → IsLawfulWork p tree work → requests_in tree work ≡ requests_in_all work
requests-counted p tree work lawful =
    total_same work.lines (λ l. total (length tree) (λ o. length (requests_of work l o))) (λ l. sum_by (λ o. length (requests_of work l o)) (below (length tree))) (λ l. total-is (length tree) (λ o. length (requests_of work l o)))
    ∙ total-is work.lines (λ l. sum_by (λ o. length (requests_of work l o)) (below (length tree)))
    ∙ own_count p tree work lawful

-- so there are at most three firings for each of 64 objects and each of 200,000 starts
pub firings-bounded : (p : Protocol) (tree : Tree) (work : Work) → IsLawful tree → IsLawfulWork p tree work → 3 * length tree * (requests_in tree work + work.lines * (length tree * work.self_count)) ≤ 38400000
firings-bounded p tree work law lawful =
    let same = requests-counted p tree work lawful in
    let starts = lawful.limits.few_starts in
    let objects = law.objects in
    let few : requests_in tree work + work.lines * (length tree * work.self_count) ≤ 200000 = at-most (requests_in tree work) (requests_in_all work) work.lines (length tree) work.self_count same starts in
    let many : 3 * length tree ≤ 192 = omega (arith, objects) in
    let both = mul-le (3 * length tree) (requests_in tree work + work.lines * (length tree * work.self_count)) 192 200000 many few in
    omega (arith, both)
  where
    at-most : (r all lines objects k : ℕ) → r ≡ all → all + k * objects * lines ≤ 200000 → r + lines * (objects * k) ≤ 200000
    at-most r all lines objects k same starts = grind arith
