-- A crew makes few firings.
use Rattle.std.proofs.Common.{◌≡◌, refl, ◌∙◌, subst, ℕ, ◌+◌, ◌*◌, ◌≤◌, arith, List, map, length}
use Rattle.std.proofs.lemmas.List.{length-map}
use Rattle.std.proofs.lemmas.List.Sorted.{length_permutation}
use Rattle.hem_base.specs.declared.ids.Firing.{Firing}
use Rattle.hem_base.specs.declared.ids.Stamped.{Stamped}
use Rattle.hem_syntax.specs.Protocol.{Protocol}
use Rattle.hem_syntax.specs.Lawful.{IsProtocol}
use Rattle.hem_rows.specs.Rows.{AllHaveTemplates}
use Rattle.hem_tree.specs.Tree.{Tree, IsTree}
use Rattle.hem_work.specs.Work.{Work}
use Rattle.hem_system.specs.State.{start}
use Rattle.hem_system.specs.Ended.{Within}
use Rattle.hem_bound.specs.Starts.{IsWithin, requests_in}
use Rattle.hem_bound.proofs.Selfs.{firings_few}
use Rattle.hem_walk.proofs.Counting.{counts_same}
use Rattle.hem_parts.specs.Merged.{in_order}
use Rattle.hem_parts.proofs.Order.{in-order-sorted, in-order-permutes}
use Rattle.hem_merge.specs.Journals.{all_of, IsMerged}
use Rattle.hem_worker.specs.Workers.{Worker}
use Rattle.hem_crew.specs.Crew.{IsCrew, journals_of}
use Rattle.hem_crew.specs.Knowing.{KnowAll, OnEdges}
use Rattle.hem_crew.specs.Held.{held}
use Rattle.hem_crew.specs.Rounds.{all_journaled}
use Rattle.hem_crew.proofs.ByPlace.{journals-count}
use Rattle.hem_crew.proofs.Merging.{start-lines, crew-runs, crew-within}

-- all journals in order
in-order-merged : (journals : List (List Stamped)) → IsMerged journals (map (λ s. s.firing) (in_order (λ s. s) (all_of journals)))
in-order-merged journals =
    record { stamped = in_order (λ s. s) (all_of journals); same = in-order-permutes (λ s. s) (all_of journals); sorted = in-order-sorted (λ s. s) (all_of journals); firings = refl }

within-few : (p : Protocol) (tree : Tree) (h : List Firing) (k : ℕ) → Within p tree h k → IsWithin p tree k h
within-few p tree h k within = record { few = λ l o. (let same = counts_same p tree h l o in let few = within l o in omega (arith, same, few)) }

pub crew-few : (p : Protocol) (tree : Tree) (work : Work) (slots : ℕ) (crew : List Worker) → IsProtocol p → IsTree tree → AllHaveTemplates p → IsCrew p tree (start p tree work) work.self_count slots crew → OnEdges tree crew KnowAll → all_journaled crew ≤ 3 * length tree * (requests_in tree work + work.lines * (length tree * work.self_count))
crew-few p tree work slots crew lawful law templates is knows =
    let all = all_of (journals_of work.lines crew) in
    let h : List Firing = map (λ s. s.firing) (in_order (λ s. s) all) in
    let merge = in-order-merged (journals_of work.lines crew) in
    let within = within-few p tree h work.self_count (crew-within p tree work slots crew h law is knows merge) in
    let few = firings_few p tree work work.self_count h (held tree crew (start p tree work)) law templates within (crew-runs p tree work slots crew h law is knows merge) in
    let count : length h ≡ all_journaled crew =
    length-map (in_order (λ s. s) all) (λ (s : Stamped). s.firing)
    ∙ length_permutation all (in_order (λ s. s) all) (in-order-permutes (λ s. s) all)
    ∙ journals-count work.lines crew (λ o w at. (is.each o w at).lines ∙ start-lines p tree work) in
    subst (λ n. n ≤ 3 * length tree * (requests_in tree work + work.lines * (length tree * work.self_count))) count few
