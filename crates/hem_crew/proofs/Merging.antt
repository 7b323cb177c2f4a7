-- A crew's journals, merged, are a history to the state that it holds, within the bound on self firings.
use Rattle.std.proofs.Common.{◌≡◌, refl, ap, sym, ◌∙◌, subst, ℕ, ◌+◌, arith, Bool, true, false, ◌&&◌, cond, List, [], ◌∷◌, map, length}
use Rattle.std.specs.Prelude.{IsPermutation}
use Rattle.std.specs.Option.{option_map_or}
use Rattle.std.proofs.lemmas.List.{length-map}
use Rattle.hem_base.specs.declared.ids.Firing.{Firing}
use Rattle.hem_base.specs.declared.ids.Stamped.{Stamped}
use Rattle.hem_syntax.specs.Protocol.{Protocol}
use Rattle.hem_tree.specs.Tree.{Tree, IsTree, below}
use Rattle.hem_tree.proofs.Lawful.{length_below}
use Rattle.hem_work.specs.Work.{Work, requests_of}
use Rattle.hem_system.specs.State.{State, run, Runs, first_line, start}
use Rattle.hem_system.specs.Ended.{is_self, is_at, self_firings, Within}
use Rattle.hem_law.specs.Printed.{IsFresh}
use Rattle.hem_law.proofs.NormalRun.{start-fresh}
use Rattle.hem_bound.proofs.States.{count_more}
use Rattle.hem_parts.specs.Parts.{Made}
use Rattle.hem_parts.specs.Merged.{stamped_of, merged, journal, made_at}
use Rattle.hem_parts.proofs.AllRun.{tied-merges}
use Rattle.hem_parts.proofs.Restamped.{journal-merged, journal-runs}
use Rattle.hem_parts.proofs.SortedOnce.{sorted-journal}
use Rattle.hem_merge.specs.Journals.{IsMerged}
use Rattle.hem_worker.specs.Workers.{Worker}
use Rattle.hem_crew.specs.Crew.{line_of, IsCrew, journals_of}
use Rattle.hem_crew.specs.Knowing.{KnowAll, OnEdges}
use Rattle.hem_crew.specs.Held.{held}
use Rattle.hem_crew.proofs.ByPlace.{journals-made}
use Rattle.hem_crew.proofs.PartAt.{HasParts, parts_of, crew-parts}
use Rattle.hem_crew.proofs.Tied.{crew-tied}

-- the self firings of events at a place are those of the events there
abbrev is_self_there : Protocol → Tree → ℕ → ℕ → Firing → Bool
is_self_there p tree l o f = is_at l o f && is_self p tree f

abbrev selfs_in : Protocol → Tree → ℕ → ℕ → List Made → ℕ
selfs_in p tree l o xs = self_firings p tree (map (λ s. s.firing) (map stamped_of xs)) l o

selfs-more : (p : Protocol) (tree : Tree) (l o : ℕ) (x : Made) (xs : List Made) → selfs_in p tree l o (x ∷ xs) ≡ cond (is_self_there p tree l o x.event.firing) 1 0 + selfs_in p tree l o xs
selfs-more p tree l o x xs = count_more (is_self_there p tree l o) x.event.firing (map (λ (s : Stamped). s.firing) (map stamped_of xs))

selfs-there : (p : Protocol) (tree : Tree) (l o : ℕ) (xs : List Made) → selfs_in p tree l o xs ≡ selfs_in p tree l o (made_at l o xs)
selfs-there p tree l o [] = refl
selfs-there p tree l o (x ∷ xs) = by_place (is_at l o x.event.firing) refl (selfs-there p tree l o xs)
  where
    by_place : (b : Bool) → is_at l o x.event.firing ≡ b → selfs_in p tree l o xs ≡ selfs_in p tree l o (made_at l o xs) → selfs_in p tree l o (x ∷ xs) ≡ selfs_in p tree l o (cond b (x ∷ made_at l o xs) (made_at l o xs))
    by_place true is rest = selfs-more p tree l o x xs ∙ ap (λ n. cond (is_self_there p tree l o x.event.firing) 1 0 + n) rest ∙ sym (selfs-more p tree l o x (made_at l o xs))
    by_place false is rest =
        let more = selfs-more p tree l o x xs in
        let none : ◌≡◌ {A = ℕ} (cond (is_self_there p tree l o x.event.firing) 1 0) 0 = ap (λ b. cond (b && is_self p tree x.event.firing) 1 0) is in
        omega (arith, more, none, rest)

module _ (p : Protocol) (tree : Tree) (begun : State) (k slots : ℕ) (crew : List Worker) (h : List Firing) (law : IsTree tree) (fresh : IsFresh tree begun) (is : IsCrew p tree begun k slots crew) (knows : OnEdges tree crew KnowAll) (merge : IsMerged (journals_of (length begun) crew) h) (has : HasParts p tree begun k crew) where
  -- the history is the journal of the crew's parts
  history-is : h ≡ map (λ s. s.firing) (journal (length begun) (length tree) (parts_of has))
  history-is =
      sym merge.firings
      ∙ ap (map (λ (s : Stamped). s.firing))
      (sorted-journal p tree begun (parts_of has) (held tree crew begun) merge.stamped fresh (crew-tied p tree begun k slots crew law fresh is knows has)
      (subst (λ ss. IsPermutation ss merge.stamped) (journals-made (length begun) (length tree) crew (parts_of has) is.count (λ l o. (has.at l o).made)) merge.same)
      merge.sorted)

  pub history-runs : Runs p tree begun h (held tree crew begun)
  history-runs = record { leads = ap (run p tree begun) history-is ∙ journal-runs p tree begun (parts_of has) (held tree crew begun) fresh (crew-tied p tree begun k slots crew law fresh is knows has) }

  -- an object's self firings in it are those of its journal
  pub history-selfs : (l o : ℕ) → self_firings p tree h l o ≡ self_firings p tree (map (λ s. s.firing) (option_map_or (λ line. line.journal) (line_of crew l o) [])) l o
  history-selfs l o =
      let all = merged (length begun) (length tree) (parts_of has) in
      let merges = tied-merges p tree begun (parts_of has) (held tree crew begun) fresh (crew-tied p tree begun k slots crew law fresh is knows has) in
      let whole : self_firings p tree h l o ≡ selfs_in p tree l o all = ap (λ h. self_firings p tree h l o) (history-is ∙ ap (map (λ (s : Stamped). s.firing)) (sym (journal-merged (length begun) (length tree) (parts_of has)))) in
      let own : selfs_in p tree l o all ≡ selfs_in p tree l o (parts_of has l o).made = selfs-there p tree l o all ∙ ap (selfs_in p tree l o) (merges.own l o) in
      whole ∙ own ∙ ap (λ ss. self_firings p tree (map (λ (s : Stamped). s.firing) ss) l o) (has.at l o).made

  pub history-within : Within p tree h k
  history-within l o = let same = history-selfs l o in let few = (has.at l o).selfs in omega (arith, same, few)

-- from the start of a work
pub start-lines : (p : Protocol) (tree : Tree) (work : Work) → length (start p tree work) ≡ work.lines
start-lines p tree work = length-map (below work.lines) (λ l. first_line p tree (requests_of work l)) ∙ length_below work.lines

on-lines : (p : Protocol) (tree : Tree) (work : Work) (crew : List Worker) (h : List Firing) → IsMerged (journals_of work.lines crew) h → IsMerged (journals_of (length (start p tree work)) crew) h
on-lines p tree work crew h merge = subst (λ n. IsMerged (journals_of n crew) h) (sym (start-lines p tree work)) merge

pub crew-runs : (p : Protocol) (tree : Tree) (work : Work) (slots : ℕ) (crew : List Worker) (h : List Firing) → IsTree tree → IsCrew p tree (start p tree work) work.self_count slots crew → OnEdges tree crew KnowAll → IsMerged (journals_of work.lines crew) h → Runs p tree (start p tree work) h (held tree crew (start p tree work))
crew-runs p tree work slots crew h law is knows merge =
    history-runs p tree (start p tree work) work.self_count slots crew h law (start-fresh p tree work) is knows (on-lines p tree work crew h merge)
    (crew-parts p tree (start p tree work) work.self_count slots crew (start-fresh p tree work) is)

pub crew-within : (p : Protocol) (tree : Tree) (work : Work) (slots : ℕ) (crew : List Worker) (h : List Firing) → IsTree tree → IsCrew p tree (start p tree work) work.self_count slots crew → OnEdges tree crew KnowAll → IsMerged (journals_of work.lines crew) h → Within p tree h work.self_count
crew-within p tree work slots crew h law is knows merge =
    history-within p tree (start p tree work) work.self_count slots crew h law (start-fresh p tree work) is knows (on-lines p tree work crew h merge)
    (crew-parts p tree (start p tree work) work.self_count slots crew (start-fresh p tree work) is)
