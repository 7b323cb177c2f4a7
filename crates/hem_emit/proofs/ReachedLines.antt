-- Each line of a state that a history reaches has an image.
use Rattle.std.proofs.Common.{◌≡◌, ap, sym, ◌∙◌, ℕ, List, [], Option, Some}
use Rattle.std.specs.Prelude.{slice_get, option_map, option_and_then}
use Rattle.std.specs.Option.{option_map_or}
use Rattle.hem_base.specs.declared.ids.Firing.{Firing}
use Rattle.hem_syntax.specs.Protocol.{Protocol}
use Rattle.hem_syntax.specs.Lawful.{IsProtocol}
use Rattle.hem_tree.specs.Tree.{Tree, IsTree}
use Rattle.hem_work.specs.Work.{Work}
use Rattle.hem_work.specs.Lawful.{IsLawfulWork}
use Rattle.hem_system.specs.State.{Cell, State, Line, list_of, cell_at, start, Runs}
use Rattle.hem_invariants.specs.Formed.{IsFormed}
use Rattle.hem_invariants.specs.Missing.{MissingAreEmpty}
use Rattle.hem_invariants.proofs.Starts.{start-formed}
use Rattle.hem_invariants.proofs.StatesKept.{run-formed}
use Rattle.hem_invariants.proofs.Missing.{start-missing, run-missing}
use Rattle.hem_emit.specs.Formed.{IsLine}

-- a line of a state that is formed, in which what objects lack is empty
line_is : (p : Protocol) (tree : Tree) (s : State) (l : ℕ) (line : Line) → IsFormed p tree s → MissingAreEmpty tree s → slice_get s l ≡ Some line → IsLine p tree line
line_is p tree s l line formed missing at =
    record {
      objects = formed.objects l line at;
      locals = λ o kind local is there. formed.locals l o kind local is (ap (option_map (λ (c : Cell). c.local)) (cell o) ∙ there);
      missing = λ o kind lane is lacks. sym (ap (λ (c : Option Cell). option_map_or (λ cell. list_of cell lane) c []) (cell o)) ∙ missing l o kind lane is lacks;
    }
  where
    cell : (o : ℕ) → cell_at s l o ≡ slice_get line o
    cell o = ap (option_and_then (λ line. slice_get line o)) at

pub reached_lines : (p : Protocol) (tree : Tree) (work : Work) (h : List Firing) (now : State) (l : ℕ) (line : Line) → IsProtocol p → IsTree tree → IsLawfulWork p tree work → Runs p tree (start p tree work) h now → slice_get now l ≡ Some line → IsLine p tree line
reached_lines p tree work h now l line lawful tree_is work_is runs at =
    let formed = start-formed p tree work lawful tree_is work_is in
    line_is p tree now l line
    (run-formed p tree (start p tree work) h now lawful formed runs.leads)
    (run-missing p tree (start p tree work) h now lawful tree_is formed (start-missing p tree work work_is) runs.leads)
    at
