-- Inclusive MSI meets the premises of the theorem, and worked histories of it go through.
use Rattle.std.specs.Prelude.{◌≡◌, refl, true, Some}
use Rattle.std.specs.List.{list_all}
use Rattle.std.proofs.Common.{rules, subst}
use Rattle.hem_base.specs.declared.ids.Kind.{Kind}
use Rattle.hem_base.specs.declared.ids.Kind.TheVariants.{Root, Mid, Leaf}
use Rattle.hem_syntax.specs.Lawful.{IsProtocol, IsPart}
use Rattle.hem_syntax.specs.Protocol.{Protocol, part}
use Rattle.hem_check.specs.Discipline.{meets_all, IsDisciplined}
use Rattle.hem_tree.specs.Tree.{IsTree}
use Rattle.hem_system.specs.State.{run}
use Rattle.hem_trace.specs.Blocks.{IsSerial, SameFirings, firings_of}
use Rattle.hem_serial.specs.Histories.{IsHistory, printed_blocks}
use Rattle.hem_serial.proofs.Ordered.{serial, same_firings}
use Rattle.hem_examples.specs.Msi.{msi, root_part, mid_part, leaf_part}
use Rattle.hem_examples.specs.Examples.{Example, start_of}
use Rattle.hem_examples.specs.Serializable.{IsAccepted, GoesThrough}

-- a protocol is disciplined where the rules of each of its three lists meet all clauses
pub whole : (p : Protocol) → list_all (meets_all p Root) p.root.rules ≡ true → list_all (meets_all p Mid) p.mid.rules ≡ true → list_all (meets_all p Leaf) p.leaf.rules ≡ true → IsDisciplined p
whole p root mid leaf = record { whole = by_kind }
  where
    by_kind : (kind : Kind) → list_all (meets_all p kind) (part p kind).rules ≡ true
    by_kind Root = root
    by_kind Mid = mid
    by_kind Leaf = leaf

root_is : IsPart msi root_part
root_is = record { few_fields = search rules; field_names = refl; fields_once = refl; starts = refl; few_rules = search rules; rules = refl; rules_once = refl }

mid_is : IsPart msi mid_part
mid_is = record { few_fields = search rules; field_names = refl; fields_once = refl; starts = refl; few_rules = search rules; rules = refl; rules_once = refl }

leaf_is : IsPart msi leaf_part
leaf_is = record { few_fields = search rules; field_names = refl; fields_once = refl; starts = refl; few_rules = search rules; rules = refl; rules_once = refl }

protocol : IsProtocol msi
protocol = record {
  name = refl;
  some_statuses = search rules;
  few_statuses = search rules;
  few_messages = search rules;
  names = refl;
  names_once = refl;
  rule_names = refl;
  rule_names_once = refl;
  rule_names_in_order = refl;
  root = root_is;
  mid = mid_is;
  leaf = leaf_is;
  root_dir = refl;
  mid_dir = refl;
  leaf_dir = refl;
}

pub msi_is : IsAccepted msi
msi_is = record { protocol = protocol; disciplined = whole msi refl refl refl }

-- a worked history goes through the theorem
pub through : (x : Example) → IsTree x.tree → run msi x.tree (start_of msi x) x.history ≡ Some x.end → printed_blocks msi x.tree x.work x.history ≡ x.blocks → GoesThrough x
through x lawful runs printed =
    let premises : IsHistory msi x.tree x.work x.history x.end = record { protocol = msi_is.protocol; disciplined = msi_is.disciplined; shape = lawful; runs = record { leads = runs } } in
    record {
      premises = premises;
      printed = printed;
      serial = subst (λ blocks. IsSerial msi x.tree (start_of msi x) blocks x.end) printed (serial msi x.tree x.work x.history x.end premises);
      same = subst (λ blocks. SameFirings x.history (firings_of blocks)) printed (same_firings msi x.tree x.work x.history x.end premises);
    }
