-- Inclusive MSI whose leaf evicts only a copy: the guard of its waiting eviction is taken away by an invalidation.
use Rattle.std.specs.Prelude.{◌≡◌, [], ◌∷◌, None, Some}
use Rattle.hem_base.specs.declared.ids.Kind.TheVariants.{Leaf}
use Rattle.hem_syntax.specs.declared.rule.Rule.{Rule}
use Rattle.hem_syntax.specs.declared.rule.Atom.TheVariants as atom
use Rattle.hem_template.specs.declared.clause.Clause.TheVariants.{Stable}
use Rattle.hem_syntax.specs.Protocol.{Protocol}
use Rattle.hem_rows.specs.Rows.{AllHaveTemplates}
use Rattle.hem_abstract.specs.Partners.{alone}
use Rattle.hem_check.specs.Discipline.{first_broken}
use Rattle.hem_system.specs.State.{Runs, run, start}
use Rattle.hem_trace.specs.Blocks.{firings_of}
use Rattle.hem_serial.specs.Histories.{printed_blocks}
use Rattle.hem_examples.specs.Names.{st, shared, shared_or_modified, evict}
use Rattle.hem_examples.specs.LeafRules.{ld_hit_rule, st_hit_rule, ld_miss_rule, st_miss_rule, ld_resp_rule, st_resp_rule, evict_rule, evict_ack_rule, inv_rule, downgrade_rule}
use Rattle.hem_examples.specs.Msi.{msi}
use Rattle.hem_examples.specs.OvertakenEviction.{overtaken_eviction as x}

-- the eviction of a leaf, when it has a copy
abbrev pub unstable_evict : Rule
unstable_evict = record evict_rule { guard = atom.Field st shared_or_modified ∷ [] }

-- inclusive MSI with this eviction
abbrev pub unstable : Protocol
unstable =
    record msi {
      leaf =
          record {
            fields = msi.leaf.fields;
            dir = None;
            rules = ld_hit_rule ∷ st_hit_rule ∷ ld_miss_rule ∷ st_miss_rule ∷ ld_resp_rule ∷ st_resp_rule ∷ unstable_evict ∷ evict_ack_rule ∷ inv_rule ∷ downgrade_rule ∷ [];
          };
    }

-- stability can't be left out: each rule has a template, and the eviction is the first rule that breaks a clause, by an invalidation in the state S; and the history of the overtaken eviction runs, while its printed firings don't
pub record StabilityIsNeeded : Type 0 where
  pub templates : AllHaveTemplates unstable
  pub broken : first_broken unstable ≡ Some (record { kind = Leaf; rule = evict; failure = record { clause = Stable; breach = Some (record { partner = alone inv_rule; at = record { fields = shared ∷ []; kids = record { 0 = 0 } } }) } })
  pub runs : Runs unstable x.tree (start unstable x.tree x.work) x.history x.end
  pub stuck : run unstable x.tree (start unstable x.tree x.work) (firings_of (printed_blocks unstable x.tree x.work x.history)) ≡ None
