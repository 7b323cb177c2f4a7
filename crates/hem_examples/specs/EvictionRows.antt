-- Evictions of a mid that wait while a pair of rules fires below them.
use Rattle.std.specs.Prelude.{◌≡◌, [], ◌∷◌, ◌++◌, None, Some}
use Rattle.hem_base.specs.declared.ids.Kind.TheVariants.{Mid}
use Rattle.hem_syntax.specs.declared.rule.Rule.{Rule}
use Rattle.hem_syntax.specs.declared.rule.Atom.TheVariants as atom
use Rattle.hem_syntax.specs.declared.rule.Assign.TheVariants as assign
use Rattle.hem_syntax.specs.declared.rule.Value.TheVariants as value
use Rattle.hem_syntax.specs.Protocol.{Protocol}
use Rattle.hem_abstract.specs.Partners.{pair}
use Rattle.hem_abstract.specs.Stable.{first_unstable}
use Rattle.hem_examples.specs.Names.{shared, invalid_or_shared}
use Rattle.hem_examples.specs.RootRules.{root_rules}
use Rattle.hem_examples.specs.MidRules.{gets_up_rule, gets_resp_rule, getm_up_rule, getm_resp_rule, getm_resp_inv_rule, inv_rule, inv_down_rule, inv_done_rule, downgrade_rule, down_down_rule, down_done_rule, evict_rule, evict_ack_rule, recall_rule, recall_done_rule}
use Rattle.hem_examples.specs.Msi.{msi}

-- the eviction of a mid while its children have shared copies
abbrev pub evict_shared : Rule
evict_shared = record evict_rule { guard = atom.KidsAll invalid_or_shared ∷ [] }

-- the end of an invalidation that also takes over the value
abbrev pub inv_done_val : Rule
inv_done_val = record inv_done_rule { sets = inv_done_rule.sets ++ assign.Val value.Rs ∷ [] }

-- inclusive MSI with this eviction and this end of an invalidation
abbrev pub with_rules : Rule → Protocol
with_rules done =
    record msi {
      mid =
          record {
            fields = msi.mid.fields;
            dir = msi.mid.dir;
            rules =
                root_rules
                ++ gets_up_rule ∷ gets_resp_rule ∷ getm_up_rule ∷ getm_resp_rule ∷ getm_resp_inv_rule ∷ inv_rule ∷ inv_down_rule ∷ done ∷ downgrade_rule ∷ down_down_rule ∷ down_done_rule ∷ evict_shared ∷ evict_ack_rule ∷ recall_rule ∷ recall_done_rule ∷ [];
          };
    }

-- the eviction with shared children has no breach; where the invalidation changes the value, it has this one
pub record EvictionRows : Type 0 where
  pub kept : first_unstable (with_rules inv_done_rule) Mid evict_shared ≡ None
  pub broken : first_unstable (with_rules inv_done_val) Mid evict_shared ≡ Some (record { partner = pair inv_down_rule inv_done_val; at = record { fields = shared ∷ []; kids = record { 0 = 2 } } })
