-- Stability: no partner takes a waiting request's guard or value away in any abstract state of the kind.
use Rattle.std.specs.Prelude.{ℕ, zero, suc, ◌-◌, ◌^◌, ◌≡◌, ◌≢◌, ◌≤◌, Bool, true, false, cond, List, [], ◌∷◌, ◌++◌, length, map, flat_map, filter, find, Option, None, Some, Result, Ok}
use Rattle.hem_base.specs.declared.ids.Status8.{Status8}
use Rattle.hem_base.specs.declared.ids.StatusSet.{StatusSet}
use Rattle.hem_base.specs.declared.ids.RuleId.{RuleId}
use Rattle.hem_base.specs.declared.ids.Kind.{Kind}
use Rattle.hem_base.specs.declared.ids.Kind.TheVariants.{Leaf}
use Rattle.hem_syntax.specs.declared.rule.Rule.{Rule}
use Rattle.hem_template.specs.declared.clause.Clause.{Clause}
use Rattle.hem_template.specs.declared.template_name.TemplateName.{TemplateName}
use Rattle.hem_template.specs.declared.template_name.TemplateName.TheVariants.{ImmUp, RqDownDown, RsUpUp}
use Rattle.hem_syntax.specs.Protocol.{Protocol, part, rule_named}
use Rattle.hem_object.specs.Local.{Local}
use Rattle.hem_template.specs.Template.{template_of}
use Rattle.hem_tree.specs.Tree.{below}
use Rattle.hem_template.specs.Waiting.{is_upward_template}
use Rattle.hem_abstract.specs.Abstract.{Abstract, status, AreBelow}
use Rattle.hem_abstract.specs.Partners.{Partner, alone, pair, breaks}

-- all lists of so many of the statuses below m, in order
abbrev pub field_lists : ℕ → ℕ → List (List Status8)
field_lists zero m = [] ∷ []
field_lists (suc n) m = flat_map (λ s. map (λ rest. status s ∷ rest) (field_lists n m)) (below m)

-- the sets of children's statuses below m: none for a leaf, and not empty elsewhere
abbrev pub kid_sets : Kind → ℕ → List StatusSet
kid_sets Leaf m = record { 0 = 0 } ∷ []
kid_sets _ m = map (λ k. record { 0 = suc k }) (below (2 ^ m - 1))

-- the abstract states of a kind, in order
abbrev pub abstract_states : Protocol → Kind → List Abstract
abstract_states p kind =
    flat_map (λ fields. map (λ kids. record { fields = fields; kids = kids }) (kid_sets kind (length p.statuses)))
    (field_lists (length (part p kind).fields) (length p.statuses))

-- whether a rule has a template that passes a test
abbrev pub is_of : Protocol → Kind → (Result TemplateName Clause → Bool) → Rule → Bool
is_of p kind test rule = test (template_of p kind rule)

-- whether a template answers a parent's request at once
abbrev pub is_imm_up : Result TemplateName Clause → Bool
is_imm_up (Ok ImmUp) = true
is_imm_up _ = false

-- whether a template passes a parent's request on to the children
abbrev pub is_rq_down_down : Result TemplateName Clause → Bool
is_rq_down_down (Ok RqDownDown) = true
is_rq_down_down _ = false

-- whether a template answers the parent after the children did
abbrev pub is_rs_up_up : Result TemplateName Clause → Bool
is_rs_up_up (Ok RsUpUp) = true
is_rs_up_up _ = false

-- the partners of a kind, in text order
abbrev pub partners_of : Protocol → Kind → List Partner
partners_of p kind =
    let rules = (part p kind).rules in
    flat_map (λ d.
    cond (is_of p kind is_imm_up d) (alone d ∷ []) []
    ++ cond (is_of p kind is_rq_down_down d) (map (pair d) (filter (is_of p kind is_rs_up_up) rules)) [])
    rules

-- a partner that breaks a rule, and the least abstract state in which it does
pub record Breach : Type 0 where
  pub partner : Partner
  pub at : Abstract

-- the first partner that breaks a rule, with the least state
abbrev pub first_breach : List Abstract → Rule → List Partner → Option Breach
first_breach states u [] = None
first_breach states u (d ∷ ds) =
    elim (find (breaks u d) states) [ Some at ↦ Some (record { partner = d; at = at }) | None ↦ first_breach states u ds ]

-- the breach of a rule of its kind
abbrev pub first_unstable : Protocol → Kind → Rule → Option Breach
first_unstable p kind u = first_breach (abstract_states p kind) u (partners_of p kind)

-- a local state that an object of the kind may have, as far as guards see it
pub record IsOfKind (p : Protocol) (kind : Kind) (local : Local) : Type 0 where
  pub field_count : length local.fields ≡ length (part p kind).fields
  pub fields : AreBelow (length p.statuses) local.fields
  pub dir : AreBelow (length p.statuses) local.dir
  pub leaf : kind ≡ Leaf → local.dir ≡ []
  pub inner : kind ≢ Leaf → local.dir ≢ []
  pub few : length p.statuses ≤ 8

-- no upward request of the protocol has a breach
pub record IsStable (p : Protocol) : Type 0 where
  pub whole : (kind : Kind) (name : RuleId) (rule : Rule) → rule_named p kind name ≡ Some rule → is_upward_template (template_of p kind rule) ≡ true → first_unstable p kind rule ≡ None
