-- What it means that a rule meets all clauses.
use Rattle.std.proofs.Common.{◌≡◌, refl, sym, ap, ◌∙◌, Bool, true, false, ◌&&◌, cond, List, [], ◌∷◌, ◌++◌, Option, Some, None}
use Rattle.std.specs.Prelude.{◌==◌, ◌↔◌, Result, Ok, Err, find, filter_map, slice_get, option_map, is_none}
use Rattle.std.specs.List.{list_all, cons_option}
use Rattle.hem_base.specs.declared.ids.Kind.{Kind}
use Rattle.hem_base.specs.declared.ids.Kind.TheVariants.{Root, Mid, Leaf}
use Rattle.hem_base.specs.declared.ids.RuleId.{RuleId}
use Rattle.hem_syntax.specs.declared.rule.Rule.{Rule}
use Rattle.hem_template.specs.declared.clause.Clause.{Clause}
use Rattle.hem_template.specs.declared.clause.Clause.TheVariants.{Stable}
use Rattle.hem_template.specs.declared.template_name.TemplateName.{TemplateName}
use Rattle.hem_syntax.specs.Protocol.{Protocol, part, rule_named}
use Rattle.hem_template.specs.Template.{template_of}
use Rattle.hem_template.specs.Waiting.{is_upward_template}
use Rattle.hem_rows.specs.Rows.{AllHaveTemplates}
use Rattle.hem_rows.proofs.Choices.{both}
use Rattle.hem_abstract.specs.Stable.{Breach, first_unstable, IsStable}
use Rattle.hem_check.specs.Discipline.{Failure, failure_of, meets_all, IsDisciplined, Broken, broken_in, first_broken}

-- an element that is found in a list of which all pass a test passes it
found-meets : {A : Type 0} (test meets : A → Bool) (xs : List A) (x : A) → find test xs ≡ Some x → list_all meets xs ≡ true → meets x ≡ true
found-meets test meets [] x is all = cc
found-meets test meets (y ∷ xs) x is all =
    let parts = both (meets y) (list_all meets xs) all in
    by_test (test y) is parts.0 (λ later. found-meets test meets xs x later parts.1)
  where
    by_test : (b : Bool) → cond b (Some y) (find test xs) ≡ Some x → meets y ≡ true → (find test xs ≡ Some x → meets x ≡ true) → meets x ≡ true
    by_test true here met rest = let same : y ≡ x = cc in ap meets (sym same) ∙ met
    by_test false later met rest = rest later

-- what no failure says of a rule's template and breach
no_failure : (r : Result TemplateName Clause) (u : Option Breach) → is_none (elim r as (λ r. Option Failure) [ Err clause ↦ Some (record { clause = clause; breach = None }) | Ok t ↦ elim (is_upward_template (Ok t)) as (λ b. Option Failure) [ true ↦ option_map (λ breach. record { clause = Stable; breach = Some breach }) u | false ↦ None ] ]) ≡ true → ((t : TemplateName) × (r ≡ Ok t)) × (is_upward_template r ≡ true → u ≡ None)
no_failure (Err clause) u none = cc
no_failure (Ok t) u none = ((t, refl), λ upward. by_breach (is_upward_template (Ok t)) u upward none)
  where
    by_breach : (b : Bool) (u : Option Breach) → b ≡ true → is_none (elim b as (λ b. Option Failure) [ true ↦ option_map (λ breach. record { clause = Stable; breach = Some breach }) u | false ↦ None ]) ≡ true → u ≡ None
    by_breach true None upward none = refl
    by_breach true (Some breach) upward none = cc
    by_breach false u upward none = cc

-- each rule of a disciplined protocol that a firing can name meets all clauses
met : (p : Protocol) → IsDisciplined p → (kind : Kind) (name : RuleId) (rule : Rule) → rule_named p kind name ≡ Some rule → meets_all p kind rule ≡ true
met p disciplined kind name rule named = found-meets (λ r. r.name.0 == name.0) (meets_all p kind) (part p kind).rules rule named (disciplined.whole kind)

pub templated : (p : Protocol) → IsDisciplined p → AllHaveTemplates p
templated p disciplined = record { each = λ kind name rule named. (no_failure (template_of p kind rule) (first_unstable p kind rule) (met p disciplined kind name rule named)).0 }

pub stable : (p : Protocol) → IsDisciplined p → IsStable p
stable p disciplined = record { whole = λ kind name rule named upward. (no_failure (template_of p kind rule) (first_unstable p kind rule) (met p disciplined kind name rule named)).1 upward }

-- nothing is left of a list exactly where each element gives nothing
none_left : {A B : Type 0} (broken : A → Option B) (xs : List A) → (filter_map broken xs ≡ []) ↔ (list_all (λ x. is_none (broken x)) xs ≡ true)
none_left broken [] = (λ none. refl, λ all. refl)
none_left {B = B} broken (x ∷ xs) = by_first (broken x) (none_left broken xs)
  where
    by_first : (o : Option B) → (filter_map broken xs ≡ []) ↔ (list_all (λ x. is_none (broken x)) xs ≡ true) → (cons_option o (filter_map broken xs) ≡ []) ↔ ((is_none o && list_all (λ x. is_none (broken x)) xs) ≡ true)
    by_first None rest = rest
    by_first (Some b) rest = (λ none. cc, λ all. cc)

none_mapped : {A B : Type 0} (g : A → B) (o : Option A) → is_none (option_map g o) ≡ is_none o
none_mapped g None = refl
none_mapped g (Some x) = refl

kind_whole : (p : Protocol) (kind : Kind) → (broken_in p kind ≡ []) ↔ (list_all (meets_all p kind) (part p kind).rules ≡ true)
kind_whole p kind =
    let rules = (part p kind).rules in
    let exact = none_left (λ rule. option_map (λ failure. let b : Broken = record { kind = kind; rule = rule.name; failure = failure } in b) (failure_of p kind rule)) rules in
    let same : list_all (λ rule. is_none (option_map (λ failure. let b : Broken = record { kind = kind; rule = rule.name; failure = failure } in b) (failure_of p kind rule))) rules ≡ list_all (meets_all p kind) rules = (λ i. list_all (λ rule. none_mapped (λ failure. let b : Broken = record { kind = kind; rule = rule.name; failure = failure } in b) (failure_of p kind rule) i) rules) in
    (λ none. sym same ∙ exact.0 none, λ all. exact.1 (same ∙ all))

no_first : (a b c : List Broken) → slice_get (a ++ b ++ c) 0 ≡ None → (a ≡ []) × (b ≡ []) × (c ≡ [])
no_first [] [] [] none = (refl, refl, refl)
no_first [] [] (x ∷ c) none = cc
no_first [] (x ∷ b) c none = cc
no_first (x ∷ a) b c none = cc

first_none : (a b c : List Broken) → a ≡ [] → b ≡ [] → c ≡ [] → slice_get (a ++ b ++ c) 0 ≡ None
first_none [] [] [] root mid leaf = refl
first_none [] [] (x ∷ c) root mid leaf = cc
first_none [] (x ∷ b) c root mid leaf = cc
first_none (x ∷ a) b c root mid leaf = cc

-- no rule is the first broken one exactly where all rules meet all clauses
pub exact : (p : Protocol) → (first_broken p ≡ None) ↔ IsDisciplined p
exact p = (none_first, λ disciplined. first_none (broken_in p Root) (broken_in p Mid) (broken_in p Leaf) ((kind_whole p Root).1 (disciplined.whole Root)) ((kind_whole p Mid).1 (disciplined.whole Mid)) ((kind_whole p Leaf).1 (disciplined.whole Leaf)))
  where
    none_first : first_broken p ≡ None → IsDisciplined p
    none_first none = let parts = no_first (broken_in p Root) (broken_in p Mid) (broken_in p Leaf) none in record { whole = λ kind. by_kind kind parts }
      where
        by_kind : (kind : Kind) → (broken_in p Root ≡ []) × (broken_in p Mid ≡ []) × (broken_in p Leaf ≡ []) → list_all (meets_all p kind) (part p kind).rules ≡ true
        by_kind Root parts = (kind_whole p Root).0 parts.0
        by_kind Mid parts = (kind_whole p Mid).0 parts.1
        by_kind Leaf parts = (kind_whole p Leaf).0 parts.2
