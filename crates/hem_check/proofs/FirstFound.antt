-- The first rule that breaks a clause, kind by kind.
use Rattle.std.proofs.Common.{◌≡◌, refl, ap, sym, ◌∙◌, Bool, List, [], ◌∷◌, ◌++◌, Option, Some, None}
use Rattle.std.specs.Prelude.{filter_map, slice_get, option_map, Result, Ok, Err, true, false}
use Rattle.std.specs.List.{cons_option}
use Rattle.std.specs.Option.{option_or}
use Rattle.hem_base.specs.declared.ids.Kind.{Kind}
use Rattle.hem_syntax.specs.Protocol.{Protocol, part}
use Rattle.hem_syntax.specs.declared.rule.Rule.{Rule}
use Rattle.hem_base.specs.declared.ids.RuleId.{RuleId}
use Rattle.hem_template.specs.declared.clause.Clause.{Clause}
use Rattle.hem_template.specs.declared.clause.Clause.TheVariants.{Stable}
use Rattle.hem_template.specs.declared.template_name.TemplateName.{TemplateName}
use Rattle.hem_template.specs.Template.{template_of}
use Rattle.hem_template.specs.Waiting.{is_upward_template}
use Rattle.hem_abstract.specs.declared.breach.Breach.{Breach as Told}
use Rattle.hem_abstract.specs.Stable.{Breach, first_unstable}
use Rattle.hem_abstract.specs.Named.{named}
use Rattle.hem_abstract.specs.First.{first_with}
use Rattle.hem_check.specs.Discipline.{Failure, Broken, broken_in}
use Rattle.hem_check.specs.declared.first.Finding.{Finding}
use Rattle.hem_check.specs.declared.refusal.Refusal.{Refusal}
use Rattle.hem_check.specs.Findings.{finding_of, broken_rule, unstable_finding}
use Rattle.hem_check.specs.Refused.{refusal_of}

-- the first of what a list gives
first-given : {A B C : Type 0} (g : B → C) (give : A → Option B) (xs : List A) → option_map g (slice_get (filter_map give xs) 0) ≡ first_with (λ x. option_map g (give x)) xs
first-given g give [] = refl
first-given {B = B} g give (x ∷ xs) = by_given (give x) (first-given g give xs)
  where
    by_given : (o : Option B) → option_map g (slice_get (filter_map give xs) 0) ≡ first_with (λ x. option_map g (give x)) xs → option_map g (slice_get (cons_option o (filter_map give xs)) 0) ≡ option_or (option_map g o) (first_with (λ x. option_map g (give x)) xs)
    by_given None rest = rest
    by_given (Some y) rest = refl

-- the first broken rule of a kind
pub in-kind : (p : Protocol) (kind : Kind) → option_map finding_of (slice_get (broken_in p kind) 0) ≡ first_with (λ rule. option_map finding_of (broken_rule p kind rule)) (part p kind).rules
in-kind p kind = first-given finding_of (broken_rule p kind) (part p kind).rules

-- kind by kind
pub in-root : (a b c : List Broken) (y : Finding) → Some y ≡ option_map finding_of (slice_get a 0) → Some y ≡ option_map finding_of (slice_get (a ++ b ++ c) 0)
in-root [] b c y is = cc
in-root (x ∷ a) b c y is = is

pub in-mid : (a b c : List Broken) (y : Finding) → None ≡ option_map finding_of (slice_get a 0) → Some y ≡ option_map finding_of (slice_get b 0) → Some y ≡ option_map finding_of (slice_get (a ++ b ++ c) 0)
in-mid [] [] c y none is = cc
in-mid [] (x ∷ b) c y none is = is
in-mid (x ∷ a) b c y none is = cc

pub in-leaf : (a b c : List Broken) (o : Option Finding) → None ≡ option_map finding_of (slice_get a 0) → None ≡ option_map finding_of (slice_get b 0) → o ≡ option_map finding_of (slice_get c 0) → o ≡ option_map finding_of (slice_get (a ++ b ++ c) 0)
in-leaf [] [] c o none none' is = is
in-leaf [] (x ∷ b) c o none none' is = cc
in-leaf (x ∷ a) b c o none none' is = cc

-- nothing is found where no rule is broken
pub nothing-found : (o : Option Broken) → None ≡ option_map finding_of o → o ≡ None
nothing-found None is = refl
nothing-found (Some b) is = cc

-- what is found is refused
pub found-refused : (p : Protocol) (o : Option Broken) (found : Finding) → Some found ≡ option_map finding_of o → option_map (refusal_of p) o ≡ Some (record { kind = found.kind; rule = found.rule; clause = found.clause; breach = found.breach; back = p })
found-refused p None found is = cc
found-refused p (Some b) found is =
    let same : found ≡ finding_of b = cc in
    sym (ap (λ (f : Finding). let r : Refusal = record { kind = f.kind; rule = f.rule; clause = f.clause; breach = f.breach; back = p } in Some r) same)

-- where something is found a rule is broken
pub found-broken : (o : Option Broken) (found : Finding) → Some found ≡ option_map finding_of o → o ≡ None → ⊥
found-broken None found is none = cc
found-broken (Some b) found is none = cc

-- a breach as it is found
breach-found : (kind : Kind) (name : RuleId) (u : Option Breach) (o : Option Told) → o ≡ option_map (named name) u → option_map (unstable_finding kind name) o ≡ option_map finding_of (option_map (λ failure. let b : Broken = record { kind = kind; rule = name; failure = failure } in b) (option_map (λ breach. let f : Failure = record { clause = Stable; breach = Some breach } in f) u))
breach-found kind name None o is = ap (option_map (unstable_finding kind name)) is
breach-found kind name (Some b) o is = ap (option_map (unstable_finding kind name)) is

by-template : (kind : Kind) (name : RuleId) (t : TemplateName) (r : Result TemplateName Clause) (u : Option Breach) (o : Option Told) → r ≡ Ok t → is_upward_template (Ok t) ≡ true → o ≡ option_map (named name) u → option_map (unstable_finding kind name) o ≡ option_map finding_of (option_map (λ failure. let b : Broken = record { kind = kind; rule = name; failure = failure } in b) (elim r as (λ r. Option Failure) [ Err c ↦ Some (record { clause = c; breach = None }) | Ok t ↦ elim (is_upward_template (Ok t)) as (λ b. Option Failure) [ true ↦ option_map (λ breach. record { clause = Stable; breach = Some breach }) u | false ↦ None ] ]))
by-template kind name t (Err c) u o template upward is = cc
by-template kind name t (Ok s) u o template upward is = by_test (is_upward_template (Ok s)) (let same : s ≡ t = cc in ap (λ (x : TemplateName). is_upward_template (Ok x)) same ∙ upward)
  where
    by_test : (b : Bool) → b ≡ true → option_map (unstable_finding kind name) o ≡ option_map finding_of (option_map (λ failure. let b : Broken = record { kind = kind; rule = name; failure = failure } in b) (elim b as (λ b. Option Failure) [ true ↦ option_map (λ breach. record { clause = Stable; breach = Some breach }) u | false ↦ None ]))
    by_test true yes_it = breach-found kind name u o is
    by_test false yes_it = cc

-- what is found of an upward request
pub upward-found : (p : Protocol) (kind : Kind) (rule : Rule) (t : TemplateName) (o : Option Told) → template_of p kind rule ≡ Ok t → is_upward_template (Ok t) ≡ true → o ≡ option_map (named rule.name) (first_unstable p kind rule) → option_map (unstable_finding kind rule.name) o ≡ option_map finding_of (broken_rule p kind rule)
upward-found p kind rule t o template upward is = by-template kind rule.name t (template_of p kind rule) (first_unstable p kind rule) o template upward is

by-other : (kind : Kind) (name : RuleId) (t : TemplateName) (r : Result TemplateName Clause) (u : Option Breach) → r ≡ Ok t → is_upward_template (Ok t) ≡ false → None ≡ option_map finding_of (option_map (λ failure. let b : Broken = record { kind = kind; rule = name; failure = failure } in b) (elim r as (λ r. Option Failure) [ Err c ↦ Some (record { clause = c; breach = None }) | Ok t ↦ elim (is_upward_template (Ok t)) as (λ b. Option Failure) [ true ↦ option_map (λ breach. record { clause = Stable; breach = Some breach }) u | false ↦ None ] ]))
by-other kind name t (Err c) u template other = cc
by-other kind name t (Ok s) u template other = by_test (is_upward_template (Ok s)) (let same : s ≡ t = cc in ap (λ (x : TemplateName). is_upward_template (Ok x)) same ∙ other)
  where
    by_test : (b : Bool) → b ≡ false → None ≡ option_map finding_of (option_map (λ failure. let b : Broken = record { kind = kind; rule = name; failure = failure } in b) (elim b as (λ b. Option Failure) [ true ↦ option_map (λ breach. record { clause = Stable; breach = Some breach }) u | false ↦ None ]))
    by_test true not_it = cc
    by_test false not_it = refl

-- nothing is found of any other rule with a template
pub other-found : (p : Protocol) (kind : Kind) (rule : Rule) (t : TemplateName) → template_of p kind rule ≡ Ok t → is_upward_template (Ok t) ≡ false → None ≡ option_map finding_of (broken_rule p kind rule)
other-found p kind rule t template other = by-other kind rule.name t (template_of p kind rule) (first_unstable p kind rule) template other
