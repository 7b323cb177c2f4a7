-- Breaches by partners that stand one after another.
use Rattle.std.proofs.Common.{◌≡◌, refl, ap, sym, ◌∙◌, Bool, true, false, cond, List, [], ◌∷◌, ◌++◌, map, Option, Some, None}
use Rattle.std.specs.Prelude.{find, flat_map, filter, option_map}
use Rattle.std.specs.Option.{option_or}
use Rattle.hem_base.specs.declared.ids.Kind.{Kind}
use Rattle.hem_base.specs.declared.ids.RuleId.{RuleId}
use Rattle.hem_syntax.specs.declared.rule.Rule.{Rule}
use Rattle.hem_syntax.specs.Protocol.{Protocol, part}
use Rattle.hem_abstract.specs.declared.breach.Breach.{Breach as Told}
use Rattle.hem_abstract.specs.Abstract.{Abstract}
use Rattle.hem_abstract.specs.Partners.{Partner, pair, breaks}
use Rattle.hem_abstract.specs.Stable.{Breach, abstract_states, is_of, is_rs_up_up, first_breach, first_unstable}
use Rattle.hem_abstract.specs.First.{first_with}
use Rattle.hem_abstract.specs.Named.{named, first_name, second_name}
use Rattle.hem_abstract.specs.Places.{partners_at}
use Rattle.hem_abstract.specs.Parts.{Turn, turn_of}
use Rattle.hem_abstract.specs.Search.{turn_breaks}
use Rattle.hem_abstract.proofs.LeastState.{breaks-turn}

breach-append : (states : List Abstract) (u : Rule) (ds es : List Partner) → first_breach states u (ds ++ es) ≡ option_or (first_breach states u ds) (first_breach states u es)
breach-append states u [] es = refl
breach-append states u (d ∷ ds) es = by_found (find (breaks u d) states) (breach-append states u ds es)
  where
    by_found : (o : Option Abstract) → first_breach states u (ds ++ es) ≡ option_or (first_breach states u ds) (first_breach states u es) → elim o as (λ o. Option Breach) [ Some at ↦ Some (record { partner = d; at = at }) | None ↦ first_breach states u (ds ++ es) ] ≡ option_or (elim o as (λ o. Option Breach) [ Some at ↦ Some (record { partner = d; at = at }) | None ↦ first_breach states u ds ]) (first_breach states u es)
    by_found (Some at) rest = refl
    by_found None rest = rest

breach-flat_map : {A : Type 0} (states : List Abstract) (u : Rule) (f : A → List Partner) (xs : List A) → first_breach states u (flat_map f xs) ≡ first_with (λ x. first_breach states u (f x)) xs
breach-flat_map states u f [] = refl
breach-flat_map states u f (x ∷ xs) = breach-append states u (f x) (flat_map f xs) ∙ ap (option_or (first_breach states u (f x))) (breach-flat_map states u f xs)

mapped-first : {A B C : Type 0} (g : B → C) (give : A → Option B) (xs : List A) → option_map g (first_with give xs) ≡ first_with (λ x. option_map g (give x)) xs
mapped-first g give [] = refl
mapped-first {B = B} g give (x ∷ xs) = by_given (give x) (mapped-first g give xs)
  where
    by_given : (o : Option B) → option_map g (first_with give xs) ≡ first_with (λ x. option_map g (give x)) xs → option_map g (option_or o (first_with give xs)) ≡ option_or (option_map g o) (first_with (λ x. option_map g (give x)) xs)
    by_given None rest = rest
    by_given (Some y) rest = refl

-- the breach by one partner
pub breach-one : (states : List Abstract) (u : Rule) (d : Partner) → first_breach states u (d ∷ []) ≡ option_map (λ at. record { partner = d; at = at }) (find (turn_breaks u (turn_of d)) states)
breach-one states u d = by_found (find (breaks u d) states) ∙ ap (option_map (λ at. let b : Breach = record { partner = d; at = at } in b)) (λ i. find (λ at. breaks-turn u d at i) states)
  where
    by_found : (o : Option Abstract) → elim o as (λ o. Option Breach) [ Some at ↦ Some (record { partner = d; at = at }) | None ↦ None ] ≡ option_map (λ at. let b : Breach = record { partner = d; at = at } in b) o
    by_found (Some at) = refl
    by_found None = refl

-- the breach by one partner, by names
pub told-some : (states : List Abstract) (u : Rule) (d : Partner) (name : RuleId) (turn : Turn) (o : Option Abstract) (at : Abstract) → turn ≡ turn_of d → o ≡ find (turn_breaks u turn) states → o ≡ Some at → Some (let told : Told = record { up = name; down = first_name d; second = second_name d; at = at } in told) ≡ option_map (named name) (first_breach states u (d ∷ []))
told-some states u d name turn o at turn_is found some =
    let is : find (turn_breaks u (turn_of d)) states ≡ Some at = ap (λ (t : Turn). find (turn_breaks u t) states) (sym turn_is) ∙ sym found ∙ some in
    sym (ap (option_map (named name)) (breach-one states u d ∙ ap (option_map (λ at. let b : Breach = record { partner = d; at = at } in b)) is))

pub told-none : (states : List Abstract) (u : Rule) (d : Partner) (name : RuleId) (turn : Turn) (o : Option Abstract) → turn ≡ turn_of d → o ≡ find (turn_breaks u turn) states → o ≡ None → None ≡ option_map (named name) (first_breach states u (d ∷ []))
told-none states u d name turn o turn_is found none =
    let is : find (turn_breaks u (turn_of d)) states ≡ None = ap (λ (t : Turn). find (turn_breaks u t) states) (sym turn_is) ∙ sym found ∙ none in
    sym (ap (option_map (named name)) (breach-one states u d ∙ ap (option_map (λ at. let b : Breach = record { partner = d; at = at } in b)) is))

-- the first breach at the places of a kind's rules
pub unstable-first : (p : Protocol) (kind : Kind) (u : Rule) (name : RuleId) → option_map (named name) (first_unstable p kind u) ≡ first_with (λ d. option_map (named name) (first_breach (abstract_states p kind) u (partners_at p kind d))) (part p kind).rules
unstable-first p kind u name =
    ap (option_map (named name)) (breach-flat_map (abstract_states p kind) u (partners_at p kind) (part p kind).rules)
    ∙ mapped-first (named name) (λ d. first_breach (abstract_states p kind) u (partners_at p kind d)) (part p kind).rules

pairs-flat : (test : Rule → Bool) (q : Rule) (rules : List Rule) → map (pair q) (filter test rules) ≡ flat_map (λ r. cond (test r) (pair q r ∷ []) []) rules
pairs-flat test q [] = refl
pairs-flat test q (r ∷ rules) = by_test (test r) (pairs-flat test q rules)
  where
    by_test : (b : Bool) → map (pair q) (filter test rules) ≡ flat_map (λ r. cond (test r) (pair q r ∷ []) []) rules → map (pair q) (cond b (r ∷ filter test rules) (filter test rules)) ≡ cond b (pair q r ∷ []) [] ++ flat_map (λ r. cond (test r) (pair q r ∷ []) []) rules
    by_test true rest = ap (λ (ps : List Partner). pair q r ∷ ps) rest
    by_test false rest = rest

-- the first breach by the pairs of a rule
pub pairs-first : (p : Protocol) (kind : Kind) (u q : Rule) (name : RuleId) → option_map (named name) (first_breach (abstract_states p kind) u (map (pair q) (filter (is_of p kind is_rs_up_up) (part p kind).rules))) ≡ first_with (λ r. option_map (named name) (first_breach (abstract_states p kind) u (cond (is_of p kind is_rs_up_up r) (pair q r ∷ []) []))) (part p kind).rules
pairs-first p kind u q name =
    let rules = (part p kind).rules in
    let states = abstract_states p kind in
    ap (λ ds. option_map (named name) (first_breach states u ds)) (pairs-flat (is_of p kind is_rs_up_up) q rules)
    ∙ ap (option_map (named name)) (breach-flat_map states u (λ r. cond (is_of p kind is_rs_up_up r) (pair q r ∷ []) []) rules)
    ∙ mapped-first (named name) (λ r. first_breach states u (cond (is_of p kind is_rs_up_up r) (pair q r ∷ []) [])) rules
