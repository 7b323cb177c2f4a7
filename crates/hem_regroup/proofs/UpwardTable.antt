-- The rules that send a request up, found from the last rule on.
use Rattle.std.proofs.Common.{◌≡◌, ◌≢◌, refl, sym, ap, ◌∙◌, ℕ, zero, suc, ◌+◌, ◌-◌, ◌<◌, ◌≤◌, Bool, true, false, cond, List, [], ◌∷◌, ◌++◌, length, drop, get_or, set, None, Some, drop-cons, arith, ltb-true, ⊎_elim}
use Rattle.std.specs.Prelude.{◌==◌, nat_lt, find}
use Rattle.std.specs.Option.{option_map_or}
use Rattle.std.proofs.lemmas.Bool.{eq-eqb, eqb-true, ne_eqb, cases_eq}
use Rattle.std.proofs.lemmas.List.{get_or-set_other, get_or-set_same}
use Rattle.hem_base.specs.declared.ids.Kind.{Kind}
use Rattle.hem_base.specs.declared.ids.Kind.TheVariants.{Root, Mid, Leaf}
use Rattle.hem_syntax.specs.declared.rule.Rule.{Rule}
use Rattle.hem_syntax.specs.Protocol.{Protocol, part}
use Rattle.hem_syntax.specs.Lawful.{names_after, IsProtocol}
use Rattle.hem_trace.specs.Blocks.{Each}
use Rattle.hem_law.proofs.ListFacts.{each-left, each-right}

-- each rule's name is one of so many
names-below : (n : ℕ) (rs : List Rule) (m : ℕ) → names_after n rs ≡ Some m → (n ≤ m) × Each (λ r. r.name.0 < m) rs
names-below n [] m is = let same : n ≡ m = cc in (omega (arith, same), tt)
names-below n (r ∷ rs) m is = by_name (nat_lt r.name.0 n) (r.name.0 == n) refl refl is (names-below n rs m) (names-below (n + 1) rs m)
  where
    by_name : (low next : Bool) → nat_lt r.name.0 n ≡ low → (r.name.0 == n) ≡ next → cond low (names_after n rs) (cond next (names_after (n + 1) rs) None) ≡ Some m → (names_after n rs ≡ Some m → (n ≤ m) × Each (λ r. r.name.0 < m) rs) → (names_after (n + 1) rs ≡ Some m → (n + 1 ≤ m) × Each (λ r. r.name.0 < m) rs) → (n ≤ m) × Each (λ r. r.name.0 < m) (r ∷ rs)
    by_name true next old at is rest more = let it = rest is in let low = ltb-true r.name.0 n old in (it.0, (omega (arith, low, it.0), it.1))
    by_name false true old at is rest more = let it = more is in let same = eqb-true r.name.0 n at in (omega (arith, it.0), (omega (arith, same, it.0), it.1))
    by_name false false old at is rest more = cc

part-below : (p : Protocol) (kind : Kind) → IsProtocol p → Each (λ r. r.name.0 < length p.rule_names) (part p kind).rules
part-below p kind it = by_kind kind
  where
    P : Rule → Type 0
    P r = r.name.0 < length p.rule_names

    all : Each P (p.root.rules ++ p.mid.rules ++ p.leaf.rules)
    all = (names-below 0 (p.root.rules ++ p.mid.rules ++ p.leaf.rules) (length p.rule_names) it.rule_names_in_order).1

    by_kind : (kind : Kind) → Each P (part p kind).rules
    by_kind Root = each-left P p.root.rules p.mid.rules (each-left P (p.root.rules ++ p.mid.rules) p.leaf.rules all)
    by_kind Mid = each-right P p.root.rules p.mid.rules (each-left P (p.root.rules ++ p.mid.rules) p.leaf.rules all)
    by_kind Leaf = each-right P (p.root.rules ++ p.mid.rules) p.leaf.rules all

each_get : {A : Type 0} (P : A → Type 0) (xs : List A) (k : ℕ) (d : A) → k < length xs → Each P xs → P (get_or xs k d)
each_get P [] k d within all = absurd (omega arith)
each_get P (x ∷ xs) zero d within all = all.0
each_get P (x ∷ xs) (suc k) d within all = each_get P xs k d (omega arith) all.1

pub name-below : (p : Protocol) (kind : Kind) (k : ℕ) (d : Rule) → IsProtocol p → k < length (part p kind).rules → (get_or (part p kind).rules k d).name.0 < length p.rule_names
name-below p kind k d it within = each_get (λ r. r.name.0 < length p.rule_names) (part p kind).rules k d within (part-below p kind it)

-- what a test says of the first rule of a name
abbrev pub of_first : (Rule → Bool) → List Rule → ℕ → Bool
of_first test rules n = option_map_or test (find (λ r. r.name.0 == n) rules) false

first-more : (test : Rule → Bool) (r : Rule) (rules : List Rule) (names : List Bool) (n : ℕ) → r.name.0 < length names → get_or names n false ≡ of_first test rules n → get_or (set names r.name.0 (test r)) n false ≡ of_first test (r ∷ rules) n
first-more test r rules names n within were =
    ⊎_elim
    (λ (same : r.name.0 ≡ n).
    ap (λ m. get_or (set names r.name.0 (test r)) m false) (sym same)
    ∙ get_or-set_same names r.name.0 (test r) false within
    ∙ ap (λ b. option_map_or test (cond b (Some r) (find (λ r. r.name.0 == n) rules)) false) (sym (eq-eqb r.name.0 n same)))
    (λ (other : r.name.0 ≢ n).
    get_or-set_other names r.name.0 n (test r) false (λ same. other (sym same))
    ∙ were
    ∙ ap (λ b. option_map_or test (cond b (Some r) (find (λ r. r.name.0 == n) rules)) false) (sym (ne_eqb r.name.0 n other)))
    (cases_eq r.name.0 n)

-- the table with one rule more
pub table_more : (test : Rule → Bool) (rules : List Rule) (r : Rule) (back n : ℕ) (names new : List Bool) → back < length rules → r ≡ get_or rules (length rules - 1 - back) r → r.name.0 < length names → get_or names n false ≡ of_first test (drop (length rules - back) rules) n → new ≡ set names r.name.0 (test r) → get_or new n false ≡ of_first test (drop (length rules - (back + 1)) rules) n
table_more test rules r back n names new within is below were written =
    let j = length rules - 1 - back in
    let next : length rules - back ≡ suc j = omega arith in
    let last : j ≡ length rules - (back + 1) = omega arith in
    ap (λ names. get_or names n false) written
    ∙ first-more test r (drop (suc j) rules) names n below (were ∙ ap (λ k. of_first test (drop k rules) n) next)
    ∙ ap (λ x. of_first test (x ∷ drop (suc j) rules) n) is
    ∙ ap (λ rules. of_first test rules n) (sym (drop-cons rules j r (omega arith)))
    ∙ ap (λ k. of_first test (drop k rules) n) last

-- the table of all rules
pub whole_table : (test : Rule → Bool) (rules all : List Rule) (back n : ℕ) → rules ≡ all → length rules ≤ back → of_first test (drop (length rules - back) rules) n ≡ of_first test all n
whole_table test rules all back n are past =
    let none : length rules - back ≡ 0 = omega arith in
    ap (λ k. of_first test (drop k rules) n) none ∙ ap (λ rules. of_first test rules n) are

-- the rule that is found at a place of a kind's rules
pub found-below : (p : Protocol) (kind : Kind) (rules : List Rule) (k m : ℕ) (r : Rule) → IsProtocol p → rules ≡ (part p kind).rules → k < length rules → r ≡ get_or rules k r → m ≡ length p.rule_names → r.name.0 < m
found-below p kind rules k m r it are within is size =
    let at = name-below p kind k r it (let same = ap length are in omega (arith, same, within)) in
    let same : r.name.0 ≡ (get_or (part p kind).rules k r).name.0 = ap (λ r. r.name.0) (is ∙ ap (λ rules. get_or rules k r) are) in
    omega (arith, at, same, size)
