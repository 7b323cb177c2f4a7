-- The rules of a protocol have names that are declared.
use Rattle.std.proofs.Common.{◌≡◌, ◌≢◌, refl, sym, ◌∙◌, ℕ, zero, suc, ◌+◌, ◌<◌, ◌≤◌, arith, Bool, true, false, ◌&&◌, List, [], ◌∷◌, ◌++◌, length, inl, inr, ◌⊎◌, Some, None}
use Rattle.std.specs.Prelude.{◌==◌, nat_lt, slice_get, if◌then◌else◌}
use Rattle.std.specs.List.{list_all}
use Rattle.std.proofs.lemmas.Bool.Decides.{eqb_tells}
use Rattle.std.proofs.lemmas.List.Folds.{list_all-append}
use Rattle.hem_base.specs.declared.ids.Kind.{Kind}
use Rattle.hem_base.specs.declared.ids.Kind.TheVariants.{Root, Mid, Leaf}
use Rattle.hem_syntax.specs.declared.rule.Rule.{Rule}
use Rattle.hem_syntax.specs.Protocol.{Protocol, part}
use Rattle.hem_syntax.specs.Lawful.{IsProtocol, names_after}

pub less_of : (a b : ℕ) → nat_lt a b ≡ true → a < b
less_of a b less = grind arith

first_of : (a b : Bool) → (a && b) ≡ true → a ≡ true
first_of true b h = refl
first_of false b h = h

second_of : (a b : Bool) → (a && b) ≡ true → b ≡ true
second_of true b h = h
second_of false b h = cc

and_both : (a b : Bool) → a ≡ true → b ≡ true → (a && b) ≡ true
and_both a b first second = rw (first, second) refl

-- an element of a list of which all pass a test
pub passes_at : {A : Type 0} (f : A → Bool) (xs : List A) (k : ℕ) (x : A) → list_all f xs ≡ true → slice_get xs k ≡ Some x → f x ≡ true
passes_at f [] k x h is = cc
passes_at f (y ∷ ys) zero x h is =
    let same : y ≡ x = cc in
    rw (← same) (first_of (f y) _ h)
passes_at f (y ∷ ys) (suc k) x h is = passes_at f ys k x (second_of (f y) _ h) is

-- rules name names that are there
names_within : (m n : ℕ) (rs : List Rule) → names_after m rs ≡ Some n → (m ≤ n) × (list_all (λ r. nat_lt r.name.0 n) rs ≡ true)
names_within m n [] is = let same : m ≡ n = cc in (omega (arith, same), refl)
names_within m n (r ∷ rs) is = by_first (nat_lt r.name.0 m) refl (eqb_tells r.name.0 m) is (names_within m n rs) (names_within (m + 1) n rs)
  where
    lt_trans : (a b c : ℕ) → nat_lt a b ≡ true → b ≤ c → nat_lt a c ≡ true
    lt_trans a b c less le = grind arith

    lt_suc : (a b c : ℕ) → a ≡ b → b + 1 ≤ c → nat_lt a c ≡ true
    lt_suc a b c same le = grind arith

    by_first : (b : Bool) → nat_lt r.name.0 m ≡ b → ((r.name.0 == m) ≡ true) × (r.name.0 ≡ m) ⊎ ((r.name.0 == m) ≡ false) × (r.name.0 ≢ m) → (if b then names_after m rs else if r.name.0 == m then names_after (m + 1) rs else None) ≡ Some n → (names_after m rs ≡ Some n → (m ≤ n) × (list_all (λ r. nat_lt r.name.0 n) rs ≡ true)) → (names_after (m + 1) rs ≡ Some n → (m + 1 ≤ n) × (list_all (λ r. nat_lt r.name.0 n) rs ≡ true)) → (m ≤ n) × (list_all (λ r. nat_lt r.name.0 n) (r ∷ rs) ≡ true)
    by_first true less which is old new = let it = old is in (it.0, and_both _ _ (lt_trans r.name.0 m n less it.0) it.1)
    by_first false less (inl same) is old new =
        let here = same.0 in
        let it = new (rw here at is) in
        let le = it.0 in
        (omega (arith, le), and_both _ _ (lt_suc r.name.0 m n same.1 it.0) it.1)
    by_first false less (inr far) is old new = let other = far.0 in let none : None ≡ Some n = rw other at is in cc

-- whether all rules have names that are declared
abbrev pub all_named : Protocol → List Rule → Bool
all_named p rules = list_all (λ r. nat_lt r.name.0 (length p.rule_names)) rules

parts_named : (p : Protocol) (a b : List Rule) → all_named p (a ++ b) ≡ true → (all_named p a ≡ true) × (all_named p b ≡ true)
parts_named p a b h =
    let both = sym (list_all-append (λ r. nat_lt r.name.0 (length p.rule_names)) a b) ∙ h in
    (first_of (all_named p a) (all_named p b) both, second_of (all_named p a) (all_named p b) both)

-- the rules of each kind
pub kind_named : (p : Protocol) (kind : Kind) → IsProtocol p → list_all (λ r. nat_lt r.name.0 (length p.rule_names)) (part p kind).rules ≡ true
kind_named p kind lawful =
    by_kind kind
  where
    outer : (all_named p (p.root.rules ++ p.mid.rules) ≡ true) × (all_named p p.leaf.rules ≡ true)
    outer = parts_named p (p.root.rules ++ p.mid.rules) p.leaf.rules (names_within 0 (length p.rule_names) (p.root.rules ++ p.mid.rules ++ p.leaf.rules) lawful.rule_names_in_order).1

    inner : (all_named p p.root.rules ≡ true) × (all_named p p.mid.rules ≡ true)
    inner = parts_named p p.root.rules p.mid.rules outer.0

    by_kind : (kind : Kind) → list_all (λ r. nat_lt r.name.0 (length p.rule_names)) (part p kind).rules ≡ true
    by_kind Root = inner.0
    by_kind Mid = inner.1
    by_kind Leaf = outer.1

-- a rule among rules that have names
pub rule_named_at : (p : Protocol) (rules : List Rule) (k : ℕ) (rule : Rule) → list_all (λ r. nat_lt r.name.0 (length p.rule_names)) rules ≡ true → slice_get rules k ≡ Some rule → rule.name.0 < length p.rule_names
rule_named_at p rules k rule all at = less_of rule.name.0 (length p.rule_names) (passes_at (λ r. nat_lt r.name.0 (length p.rule_names)) rules k rule all at)
