-- The ids of rules' names, in the order in which the names come first.
use Rattle.std.proofs.Common.{◌≡◌, ℕ, zero, suc, ◌+◌, ◌<◌, ◌≤◌, Bool, true, false, cond, not, ◌==◌, List, [], ◌∷◌, ◌++◌, length, length-take, take, take-take, refl, sym, ap, ◌∙◌, arith, Some, None, nat_lt, nat_eq, ltb-true, le-ltb, eqb-true, subst}
use Rattle.std.specs.Prelude.{slice_get, position, unwrap_or, option_and_then}
use Rattle.std.specs.List.{list_any, position_or_len}
use Rattle.std.specs.Str.{bytes_eq}
use Rattle.std.proofs.lemmas.List.Folds.{list_any-append}
use Rattle.hem_syntax.specs.declared.rule.Rule.{Rule}
use Rattle.hem_syntax.specs.Protocol.{Text}
use Rattle.hem_syntax.specs.Lawful.{are_distinct, named_once, names_after}
use Rattle.hem_grammar.specs.Draft.{place_in, with_rule_name}
use Rattle.hem_print.proofs.Naming.{and_left, and_right, not_true, or_left, or_right, or_both, cond_true, cond_false, any_at, get_some, name_at, first_place, same_bytes, distinct_before}

nowhere : {A : Type 0} (p : A → Bool) (xs : List A) → list_any p xs ≡ false → position p xs ≡ None
nowhere p xs none = rw (all p xs none, le-ltb (length xs) (length xs) (omega arith)) refl
  where
    all : {A : Type 0} (p : A → Bool) (xs : List A) → list_any p xs ≡ false → position_or_len p xs ≡ length xs
    all p [] none = refl
    all p (x ∷ xs) none =
        let here : p x ≡ false = or_left _ _ none in
        let rest : position_or_len p xs ≡ length xs = all p xs (or_right _ _ none) in
        rw (here, rest) (omega arith)

get_take : {A : Type 0} (xs : List A) (m i : ℕ) → i < m → slice_get (take m xs) i ≡ slice_get xs i
get_take xs zero i lt = absurd (omega arith)
get_take [] (suc m) i lt = refl
get_take (x ∷ xs) (suc m) zero lt = refl
get_take (x ∷ xs) (suc m) (suc i) lt = get_take xs m i (omega arith)

take_snoc : {A : Type 0} (xs : List A) (m : ℕ) (x : A) → slice_get xs m ≡ Some x → take (m + 1) xs ≡ take m xs ++ x ∷ []
take_snoc [] m x e = absurd cc
take_snoc (y ∷ ys) zero x e = let h : y ≡ x = cc in rw h refl
take_snoc (y ∷ ys) (suc m) x e = let n : suc m + 1 ≡ suc (m + 1) = omega arith in rw n (ap (λ (l : List _). y ∷ l) (take_snoc ys m x e))

-- the name at place i is read where the first m names have been read: its id is i, and then the first `next` names have been read
pub record NameStep (names : List Text) (m i next : ℕ) : Type 0 where
  pub id : unwrap_or (place_in (take m names) (name_at names i)) (length (take m names)) ≡ i
  pub read : with_rule_name (take m names) (name_at names i) ≡ take next names
  pub lower : i < next

old_name : (names : List Text) → are_distinct names ≡ true → (m i : ℕ) → i < m → m ≤ length names → NameStep names m i m
old_name names distinct m i lt le =
    let at = get_some names i (omega arith) in
    let there = get_take names m i lt ∙ at.1 in
    let before : list_any (λ n. bytes_eq n at.0) (take i (take m names)) ≡ false = ap (list_any (λ n. bytes_eq n at.0)) (take-take i m names (omega arith)) ∙ distinct_before names i at.0 distinct at.1 in
    record {
      id = rw at.1 (ap (λ o. unwrap_or o (length (take m names))) (first_place (λ n. bytes_eq n at.0) (take m names) i at.0 there (same_bytes at.0) before));
      read = rw at.1 (cond_true _ _ _ (any_at (λ n. bytes_eq n at.0) (take m names) i at.0 there (same_bytes at.0)));
      lower = lt;
    }

new_name : (names : List Text) → are_distinct names ≡ true → (m : ℕ) → m < length names → NameStep names m m (m + 1)
new_name names distinct m lt =
    let at = get_some names m lt in
    let none = distinct_before names m at.0 distinct at.1 in
    let len : length (take m names) ≡ m = omega (arith, length-take m names) in
    record {
      id = rw at.1 (ap (λ o. unwrap_or o (length (take m names))) (nowhere (λ n. bytes_eq n at.0) (take m names) none) ∙ len);
      read = rw at.1 (cond_false _ _ _ none ∙ sym (take_snoc names m at.0 at.1));
      lower = omega arith;
    }

-- names only grow
pub names_grow : (m : ℕ) (rs : List Rule) (m' : ℕ) → names_after m rs ≡ Some m' → m ≤ m'
names_grow m [] m' e = let same : m ≡ m' = cc in omega arith
names_grow m (r ∷ rs) m' e = at (nat_lt r.name.0 m) (nat_eq r.name.0 m) (names_grow m rs m') (names_grow (m + 1) rs m') e
  where
    at : (a b : Bool) → (names_after m rs ≡ Some m' → m ≤ m') → (names_after (m + 1) rs ≡ Some m' → m + 1 ≤ m') → cond a (names_after m rs) (cond b (names_after (m + 1) rs) None) ≡ Some m' → m ≤ m'
    at true b f g e = f e
    at false true f g e = let le = g e in omega arith
    at false false f g e = absurd cc

-- the name of the next rule
pub name_step : (names : List Text) → are_distinct names ≡ true → (m : ℕ) (r : Rule) (rs : List Rule) (m' : ℕ) → names_after m (r ∷ rs) ≡ Some m' → m' ≤ length names →
    (next : ℕ) × NameStep names m r.name.0 next × (names_after next rs ≡ Some m')
name_step names distinct m r rs m' e le = at (nat_lt r.name.0 m) (nat_eq r.name.0 m) refl refl e
  where
    at : (a b : Bool) → nat_lt r.name.0 m ≡ a → nat_eq r.name.0 m ≡ b → cond a (names_after m rs) (cond b (names_after (m + 1) rs) None) ≡ Some m' → (next : ℕ) × NameStep names m r.name.0 next × (names_after next rs ≡ Some m')
    at true b is other e = (m, old_name names distinct m r.name.0 (ltb-true _ _ is) (omega (arith, names_grow m rs m' e)), e)
    at false true is other e =
        let same : r.name.0 ≡ m = eqb-true _ _ other in
        (m + 1, subst (λ (i : ℕ). NameStep names m i (m + 1)) (sym same) (new_name names distinct m (omega (arith, names_grow (m + 1) rs m' e))), e)
    at false false is other e = absurd cc

-- one rule's names after another's
pub names_after-append : (m : ℕ) (rs os : List Rule) → names_after m (rs ++ os) ≡ option_and_then (λ n. names_after n os) (names_after m rs)
names_after-append m [] os = refl
names_after-append m (r ∷ rs) os = at (nat_lt r.name.0 m) (nat_eq r.name.0 m) (names_after-append m rs os) (names_after-append (m + 1) rs os)
  where
    at : (a b : Bool) → names_after m (rs ++ os) ≡ option_and_then (λ n. names_after n os) (names_after m rs) → names_after (m + 1) (rs ++ os) ≡ option_and_then (λ n. names_after n os) (names_after (m + 1) rs) →
        cond a (names_after m (rs ++ os)) (cond b (names_after (m + 1) (rs ++ os)) None) ≡ option_and_then (λ n. names_after n os) (cond a (names_after m rs) (cond b (names_after (m + 1) rs) None))
    at true b f g = f
    at false true f g = g
    at false false f g = refl

-- of rules that are named once, each is new to those before it
pub named_before : (done : List Rule) (r : Rule) (rs : List Rule) → named_once (done ++ r ∷ rs) ≡ true → list_any (λ x. x.name.0 == r.name.0) done ≡ false
named_before [] r rs once = refl
named_before (d ∷ ds) r rs once =
    or_both _ _
    (or_left (d.name.0 == r.name.0) (list_any (λ x. d.name.0 == x.name.0) rs)
    (or_right (list_any (λ x. d.name.0 == x.name.0) ds) (list_any (λ x. d.name.0 == x.name.0) (r ∷ rs))
    (sym (list_any-append (λ x. d.name.0 == x.name.0) ds (r ∷ rs)) ∙ not_true _ (and_left (not (list_any (λ x. d.name.0 == x.name.0) (ds ++ r ∷ rs))) _ once))))
    (named_before ds r rs (and_right (not (list_any (λ x. d.name.0 == x.name.0) (ds ++ r ∷ rs))) _ once))
