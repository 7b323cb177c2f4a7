-- Sets of statuses, and rules that set each place once.
use Rattle.std.proofs.Common.{◌≡◌, ℕ, zero, suc, ◌<◌, ◌≤◌, ◌^◌, ◌==◌, nat_lt, Bool, true, false, not, ◌&&◌, ◌||◌, List, [], ◌∷◌, ◌++◌, refl, sym, ap, subst, ◌∙◌, arith}
use Rattle.std.specs.Prelude.{bit_or}
use Rattle.std.specs.List.{list_any}
use Rattle.std.proofs.lemmas.Nat.{or_lt, le_or_r, pow_pos}
use Rattle.std.proofs.Math.Pow.{pow-lt}
use Rattle.hem_base.specs.declared.ids.Status8.{Status8}
use Rattle.hem_base.specs.declared.ids.StatusSet.{StatusSet}
use Rattle.hem_syntax.specs.declared.rule.Assign.{Assign}
use Rattle.hem_syntax.specs.declared.rule.Assign.TheVariants as setting
use Rattle.hem_syntax.specs.declared.rule.Value.{Value}
use Rattle.hem_syntax.specs.declared.rule.Atom.{Atom}
use Rattle.hem_syntax.specs.declared.rule.Atom.TheVariants as condition
use Rattle.hem_syntax.specs.Lawful.{Counts, has_status, has_field, has_set, has_atom, write_alike, set_once}
use Rattle.hem_grammar.specs.Draft.{bit, with_status, atom_with, no_status, sets_field, sets_val, sets_me, sets_targets, assign_with}
use Rattle.hem_parser.proofs.Lists.{both, neither, is_not, any_more, under, is_under}

bit_is : (k : ℕ) → k < 4 → bit (record { 0 = k }) ≡ 2 ^ k
bit_is zero h = refl
bit_is (suc zero) h = refl
bit_is (suc (suc zero)) h = refl
bit_is (suc (suc (suc zero))) h = refl
bit_is (suc (suc (suc (suc k)))) h = absurd (omega (arith, h))

some_bit : (k : ℕ) → k < 4 → 0 < bit (record { 0 = k })
some_bit zero h = omega arith
some_bit (suc zero) h = omega arith
some_bit (suc (suc zero)) h = omega arith
some_bit (suc (suc (suc zero))) h = omega arith
some_bit (suc (suc (suc (suc k)))) h = absurd (omega (arith, h))

not_zero : (n : ℕ) → 0 < n → not (n == 0) ≡ true
not_zero n h = grind arith

-- a set with a declared status is one of declared statuses
set_with : (n : Counts) (set : StatusSet) (s : Status8) → n.statuses ≤ 4 → has_status n s ≡ true → set.0 < 2 ^ n.statuses → has_set n (with_status set s) ≡ true
set_with n set s few declared within =
    let less : s.0 < n.statuses = under s.0 n.statuses declared in
    let small : s.0 < 4 = omega (arith, less, few) in
    let one : bit s < 2 ^ n.statuses = subst (λ b. b < 2 ^ n.statuses) (sym (bit_is s.0 small)) (pow-lt less) in
    let some : 0 < bit_or set.0 (bit s) = omega (arith, some_bit s.0 small, le_or_r set.0 (bit s)) in
    rw (not_zero (bit_or set.0 (bit s)) some, is_under (bit_or set.0 (bit s)) (2 ^ n.statuses) (or_lt n.statuses set.0 (bit s) within one)) refl

power : (k : ℕ) → 0 < 2 ^ k
power k = pow_pos k

pub first_set : (n : Counts) (s : Status8) → n.statuses ≤ 4 → has_status n s ≡ true → has_set n (with_status no_status s) ≡ true
first_set n s few declared = set_with n no_status s few declared (power n.statuses)

pub more_set : (n : Counts) (set : StatusSet) (s : Status8) → n.statuses ≤ 4 → has_status n s ≡ true → has_set n set ≡ true → has_set n (with_status set s) ≡ true
more_set n set s few declared good = set_with n set s few declared (under set.0 (2 ^ n.statuses) (both (not (set.0 == 0)) (nat_lt set.0 (2 ^ n.statuses)) good).1)

-- an atom with a status more
pub more_atom : (n : Counts) (a : Atom) (s : Status8) → n.statuses ≤ 4 → has_status n s ≡ true → has_atom n a ≡ true → has_atom n (atom_with a s) ≡ true
more_atom n (condition.Field i set) s few declared good = let two = both (has_field n i) (has_set n set) good in rw (two.0, more_set n set s few declared two.1) refl
more_atom n (condition.Me set) s few declared good = more_set n set s few declared good
more_atom n (condition.KidsAll set) s few declared good = more_set n set s few declared good
more_atom n (condition.KidsAny set) s few declared good = more_set n set s few declared good
more_atom n (condition.OthersAll set) s few declared good = more_set n set s few declared good
more_atom n (condition.OthersAny set) s few declared good = more_set n set s few declared good
more_atom n (condition.Asked id) s few declared good = good

-- a set of a rule more
pub set_more : (test : Assign → Bool) (xs : List Assign) (a : Assign) → ((x : Assign) → write_alike x a ≡ test x) → set_once xs ≡ true → list_any test xs ≡ false → set_once (xs ++ a ∷ []) ≡ true
set_more test [] a alike once fresh = refl
set_more test (x ∷ xs) a alike once fresh =
    let two = both (not (list_any (write_alike x) xs)) (set_once xs) once in
    let apart = neither (test x) (list_any test xs) fresh in
    rw (any_more (write_alike x) xs a (is_not (list_any (write_alike x) xs) two.0) (alike x ∙ apart.0), set_more test xs a alike two.1 apart.1) refl

any_alike : (p : Assign → Bool) (xs : List Assign) (a b : Assign) → p a ≡ p b → list_any p (xs ++ a ∷ []) ≡ list_any p (xs ++ b ∷ [])
any_alike p [] a b e = ap (λ c. c || false) e
any_alike p (x ∷ xs) a b e = ap (λ c. p x || c) (any_alike p xs a b e)

-- another last set of the same place
pub set_again : (xs : List Assign) (a b : Assign) → ((x : Assign) → write_alike x a ≡ write_alike x b) → set_once (xs ++ a ∷ []) ≡ set_once (xs ++ b ∷ [])
set_again [] a b alike = refl
set_again (x ∷ xs) a b alike = λ i. not (any_alike (write_alike x) xs a b (alike x) i) && set_again xs a b alike i

turned : (i j : ℕ) → (i == j) ≡ (j == i)
turned i j = grind arith

pub alike_field : (i : ℕ) (s : Status8) (x : Assign) → write_alike x (setting.Field i s) ≡ sets_field i x
alike_field i s (setting.Field j t) = turned j i
alike_field i s (setting.Val v) = refl
alike_field i s (setting.Me t) = refl
alike_field i s (setting.Targets t) = refl

pub alike_val : (v : Value) (x : Assign) → write_alike x (setting.Val v) ≡ sets_val x
alike_val v (setting.Field j t) = refl
alike_val v (setting.Val w) = refl
alike_val v (setting.Me t) = refl
alike_val v (setting.Targets t) = refl

pub alike_me : (s : Status8) (x : Assign) → write_alike x (setting.Me s) ≡ sets_me x
alike_me s (setting.Field j t) = refl
alike_me s (setting.Val w) = refl
alike_me s (setting.Me t) = refl
alike_me s (setting.Targets t) = refl

pub alike_targets : (s : Status8) (x : Assign) → write_alike x (setting.Targets s) ≡ sets_targets x
alike_targets s (setting.Field j t) = refl
alike_targets s (setting.Val w) = refl
alike_targets s (setting.Me t) = refl
alike_targets s (setting.Targets t) = refl

pub alike_with : (a : Assign) (s : Status8) (x : Assign) → write_alike x (assign_with a s) ≡ write_alike x a
alike_with (setting.Field i u) s x = alike_field i s x ∙ sym (alike_field i u x)
alike_with (setting.Val v) s x = refl
alike_with (setting.Me u) s x = alike_me s x ∙ sym (alike_me u x)
alike_with (setting.Targets u) s x = alike_targets s x ∙ sym (alike_targets u x)
