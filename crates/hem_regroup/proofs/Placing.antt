-- The members in the normal order, firing by firing.
use Rattle.std.proofs.Common.{◌≡◌, ◌≢◌, refl, sym, ap, ◌∙◌, subst, ℕ, zero, suc, ◌+◌, ◌<◌, ◌≤◌, Bool, true, false, ◌&&◌, cond, List, [], ◌∷◌, ◌++◌, append_assoc, append-nil, length, take, drop, get_or, Some, arith, ⊎_elim}
use Rattle.std.specs.Prelude.{◌==◌, nat_lt, slice_get, slice_index_or, unwrap_or}
use Rattle.std.proofs.lemmas.Bool.{eq-eqb, eqb-true, ne_eqb, cases_eq, cond-false, le-ltb, and_right}
use Rattle.std.proofs.lemmas.List.{length-take-le}
use Rattle.std.proofs.lemmas.Option.{get_or_from_slice_get, slice_get-get_or, slice_get_within, unwrap_or-slice_get}
use Rattle.hem_regroup.specs.declared.member.Member.{Member}
use Rattle.hem_regroup.specs.declared.numbered.Numbered.{Numbered}
use Rattle.hem_regroup.specs.Normal.{member_at, anchor, is_moved, held_from, with_held, normal_from, normal_members, shown, kept, IsPlacing}
use Rattle.hem_regroup.proofs.AtPlaces.{drop_there, take_there}

-- where nothing is held back
pub none_kept : (at place : ℕ) (x : Numbered) (held : List (List Member)) → (x.upward && nat_lt place at) ≡ false → x.number < length held → slice_get held x.number ≡ Some (slice_index_or held x.number [] ++ kept at place x)
none_kept at place x held stays within =
    slice_get-get_or held x.number [] within
    ∙ ap Some (sym (append-nil (get_or held x.number [])) ∙ ap (λ members. get_or held x.number [] ++ members) (sym (cond-false (x.upward && nat_lt place at) (member_at x ∷ []) [] stays)))

-- the members held back of two lists in a member
held-append : (all : List Numbered) (k : ℕ) (xs ys : List Numbered) (n : ℕ) → held_from all k (xs ++ ys) n ≡ held_from all k xs n ++ held_from all (k + length xs) ys n
held-append all k [] ys n = ap (λ k. held_from all k ys n) (plus_zero k)
  where
    plus_zero : (k : ℕ) → k ≡ k + 0
    plus_zero k = omega arith
held-append all k (x ∷ xs) ys n =
    ap (λ members. cond (x.number == n && is_moved all k x) (member_at x ∷ []) [] ++ members) (held-append all (k + 1) xs ys n)
    ∙ sym (append_assoc (cond (x.number == n && is_moved all k x) (member_at x ∷ []) []) (held_from all (k + 1) xs n) (held_from all (k + 1 + length xs) ys n))
    ∙ ap (λ j. (cond (x.number == n && is_moved all k x) (member_at x ∷ []) [] ++ held_from all (k + 1) xs n) ++ held_from all j ys n) (one_on k (length xs))
  where
    one_on : (k m : ℕ) → k + 1 + m ≡ k + suc m
    one_on k m = omega arith

-- nothing is held back from the anchor on
stays_from : (all : List Numbered) (k : ℕ) (x : Numbered) (n : ℕ) → anchor all n ≤ k → (x.number == n && is_moved all k x) ≡ false
stays_from all k x n past = by_number (x.number == n) refl
  where
    by_number : (b : Bool) → (x.number == n) ≡ b → (b && is_moved all k x) ≡ false
    by_number true same = and_right x.upward _ (ap (λ n. nat_lt k (anchor all n)) (eqb-true x.number n same) ∙ le-ltb k (anchor all n) past)
    by_number false differ = refl

none_held : (all : List Numbered) (k : ℕ) (xs : List Numbered) (n : ℕ) → anchor all n ≤ k → held_from all k xs n ≡ []
none_held all k [] n past = refl
none_held all k (x ∷ xs) n past =
    ap (λ b. cond b (member_at x ∷ []) [] ++ held_from all (k + 1) xs n) (stays_from all k x n past)
    ∙ none_held all (k + 1) xs n (omega arith)

-- so at the anchor all have been held back
held_all : (all : List Numbered) (n : ℕ) → anchor all n ≤ length all → held_from all 0 (take (anchor all n) all) n ≡ held_from all 0 all n
held_all all n within =
    let k = anchor all n in
    sym (append-nil (held_from all 0 (take k all) n))
    ∙ ap (λ members. held_from all 0 (take k all) n ++ members) (sym (none_held all (0 + length (take k all)) (drop k all) n (let size = length-take-le k all within in omega (arith, size))))
    ∙ sym (held-append all 0 (take k all) (drop k all) n)
    ∙ ap (λ xs. held_from all 0 xs n) (take_then_drop k all)
  where
    take_then_drop : (k : ℕ) (xs : List Numbered) → take k xs ++ drop k xs ≡ xs
    take_then_drop zero xs = refl
    take_then_drop (suc k) [] = refl
    take_then_drop (suc k) (x ∷ xs) = ap (λ ys. x ∷ ys) (take_then_drop k xs)

-- what stands in a firing's place, from what was held back before it
shown-with : (all : List Numbered) (place : ℕ) (x : Numbered) → place ≤ length all → shown (anchor all x.number) place x (held_from all 0 (take place all) x.number) ≡ with_held all place x
shown-with all place x within = ap (λ members. cond (is_moved all place x) [] (members ++ member_at x ∷ [])) (by_anchor (place == anchor all x.number) refl)
  where
    by_anchor : (b : Bool) → (place == anchor all x.number) ≡ b → cond b (held_from all 0 (take place all) x.number) [] ≡ cond b (held_from all 0 all x.number) []
    by_anchor true is =
        let at = eqb-true place (anchor all x.number) is in
        ap (λ k. held_from all 0 (take k all) x.number) at ∙ held_all all x.number (subst (λ k. k ≤ length all) at within)
    by_anchor false is = refl

-- only at the anchor it matters what was held back
shown-held : (at place : ℕ) (x : Numbered) (held other : List Member) → (place ≤ at → held ≡ other) → shown at place x held ≡ shown at place x other
shown-held at place x held other same = ap (λ those. cond (x.upward && nat_lt place at) [] (those ++ member_at x ∷ [])) (by (place == at) refl)
  where
    by : (b : Bool) → (place == at) ≡ b → cond b held [] ≡ cond b other []
    by true is = same (let at_it = eqb-true place at is in omega (arith, at_it))
    by false is = refl

members_next : (all : List Numbered) (place : ℕ) (x : Numbered) (members new : List Member) (held : List (List Member)) → slice_get all place ≡ Some x → IsPlacing all place members held → new ≡ members ++ shown (anchor all x.number) place x (slice_index_or held x.number []) → new ++ normal_from all (place + 1) (drop (place + 1) all) ≡ normal_members all
members_next all place x members new held found placing pushed =
    let rest = normal_from all (place + 1) (drop (place + 1) all) in
    ap (λ new. new ++ rest) (pushed ∙ ap (λ more. members ++ more) (shown-held (anchor all x.number) place x (slice_index_or held x.number []) (held_from all 0 (take place all) x.number) (placing.held_are x.number)) ∙ ap (λ more. members ++ more) (shown-with all place x (let inside = slice_get_within all place x found in omega (arith, inside))))
    ∙ append_assoc members (with_held all place x) rest
    ∙ ap (λ more. members ++ more) (ap (normal_from all place) (sym (drop_there all place x found)))
    ∙ placing.members_are

held_next : (all : List Numbered) (place : ℕ) (x : Numbered) (held new : List (List Member)) → slice_get all place ≡ Some x → ((n : ℕ) → place ≤ anchor all n → slice_index_or held n [] ≡ held_from all 0 (take place all) n) → (place ≢ anchor all x.number → slice_get new x.number ≡ Some (slice_index_or held x.number [] ++ kept (anchor all x.number) place x)) → ((t : ℕ) → t ≢ x.number → slice_get new t ≡ slice_get held t) → (n : ℕ) → place + 1 ≤ anchor all n → slice_index_or new n [] ≡ held_from all 0 (take (place + 1) all) n
held_next all place x held new found were there others n before_anchor =
    let before = held_from all 0 (take place all) n in
    let so_far : slice_index_or held n [] ≡ before = were n (omega (arith, before_anchor)) in
    ⊎_elim
    (λ (same : x.number ≡ n).
    ap (λ n. slice_index_or new n []) (sym same)
    ∙ get_or_from_slice_get new x.number (slice_index_or held x.number [] ++ kept (anchor all x.number) place x) [] (there (λ is. let same_anchor : anchor all x.number ≡ anchor all n = ap (anchor all) same in omega (arith, is, same_anchor, before_anchor)))
    ∙ ap (λ members. members ++ kept (anchor all x.number) place x) (ap (λ n. slice_index_or held n []) same ∙ so_far)
    ∙ ap (λ b. before ++ cond (b && is_moved all place x) (member_at x ∷ []) []) (sym (eq-eqb x.number n same)))
    (λ (other : x.number ≢ n).
    sym (unwrap_or-slice_get new n [])
    ∙ ap (λ o. unwrap_or o []) (others n (λ same. other (sym same)))
    ∙ unwrap_or-slice_get held n []
    ∙ so_far
    ∙ sym (append-nil before)
    ∙ ap (λ b. before ++ cond (b && is_moved all place x) (member_at x ∷ []) []) (sym (ne_eqb x.number n other)))
    (cases_eq x.number n)
    ∙ ap (λ members. before ++ members) (sym (append-nil (cond (x.number == n && is_moved all place x) (member_at x ∷ []) [])))
    ∙ ap (λ k. before ++ held_from all k (x ∷ []) n) (sym (let inside = slice_get_within all place x found in let size = length-take-le place all (omega (arith, inside)) in let at : 0 + length (take place all) ≡ place = omega (arith, size) in at))
    ∙ sym (held-append all 0 (take place all) (x ∷ []) n)
    ∙ ap (λ xs. held_from all 0 xs n) (sym (take_there all place x found))

-- one firing more
pub placing_next : (all : List Numbered) (place at : ℕ) (x : Numbered) (members new_members : List Member) (held new_held : List (List Member)) → slice_get all place ≡ Some x → IsPlacing all place members held → at ≡ anchor all x.number → new_members ≡ members ++ shown at place x (slice_index_or held x.number []) → (place ≢ at → slice_get new_held x.number ≡ Some (slice_index_or held x.number [] ++ kept at place x)) → ((t : ℕ) → t ≢ x.number → slice_get new_held t ≡ slice_get held t) → IsPlacing all (place + 1) new_members new_held
placing_next all place at x members new_members held new_held found placing is pushed there others =
    record {
      members_are = members_next all place x members new_members held found placing (pushed ∙ ap (λ at. members ++ shown at place x (slice_index_or held x.number [])) is);
      held_are = held_next all place x held new_held found placing.held_are (λ away. there (λ here. away (here ∙ is)) ∙ ap (λ at. Some (slice_index_or held x.number [] ++ kept at place x)) is) others;
    }
