-- The highest objects, found from the last firing on.
use Rattle.std.proofs.Common.{◌≡◌, ◌≢◌, refl, sym, ap, ◌∙◌, ℕ, zero, suc, ◌+◌, ◌-◌, ◌<◌, cond, List, [], ◌∷◌, length, map, drop, get_or, set, Option, None, Some, arith, ⊎_elim}
use Rattle.std.specs.Prelude.{slice_get}
use Rattle.std.proofs.lemmas.Bool.{eq-eqb, ne_eqb, cases_eq}
use Rattle.std.proofs.lemmas.List.{get_or-set_other, get_or-set_same}
use Rattle.hem_regroup.specs.declared.numbered.Numbered.{Numbered}
use Rattle.hem_regroup.specs.declared.tops.Top.{Top}
use Rattle.hem_regroup.specs.Normal.{top_at, upper, top_from, place_of, AreBelow}
use Rattle.hem_regroup.proofs.AtPlaces.{drop_there, each_there}

-- the tops of one firing more
tops_at : (count : ℕ) (all : List Numbered) (j : ℕ) (x : Numbered) (tops new : List (Option Top)) → slice_get all j ≡ Some x → ((n : ℕ) → n < count → get_or tops n None ≡ top_from (j + 1) (drop (j + 1) all) n) → length tops ≡ count → AreBelow count all → new ≡ set tops x.number (Some (upper (get_or tops x.number None) (top_at j x))) → (n : ℕ) → n < count → get_or new n None ≡ top_from j (drop j all) n
tops_at count all j x tops new there were size below written n inside =
    let x_below : x.number < length tops = let it = each_there (λ x. x.number < count) all j x there below in omega (arith, it, size) in
    ap (λ tops. get_or tops n None) written
    ∙ ⊎_elim
    (λ (same : x.number ≡ n).
    ap (λ n. get_or (set tops x.number (Some (upper (get_or tops x.number None) (top_at j x)))) n None) (sym same)
    ∙ get_or-set_same tops x.number (Some (upper (get_or tops x.number None) (top_at j x))) None x_below
    ∙ ap (λ o. Some (upper o (top_at j x))) (ap (λ n. get_or tops n None) same ∙ were n inside)
    ∙ ap (λ b. cond b (Some (upper (top_from (j + 1) (drop (j + 1) all) n) (top_at j x))) (top_from (j + 1) (drop (j + 1) all) n)) (sym (eq-eqb x.number n same)))
    (λ (other : x.number ≢ n).
    get_or-set_other tops x.number n (Some (upper (get_or tops x.number None) (top_at j x))) None (λ same. other (sym same))
    ∙ were n inside
    ∙ ap (λ b. cond b (Some (upper (top_from (j + 1) (drop (j + 1) all) n) (top_at j x))) (top_from (j + 1) (drop (j + 1) all) n)) (sym (ne_eqb x.number n other)))
    (cases_eq x.number n)
    ∙ ap (λ xs. top_from j xs n) (sym (drop_there all j x there))

pub tops_more : (count : ℕ) (all : List Numbered) (back j : ℕ) (x : Numbered) (tops new : List (Option Top)) → back < length all → j ≡ length all - 1 - back → slice_get all j ≡ Some x → ((n : ℕ) → n < count → get_or tops n None ≡ top_from (length all - back) (drop (length all - back) all) n) → length tops ≡ count → AreBelow count all → new ≡ set tops x.number (Some (upper (get_or tops x.number None) (top_at j x))) → (n : ℕ) → n < count → get_or new n None ≡ top_from (length all - (back + 1)) (drop (length all - (back + 1)) all) n
tops_more count all back j x tops new within is there were size below written n inside =
    let next : j + 1 ≡ length all - back = omega (arith, within, is) in
    let last : j ≡ length all - (back + 1) = omega (arith, within, is) in
    tops_at count all j x tops new there (λ n inside. were n inside ∙ ap (λ k. top_from k (drop k all) n) (sym next)) size below written n inside
    ∙ ap (λ k. top_from k (drop k all) n) last

-- the place of the top of one number
pub places-at : (tops : List (Option Top)) (n : ℕ) → get_or (map place_of tops) n 0 ≡ place_of (get_or tops n None)
places-at [] n = refl
places-at (top ∷ tops) zero = refl
places-at (top ∷ tops) (suc n) = places-at tops n

pub places_size : (tops : List (Option Top)) → length (map place_of tops) ≡ length tops
places_size [] = refl
places_size (top ∷ tops) = ap suc (places_size tops)
