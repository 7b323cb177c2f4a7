-- The firings of each transaction, as lists.
use Rattle.std.proofs.Common.{◌≡◌, ◌≢◌, refl, sym, ap, ◌∙◌, ℕ, zero, suc, ◌+◌, ◌<◌, Bool, true, false, not, cond, List, [], ◌∷◌, ◌++◌, append-nil, map, length, take, get_or, add-one, Option, None, Some, ⊎_elim}
use Rattle.std.specs.Prelude.{◌==◌, filter, slice_get, slice_index_or, unwrap_or}
use Rattle.std.specs.List.{list_any}
use Rattle.std.proofs.Math.Seq.{take-suc}
use Rattle.std.proofs.lemmas.Bool.{eq-eqb, ne_eqb, cases_eq, eqb-true, or_cases, true≢false}
use Rattle.std.proofs.lemmas.Option.{get_or_from_slice_get, unwrap_or-slice_get}
use Rattle.hem_base.specs.declared.ids.Firing.{Firing}
use Rattle.hem_regroup.specs.declared.member.Member.{Member}
use Rattle.hem_law.specs.Orders.{stands_in}
use Rattle.hem_regroup.specs.Turns.{next, without, turns}
use Rattle.hem_regroup.specs.Printed.{firings_in, block_of, block_among}
use Rattle.hem_law.proofs.Filters.{find-some}
use Rattle.hem_regroup.proofs.SameTurns.{turns_some, turns_none, in_without}

firings-more : (members : List Member) (r : Member) (t : ℕ) → firings_in (members ++ r ∷ []) t ≡ firings_in members t ++ cond (r.number == t) (r.firing ∷ []) []
firings-more [] r t = by_test (r.number == t)
  where
    by_test : (b : Bool) → map (λ r. r.firing) (cond b (r ∷ []) []) ≡ cond b (r.firing ∷ []) []
    by_test true = refl
    by_test false = refl
firings-more (x ∷ members) r t = by_test (x.number == t) (firings-more members r t)
  where
    by_test : (b : Bool) → firings_in (members ++ r ∷ []) t ≡ firings_in members t ++ cond (r.number == t) (r.firing ∷ []) [] → map (λ r. r.firing) (cond b (x ∷ filter (λ r. r.number == t) (members ++ r ∷ [])) (filter (λ r. r.number == t) (members ++ r ∷ []))) ≡ map (λ r. r.firing) (cond b (x ∷ filter (λ r. r.number == t) members) (filter (λ r. r.number == t) members)) ++ cond (r.number == t) (r.firing ∷ []) []
    by_test true rest = ap (λ fs. x.firing ∷ fs) rest
    by_test false rest = rest

-- the lists with one member more
pub grouped_more : (members : List Member) (k : ℕ) (d : Member) (groups new : List (List Firing)) → k < length members → ((t : ℕ) → slice_index_or groups t [] ≡ firings_in (take k members) t) → slice_get new (get_or members k d).number ≡ Some (slice_index_or groups (get_or members k d).number [] ++ (get_or members k d).firing ∷ []) → ((t : ℕ) → t ≢ (get_or members k d).number → slice_get new t ≡ slice_get groups t) → (t : ℕ) → slice_index_or new t [] ≡ firings_in (take (k + 1) members) t
grouped_more members k d groups new within were there others t =
    let member = get_or members k d in
    ⊎_elim
    (λ (same : member.number ≡ t).
    ap (λ t. slice_index_or new t []) (sym same)
    ∙ get_or_from_slice_get new member.number (slice_index_or groups member.number [] ++ member.firing ∷ []) [] there
    ∙ ap (λ fs. fs ++ member.firing ∷ []) (ap (λ t. slice_index_or groups t []) same ∙ were t)
    ∙ ap (λ (b : Bool). firings_in (take k members) t ++ cond b (member.firing ∷ []) []) (sym (eq-eqb member.number t same)))
    (λ (other : member.number ≢ t).
    sym (unwrap_or-slice_get new t [])
    ∙ ap (λ o. unwrap_or o []) (others t (λ same. other (sym same)))
    ∙ unwrap_or-slice_get groups t []
    ∙ were t
    ∙ sym (append-nil (firings_in (take k members) t))
    ∙ ap (λ (b : Bool). firings_in (take k members) t ++ cond b (member.firing ∷ []) []) (sym (ne_eqb member.number t other)))
    (cases_eq member.number t)
    ∙ sym (firings-more (take k members) member t)
    ∙ ap (λ members. firings_in members t) (sym (take-suc members k d within))
    ∙ ap (λ k. firings_in (take k members) t) (sym (add-one k))

-- the same list, whether or not there is one
pub same_list : (groups new : List (List Firing)) (t : ℕ) → slice_get new t ≡ slice_get groups t → slice_index_or new t [] ≡ slice_index_or groups t []
same_list groups new t same = sym (unwrap_or-slice_get new t []) ∙ ap (λ o. unwrap_or o []) same ∙ unwrap_or-slice_get groups t []

-- who is out was left
pub turns_left : (n : ℕ) (waits : ℕ → ℕ → Bool) (left : List ℕ) (u : ℕ) → stands_in (turns n waits left) u ≡ true → stands_in left u ≡ true
turns_left zero waits left u out = absurd (true≢false (sym out))
turns_left (suc n) waits left u out = by_next (next waits left) refl (λ t. turns_left n waits (without t left) u)
  where
    by_next : (o : Option ℕ) → next waits left ≡ o → ((t : ℕ) → stands_in (turns n waits (without t left)) u ≡ true → stands_in (without t left) u ≡ true) → stands_in left u ≡ true
    by_next None is rest = absurd (true≢false (sym (ap (λ ts. stands_in ts u) (sym (turns_none n waits left is)) ∙ out)))
    by_next (Some t) is rest =
        ⊎_elim
        (λ here. ap (stands_in left) (sym (eqb-true t u here)) ∙ (find-some (λ u. not (list_any (λ t. waits t u) left)) left t is).0)
        (λ later. (in_without t u left (rest t later)).0)
        (or_cases (t == u) (stands_in (turns n waits (without t left)) u) (ap (λ ts. stands_in ts u) (sym (turns_some n waits left t is)) ∙ out))

-- the blocks of the lists are those of the members
pub blocks_same : (members : List Member) (groups : List (List Firing)) (order : List ℕ) → ((t : ℕ) → slice_index_or groups t [] ≡ firings_in members t) → map (block_among groups) order ≡ map (block_of members) order
blocks_same members groups order same = λ i. map (λ t. record { number = t; firings = same t i }) order
