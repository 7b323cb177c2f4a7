-- A register that gets the value of the children's responses gets that of the least awaited child.
use Rattle.std.proofs.Common.{◌≡◌, refl, ap, sym, ◌∙◌, ℕ, zero, suc, ◌+◌, ◌<◌, Bool, true, false, not, cond, ◌&&◌, ◌||◌, List, [], ◌∷◌, ◌++◌, length, map, arith, Option, Some, None}
use Rattle.std.specs.Prelude.{◌==◌, nat_lt, slice_get, filter, unwrap_or, option_and_then, is_some}
use Rattle.std.specs.List.{list_all, enumerate_from}
use Rattle.std.specs.Option.{option_map_or}
use Rattle.std.proofs.lemmas.List.Folds.{list_all-map, list_all-append}
use Rattle.hem_base.specs.Sets.{has_bit}
use Rattle.hem_base.specs.declared.ids.Message.{Message}
use Rattle.hem_base.specs.declared.ids.MsgId.{MsgId}
use Rattle.hem_syntax.specs.declared.rule.Take.TheVariants as take
use Rattle.hem_syntax.specs.declared.rule.Value.TheVariants as value
use Rattle.hem_object.specs.Local.{Local}
use Rattle.hem_fire.specs.Heads.{Heads, awaited_of, awaited_heads}
use Rattle.hem_fire.specs.View.{value_in, view_of}
use Rattle.hem_tree.specs.Tree.{below}
use Rattle.hem_tree.proofs.Lawful.{length_below}
use Rattle.hem_module.specs.Module.{put, head_value}
use Rattle.hem_module.specs.Step.{Held, head_of, test_holds, amount_in, number_after}
use Rattle.hem_emit.specs.Names.{Reg, Queue, awaits}
use Rattle.hem_emit.specs.Place.{Test, Amount, Action, Place, kids_at}
use Rattle.hem_emit.specs.Clauses.{responses_of}
use Rattle.hem_emit.specs.Actions.{where_holds, is_first_awaited, not_awaited, with_value}
use Rattle.hem_emit.specs.Shows.{Shows}
use Rattle.hem_emit.proofs.Tests.{and_true, list_all-filter, all_alike, all_elements, below_at}
use Rattle.hem_emit.proofs.Entries.{or_alike}
use Rattle.hem_emit.proofs.Sends.{below_is}
use Rattle.hem_emit.proofs.Takes.{bit_is, bit_is_not}
use Rattle.hem_emit.proofs.Amounts.{head_value_is}

-- tests that agree below a bound
all_below : (f g : ℕ → Bool) (n : ℕ) → ((j : ℕ) → j < n → f j ≡ g j) → list_all f (below n) ≡ list_all g (below n)
all_below f g zero same = refl
all_below f g (suc n) same =
    let rest = all_below f g n (λ j less. same j (omega (arith, less))) in
    list_all-append f (below n) (n ∷ [])
    ∙ ap (λ b. b && (f n && true)) rest
    ∙ ap (λ b. list_all g (below n) && (b && true)) (same n (omega arith))
    ∙ sym (list_all-append g (below n) (n ∷ []))

-- a test of the numbers below a bound alone
past_bound : (g : ℕ → Bool) (n d : ℕ) → list_all (λ j. not (nat_lt j n) || g j) (below (n + d)) ≡ list_all g (below n)
past_bound g n zero = let e : n + 0 ≡ n = omega arith in rw e (all_below (λ j. not (nat_lt j n) || g j) g n (λ j less. let is : nat_lt j n ≡ true = grind arith in rw is refl))
past_bound g n (suc d) =
    let e : n + suc d ≡ suc (n + d) = omega arith in
    rw e (list_all-append (λ j. not (nat_lt j n) || g j) (below (n + d)) ((n + d) ∷ []) ∙ last ∙ past_bound g n d)
  where
    past : nat_lt (n + d) n ≡ false
    past = grind arith

    last : (list_all (λ j. not (nat_lt j n) || g j) (below (n + d)) && ((not (nat_lt (n + d) n) || g (n + d)) && true)) ≡ list_all (λ j. not (nat_lt j n) || g j) (below (n + d))
    last = rw past (and_true (list_all (λ j. not (nat_lt j n) || g j) (below (n + d))))

-- whether nobody before a place is in a set
abbrev pub none_before : ℕ → ℕ → Bool
none_before set n = list_all (λ j. not (has_bit set j)) (below n)

-- the actions for the responses of some children
abbrev pub response_puts : Place → Reg → List (ℕ × ℕ) → List Action
response_puts at r kids = map (λ (a : List Test × Amount). where_holds ([] ++ a.0) (put r a.1)) (map (λ k. (is_first_awaited at k, head_value (responses_of k))) kids)

module _ {at : Place} {me : Option ℕ} {local : Local} {heads : Heads} {s : Held Reg Queue} (shows : Shows at me local heads s) where
  pub before_is : (n : ℕ) → n < length at.kids → list_all (test_holds s) (map not_awaited (filter (λ b. nat_lt b.0 n) (kids_at at))) ≡ none_before (awaited_of local).0 n
  before_is n less =
      let set = (awaited_of local).0 in
      let more : (d : ℕ) × (length at.kids ≡ n + d) = (rest n (length at.kids) less) in
      list_all-map (test_holds s) not_awaited (filter (λ b. nat_lt b.0 n) (kids_at at))
      ∙ list_all-filter (λ b. s.reg (awaits b.1) == 0) (λ b. nat_lt b.0 n) (kids_at at)
      ∙ all_alike (λ b. not (nat_lt b.0 n) || (s.reg (awaits b.1) == 0)) (λ b. not (nat_lt b.1 n) || not (has_bit set b.1)) at.kids (below (length at.kids)) (sym (length_below (length at.kids))) (λ k c j kid at_j. or_alike _ _ _ _ (ap (λ x. not (nat_lt x n)) (sym (below_is (length at.kids) k j at_j))) (bit_is_not _ _ (shows.awaited k c kid) ∙ ap (λ x. not (has_bit set x)) (sym (below_is (length at.kids) k j at_j))))
      ∙ all_elements (λ j. not (nat_lt j n) || not (has_bit set j)) 0 (below (length at.kids))
      ∙ ap (λ m. list_all (λ j. not (nat_lt j n) || not (has_bit set j)) (below m)) more.1
      ∙ past_bound (λ j. not (has_bit set j)) n more.0
    where
      rest : (n m : ℕ) → n < m → (d : ℕ) × (m ≡ n + d)
      rest zero m less = (m, omega arith)
      rest (suc n) zero less = absurd (omega (arith, less))
      rest (suc n) (suc m) less = let it = rest n m (omega (arith, less)) in (it.0, omega (arith, it.1))

  first_from : (is_it : Reg → Bool) (r : Reg) → is_it r ≡ true → (i : ℕ) (kids : List ℕ) (responses : List (Option Message)) (old : ℕ) → length kids ≡ length responses → ((j c : ℕ) → slice_get kids j ≡ Some c → slice_get at.kids (i + j) ≡ Some c) → ((j : ℕ) (h : Option Message) → slice_get responses j ≡ Some h → slice_get heads.kids (i + j) ≡ Some h) → number_after s is_it (response_puts at r (enumerate_from i kids)) old ≡ cond (none_before (awaited_of local).0 i) (option_map_or (λ k. unwrap_or (value_in k.1) 0) (slice_get (filter (λ k. has_bit (awaited_of local).0 k.0) (enumerate_from i responses)) 0) old) old
  first_from is_it r own i [] [] old same kids_are heads_are = both_old (none_before (awaited_of local).0 i)
    where
      both_old : (b : Bool) → old ≡ cond b old old
      both_old true = refl
      both_old false = refl
  first_from is_it r own i [] (h ∷ responses) old same kids_are heads_are = absurd (omega (arith, same))
  first_from is_it r own i (c ∷ kids) [] old same kids_are heads_are = absurd (omega (arith, same))
  first_from is_it r own i (c ∷ kids) (h ∷ responses) old same kids_are heads_are =
      let set = (awaited_of local).0 in
      let e : i + 0 ≡ i = omega arith in
      let kid : slice_get at.kids i ≡ Some c = rw e at (kids_are 0 c refl) in
      let there : slice_get heads.kids i ≡ Some h = rw e at (heads_are 0 h refl) in
      let done : list_all (test_holds s) (is_first_awaited at (i, c)) ≡ (has_bit set i && none_before set i) = done_is (bit_is _ _ (shows.awaited i c kid)) (before_is i (below_at at.kids i c kid)) in
      let written : amount_in s (head_value (responses_of (i, c))) ≡ unwrap_or (value_in h) 0 = head_value_is (head_of s (responses_of (i, c))) h (shows.responses i c h kid there) in
      ap (λ b. number_after s is_it (response_puts at r (enumerate_from (i + 1) kids)) (cond b (cond (is_it r) (amount_in s (head_value (responses_of (i, c)))) old) old)) done
      ∙ ap (λ b. number_after s is_it (response_puts at r (enumerate_from (i + 1) kids)) (cond (has_bit set i && none_before set i) (cond b (amount_in s (head_value (responses_of (i, c)))) old) old)) own
      ∙ ap (λ n. number_after s is_it (response_puts at r (enumerate_from (i + 1) kids)) (cond (has_bit set i && none_before set i) n old)) written
      ∙ by_place (has_bit set i) (none_before set i) (next_before set i) (λ old. first_from is_it r own (i + 1) kids responses old (omega (arith, same)) (λ j x at_j. let n : i + 1 + j ≡ i + suc j = omega arith in rw n (kids_are (suc j) x at_j)) (λ j x at_j. let n : i + 1 + j ≡ i + suc j = omega arith in rw n (heads_are (suc j) x at_j)))
    where
      done_is : {a b c d : Bool} → a ≡ c → b ≡ d → (a && b) ≡ (c && d)
      done_is one other = cc

      next_before : (set i : ℕ) → none_before set (i + 1) ≡ (none_before set i && not (has_bit set i))
      next_before set i = let n : i + 1 ≡ suc i = omega arith in rw n (list_all-append (λ j. not (has_bit set j)) (below i) (i ∷ []) ∙ ap (λ b. none_before set i && b) (and_true (not (has_bit set i))))

      by_place : (bit none : Bool) → none_before (awaited_of local).0 (i + 1) ≡ (none && not bit) → ((old : ℕ) → number_after s is_it (response_puts at r (enumerate_from (i + 1) kids)) old ≡ cond (none_before (awaited_of local).0 (i + 1)) (option_map_or (λ k. unwrap_or (value_in k.1) 0) (slice_get (filter (λ k. has_bit (awaited_of local).0 k.0) (enumerate_from (i + 1) responses)) 0) old) old) → number_after s is_it (response_puts at r (enumerate_from (i + 1) kids)) (cond (bit && none) (unwrap_or (value_in h) 0) old) ≡ cond none (option_map_or (λ k. unwrap_or (value_in k.1) 0) (slice_get (cond bit ((i, h) ∷ filter (λ k. has_bit (awaited_of local).0 k.0) (enumerate_from (i + 1) responses)) (filter (λ k. has_bit (awaited_of local).0 k.0) (enumerate_from (i + 1) responses))) 0) old) old
      by_place true true next rest = rest (unwrap_or (value_in h) 0) ∙ rw next refl
      by_place true false next rest = rest old ∙ rw next refl
      by_place false true next rest = rest old ∙ rw next refl
      by_place false false next rest = rest old ∙ rw next refl

  pub responses_put : (is_it : Reg → Bool) (r : Reg) → is_it r ≡ true → (id : MsgId) (old : ℕ) → is_some (view_of (take.Kids id) me local heads).rs ≡ true → number_after s is_it (with_value at me (take.Kids id) value.Rs [] (put r)) old ≡ unwrap_or (view_of (take.Kids id) me local heads).rs 0
  responses_put is_it r own id old there =
      first_from is_it r own 0 at.kids heads.kids old (sym shows.head_count) (λ j c at_j. let n : 0 + j ≡ j = omega arith in rw n at_j) (λ j h at_j. let n : 0 + j ≡ j = omega arith in rw n at_j)
      ∙ by_first (slice_get (awaited_heads local heads) 0) there
    where
      by_first : (first : Option (ℕ × Option Message)) → is_some (option_and_then (λ k. value_in k.1) first) ≡ true → option_map_or (λ k. unwrap_or (value_in k.1) 0) first old ≡ unwrap_or (option_and_then (λ k. value_in k.1) first) 0
      by_first None there = cc
      by_first (Some k) there = refl
