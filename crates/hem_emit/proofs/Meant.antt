-- Of the amounts that a value may mean one is meant: the number that the value stands for.
use Rattle.std.proofs.Common.{◌≡◌, refl, ap, sym, ◌∙◌, ℕ, suc, ◌+◌, Bool, true, false, not, cond, ◌&&◌, List, [], ◌∷◌, ◌++◌, length, map, arith, Option, Some, None}
use Rattle.std.specs.Prelude.{slice_get, filter, unwrap_or, option_and_then, is_some}
use Rattle.std.specs.List.{list_all, enumerate_from}
use Rattle.std.specs.Option.{option_map_or}
use Rattle.std.proofs.lemmas.List.Folds.{list_all-append}
use Rattle.hem_base.specs.Sets.{has_bit}
use Rattle.hem_base.specs.declared.ids.Message.{Message}
use Rattle.hem_syntax.specs.declared.rule.Side.TheVariants.{Up, Down}
use Rattle.hem_syntax.specs.declared.rule.Take.{Take}
use Rattle.hem_syntax.specs.declared.rule.Take.TheVariants as take
use Rattle.hem_syntax.specs.declared.rule.Value.{Value}
use Rattle.hem_syntax.specs.declared.rule.Value.TheVariants as value
use Rattle.hem_object.specs.Local.{Local}
use Rattle.hem_object.specs.Guard.{value_of}
use Rattle.hem_fire.specs.Heads.{Heads, awaited_of, awaited_heads}
use Rattle.hem_fire.specs.View.{value_in, view_of}
use Rattle.hem_tree.specs.Tree.{below}
use Rattle.hem_module.specs.Module.{head_value}
use Rattle.hem_module.specs.Step.{Held, head_of, test_holds, amount_in}
use Rattle.hem_emit.specs.Names.{Reg, Queue, kept}
use Rattle.hem_emit.specs.Place.{Test, Amount, Place}
use Rattle.hem_emit.specs.Clauses.{responses_of}
use Rattle.hem_emit.specs.Actions.{is_first_awaited, amounts_of}
use Rattle.hem_emit.specs.Shows.{Shows}
use Rattle.hem_emit.proofs.Tests.{and_true, below_at}
use Rattle.hem_emit.proofs.Takes.{bit_is}
use Rattle.hem_emit.proofs.Amounts.{head_value_is, kept_value_is}
use Rattle.hem_emit.proofs.Responses.{none_before, before_is}

-- the numbers of the amounts that are meant
abbrev pub meant : Held Reg Queue → List (List Test × Amount) → List ℕ
meant s [] = []
meant s (a ∷ xs) = cond (list_all (test_holds s) a.0) (amount_in s a.1 ∷ []) [] ++ meant s xs

one_number : (m n : ℕ) → m ≡ n → m ∷ [] ≡ n ∷ []
one_number m n same = ap (λ (n : ℕ). n ∷ []) same

-- the amounts of some children's responses
abbrev pub responses_meant : Place → List (ℕ × ℕ) → List (List Test × Amount)
responses_meant at kids = map (λ k. (is_first_awaited at k, head_value (responses_of k))) kids

module _ {at : Place} {me : Option ℕ} {local : Local} {heads : Heads} {s : Held Reg Queue} (shows : Shows at me local heads s) where
  meant_from : (i : ℕ) (kids : List ℕ) (responses : List (Option Message)) → length kids ≡ length responses → ((j c : ℕ) → slice_get kids j ≡ Some c → slice_get at.kids (i + j) ≡ Some c) → ((j : ℕ) (h : Option Message) → slice_get responses j ≡ Some h → slice_get heads.kids (i + j) ≡ Some h) → meant s (responses_meant at (enumerate_from i kids)) ≡ cond (none_before (awaited_of local).0 i) (option_map_or (λ k. unwrap_or (value_in k.1) 0 ∷ []) (slice_get (filter (λ k. has_bit (awaited_of local).0 k.0) (enumerate_from i responses)) 0) []) []
  meant_from i [] [] same kids_are heads_are = none_left (none_before (awaited_of local).0 i)
    where
      nothing : List ℕ
      nothing = []

      none_left : (b : Bool) → nothing ≡ cond b nothing nothing
      none_left true = refl
      none_left false = refl
  meant_from i [] (h ∷ responses) same kids_are heads_are = absurd (omega (arith, same))
  meant_from i (c ∷ kids) [] same kids_are heads_are = absurd (omega (arith, same))
  meant_from i (c ∷ kids) (h ∷ responses) same kids_are heads_are =
      let set = (awaited_of local).0 in
      let e : i + 0 ≡ i = omega arith in
      let kid : slice_get at.kids i ≡ Some c = rw e at (kids_are 0 c refl) in
      let there : slice_get heads.kids i ≡ Some h = rw e at (heads_are 0 h refl) in
      let done : list_all (test_holds s) (is_first_awaited at (i, c)) ≡ (has_bit set i && none_before set i) = done_is (bit_is _ _ (shows.awaited i c kid)) (before_is shows i (below_at at.kids i c kid)) in
      let number_is : amount_in s (head_value (responses_of (i, c))) ≡ unwrap_or (value_in h) 0 = head_value_is (head_of s (responses_of (i, c))) h (shows.responses i c h kid there) in
      ap (λ b. cond b (amount_in s (head_value (responses_of (i, c))) ∷ []) [] ++ meant s (responses_meant at (enumerate_from (i + 1) kids))) done
      ∙ ap (λ (n : ℕ). cond (has_bit set i && none_before set i) (n ∷ []) [] ++ meant s (responses_meant at (enumerate_from (i + 1) kids))) number_is
      ∙ by_place (has_bit set i) (none_before set i) (next_before set i) (meant_from (i + 1) kids responses (omega (arith, same)) (λ j x at_j. let n : i + 1 + j ≡ i + suc j = omega arith in rw n (kids_are (suc j) x at_j)) (λ j x at_j. let n : i + 1 + j ≡ i + suc j = omega arith in rw n (heads_are (suc j) x at_j)))
    where
      done_is : {a b c d : Bool} → a ≡ c → b ≡ d → (a && b) ≡ (c && d)
      done_is one other = cc

      next_before : (set i : ℕ) → none_before set (i + 1) ≡ (none_before set i && not (has_bit set i))
      next_before set i = let n : i + 1 ≡ suc i = omega arith in rw n (list_all-append (λ j. not (has_bit set j)) (below i) (i ∷ []) ∙ ap (λ b. none_before set i && b) (and_true (not (has_bit set i))))

      by_place : (bit none : Bool) → none_before (awaited_of local).0 (i + 1) ≡ (none && not bit) → meant s (responses_meant at (enumerate_from (i + 1) kids)) ≡ cond (none_before (awaited_of local).0 (i + 1)) (option_map_or (λ k. unwrap_or (value_in k.1) 0 ∷ []) (slice_get (filter (λ k. has_bit (awaited_of local).0 k.0) (enumerate_from (i + 1) responses)) 0) []) [] → cond (bit && none) (unwrap_or (value_in h) 0 ∷ []) [] ++ meant s (responses_meant at (enumerate_from (i + 1) kids)) ≡ cond none (option_map_or (λ k. unwrap_or (value_in k.1) 0 ∷ []) (slice_get (cond bit ((i, h) ∷ filter (λ k. has_bit (awaited_of local).0 k.0) (enumerate_from (i + 1) responses)) (filter (λ k. has_bit (awaited_of local).0 k.0) (enumerate_from (i + 1) responses))) 0) []) []
      by_place true true next rest = ap (λ (xs : List ℕ). unwrap_or (value_in h) 0 ∷ xs) (rest ∙ rw next refl)
      by_place true false next rest = rest ∙ rw next refl
      by_place false true next rest = rest ∙ rw next refl
      by_place false false next rest = rest ∙ rw next refl

  -- where the value exists its number alone is meant
  pub one_meant : (t : Take) (v : Value) → is_some (value_of v local (view_of t me local heads)) ≡ true → meant s (amounts_of at me t v) ≡ unwrap_or (value_of v local (view_of t me local heads)) 0 ∷ []
  one_meant t value.Val there = one_number _ _ shows.value
  one_meant t value.Zero there = refl
  one_meant (take.Me id) value.Msg there = one_number _ _ (head_value_is _ heads.request shows.requests)
  one_meant (take.Parent id) value.Msg there = one_number _ _ (head_value_is _ heads.parent shows.parent)
  one_meant (take.Kids id) value.Msg there = cc
  one_meant take.Nothing value.Msg there = cc
  one_meant (take.Me id) value.Kept there = cc
  one_meant (take.Parent id) value.Kept there = one_number _ _ (shows.locks Up kept ∙ kept_value_is at.kids local.up)
  one_meant (take.Kids id) value.Kept there = one_number _ _ (shows.locks Down kept ∙ kept_value_is at.kids local.down)
  one_meant take.Nothing value.Kept there = cc
  one_meant (take.Me id) value.Rs there = cc
  one_meant (take.Parent id) value.Rs there = cc
  one_meant take.Nothing value.Rs there = cc
  one_meant (take.Kids id) value.Rs there =
      meant_from 0 at.kids heads.kids (sym shows.head_count) (λ j c at_j. let n : 0 + j ≡ j = omega arith in rw n at_j) (λ j h at_j. let n : 0 + j ≡ j = omega arith in rw n at_j)
      ∙ by_first (slice_get (awaited_heads local heads) 0) there
    where
      by_first : (first : Option (ℕ × Option Message)) → is_some (option_and_then (λ k. value_in k.1) first) ≡ true → option_map_or (λ k. unwrap_or (value_in k.1) 0 ∷ []) first [] ≡ unwrap_or (option_and_then (λ k. value_in k.1) first) 0 ∷ []
      by_first None there = cc
      by_first (Some k) there = refl
