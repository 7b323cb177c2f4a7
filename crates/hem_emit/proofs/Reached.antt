-- Of the tests of a child's queue one holds at most, and it holds where the send reaches the child.
use Rattle.std.proofs.Common.{◌≡◌, ◌≢◌, refl, ap, sym, ◌∙◌, ℕ, zero, suc, ◌+◌, Bool, true, false, not, cond, ◌&&◌, List, [], ◌∷◌, ◌++◌, map, arith, Option, Some}
use Rattle.std.specs.Prelude.{◌==◌, filter, slice_get}
use Rattle.std.specs.List.{list_all, list_any, flat_map, enumerate_from}
use Rattle.hem_base.specs.declared.ids.Kind.{Kind}
use Rattle.hem_base.specs.declared.ids.Kind.TheVariants.{Root, Mid, Leaf}
use Rattle.hem_base.specs.declared.ids.StatusSet.{StatusSet}
use Rattle.hem_syntax.specs.declared.rule.Side.{Side}
use Rattle.hem_syntax.specs.declared.rule.SendTo.{SendTo}
use Rattle.hem_syntax.specs.declared.rule.SendTo.TheVariants as send
use Rattle.hem_template.specs.Template.{is_leaf}
use Rattle.hem_module.specs.Module.{Item}
use Rattle.hem_module.specs.Step.{Held, test_holds}
use Rattle.hem_emit.specs.Names.{Reg, Queue, entry, same_queue}
use Rattle.hem_emit.specs.Place.{Test, Place, Asker, fixed, holder, kids_at, is_named, origin_at, kid_origin}
use Rattle.hem_emit.specs.Clauses.{entry_in, held_for, not_held_for}
use Rattle.hem_emit.specs.Actions.{targets_at, requester_queues, child_queue}
use Rattle.hem_emit.specs.Shows.{AreKids}
use Rattle.hem_emit.proofs.Tests.{and_true, list_any-map, differ, same_number}
use Rattle.hem_emit.proofs.Guards.{is_asker}
use Rattle.hem_emit.proofs.Picked.{picked, one_if, picked-map, picked-filter, none_picked, entry_picked, beside, one_of_kids}

pub never_any : {A : Type 0} (test : A → Bool) (xs : List A) → ((x : A) → test x ≡ false) → list_any test xs ≡ false
never_any test [] never = refl
never_any test (x ∷ xs) never = rw (never x) (never_any test xs never)

pub never_picked : {A : Type 0} (test : A → Bool) (m : Item) (xs : List A) → ((x : A) → test x ≡ false) → picked test m xs ≡ []
never_picked test m xs never = none_picked test m xs (never_any test xs never)

pub and_false : (b c : Bool) → c ≡ false → (b && c) ≡ false
and_false true c is = is
and_false false c is = refl

flat_map-filter : {A B : Type 0} (f : A → List B) (keep : A → Bool) (xs : List A) → flat_map f (filter keep xs) ≡ flat_map (λ x. cond (keep x) (f x) []) xs
flat_map-filter f keep [] = refl
flat_map-filter f keep (x ∷ xs) = by_keep (keep x) (flat_map-filter f keep xs)
  where
    by_keep : (b : Bool) → flat_map f (filter keep xs) ≡ flat_map (λ x. cond (keep x) (f x) []) xs → flat_map f (cond b (x ∷ filter keep xs) (filter keep xs)) ≡ cond b (f x) [] ++ flat_map (λ x. cond (keep x) (f x) []) xs
    by_keep true rest = ap (λ ys. f x ++ ys) rest
    by_keep false rest = rest

-- of children only the one at a place passes
none_at : (test : ℕ × ℕ → Bool) (m : Item) (i : ℕ) (kids : List ℕ) → ((j d : ℕ) → slice_get kids j ≡ Some d → test (i + j, d) ≡ false) → picked test m (enumerate_from i kids) ≡ []
none_at test m i [] each = refl
none_at test m i (d ∷ kids) each =
    let e : i + 0 ≡ i = omega arith in
    let head : test (i, d) ≡ false = rw e at (each 0 d refl) in
    rw head (none_at test m (i + 1) kids (λ j x at. let n : i + 1 + j ≡ i + suc j = omega arith in rw n (each (suc j) x at)))

picked_at : (test : ℕ × ℕ → Bool) (m : Item) (i k c : ℕ) (kids : List ℕ) → slice_get kids k ≡ Some c → ((j d : ℕ) → slice_get kids j ≡ Some d → j ≢ k → test (i + j, d) ≡ false) → picked test m (enumerate_from i kids) ≡ one_if (test (i + k, c)) m
picked_at test m i k c [] kid other = cc
picked_at test m i zero c (d ∷ kids) kid other =
    let e : i + 0 ≡ i = omega arith in
    let it : d ≡ c = cc in
    ap (λ zs. one_if (test (i, d)) m ++ zs) (none_at test m (i + 1) kids (λ j x at. let n : i + 1 + j ≡ i + suc j = omega arith in rw n (other (suc j) x at (λ bad. absurd (omega (arith, bad))))))
    ∙ alone (test (i, d))
    ∙ ap (λ x. one_if (test (i, x)) m) it
    ∙ sym (ap (λ n. one_if (test (n, c)) m) e)
  where
    alone : (b : Bool) → one_if b m ++ [] ≡ one_if b m
    alone true = refl
    alone false = refl
picked_at test m i (suc k) c (d ∷ kids) kid other =
    let e : i + 0 ≡ i = omega arith in
    let n : i + 1 + k ≡ i + suc k = omega arith in
    let none : test (i, d) ≡ false = rw e at (other 0 d refl (λ bad. absurd (omega (arith, bad)))) in
    ap (λ b. one_if b m ++ picked test m (enumerate_from (i + 1) kids)) none
    ∙ picked_at test m (i + 1) k c kids kid (λ j x at far. let n : i + 1 + j ≡ i + suc j = omega arith in rw n (other (suc j) x at (λ same. let back : j ≡ k = omega (arith, same) in far back)))
    ∙ ap (λ n. one_if (test (n, c)) m) n

-- at the queue of the child at a place
module _ (at : Place) (are : AreKids at.kind at.kids) (s : Held Reg Queue) (k c : ℕ) (kid : slice_get at.kids k ≡ Some c) (m : Item) where
  other_kid : (j d : ℕ) → slice_get at.kids j ≡ Some d → j ≢ k → (c == d) ≡ false
  other_kid j d other far = differ c d (λ same. far (are.apart j k c (other ∙ ap Some (sym same)) kid))

  abbrev hits : (ℕ × ℕ) × List Test → Bool
  hits x = list_all (test_holds s) x.1 && c == x.0.1

  abbrev pub Single : List ((ℕ × ℕ) × List Test) → Type 0
  Single xs = picked (λ x. list_all (test_holds s) x.1 && c == x.0.1) m xs ≡ one_if (list_any (λ x. list_all (test_holds s) x.1 && c == x.0.1) xs) m

  single_of : (set : StatusSet) (keep also : ℕ × ℕ → Bool) (f : ℕ × ℕ → Test → (ℕ × ℕ) × List Test) → ((x : ℕ × ℕ) (test : Test) → hits (f x test) ≡ (test_holds s test && (also x && c == x.1))) → Single (flat_map (λ x. cond (keep x) (map (f x) (entry_in at set x)) []) (kids_at at))
  single_of set keep also f is = one_of_kids hits m (λ x. cond (keep x) (map (f x) (entry_in at set x)) []) 0 k at.kids (λ j d there. each (0 + j, d) (keep (0 + j, d))) (λ j d there far. none (0 + j, d) (keep (0 + j, d)) (other_kid j d there far))
    where
      each : (x : ℕ × ℕ) (b : Bool) → Single (cond b (map (f x) (entry_in at set x)) [])
      each x true = picked-map hits m (f x) (entry_in at set x) ∙ beside (test_holds s) (λ test. hits (f x test)) (also x && c == x.1) m (entry_in at set x) (is x) (entry_picked s at set (entry x.1) m) ∙ sym (ap (λ b. one_if b m) (list_any-map hits (f x) (entry_in at set x)))
      each x false = refl

      none : (x : ℕ × ℕ) (b : Bool) → (c == x.1) ≡ false → list_any hits (cond b (map (f x) (entry_in at set x)) []) ≡ false
      none x true far = list_any-map hits (f x) (entry_in at set x) ∙ never_any (λ test. hits (f x test)) (entry_in at set x) (λ test. is x test ∙ and_false (test_holds s test) (also x && c == x.1) (and_false (also x) (c == x.1) far))
      none x false far = refl

  one_test : (a b : Bool) → ((a && true) && b) ≡ (a && b)
  one_test true b = refl
  one_test false b = refl

  two_tests : (n a b : Bool) → ((n && (a && true)) && b) ≡ (a && (n && b))
  two_tests true true b = refl
  two_tests true false b = refl
  two_tests false true b = refl
  two_tests false false b = refl

  -- one of the targets that may be is one at most
  pub targets_single : (who : Asker) (to : SendTo) → Single (targets_at at who to)
  targets_single (fixed me) (send.Kids set id v) = single_of set (λ x. true) (λ x. true) (λ x test. (x, test ∷ [])) (λ x test. one_test (test_holds s test) (c == x.1))
  targets_single (holder side) (send.Kids set id v) = single_of set (λ x. true) (λ x. true) (λ x test. (x, test ∷ [])) (λ x test. one_test (test_holds s test) (c == x.1))
  targets_single (fixed me) (send.Others set id v) =
      let f : ℕ × ℕ → List ((ℕ × ℕ) × List Test) = (λ x. map (λ test. (x, test ∷ [])) (entry_in at set x)) in
      let same = flat_map-filter f (λ x. not (is_named me x.0)) (kids_at at) in
      ap (picked hits m) same ∙ single_of set (λ x. not (is_named me x.0)) (λ x. true) (λ x test. (x, test ∷ [])) (λ x test. one_test (test_holds s test) (c == x.1)) ∙ sym (ap (λ xs. one_if (list_any hits xs) m) same)
  targets_single (holder side) (send.Others set id v) = single_of set (λ x. true) (λ x. not (s.reg (origin_at at side) == kid_origin x.1)) (λ x test. (x, not_held_for at side x ∷ test ∷ [])) (λ x test. two_tests (not (s.reg (origin_at at side) == kid_origin x.1)) (test_holds s test) (c == x.1))
  targets_single (fixed me) send.Nothing = refl
  targets_single (fixed me) (send.Me id v) = refl
  targets_single (fixed me) (send.Parent id v) = refl
  targets_single (holder side) send.Nothing = refl
  targets_single (holder side) (send.Me id v) = refl
  targets_single (holder side) (send.Parent id v) = refl

  here : (c == c) ≡ true
  here = same_number c c refl

  fixed_picked : (me : Option ℕ) → picked (λ (w : List Test × Queue). list_all (test_holds s) w.0 && same_queue (child_queue (k, c)) w.1) m (map (λ k. ([], child_queue k)) (filter (λ k. is_named me k.0) (kids_at at))) ≡ one_if (is_named me k) m
  fixed_picked me =
      let e : 0 + k ≡ k = omega arith in
      picked-map (λ (w : List Test × Queue). list_all (test_holds s) w.0 && same_queue (child_queue (k, c)) w.1) m (λ k. ([], child_queue k)) (filter (λ k. is_named me k.0) (kids_at at))
      ∙ picked-filter (λ x. c == x.1 && true) (λ x. is_named me x.0) m (kids_at at)
      ∙ picked_at (λ x. is_named me x.0 && (c == x.1 && true)) m 0 k c at.kids kid (λ j d there far. and_false (is_named me (0 + j)) (c == d && true) (and_true (c == d) ∙ other_kid j d there far))
      ∙ ap (λ b. one_if (is_named me (0 + k) && (b && true)) m) here
      ∙ ap (λ b. one_if b m) (and_true (is_named me (0 + k)) ∙ ap (is_named me) e)

  held_picked : (side : Side) → picked (λ (w : List Test × Queue). list_all (test_holds s) w.0 && same_queue (child_queue (k, c)) w.1) m (map (λ k. (held_for at side k ∷ [], child_queue k)) (kids_at at)) ≡ one_if (s.reg (origin_at at side) == kid_origin c) m
  held_picked side =
      let e : 0 + k ≡ k = omega arith in
      picked-map (λ (w : List Test × Queue). list_all (test_holds s) w.0 && same_queue (child_queue (k, c)) w.1) m (λ k. (held_for at side k ∷ [], child_queue k)) (kids_at at)
      ∙ picked_at (λ x. (s.reg (origin_at at side) == kid_origin x.1 && true) && (c == x.1 && true)) m 0 k c at.kids kid (λ j d there far. and_false (s.reg (origin_at at side) == kid_origin d && true) (c == d && true) (and_true (c == d) ∙ other_kid j d there far))
      ∙ ap (λ b. one_if ((s.reg (origin_at at side) == kid_origin c && true) && (b && true)) m) here
      ∙ ap (λ b. one_if b m) (and_true (s.reg (origin_at at side) == kid_origin c && true) ∙ and_true (s.reg (origin_at at side) == kid_origin c))

  -- the requester's queue is the child's where the child is the requester
  pub requester_picked : (kind : Kind) (who : Asker) → not (is_leaf kind) ≡ true → picked (λ (w : List Test × Queue). list_all (test_holds s) w.0 && same_queue (child_queue (k, c)) w.1) m (requester_queues kind at who) ≡ one_if (is_asker at s who k c) m
  requester_picked Leaf who inner = cc
  requester_picked Root (fixed me) inner = fixed_picked me
  requester_picked Mid (fixed me) inner = fixed_picked me
  requester_picked Root (holder side) inner = held_picked side
  requester_picked Mid (holder side) inner = held_picked side
