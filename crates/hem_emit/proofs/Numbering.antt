-- Registers and queues have one place each in text order.
use Rattle.std.proofs.Common.{◌≡◌, refl, ap, sym, ◌∙◌, ℕ, suc, ◌+◌, Bool, true, false, not, cond, ◌&&◌, List, [], ◌∷◌, length, arith, Some, None}
use Rattle.std.specs.Prelude.{◌==◌, nat_lt, slice_get, position}
use Rattle.std.specs.List.{position_or_len}
use Rattle.std.proofs.lemmas.Bool.{eqb-true}
use Rattle.hem_template.specs.Template.{same_side}
use Rattle.hem_syntax.specs.declared.rule.Side.{Side}
use Rattle.hem_syntax.specs.declared.rule.Side.TheVariants.{Up, Down}
use Rattle.hem_syntax.specs.Protocol.{Protocol}
use Rattle.hem_system.specs.declared.lane.Lane.{Lane}
use Rattle.hem_system.specs.declared.lane.Lane.TheVariants as lane
use Rattle.hem_tree.specs.Tree.{Tree}
use Rattle.hem_rows.proofs.Choices.{both}
use Rattle.hem_emit.specs.Names.{Part, origin, asked, kept, Reg, field, val, lock, entry, awaits, Queue, same_part, same_lane, same_reg, same_queue}
use Rattle.hem_emit.specs.Layout.{registers, queues, place_of_reg, place_of_queue}

side_is : (a b : Side) → same_side a b ≡ true → a ≡ b
side_is Up Up same = refl
side_is Down Down same = refl
side_is _ _ same = cc

part_is : (a b : Part) → same_part a b ≡ true → a ≡ b
part_is origin origin same = refl
part_is asked asked same = refl
part_is kept kept same = refl
part_is _ _ same = cc

lane_is : (a b : Lane) → same_lane a b ≡ true → a ≡ b
lane_is lane.UpRequests lane.UpRequests same = refl
lane_is lane.UpResponses lane.UpResponses same = refl
lane_is lane.Down lane.Down same = refl
lane_is lane.Requests lane.Requests same = refl
lane_is lane.Answers lane.Answers same = refl
lane_is _ _ same = cc

-- registers that are the same by the test are equal
pub same_reg_is : (a b : Reg) → same_reg a b ≡ true → a ≡ b
same_reg_is (field i o) (field j u) same =
    let parts = both (i == j) (o == u) same in
    ap (λ i. field i o) (eqb-true i j parts.0) ∙ ap (λ o. field j o) (eqb-true o u parts.1)
same_reg_is (val o) (val u) same = ap val (eqb-true o u same)
same_reg_is (lock a p o) (lock b q u) same =
    let parts = both (same_side a b && same_part p q) (o == u) same in
    let first = both (same_side a b) (same_part p q) parts.0 in
    ap (λ a. lock a p o) (side_is a b first.0) ∙ ap (λ p. lock b p o) (part_is p q first.1) ∙ ap (λ o. lock b q o) (eqb-true o u parts.1)
same_reg_is (entry c) (entry d) same = ap entry (eqb-true c d same)
same_reg_is (awaits c) (awaits d) same = ap awaits (eqb-true c d same)
same_reg_is _ _ same = cc

-- queues that are the same by the test are equal
pub same_queue_is : (a b : Queue) → same_queue a b ≡ true → a ≡ b
same_queue_is a b same =
    let parts = both (a.object == b.object) (same_lane a.lane b.lane) same in
    ap (λ (o : ℕ). let q : Queue = record { object = o; lane = a.lane } in q) (eqb-true a.object b.object parts.0)
    ∙ ap (λ (l : Lane). let q : Queue = record { object = b.object; lane = l } in q) (lane_is a.lane b.lane parts.1)

-- what stands at the first place that passes does pass
at_first : {A : Type 0} (p : A → Bool) (xs : List A) → nat_lt (position_or_len p xs) (length xs) ≡ true → (x : A) × (slice_get xs (position_or_len p xs) ≡ Some x) × (p x ≡ true)
at_first p [] less = let e : nat_lt 0 0 ≡ false = grind arith in cc
at_first {A} p (x ∷ xs) less = by (p x) refl (λ less. at_first p xs less) less
  where
    one_less : (n m : ℕ) → nat_lt (1 + n) (suc m) ≡ nat_lt n m
    one_less n m = grind arith

    by : (b : Bool) → p x ≡ b → (nat_lt (position_or_len p xs) (length xs) ≡ true → (y : A) × (slice_get xs (position_or_len p xs) ≡ Some y) × (p y ≡ true)) → nat_lt (cond (not b) (1 + position_or_len p xs) 0) (suc (length xs)) ≡ true → (y : A) × (slice_get (x ∷ xs) (cond (not b) (1 + position_or_len p xs) 0) ≡ Some y) × (p y ≡ true)
    by true is go less = (x, refl, is)
    by false is go less =
        let rest = go (sym (one_less (position_or_len p xs) (length xs)) ∙ less) in
        let e : 1 + position_or_len p xs ≡ suc (position_or_len p xs) = omega arith in
        (rest.0, ap (slice_get (x ∷ xs)) e ∙ rest.1, rest.2)

-- what stands at the place that was found passes
pub place_passes : {A : Type 0} (p : A → Bool) (xs : List A) (i : ℕ) → position p xs ≡ Some i → (x : A) × (slice_get xs i ≡ Some x) × (p x ≡ true)
place_passes {A} p xs i at = by (nat_lt (position_or_len p xs) (length xs)) refl at
  where
    by : (b : Bool) → nat_lt (position_or_len p xs) (length xs) ≡ b → cond b (Some (position_or_len p xs)) None ≡ Some i → (x : A) × (slice_get xs i ≡ Some x) × (p x ≡ true)
    by true less at =
        let there = at_first p xs less in
        let e : position_or_len p xs ≡ i = cc in
        (there.0, ap (slice_get xs) (sym e) ∙ there.1, there.2)
    by false less at = cc

-- one place has one name
pub one_name : {A : Type 0} (same : A → A → Bool) → ((a b : A) → same a b ≡ true → a ≡ b) → (xs : List A) (a b : A) (i : ℕ) → position (same a) xs ≡ Some i → position (same b) xs ≡ Some i → a ≡ b
one_name same sound xs a b i at_a at_b =
    let x = place_passes (same a) xs i at_a in
    let y = place_passes (same b) xs i at_b in
    let e : x.0 ≡ y.0 = (let one = x.1 in let other = y.1 in cc) in
    sound a x.0 x.2 ∙ e ∙ sym (sound b y.0 y.2)

-- registers with one place are one
pub one_register : (p : Protocol) (tree : Tree) (r q : Reg) (i : ℕ) → place_of_reg p tree r ≡ Some i → place_of_reg p tree q ≡ Some i → r ≡ q
one_register p tree r q i at_r at_q = one_name same_reg same_reg_is (registers p tree) r q i at_r at_q

-- queues with one place are one
pub one_queue : (tree : Tree) (a b : Queue) (i : ℕ) → place_of_queue tree a ≡ Some i → place_of_queue tree b ≡ Some i → a ≡ b
one_queue tree a b i at_a at_b = one_name same_queue same_queue_is (queues tree) a b i at_a at_b
