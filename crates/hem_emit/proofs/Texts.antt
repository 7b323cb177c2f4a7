-- The names of registers and queues may be declared, and no two are the same.
use Rattle.std.proofs.Common.{◌≡◌, ◌≢◌, inl, inr, ◌⊎◌, refl, ap, sym, ◌∙◌, ℕ, zero, suc, ◌+◌, ◌*◌, ◌-◌, ◌<◌, arith, Bool, true, false, ◌&&◌, List, [], ◌∷◌, length, take, drop, map}
use Rattle.std.specs.Prelude.{◌==◌, nat_lt, slice_index_or}
use Rattle.std.specs.List.{list_all, position_or_len}
use Rattle.std.specs.Fmt.{digits}
use Rattle.std.specs.Str.{bytes_eq}
use Rattle.std.proofs.lemmas.Bool.{eqb-true}
use Rattle.std.proofs.lemmas.Bool.Decides.{eqb_tells}
use Rattle.std.proofs.lemmas.List.Folds.{list_all-append}
use Rattle.hem_syntax.specs.declared.rule.Side.TheVariants.{Up, Down}
use Rattle.hem_text.specs.Numbers.{number_of}
use Rattle.hem_tree.specs.Tree.{below}
use Rattle.hem_system.specs.declared.lane.Lane.{Lane}
use Rattle.hem_system.specs.declared.lane.Lane.TheVariants as lane
use Rattle.hem_syntax.specs.Lawful.{is_declarable}
use Rattle.hem_emit.specs.Names.{origin, asked, kept, Reg, field, val, lock, entry, awaits, Queue}
use Rattle.hem_emit.specs.Written.{name_of_reg, name_of_queue}
use Rattle.hem_rows.proofs.Choices.{both}

-- a register or a queue
pub data Named : Type 0 where
  of_reg : Reg → Named
  of_queue : Queue → Named

abbrev pub text_of : Named → List ℕ
text_of (of_reg r) = name_of_reg r
text_of (of_queue q) = name_of_queue q

-- all that may belong to an object
abbrev all_of : ℕ → List Named
all_of o =
    of_reg (field 0 o) ∷ of_reg (field 1 o) ∷ of_reg (field 2 o) ∷ of_reg (val o)
    ∷ of_reg (lock Up origin o) ∷ of_reg (lock Up asked o) ∷ of_reg (lock Up kept o)
    ∷ of_reg (lock Down origin o) ∷ of_reg (lock Down asked o) ∷ of_reg (lock Down kept o)
    ∷ of_reg (entry o) ∷ of_reg (awaits o)
    ∷ of_queue (record { object = o; lane = lane.UpRequests }) ∷ of_queue (record { object = o; lane = lane.UpResponses })
    ∷ of_queue (record { object = o; lane = lane.Down })
    ∷ of_queue (record { object = o; lane = lane.Requests }) ∷ of_queue (record { object = o; lane = lane.Answers })
    ∷ []

-- one of them
abbrev at_code : ℕ → ℕ → Named
at_code n o = slice_index_or (all_of o) n (of_reg (val o))

-- the letters before the number
abbrev letters : List (List ℕ)
letters = map (λ n. take (length (text_of (at_code n 0)) - 1) (text_of (at_code n 0))) (below 17)

-- which letters a text begins with, and the number after them
abbrev code_of : List ℕ → ℕ
code_of text =
    let n = position_or_len (λ l. bytes_eq (take (length l) text) l) letters in
    n * 64 + number_of (drop (length (slice_index_or letters n [])) text)

-- of objects below 64 each name may be declared
all_declarable : list_all (λ n. list_all (λ o. is_declarable (text_of (at_code n o))) (below 64)) (below 17) ≡ true
unfolding digits
all_declarable = refl

-- and is told by what it begins with and by its number
all_read : list_all (λ n. list_all (λ o. code_of (text_of (at_code n o)) == n * 64 + o) (below 64)) (below 17) ≡ true
unfolding digits
all_read = refl

pub passes_below : (f : ℕ → Bool) (m n : ℕ) → list_all f (below m) ≡ true → n < m → f n ≡ true
passes_below f zero n all less = absurd (omega (arith, less))
passes_below f (suc m) n all less =
    let parts = both (list_all f (below m)) _ (sym (list_all-append f (below m) (m ∷ [])) ∙ all) in
    by_last (eqb_tells n m) parts.0 (both (f m) true parts.1).0 (λ before. passes_below f m n parts.0 before)
  where
    by_last : ((n == m) ≡ true) × (n ≡ m) ⊎ ((n == m) ≡ false) × (n ≢ m) → list_all f (below m) ≡ true → f m ≡ true → (n < m → f n ≡ true) → f n ≡ true
    by_last (inl same) all here before = ap f same.1 ∙ here
    by_last (inr other) all here before = let far = other.1 in before (omega (arith, less, far))

-- a register or a queue of an object below 64, and a field below 3
abbrev pub is_small : Named → Bool
is_small (of_reg (field i o)) = nat_lt i 3 && nat_lt o 64
is_small (of_reg (val o)) = nat_lt o 64
is_small (of_reg (lock side part_is o)) = nat_lt o 64
is_small (of_reg (entry c)) = nat_lt c 64
is_small (of_reg (awaits c)) = nat_lt c 64
is_small (of_queue q) = nat_lt q.object 64

record Coded (x : Named) : Type 0 where
  pub code : ℕ
  pub object : ℕ
  pub few : code < 17
  pub small : object < 64
  pub is : x ≡ at_code code object

less_of : (a b : ℕ) → nat_lt a b ≡ true → a < b
less_of a b less = grind arith

coded : (x : Named) → is_small x ≡ true → Coded x
coded (of_reg (field zero o)) small = record { code = 0; object = o; few = omega arith; small = less_of o 64 (both (nat_lt 0 3) (nat_lt o 64) small).1; is = refl }
coded (of_reg (field (suc zero) o)) small = record { code = 1; object = o; few = omega arith; small = less_of o 64 (both (nat_lt 1 3) (nat_lt o 64) small).1; is = refl }
coded (of_reg (field (suc (suc zero)) o)) small = record { code = 2; object = o; few = omega arith; small = less_of o 64 (both (nat_lt 2 3) (nat_lt o 64) small).1; is = refl }
coded (of_reg (field (suc (suc (suc i))) o)) small = let less = less_of (suc (suc (suc i))) 3 (both (nat_lt (suc (suc (suc i))) 3) (nat_lt o 64) small).0 in absurd (omega (arith, less))
coded (of_reg (val o)) small = record { code = 3; object = o; few = omega arith; small = less_of o 64 small; is = refl }
coded (of_reg (lock Up origin o)) small = record { code = 4; object = o; few = omega arith; small = less_of o 64 small; is = refl }
coded (of_reg (lock Up asked o)) small = record { code = 5; object = o; few = omega arith; small = less_of o 64 small; is = refl }
coded (of_reg (lock Up kept o)) small = record { code = 6; object = o; few = omega arith; small = less_of o 64 small; is = refl }
coded (of_reg (lock Down origin o)) small = record { code = 7; object = o; few = omega arith; small = less_of o 64 small; is = refl }
coded (of_reg (lock Down asked o)) small = record { code = 8; object = o; few = omega arith; small = less_of o 64 small; is = refl }
coded (of_reg (lock Down kept o)) small = record { code = 9; object = o; few = omega arith; small = less_of o 64 small; is = refl }
coded (of_reg (entry o)) small = record { code = 10; object = o; few = omega arith; small = less_of o 64 small; is = refl }
coded (of_reg (awaits o)) small = record { code = 11; object = o; few = omega arith; small = less_of o 64 small; is = refl }
coded (of_queue q) small = by_lane q.lane refl
  where
    queue_is : (l : Lane) → q.lane ≡ l → of_queue q ≡ of_queue (record { object = q.object; lane = l })
    queue_is l same = ap (λ l. of_queue (record { object = q.object; lane = l })) same

    by_lane : (l : Lane) → q.lane ≡ l → Coded (of_queue q)
    by_lane lane.UpRequests same = record { code = 12; object = q.object; few = omega arith; small = less_of q.object 64 small; is = queue_is lane.UpRequests same }
    by_lane lane.UpResponses same = record { code = 13; object = q.object; few = omega arith; small = less_of q.object 64 small; is = queue_is lane.UpResponses same }
    by_lane lane.Down same = record { code = 14; object = q.object; few = omega arith; small = less_of q.object 64 small; is = queue_is lane.Down same }
    by_lane lane.Requests same = record { code = 15; object = q.object; few = omega arith; small = less_of q.object 64 small; is = queue_is lane.Requests same }
    by_lane lane.Answers same = record { code = 16; object = q.object; few = omega arith; small = less_of q.object 64 small; is = queue_is lane.Answers same }

-- each such name may be declared
pub text_declarable : (x : Named) → is_small x ≡ true → is_declarable (text_of x) ≡ true
text_declarable x small =
    let it = coded x small in
    ap (λ x. is_declarable (text_of x)) it.is
    ∙ passes_below (λ o. is_declarable (text_of (at_code it.code o))) 64 it.object (passes_below (λ n. list_all (λ o. is_declarable (text_of (at_code n o))) (below 64)) 17 it.code all_declarable it.few) it.small

-- and tells what it names
pub text_tells : (x y : Named) → is_small x ≡ true → is_small y ≡ true → text_of x ≡ text_of y → x ≡ y
text_tells x y small_x small_y same =
    let a = coded x small_x in
    let b = coded y small_y in
    let codes_same : a.code * 64 + a.object ≡ b.code * 64 + b.object = sym (read a.code a.object a.few a.small) ∙ ap code_of (ap text_of (sym a.is) ∙ same ∙ ap text_of b.is) ∙ read b.code b.object b.few b.small in
    let small_a = a.small in
    let small_b = b.small in
    let code : a.code ≡ b.code = omega (arith, codes_same, small_a, small_b) in
    let object : a.object ≡ b.object = omega (arith, codes_same, code) in
    a.is ∙ ap (λ n. at_code n a.object) code ∙ ap (at_code b.code) object ∙ sym b.is
  where
    read : (n o : ℕ) → n < 17 → o < 64 → code_of (text_of (at_code n o)) ≡ n * 64 + o
    read n o few small = eqb-true _ _ (passes_below (λ o. code_of (text_of (at_code n o)) == n * 64 + o) 64 o (passes_below (λ n. list_all (λ o. code_of (text_of (at_code n o)) == n * 64 + o) (below 64)) 17 n all_read few) small)
