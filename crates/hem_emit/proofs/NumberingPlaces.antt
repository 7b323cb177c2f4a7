-- The places of registers and queues are one to one with what is there.
use Rattle.std.proofs.Common.{◌≡◌, ◌≢◌, refl, ap, sym, ◌∙◌, ℕ, Bool, true, false, List, inl, inr, ◌⊎◌, Option, Some, None}
use Rattle.std.specs.Prelude.{◌==◌, position, is_some, unwrap_or}
use Rattle.std.proofs.lemmas.Bool.Decides.{eqb_tells}
use Rattle.hem_syntax.specs.declared.rule.Side.{Side}
use Rattle.hem_syntax.specs.declared.rule.Side.TheVariants.{Up, Down}
use Rattle.hem_template.specs.Template.{same_side}
use Rattle.hem_syntax.specs.Protocol.{Protocol}
use Rattle.hem_system.specs.declared.lane.Lane.{Lane}
use Rattle.hem_system.specs.declared.lane.Lane.TheVariants as lane
use Rattle.hem_tree.specs.Tree.{Tree}
use Rattle.hem_emit.specs.Names.{Part, origin, asked, kept, Reg, field, val, lock, entry, awaits, Queue, same_part, same_lane, same_reg, same_queue, names}
use Rattle.hem_emit.specs.Layout.{registers, queues}
use Rattle.hem_module.specs.Places.{places}
use Rattle.hem_emit.specs.Numbering.{OneToOne, reg_number, queue_number, has_reg, has_queue}
use Rattle.hem_emit.proofs.Tests.{same_number}
use Rattle.hem_emit.proofs.Numbering.{same_reg_is, same_queue_is, one_name}

side_self : (a : Side) → same_side a a ≡ true
side_self Up = refl
side_self Down = refl

part_self : (a : Part) → same_part a a ≡ true
part_self origin = refl
part_self asked = refl
part_self kept = refl

lane_self : (a : Lane) → same_lane a a ≡ true
lane_self lane.UpRequests = refl
lane_self lane.UpResponses = refl
lane_self lane.Down = refl
lane_self lane.Requests = refl
lane_self lane.Answers = refl

-- a register is the same as itself
pub same_reg_self : (a : Reg) → same_reg a a ≡ true
same_reg_self (field i o) = rw (same_number i i refl, same_number o o refl) refl
same_reg_self (val o) = same_number o o refl
same_reg_self (lock a p o) = rw (side_self a, part_self p, same_number o o refl) refl
same_reg_self (entry c) = same_number c c refl
same_reg_self (awaits c) = same_number c c refl

-- a queue is the same as itself
pub same_queue_self : (a : Queue) → same_queue a a ≡ true
same_queue_self a = rw (same_number a.object a.object refl, lane_self a.lane) refl

-- places are the same exactly where names are
same_place : {A : Type 0} (same : A → A → Bool) → ((a b : A) → same a b ≡ true → a ≡ b) → ((a : A) → same a a ≡ true) → (xs : List A) (a b : A) → is_some (position (same a) xs) ≡ true → is_some (position (same b) xs) ≡ true → (unwrap_or (position (same a) xs) 0 == unwrap_or (position (same b) xs) 0) ≡ same a b
same_place {A} same sound self xs a b there_a there_b = by_place (position (same a) xs) (position (same b) xs) refl refl there_a there_b
  where
    by_same : (i j : ℕ) → i ≢ j → position (same a) xs ≡ Some i → position (same b) xs ≡ Some j → (c : Bool) → same a b ≡ c → false ≡ c
    by_same i j apart at_a at_b true is =
        let e : a ≡ b = sound a b is in
        let both_at : Some i ≡ Some j = sym at_a ∙ ap (λ x. position (same x) xs) e ∙ at_b in
        let same_there : i ≡ j = cc in
        absurd (apart same_there)
    by_same i j apart at_a at_b false is = refl

    by_number : (i j : ℕ) → position (same a) xs ≡ Some i → position (same b) xs ≡ Some j → ((i == j) ≡ true) × (i ≡ j) ⊎ ((i == j) ≡ false) × (i ≢ j) → (i == j) ≡ same a b
    by_number i j at_a at_b (inl one) =
        let e : a ≡ b = one_name same sound xs a b i at_a (at_b ∙ ap Some (sym one.1)) in
        one.0 ∙ sym (self a) ∙ ap (same a) e
    by_number i j at_a at_b (inr other) = other.0 ∙ by_same i j other.1 at_a at_b (same a b) refl

    by_place : (o u : Option ℕ) → position (same a) xs ≡ o → position (same b) xs ≡ u → is_some o ≡ true → is_some u ≡ true → (unwrap_or o 0 == unwrap_or u 0) ≡ same a b
    by_place (Some i) (Some j) at_a at_b there_a there_b = by_number i j at_a at_b (eqb_tells i j)
    by_place None u at_a at_b there_a there_b = cc
    by_place o None at_a at_b there_a there_b = cc

-- numbers of registers and queues that are there
pub places_one_to_one : (p : Protocol) (tree : Tree) → OneToOne names places (reg_number p tree) (queue_number tree) (has_reg p tree) (has_queue tree)
places_one_to_one p tree =
    record {
      regs = λ r q. same_place same_reg same_reg_is same_reg_self (registers p tree) r q;
      queues = λ a b. same_place same_queue same_queue_is same_queue_self (queues tree) a b;
    }
