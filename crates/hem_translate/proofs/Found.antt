-- A register and a queue are found at the places that the definitions give.
use Rattle.std.proofs.Common.{◌≡◌, refl, ap, sym, ◌+◌, Bool, true, false, not, cond, ◌&&◌, List, [], ◌∷◌, map, Some, None}
use Rattle.std.specs.Prelude.{◌==◌, nat_lt, position}
use Rattle.std.specs.List.{position_or_len}
use Rattle.std.proofs.lemmas.List.{length-map}
use Rattle.hem_translate.specs.contracts.tables.PartPartialEq.TheImpl as part_eq
use Rattle.hem_translate.specs.contracts.tables.RegPartialEq.TheImpl as reg_eq
use Rattle.hem_translate.specs.contracts.tables.QueuePartialEq.TheImpl as queue_eq
use Rattle.hem_translate.specs.declared.tables.Part.{Part as Kept}
use Rattle.hem_translate.specs.declared.tables.Part.TheVariants as part
use Rattle.hem_translate.specs.declared.tables.Reg.{Reg as Register}
use Rattle.hem_translate.specs.declared.tables.Reg.TheVariants as register
use Rattle.hem_translate.specs.declared.tables.Queue.{Queue as Lists}
use Rattle.hem_translate.specs.declared.tables.Queue.TheVariants as list
use Rattle.hem_emit.specs.Names.{same_part, same_reg, same_queue}
use Rattle.hem_translate.specs.Places.{part_of, reg_of, queue_of}

-- a place by another test of what a function gives
pub position_as : {A B : Type 0} (test : A → Bool) (other : B → Bool) (f : A → B) → ((x : A) → test x ≡ other (f x)) → (xs : List A) → position test xs ≡ position other (map f xs)
position_as {A} {B} test other f alike xs =
    λ i. cond (nat_lt (places xs i) (sym (length-map xs f) i)) (Some (places xs i)) None
  where
    places : (xs : List A) → position_or_len test xs ≡ position_or_len other (map f xs)
    places [] = refl
    places (x ∷ xs) = let head = alike x in let rest = places xs in λ i. cond (not (head i)) (1 + rest i) 0

part_alike : (a b : Kept) → part_eq.eq-value.it a b ≡ same_part (part_of a) (part_of b)
part_alike part.Origin part.Origin = refl
part_alike part.Asked part.Asked = refl
part_alike part.Kept part.Kept = refl
part_alike _ _ = refl

pub reg_alike : (a b : Register) → reg_eq.eq-value.it a b ≡ same_reg (reg_of a) (reg_of b)
reg_alike (register.Up p o) (register.Up q u) = ap (λ b. b && o == u) (part_alike p q)
reg_alike (register.Down p o) (register.Down q u) = ap (λ b. b && o == u) (part_alike p q)
reg_alike (register.Field i o) (register.Field j u) = refl
reg_alike (register.Val o) (register.Val u) = refl
reg_alike (register.Entry o) (register.Entry u) = refl
reg_alike (register.Awaits o) (register.Awaits u) = refl
reg_alike _ _ = refl

and_true : (b : Bool) → (b && true) ≡ b
and_true true = refl
and_true false = refl

and_no : (b : Bool) → false ≡ (b && false)
and_no true = refl
and_no false = refl

pub queue_alike : (a b : Lists) → queue_eq.eq-value.it a b ≡ same_queue (queue_of a) (queue_of b)
queue_alike (list.UpRequests o) (list.UpRequests u) = sym (and_true (o == u))
queue_alike (list.UpResponses o) (list.UpResponses u) = sym (and_true (o == u))
queue_alike (list.Down o) (list.Down u) = sym (and_true (o == u))
queue_alike (list.Requests o) (list.Requests u) = sym (and_true (o == u))
queue_alike (list.Answers o) (list.Answers u) = sym (and_true (o == u))
queue_alike _ _ = and_no _
