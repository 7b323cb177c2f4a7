-- The numbers of a lock, before a firing and after it.
use Rattle.std.proofs.Common.{◌≡◌, refl, ap, sym, ◌∙◌, ℕ, ◌≤◌, Bool, true, false, arith, Option, Some, None}
use Rattle.std.specs.Prelude.{◌==◌}
use Rattle.std.specs.Option.{option_map_or}
use Rattle.hem_base.specs.Sets.{has_bit}
use Rattle.hem_base.specs.declared.ids.KidSet.{KidSet}
use Rattle.hem_syntax.specs.declared.rule.Hold.{Hold}
use Rattle.hem_syntax.specs.declared.rule.Hold.TheVariants as hold
use Rattle.hem_syntax.specs.declared.rule.Side.{Side}
use Rattle.hem_syntax.specs.declared.rule.Side.TheVariants.{Up, Down}
use Rattle.hem_syntax.specs.declared.rule.Origin.{Origin}
use Rattle.hem_syntax.specs.declared.rule.Origin.TheVariants as origin
use Rattle.hem_object.specs.declared.state.By.{By}
use Rattle.hem_object.specs.declared.state.By.TheVariants.{Processor, Kid, Parent, Own}
use Rattle.hem_object.specs.declared.state.Lock.{Lock}
use Rattle.hem_object.specs.Local.{Local, nobody}
use Rattle.hem_template.specs.declared.row.Taking.{Taking}
use Rattle.hem_template.specs.declared.row.Taking.TheVariants.{NothingTaken, FromRequester, ParentRequest, ParentResponse, FromKids}
use Rattle.hem_fire.specs.View.{asker, kid_asker}
use Rattle.hem_rows.specs.Acts.{IsNeeded, IsTaken, requester_of, up_left, down_left, UpAfter, DownAfter}
use Rattle.hem_locks.specs.Edges.{one_if, is_kid, is_parent, for_kid, for_parent, held, awaits}
use Rattle.hem_locks.proofs.Numbers.{up_kept, down_kept, up_number, down_number, new_for_kid, new_for_parent, NeedsKid, NeedsParent, NeedsHeld, NeedsAwaiting, Asking}

-- 1 where the child at that place is the requester
abbrev pub asked_of : ℕ → Option By → ℕ
asked_of c asked = option_map_or (is_kid c) asked 0

pub one_if-few : (b : Bool) → one_if b ≤ 1
one_if-few true = omega arith
one_if-few false = omega arith

is_kid-few : (c : ℕ) (by : By) → is_kid c by ≤ 1
is_kid-few c Processor = omega arith
is_kid-few c (Kid d) = one_if-few (c == d)
is_kid-few c Parent = omega arith
is_kid-few c Own = omega arith

pub asked_of-few : (c : ℕ) (asked : Option By) → asked_of c asked ≤ 1
asked_of-few c None = omega arith
asked_of-few c (Some by) = is_kid-few c by

pub held-few : (lock : Option Lock) → held lock ≤ 1
held-few None = omega arith
held-few (Some lock) = omega arith

-- a number of the uplock after a firing
pub up_number-is : (number : Option Lock → ℕ) (new : Origin → ℕ) (frees : Option Side) (locks : Option (Side × Origin)) (asked : Option By) (old now : Option Lock) → number None ≡ 0 → ((o : Origin) → IsTaken o asked nobody now → number now ≡ new o) → UpAfter frees locks asked old now → number now ≡ up_number frees locks new (number old)
up_number-is number new frees None asked old now none taken after = ap number after ∙ kept frees
  where
    kept : (frees : Option Side) → number (up_left frees old) ≡ up_kept frees (number old)
    kept None = refl
    kept (Some Up) = none
    kept (Some Down) = refl
up_number-is number new frees (Some lock) asked old now none taken after = by_side lock.0 after
  where
    kept : (frees : Option Side) → number (up_left frees old) ≡ up_kept frees (number old)
    kept None = refl
    kept (Some Up) = none
    kept (Some Down) = refl

    by_side : (side : Side) → (elim side as (λ s. Type 0) [ Up ↦ IsTaken lock.1 asked nobody now | Down ↦ now ≡ up_left frees old ]) → number now ≡ (elim side as (λ s. ℕ) [ Up ↦ new lock.1 | Down ↦ up_kept frees (number old) ])
    by_side Up after = taken lock.1 after
    by_side Down after = ap number after ∙ kept frees

-- a number of the downlock after it
pub down_number-is : (number : Option Lock → ℕ) (new : Origin → ℕ) (frees : Option Side) (locks : Option (Side × Origin)) (asked : Option By) (targets : KidSet) (old now : Option Lock) → number None ≡ 0 → ((o : Origin) → IsTaken o asked targets now → number now ≡ new o) → DownAfter frees locks asked targets old now → number now ≡ down_number frees locks new (number old)
down_number-is number new frees None asked targets old now none taken after = ap number after ∙ kept frees
  where
    kept : (frees : Option Side) → number (down_left frees old) ≡ down_kept frees (number old)
    kept None = refl
    kept (Some Up) = refl
    kept (Some Down) = none
down_number-is number new frees (Some lock) asked targets old now none taken after = by_side lock.0 after
  where
    kept : (frees : Option Side) → number (down_left frees old) ≡ down_kept frees (number old)
    kept None = refl
    kept (Some Up) = refl
    kept (Some Down) = none

    by_side : (side : Side) → (elim side as (λ s. Type 0) [ Up ↦ now ≡ down_left frees old | Down ↦ IsTaken lock.1 asked targets now ]) → number now ≡ (elim side as (λ s. ℕ) [ Up ↦ down_kept frees (number old) | Down ↦ new lock.1 ])
    by_side Up after = ap number after ∙ kept frees
    by_side Down after = taken lock.1 after

-- the numbers of a new lock
pub taken-for_kid : (c : ℕ) (asked : Option By) (awaited : KidSet) (now : Option Lock) (o : Origin) → IsTaken o asked awaited now → for_kid c now ≡ new_for_kid (asked_of c asked) o
taken-for_kid c asked awaited now origin.Child taken = ap (for_kid c) taken.held ∙ sym (ap (asked_of c) taken.holder)
taken-for_kid c asked awaited now origin.Parent taken = ap (for_kid c) taken.held ∙ ap (is_kid c) taken.holder
taken-for_kid c asked awaited now origin.Own taken = ap (for_kid c) taken.held ∙ ap (is_kid c) taken.holder

pub taken-for_parent : (asked : Option By) (awaited : KidSet) (now : Option Lock) (o : Origin) → option_map_or is_parent asked 0 ≡ 0 → IsTaken o asked awaited now → for_parent now ≡ new_for_parent o
taken-for_parent asked awaited now origin.Child no_parent taken = ap for_parent taken.held ∙ sym (ap (λ (a : Option By). option_map_or is_parent a 0) taken.holder) ∙ no_parent
taken-for_parent asked awaited now origin.Parent no_parent taken = ap for_parent taken.held ∙ ap is_parent taken.holder
taken-for_parent asked awaited now origin.Own no_parent taken = ap for_parent taken.held ∙ ap is_parent taken.holder

pub taken-held : (asked : Option By) (awaited : KidSet) (now : Option Lock) (o : Origin) → IsTaken o asked awaited now → held now ≡ 1
taken-held asked awaited now o taken = ap held taken.held

pub taken-awaits : (c : ℕ) (asked : Option By) (awaited : KidSet) (now : Option Lock) (o : Origin) → IsTaken o asked awaited now → awaits c now ≡ one_if (has_bit awaited.0 c)
taken-awaits c asked awaited now o taken = ap (awaits c) taken.held ∙ ap (λ (s : KidSet). one_if (has_bit s.0 c)) taken.awaits

-- the numbers of a lock that is as a rule needs it
pub needed-kid : (c : ℕ) (need : Hold) (lock : Option Lock) → IsNeeded need lock → NeedsKid need (for_kid c lock)
needed-kid c hold.Any lock it = tt
needed-kid c hold.Free lock it = ap (for_kid c) it
needed-kid c hold.Child lock it = tt
needed-kid c hold.Parent lock it = ap (for_kid c) it.1 ∙ ap (is_kid c) it.2
needed-kid c hold.Own lock it = ap (for_kid c) it.1 ∙ ap (is_kid c) it.2

-- a requester is not the parent
pub asker-no_parent : (lock : Option Lock) → option_map_or is_parent (asker lock) 0 ≡ 0
asker-no_parent None = refl
asker-no_parent (Some lock) = by_holder lock.by
  where
    by_holder : (by : By) → option_map_or is_parent (elim by as (λ b. Option By) [ Processor ↦ Some Processor | Kid c ↦ Some (Kid c) | _ ↦ None ]) 0 ≡ 0
    by_holder Processor = refl
    by_holder (Kid c) = refl
    by_holder Parent = refl
    by_holder Own = refl

kid_asker-no_parent : (lock : Option Lock) → option_map_or is_parent (kid_asker lock) 0 ≡ 0
kid_asker-no_parent None = refl
kid_asker-no_parent (Some lock) = by_holder lock.by
  where
    by_holder : (by : By) → option_map_or is_parent (elim by as (λ b. Option By) [ Kid c ↦ Some (Kid c) | _ ↦ None ]) 0 ≡ 0
    by_holder Processor = refl
    by_holder (Kid c) = refl
    by_holder Parent = refl
    by_holder Own = refl

pub requester-no_parent : (taking : Taking) (me : Option ℕ) (local : Local) → option_map_or is_parent (requester_of taking me local) 0 ≡ 0
requester-no_parent NothingTaken me local = refl
requester-no_parent FromRequester None local = refl
requester-no_parent FromRequester (Some c) local = refl
requester-no_parent ParentRequest me local = asker-no_parent local.up
requester-no_parent ParentResponse me local = asker-no_parent local.up
requester-no_parent FromKids me local = kid_asker-no_parent local.down

pub needed-parent : (need : Hold) (lock : Option Lock) → IsNeeded need lock → NeedsParent need (for_parent lock)
needed-parent hold.Any lock it = tt
needed-parent hold.Free lock it = ap for_parent it
needed-parent hold.Child lock it = ap for_parent it.1 ∙ sym (ap (λ (a : Option By). option_map_or is_parent a 0) it.2) ∙ asker-no_parent lock
needed-parent hold.Parent lock it = ap for_parent it.1 ∙ ap is_parent it.2
needed-parent hold.Own lock it = ap for_parent it.1 ∙ ap is_parent it.2

pub needed-held : (need : Hold) (lock : Option Lock) → IsNeeded need lock → NeedsHeld need (held lock)
needed-held hold.Any lock it = tt
needed-held hold.Free lock it = ap held it
needed-held hold.Child lock it = ap held it.1
needed-held hold.Parent lock it = ap held it.1
needed-held hold.Own lock it = ap held it.1

pub needed-awaiting : (c : ℕ) (need : Hold) (lock : Option Lock) → IsNeeded need lock → NeedsAwaiting need (awaits c lock)
needed-awaiting c hold.Any lock it = tt
needed-awaiting c hold.Free lock it = ap (awaits c) it
needed-awaiting c hold.Child lock it = tt
needed-awaiting c hold.Parent lock it = tt
needed-awaiting c hold.Own lock it = tt

-- the child as requester, by the lock that is held for it
asker-kid : (c : ℕ) (lock : Option Lock) → asked_of c (asker lock) ≡ for_kid c lock
asker-kid c None = refl
asker-kid c (Some lock) = by_holder lock.by
  where
    by_holder : (by : By) → asked_of c (elim by as (λ b. Option By) [ Processor ↦ Some Processor | Kid c ↦ Some (Kid c) | _ ↦ None ]) ≡ is_kid c by
    by_holder Processor = refl
    by_holder (Kid d) = refl
    by_holder Parent = refl
    by_holder Own = refl

kid_asker-kid : (c : ℕ) (lock : Option Lock) → asked_of c (kid_asker lock) ≡ for_kid c lock
kid_asker-kid c None = refl
kid_asker-kid c (Some lock) = by_holder lock.by
  where
    by_holder : (by : By) → asked_of c (elim by as (λ b. Option By) [ Kid c ↦ Some (Kid c) | _ ↦ None ]) ≡ is_kid c by
    by_holder Processor = refl
    by_holder (Kid d) = refl
    by_holder Parent = refl
    by_holder Own = refl

pub requester-asking : (c : ℕ) (taking : Taking) (me : Option ℕ) (local : Local) → Asking taking (asked_of c (requester_of taking me local)) (for_kid c local.up) (for_kid c local.down)
requester-asking c NothingTaken me local = refl
requester-asking c FromRequester me local = tt
requester-asking c ParentRequest me local = asker-kid c local.up
requester-asking c ParentResponse me local = asker-kid c local.up
requester-asking c FromKids me local = kid_asker-kid c local.down
