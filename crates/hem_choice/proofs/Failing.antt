-- Without what a firing asks first none may be made.
use Rattle.std.proofs.Common.{◌≡◌, refl, subst, sym, ap, ◌∙◌, ℕ, zero, suc, ◌+◌, Bool, true, false, ◌&&◌, ◌||◌, not, cond, List, [], ◌∷◌, length, Option, Some, None}
use Rattle.std.specs.Prelude.{option_and_then, nat_lt, map, filter, slice_get}
use Rattle.std.specs.List.{list_all, list_any, enumerate_from}
use Rattle.std.specs.Option.{option_or}
use Rattle.hem_base.specs.Sets.{has_bit}
use Rattle.hem_base.specs.declared.ids.Kind.{Kind}
use Rattle.hem_base.specs.declared.ids.KidSet.{KidSet}
use Rattle.hem_base.specs.declared.ids.Message.{Message}
use Rattle.hem_base.specs.declared.ids.MsgId.{MsgId}
use Rattle.hem_syntax.specs.declared.rule.Rule.{Rule}
use Rattle.hem_syntax.specs.declared.rule.Take.{Take}
use Rattle.hem_syntax.specs.declared.rule.Take.TheVariants as take
use Rattle.hem_syntax.specs.Protocol.{Protocol}
use Rattle.hem_object.specs.Local.{Local}
use Rattle.hem_fire.specs.Heads.{Heads, has_id, takes_there, awaited_of}
use Rattle.hem_fire.specs.View.{view_of}
use Rattle.hem_fire.specs.OneFire.{can_fire, me_fits}
use Rattle.hem_fire.specs.Plans.{plan_of, planned}
use Rattle.hem_abstract.specs.First.{first_with}
use Rattle.hem_tree.specs.Tree.{below}
use Rattle.hem_walk.specs.Firsts.{is_open, names_child}
use Rattle.hem_walk.proofs.Begun.{by_can, no_child, never, fields_of}
use Rattle.hem_ends.specs.declared.kids.KidLook.{KidLook}
use Rattle.hem_choice.specs.Choices.{Sight, Choice, message_in, request_of, heads_of, is_spent, choice_by, choice_with, choice_below, choice_of}
use Rattle.hem_choice.specs.Firsts.{asks_alone, asks_child, asks_some_child}

-- a rule that can't fire has no plan, and no choice by it
none_by : (p : Protocol) (kind : Kind) (local : Local) (sight : Sight) (rule : Rule) (me : Option ℕ) → can_fire p kind rule me local (heads_of sight me) ≡ false → choice_with p kind local sight rule me ≡ None
none_by p kind local sight rule me cannot =
    ap (λ b. cond (is_spent sight rule.take) None (option_and_then (choice_by sight rule me) (cond b (Some (planned p kind rule me local (heads_of sight me))) None))) cannot
    ∙ either (is_spent sight rule.take)
  where
    either : (b : Bool) → cond {A = Option Choice} b None None ≡ None
    either true = refl
    either false = refl

-- of a rule whose locks or fields aren't as it needs them there is no choice
closed_with : (p : Protocol) (kind : Kind) (local : Local) (sight : Sight) (rule : Rule) (me : Option ℕ) → is_open rule local ≡ false → choice_with p kind local sight rule me ≡ None
closed_with p kind local sight rule me closed =
    none_by p kind local sight rule me
    (never (can_fire p kind rule me local (heads_of sight me))
    (λ can.
    let it = by_can p kind rule me local (heads_of sight me) can in
    let open_is : is_open rule local ≡ true = λ i. it.up i && it.down i && fields_of local (view_of rule.take me local (heads_of sight me)) rule.guard it.guarded i in
    sym closed ∙ open_is))

-- where some child is awaited and each awaited one's first response has the id, some child's first response has it
abbrev awaited_answers : KidSet → ℕ → List KidLook → List (ℕ × Option Message)
awaited_answers awaited n kids = filter (λ k. has_bit awaited.0 k.0) (enumerate_from n (map (λ kid. message_in kid.response) kids))

some_answered : (awaited : KidSet) (id : MsgId) (n : ℕ) (kids : List KidLook) → (nat_lt 0 (length (awaited_answers awaited n kids)) && list_all (λ k. has_id k.1 id) (awaited_answers awaited n kids)) ≡ true → list_any (λ kid. has_id (message_in kid.response) id) kids ≡ true
some_answered awaited id n [] all = all
some_answered awaited id n (kid ∷ kids) all = by_bit (has_bit awaited.0 n) (has_id (message_in kid.response) id) (message_in kid.response) (awaited_answers awaited (n + 1) kids) (list_any (λ kid. has_id (message_in kid.response) id) kids) (some_answered awaited id (n + 1) kids) refl all
  where
    either : (a b : Bool) → b ≡ true → (a || b) ≡ true
    either true b is = refl
    either false b is = is

    left : (a b c : Bool) → (a && b) ≡ true → (a || c) ≡ true
    left true b c both = refl
    left false b c both = cc

    second : (a b : Bool) → (a && b) ≡ true → b ≡ true
    second true b both = both
    second false b both = cc

    by_bit : (b first : Bool) (m : Option Message) (rest : List (ℕ × Option Message)) (some : Bool) → ((nat_lt 0 (length rest) && list_all (λ k. has_id k.1 id) rest) ≡ true → some ≡ true) → has_id m id ≡ first → (nat_lt 0 (length (cond b ((n, m) ∷ rest) rest)) && list_all (λ k. has_id k.1 id) (cond b ((n, m) ∷ rest) rest)) ≡ true → (first || some) ≡ true
    by_bit true first m rest some further is both = left first (list_all (λ k. has_id k.1 id) rest) some (subst (λ b. (b && list_all (λ k. has_id k.1 id) rest) ≡ true) is (second (nat_lt 0 (length ((n, m) ∷ rest))) (has_id m id && list_all (λ k. has_id k.1 id) rest) both))
    by_bit false first m rest some further is both = either first some (further both)

-- what a take asks first of a firing that names no child
asks_if_there : (sight : Sight) (local : Local) (t : Take) → is_spent sight t ≡ false → takes_there t local (heads_of sight None) ≡ true → asks_alone sight t ≡ true
asks_if_there sight local (take.Me id) fresh there = there
asks_if_there sight local (take.Parent id) fresh there = there
asks_if_there sight local (take.Kids id) fresh there = some_answered (awaited_of local) id 0 sight.look.kids there
asks_if_there sight local take.Nothing fresh there = unspent sight.spent fresh
  where
    unspent : (b : Bool) → (b && true) ≡ false → not b ≡ true
    unspent true is = sym is
    unspent false is = refl

pub unasked : (p : Protocol) (kind : Kind) (local : Local) (sight : Sight) (rule : Rule) → asks_alone sight rule.take ≡ false → None ≡ choice_with p kind local sight rule None
unasked p kind local sight rule lacks = by_spent (is_spent sight rule.take) refl
  where
    by_spent : (b : Bool) → is_spent sight rule.take ≡ b → None ≡ choice_with p kind local sight rule None
    by_spent true is = sym (ap (λ b. cond b None (option_and_then (choice_by sight rule None) (plan_of p kind rule None local (heads_of sight None)))) is)
    by_spent false is =
        sym
        (none_by p kind local sight rule None
        (never (can_fire p kind rule None local (heads_of sight None))
        (λ can. sym lacks ∙ asks_if_there sight local rule.take is (by_can p kind rule None local (heads_of sight None) can).takes)))

-- what a take asks first of a firing that names a child
asks_of_child : (sight : Sight) (kind : Kind) (local : Local) (t : Take) (place : ℕ) → me_fits kind t (Some place) (length local.dir) ≡ true → takes_there t local (heads_of sight (Some place)) ≡ true → asks_child sight t place ≡ true
asks_of_child sight kind local (take.Me id) place fits there = there
asks_of_child sight kind local (take.Parent id) place fits there = no_child kind (take.Parent id) place (length local.dir) (λ other is. cc) fits
asks_of_child sight kind local (take.Kids id) place fits there = no_child kind (take.Kids id) place (length local.dir) (λ other is. cc) fits
asks_of_child sight kind local take.Nothing place fits there = no_child kind take.Nothing place (length local.dir) (λ other is. cc) fits

pub unasked_child : (p : Protocol) (kind : Kind) (local : Local) (sight : Sight) (rule : Rule) (place : ℕ) → asks_child sight rule.take place ≡ false → None ≡ choice_with p kind local sight rule (Some place)
unasked_child p kind local sight rule place lacks =
    sym
    (none_by p kind local sight rule (Some place)
    (never (can_fire p kind rule (Some place) local (heads_of sight (Some place)))
    (λ can.
    let it = by_can p kind rule (Some place) local (heads_of sight (Some place)) can in
    sym lacks ∙ asks_of_child sight kind local rule.take place it.fits it.takes)))

-- two tests of which one fails
one_fails : {A : Type 0} (a b : Bool) → (a && b) ≡ false → (a ≡ false → A) → (b ≡ false → A) → A
one_fails true b is first second = second is
one_fails false b is first second = first refl

-- a rule that names no child has no choice that names one
none_all : {A B : Type 0} (f : A → Option B) → ((x : A) → f x ≡ None) → (xs : List A) → first_with f xs ≡ None
none_all f none [] = refl
none_all f none (x ∷ xs) = ap (λ o. option_or o (first_with f xs)) (none x) ∙ none_all f none xs

pub nobody_named : (p : Protocol) (kind : Kind) (local : Local) (sight : Sight) (rule : Rule) → names_child rule.take ≡ false → None ≡ choice_below p kind local sight rule
nobody_named p kind local sight rule other = sym (none_all (λ place. choice_with p kind local sight rule (Some place)) (λ place. sym (unasked_child p kind local sight rule place (asks_none rule.take place other))) (below (length sight.look.kids)))
  where
    asks_none : (t : Take) (place : ℕ) → names_child t ≡ false → asks_child sight t place ≡ false
    asks_none (take.Me id) place other = cc
    asks_none (take.Parent id) place other = refl
    asks_none (take.Kids id) place other = refl
    asks_none take.Nothing place other = refl

-- where no child's first request has the id, that of no place has it
no_request : (id : MsgId) (kids : List KidLook) (place : ℕ) → list_any (λ kid. has_id (message_in kid.request) id) kids ≡ false → has_id (message_in (option_and_then (λ kid. kid.request) (slice_get kids place))) id ≡ false
no_request id [] place none = refl
no_request id (kid ∷ kids) zero none = here (has_id (message_in kid.request) id) (list_any (λ kid. has_id (message_in kid.request) id) kids) none
  where
    here : (a b : Bool) → (a || b) ≡ false → a ≡ false
    here true b is = is
    here false b is = refl
no_request id (kid ∷ kids) (suc place) none = no_request id kids place (there (has_id (message_in kid.request) id) (list_any (λ kid. has_id (message_in kid.request) id) kids) none)
  where
    there : (a b : Bool) → (a || b) ≡ false → b ≡ false
    there true b is = cc
    there false b is = is

no_child_asks : (sight : Sight) (t : Take) (place : ℕ) → asks_some_child sight t ≡ false → asks_child sight t place ≡ false
no_child_asks sight (take.Me id) place none = no_request id sight.look.kids place none
no_child_asks sight (take.Parent id) place none = refl
no_child_asks sight (take.Kids id) place none = refl
no_child_asks sight take.Nothing place none = refl

-- a rule of which no firing has what it asks first has no choice
none_of : (p : Protocol) (kind : Kind) (local : Local) (sight : Sight) (rule : Rule) → choice_with p kind local sight rule None ≡ None → ((place : ℕ) → choice_with p kind local sight rule (Some place) ≡ None) → None ≡ choice_of p kind local sight rule
none_of p kind local sight rule alone below_all =
    sym (ap (λ o. option_or o (choice_below p kind local sight rule)) alone ∙ none_all (λ place. choice_with p kind local sight rule (Some place)) below_all (below (length sight.look.kids)))

neither : (a b : Bool) → (a || b) ≡ false → (a ≡ false) × (b ≡ false)
neither true b is = cc
neither false b is = (refl, is)

pub untried : (p : Protocol) (kind : Kind) (local : Local) (sight : Sight) (rule : Rule) → ((asks_alone sight rule.take || asks_some_child sight rule.take) && is_open rule local) ≡ false → None ≡ choice_of p kind local sight rule
untried p kind local sight rule fails =
    one_fails (asks_alone sight rule.take || asks_some_child sight rule.take) (is_open rule local) fails
    (λ asks.
    let each = neither (asks_alone sight rule.take) (asks_some_child sight rule.take) asks in
    none_of p kind local sight rule (sym (unasked p kind local sight rule each.0)) (λ place. sym (unasked_child p kind local sight rule place (no_child_asks sight rule.take place each.1))))
    (λ shut. none_of p kind local sight rule (closed_with p kind local sight rule None shut) (λ place. closed_with p kind local sight rule (Some place) shut))
