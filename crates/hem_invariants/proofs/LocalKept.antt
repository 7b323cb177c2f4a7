-- A firing at one object keeps a well-formed local state, and sends what is declared.
use Rattle.std.proofs.Common.{◌≡◌, ◌≢◌, refl, ap, sym, subst, ℕ, true, length, Option, Some, None}
use Rattle.std.specs.Prelude.{nat_le, not, ◌==◌, ◌&&◌, IsTrue, option_map, is_some, unwrap_or}
use Rattle.std.specs.List.{list_all}
use Rattle.hem_base.specs.declared.ids.Kind.{Kind}
use Rattle.hem_base.specs.declared.ids.Message.{Message}
use Rattle.hem_base.specs.declared.ids.MsgId.{MsgId}
use Rattle.hem_syntax.specs.declared.rule.Rule.{Rule}
use Rattle.hem_syntax.specs.declared.rule.SendTo.{SendTo}
use Rattle.hem_syntax.specs.declared.rule.SendTo.TheVariants as send
use Rattle.hem_syntax.specs.Protocol.{Protocol, part}
use Rattle.hem_syntax.specs.Lawful.{Counts, has_take, has_atom, has_assign, has_send, set_once, is_rule, counts_of}
use Rattle.hem_object.specs.declared.state.View.{View}
use Rattle.hem_object.specs.Local.{Local, IsWellFormed}
use Rattle.hem_object.specs.Guard.{holds, value_of, has_requester}
use Rattle.hem_object.specs.Changes.{assign_names, assigned, freed}
use Rattle.hem_object.specs.Targets.{targets_of}
use Rattle.hem_fire.specs.declared.outs.Outs.{Outs}
use Rattle.hem_fire.specs.Heads.{takes_there}
use Rattle.hem_fire.specs.View.{view_of}
use Rattle.hem_fire.specs.Sends.{message_of, no_message, has_parent, send_names}
use Rattle.hem_fire.specs.Locks.{need_holds, request_in_hand, lock_names}
use Rattle.hem_fire.specs.OneFire.{Heads, me_fits, can_begin, can_fire, outs_of, OneFire}
use Rattle.hem_invariants.specs.Declared.{IsDeclared, HeadsDeclared, SendsDeclared}
use Rattle.hem_invariants.proofs.Choices.{both}
use Rattle.hem_invariants.proofs.LocalSets.{assigned-kept, freed-kept}
use Rattle.hem_invariants.proofs.LocalLocks.{requester-origin, targets-below, request-declared, lock_taken-formed, message-declared}

-- the parts of what a rule names that a firing writes or sends
pub record Names (n : Counts) (rule : Rule) : Type 0 where
  pub sets : list_all (has_assign n) rule.sets ≡ true
  pub send : has_send n rule.send ≡ true

-- a rule that a protocol may have
pub rule-names : (n : Counts) (rule : Rule) → IsTrue (is_rule n rule) → Names n rule
rule-names n rule is =
    let whole = both (has_take n rule.take && (nat_le (length rule.guard) 16 && list_all (has_atom n) rule.guard) && (nat_le (length rule.sets) 8 && list_all (has_assign n) rule.sets && set_once rule.sets)) (has_send n rule.send) is in
    let sets = both (has_take n rule.take && (nat_le (length rule.guard) 16 && list_all (has_atom n) rule.guard)) (nat_le (length rule.sets) 8 && list_all (has_assign n) rule.sets && set_once rule.sets) whole.0 in
    let few = both (nat_le (length rule.sets) 8 && list_all (has_assign n) rule.sets) (set_once rule.sets) sets.1 in
    record { sets = (both (nat_le (length rule.sets) 8) (list_all (has_assign n) rule.sets) few.0).1; send = whole.1 }

-- the parts of whether a rule can fire
pub record CanFire (p : Protocol) (kind : Kind) (rule : Rule) (me : Option ℕ) (local : Local) (heads : Heads) : Type 0 where
  pub fits : me_fits kind rule.take me (length local.dir) ≡ true
  pub there : takes_there rule.take local heads ≡ true
  pub sends : send_names kind rule.send local (view_of rule.take me local heads) ≡ true

-- a rule that can fire
pub can_fire-parts : (p : Protocol) (kind : Kind) (rule : Rule) (me : Option ℕ) (local : Local) (heads : Heads) → IsTrue (can_fire p kind rule me local heads) → CanFire p kind rule me local heads
can_fire-parts p kind rule me local heads can =
    let view = view_of rule.take me local heads in
    let begins = can_begin kind rule me local heads in
    let names = list_all (assign_names local view) rule.sets in
    let locks = lock_names rule.lock view (request_in_hand p rule.take rule.send local view heads) in
    let guard = holds rule.guard local view in
    let all = both (begins && names && locks && guard) (send_names kind rule.send local view) can in
    let begun = (both begins names (both (begins && names) locks (both (begins && names && locks) guard all.0).0).0).0 in
    let fits = me_fits kind rule.take me (length local.dir) in
    let there = takes_there rule.take local heads in
    let up = need_holds rule.need.up local.up in
    let taken = both fits there (both (fits && there) up (both (fits && there && up) (need_holds rule.need.down local.down) begun).0).0 in
    record { fits = taken.0; there = taken.1; sends = all.1 }

-- what a firing leaves is well formed
pub fired-formed : (p : Protocol) (kind : Kind) (children : ℕ) (rule : Rule) (me : Option ℕ) (local : Local) (heads : Heads) (after : Local) (outs : Outs) → IsTrue (is_rule (counts_of p (part p kind)) rule) → IsWellFormed p kind children local → HeadsDeclared p heads → OneFire p kind rule me local heads after outs → IsWellFormed p kind children after
fired-formed p kind children rule me local heads after outs is formed declared fires =
    let names = rule-names (counts_of p (part p kind)) rule is in
    let can = can_fire-parts p kind rule me local heads fires.possible in
    let view = view_of rule.take me local heads in
    subst (IsWellFormed p kind children) (sym fires.leaves)
    (lock_taken-formed p kind children local formed rule.lock view (request_in_hand p rule.take rule.send local view heads) (targets_of rule.send local view) (freed rule.free (assigned rule.sets view local))
    (λ by named. requester-origin p kind children local formed rule.take me heads by can.fits named)
    (λ m in_hand. request-declared p kind children local formed rule.take rule.send me heads m declared names.send in_hand)
    (targets-below p kind children local formed rule.send view)
    (freed-kept p kind children rule.free (assigned rule.sets view local) (assigned-kept p kind children view rule.sets local names.sets formed)))

-- a value that exists makes a message
valued : (id : MsgId) (value : Option ℕ) → is_some value ≡ true → (m : Message) × (option_map (λ x. (let made : Message = record { id = id; value = x } in made)) value ≡ Some m)
valued id None some = cc
valued id (Some x) some = (record { id = id; value = x }, refl)

-- a message whose value exists is there
message-there : (kind : Kind) (to : SendTo) (local : Local) (view : View) → send_names kind to local view ≡ true → to ≢ send.Nothing → (m : Message) × (message_of to local view ≡ Some m)
message-there kind send.Nothing local view names some = absurd (some refl)
message-there kind (send.Me id v) local view names some = valued id (value_of v local view) (both (has_requester view) (is_some (value_of v local view)) names).1
message-there kind (send.Parent id v) local view names some = valued id (value_of v local view) (both (has_parent kind) (is_some (value_of v local view)) names).1
message-there kind (send.Kids set id v) local view names some = valued id (value_of v local view) (both (is_some (value_of v local view)) (not ((targets_of (send.Kids set id v) local view).0 == 0)) names).0
message-there kind (send.Others set id v) local view names some = valued id (value_of v local view) (both (has_requester view) (is_some (value_of v local view)) (both (has_requester view && is_some (value_of v local view)) (not ((targets_of (send.Others set id v) local view).0 == 0)) names).0).1

-- what a firing sends is declared
pub fired-sends : (p : Protocol) (kind : Kind) (rule : Rule) (me : Option ℕ) (local : Local) (heads : Heads) (after : Local) (outs : Outs) → IsTrue (is_rule (counts_of p (part p kind)) rule) → OneFire p kind rule me local heads after outs → SendsDeclared p outs
fired-sends p kind rule me local heads after outs is fires = subst (SendsDeclared p) (sym fires.gives) (sent rule.send refl)
  where
    sent : (to : SendTo) → rule.send ≡ to → SendsDeclared p (outs_of p kind rule me local heads)
    sent send.Nothing none = λ some. absurd (some (rw none refl))
    sent to named = λ some.
        let view = view_of rule.take me local heads in
        let it = message-there kind rule.send local view (can_fire-parts p kind rule me local heads fires.possible).sends (λ none. some (rw none refl)) in
        subst (IsDeclared p) (sym (ap (λ (o : Option Message). unwrap_or o no_message) it.1)) (message-declared p kind rule.send local view it.0 (rule-names (counts_of p (part p kind)) rule is).send it.1)
