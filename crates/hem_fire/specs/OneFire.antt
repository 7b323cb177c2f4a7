-- One firing at one object, with the heads of its input lists.
use Rattle.std.specs.Prelude.{ℕ, ◌≡◌, nat_lt, Bool, true, false, ◌&&◌, IsTrue, length, Option, is_none, unwrap_or}
use Rattle.std.specs.List.{list_all}
use Rattle.std.specs.Option.{option_map_or}
use Rattle.hem_base.specs.declared.ids.Kind.{Kind}
use Rattle.hem_base.specs.declared.ids.Kind.TheVariants.{Leaf}
use Rattle.hem_syntax.specs.declared.rule.Rule.{Rule}
use Rattle.hem_syntax.specs.declared.rule.Take.{Take}
use Rattle.hem_syntax.specs.declared.rule.Take.TheVariants as take
use Rattle.hem_fire.specs.declared.outs.Outs.{Outs}
use Rattle.hem_syntax.specs.Protocol.{Protocol}
use Rattle.hem_object.specs.Local.{Local}
use Rattle.hem_object.specs.Guard.{holds}
use Rattle.hem_fire.specs.Heads.{takes_there}
pub use Rattle.hem_fire.specs.Heads.{Heads}
use Rattle.hem_fire.specs.View.{view_of}
use Rattle.hem_object.specs.Targets.{targets_of}
use Rattle.hem_fire.specs.Sends.{message_of, no_message, send_names, goes_to}
use Rattle.hem_fire.specs.Locks.{need_holds, request_in_hand, lock_names, lock_taken}
use Rattle.hem_object.specs.Changes.{assign_names, assigned, freed, locked}

-- the child fits the rule: it is named exactly where the rule takes from a child
abbrev pub me_fits : Kind → Take → Option ℕ → ℕ → Bool
me_fits Leaf _ me children = is_none me
me_fits _ (take.Me id) me children = option_map_or (λ c. nat_lt c children) me false
me_fits _ _ me children = is_none me

-- the child fits, what the rule takes is there, and both locks are as the rule needs them
abbrev pub can_begin : Kind → Rule → Option ℕ → Local → Heads → Bool
can_begin kind rule me local heads =
    me_fits kind rule.take me (length local.dir)
    && takes_there rule.take local heads
    && need_holds rule.need.up local.up
    && need_holds rule.need.down local.down

-- the rule can fire here: it can begin, everything that it names exists, its guard holds, and its send reaches somebody
abbrev pub can_fire : Protocol → Kind → Rule → Option ℕ → Local → Heads → Bool
can_fire p kind rule me local heads =
    let view = view_of rule.take me local heads in
    can_begin kind rule me local heads
    && list_all (assign_names local view) rule.sets
    && lock_names rule.lock view (request_in_hand p rule.take rule.send local view heads)
    && holds rule.guard local view
    && send_names kind rule.send local view

-- the local state after the firing: the sets are made, then a lock is freed, then a lock is taken
abbrev pub local_after : Protocol → Kind → Rule → Option ℕ → Local → Heads → Local
local_after p kind rule me local heads =
    let view = view_of rule.take me local heads in
    let left = freed rule.free (assigned rule.sets view local) in
    option_map_or (λ l. locked l.0 l.1 left)
    (lock_taken rule.lock view (request_in_hand p rule.take rule.send local view heads) (targets_of rule.send local view)) left

-- what the firing takes and sends
abbrev pub outs_of : Protocol → Kind → Rule → Option ℕ → Local → Heads → Outs
outs_of p kind rule me local heads =
    let view = view_of rule.take me local heads in
    record {
      taken_request = elim rule.take [ take.Me id ↦ true | _ ↦ false ];
      taken_parent = elim rule.take [ take.Parent id ↦ true | _ ↦ false ];
      taken_kids = view.awaited;
      to = goes_to p rule.send local view;
      message = unwrap_or (message_of rule.send local view) no_message;
    }

-- the rule fires here, leaves this local state, and takes and sends this
pub record OneFire (p : Protocol) (kind : Kind) (rule : Rule) (me : Option ℕ) (local : Local) (heads : Heads) (after : Local) (outs : Outs) : Type 0 where
  pub possible : IsTrue (can_fire p kind rule me local heads)
  pub leaves : after ≡ local_after p kind rule me local heads
  pub gives : outs ≡ outs_of p kind rule me local heads
