-- The search for the least abstract state in which a turn breaks a waiting request.
use Rattle.std.specs.Prelude.{ℕ, Bool, true, false, not, ◌&&◌, ◌||◌, cond, List, find, Option, None, option_map}
use Rattle.std.specs.List.{list_any}
use Rattle.hem_base.specs.declared.ids.Kind.{Kind}
use Rattle.hem_base.specs.declared.ids.Status8.{Status8}
use Rattle.hem_base.specs.declared.ids.StatusSet.{StatusSet}
use Rattle.hem_syntax.specs.declared.rule.Rule.{Rule}
use Rattle.hem_abstract.specs.Abstract.{Abstract, guard_at}
use Rattle.hem_abstract.specs.Partners.{after, sends_val, is_new_val}
use Rattle.hem_abstract.specs.Stable.{kid_sets}
use Rattle.hem_abstract.specs.Parts.{Turn, some_kid_in, kids_lose}
use Rattle.hem_abstract.specs.FieldSets.{FieldSets, allows, any_fields, kept_by_all, led_by_all}

-- whether a turn can happen in an abstract state
abbrev pub turn_happens : Turn → Abstract → Bool
turn_happens turn at = guard_at turn.first at None && (not turn.passes_on || some_kid_in turn.targets at.kids) && guard_at turn.second at turn.asked

-- whether a turn takes a waiting request's guard or value away in an abstract state
abbrev pub turn_breaks : Rule → Turn → Abstract → Bool
turn_breaks u turn at =
    guard_at u.guard at None
    && turn_happens turn at
    && (not (guard_at u.guard (after at turn.sets turn.targets) None) || (sends_val u && list_any is_new_val turn.sets))

-- how a turn clashes with a waiting request: the fields at which both can be, the fields after which the guard still holds, whether the value is lost, and the least statuses of the children at which both can be, and after which the guard is lost
pub record Clash : Type 0 where
  pub both : FieldSets
  pub stays : FieldSets
  pub new_val : Bool
  pub any : Option StatusSet
  pub lost : Option StatusSet

-- how a turn clashes with a waiting request in a kind with so many fields and statuses
abbrev pub clash_of : Rule → Turn → Kind → ℕ → ℕ → Clash
clash_of u turn kind fields statuses =
    let waits = kept_by_all None u.guard (any_fields fields) in
    record {
      both = kept_by_all turn.asked turn.second (kept_by_all None turn.first waits);
      stays = led_by_all turn.sets waits;
      new_val = sends_val u && list_any is_new_val turn.sets;
      any = find (kids_lose u.guard turn false) (kid_sets kind statuses);
      lost = find (kids_lose u.guard turn true) (kid_sets kind statuses);
    }

-- the least statuses of the children with which a list of fields is broken
abbrev pub clash_kids : Clash → List Status8 → Option StatusSet
clash_kids clash fields =
    cond (allows clash.both fields) (cond (clash.new_val || not (allows clash.stays fields)) clash.any clash.lost) None

-- the least abstract state with these fields that is broken
abbrev pub clash_at : Clash → List Status8 → Option Abstract
clash_at clash fields = option_map (λ kids. record { fields = fields; kids = kids }) (clash_kids clash fields)
