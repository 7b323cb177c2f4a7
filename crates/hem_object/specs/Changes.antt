-- What a firing changes in a local state.
use Rattle.std.specs.Prelude.{ℕ, ◌==◌, ◌+◌, nat_lt, Bool, not, cond, List, [], ◌∷◌, length, Option, None, Some, slice_set, is_some, unwrap_or}
use Rattle.std.specs.List.{list_any}
use Rattle.hem_base.specs.Sets.{has_bit}
use Rattle.hem_base.specs.declared.ids.Status8.{Status8}
use Rattle.hem_syntax.specs.declared.rule.Side.{Side}
use Rattle.hem_syntax.specs.declared.rule.Assign.{Assign}
use Rattle.hem_syntax.specs.declared.rule.Assign.TheVariants as assign
use Rattle.hem_syntax.specs.declared.rule.Side.TheVariants.{Up, Down}
use Rattle.hem_object.specs.declared.state.Lock.{Lock}
use Rattle.hem_object.specs.declared.state.View.{View}
use Rattle.hem_object.specs.Local.{Local}
use Rattle.hem_object.specs.Guard.{value_of, kids_of, is_requester}

-- everything that a set names exists
abbrev pub assign_names : Local → View → Assign → Bool
assign_names local view (assign.Field i s) = nat_lt i (length local.fields)
assign_names local view (assign.Val v) = is_some (value_of v local view)
assign_names local view (assign.Me s) = list_any (λ k. is_requester view k.0) (kids_of local)
assign_names local view (assign.Targets s) = not (view.awaited.0 == 0)

-- the entries of the directory at these places, set to a status
abbrev pub set_at : Status8 → (ℕ → Bool) → ℕ → List Status8 → List Status8
set_at s test k [] = []
set_at s test k (entry ∷ dir) = cond (test k) s entry ∷ set_at s test (k + 1) dir

-- a set of a field or of the value; all values are those before the firing
abbrev pub assign_own : Local → View → Assign → Local → Local
assign_own before view (assign.Field i s) local = record local { fields = slice_set local.fields i s }
assign_own before view (assign.Val v) local = record local { val = unwrap_or (value_of v before view) 0 }
assign_own before view _ local = local

-- a set of the awaited children's entries
abbrev pub assign_targets : View → Assign → Local → Local
assign_targets view (assign.Targets s) local = record local { dir = set_at s (has_bit view.awaited.0) 0 local.dir }
assign_targets view _ local = local

-- a set of the requester's entry
abbrev pub assign_me : View → Assign → Local → Local
assign_me view (assign.Me s) local = record local { dir = set_at s (is_requester view) 0 local.dir }
assign_me view _ local = local

-- each of these changes in turn
abbrev pub in_turn : (Assign → Local → Local) → List Assign → Local → Local
in_turn change [] local = local
in_turn change (a ∷ sets) local = in_turn change sets (change a local)

-- the local state after the sets: fields and value first, then targets, then me
abbrev pub assigned : List Assign → View → Local → Local
assigned sets view local =
    in_turn (assign_me view) sets (in_turn (assign_targets view) sets (in_turn (assign_own local view) sets local))

-- the local state with one lock freed
abbrev pub freed : Option Side → Local → Local
freed None local = local
freed (Some Up) local = record local { up = None }
freed (Some Down) local = record local { down = None }

-- the local state with one lock held
abbrev pub locked : Side → Lock → Local → Local
locked Up lock local = record local { up = Some lock }
locked Down lock local = record local { down = Some lock }
