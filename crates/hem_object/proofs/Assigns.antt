-- What the sets of a rule leave as it was.
use Rattle.std.proofs.Common.{◌≡◌, refl, List, [], ◌∷◌, ◌&&◌}
use Rattle.std.proofs.Math.ListN.{length-set}
use Rattle.std.specs.Prelude.{IsTrue, Bool, true, false}
use Rattle.std.specs.List.{list_all}
use Rattle.hem_syntax.specs.declared.rule.Assign.{Assign}
use Rattle.hem_syntax.specs.declared.rule.Assign.TheVariants.{Field, Val, Me, Targets}
use Rattle.hem_syntax.specs.declared.rule.Value.TheVariants as value
use Rattle.hem_object.specs.declared.state.View.{View}
use Rattle.hem_object.specs.Local.{Local}
use Rattle.hem_object.specs.Changes.{assign_own, assign_names}

-- a set of a field or of the value leaves all names that exist
pub names-assign_own : (before : Local) (view : View) (a b : Assign) (local : Local) → assign_names (assign_own before view a local) view b ≡ assign_names local view b
names-assign_own before view (Field i s) (Field j t) local = simp length-set
names-assign_own before view (Field i s) (Val value.Val) local = refl
names-assign_own before view (Field i s) (Val value.Msg) local = refl
names-assign_own before view (Field i s) (Val value.Kept) local = refl
names-assign_own before view (Field i s) (Val value.Rs) local = refl
names-assign_own before view (Field i s) (Val value.Zero) local = refl
names-assign_own before view (Field i s) (Me t) local = refl
names-assign_own before view (Field i s) (Targets t) local = refl
names-assign_own before view (Val v) (Field j t) local = refl
names-assign_own before view (Val v) (Val value.Val) local = refl
names-assign_own before view (Val v) (Val value.Msg) local = refl
names-assign_own before view (Val v) (Val value.Kept) local = refl
names-assign_own before view (Val v) (Val value.Rs) local = refl
names-assign_own before view (Val v) (Val value.Zero) local = refl
names-assign_own before view (Val v) (Me t) local = refl
names-assign_own before view (Val v) (Targets t) local = refl
names-assign_own before view (Me s) b local = refl
names-assign_own before view (Targets s) b local = refl

-- the same of a list of sets
pub all_names-assign_own : (before : Local) (view : View) (a : Assign) (sets : List Assign) (local : Local) → list_all (assign_names (assign_own before view a local) view) sets ≡ list_all (assign_names local view) sets
all_names-assign_own before view a [] local = refl
all_names-assign_own before view a (b ∷ sets) local = rw (names-assign_own before view a b local, all_names-assign_own before view a sets local)

-- of two tests that hold, the second does
pub and_right : (a b : Bool) → IsTrue (a && b) → IsTrue b
and_right true b h = h
and_right false b h = cc
