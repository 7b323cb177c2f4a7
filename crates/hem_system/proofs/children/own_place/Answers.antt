use Rattle.std.proofs.Common.{◌≡◌, sym, subst, ℕ, cond, Option, Some, None}
use Rattle.hem_base.specs.declared.ids.ObjectId.{ObjectId}
use Rattle.hem_system.specs.State.{is_own_child, place_of_me}
use Rattle.hem_system.proofs.OwnPlace.{own_place-is}
use Rattle.hem_system.proofs.children.own_place.Goals as goal

pub returns-in-Some-place_in : goal.returns-in-Some-place_in
returns-in-Some-place_in c =
    let tree = c.args.tree.now in
    let o = c.args.object.0 in
    let place : Option (Option ℕ) = Some (Some c.in-Some-place_in.place) in
    subst (λ (m : Option ObjectId). place ≡ cond (is_own_child tree o m) (Some (place_of_me tree o m)) None) (sym c.in-Some.is)
    (own_place-is tree o c.children_of.result.now c.in-Some.child (Some c.in-Some-place_in.place) c.children_of.ensures.children c.in-Some-place_in.ensures)

pub returns-in-None-place_in : goal.returns-in-None-place_in
returns-in-None-place_in c =
    let tree = c.args.tree.now in
    let o = c.args.object.0 in
    let place : Option (Option ℕ) = None in
    subst (λ (m : Option ObjectId). place ≡ cond (is_own_child tree o m) (Some (place_of_me tree o m)) None) (sym c.in-Some.is)
    (own_place-is tree o c.children_of.result.now c.in-Some.child None c.children_of.ensures.children c.in-None-place_in.ensures)
