use Rattle.std.proofs.Common.{◌≡◌, sym, ap, ◌∙◌, ⊎_elim, arith, Some, map}
use Rattle.std.specs.Prelude.{slice_get, get_or}
use Rattle.std.proofs.str.Laws.{order}
use Rattle.std.proofs.lemmas.List.{length-map}
use Rattle.std.proofs.lemmas.Option.{slice_get_within}
use Rattle.hem_base.specs.declared.ids.ObjectId.{ObjectId}
use Rattle.hem_tree.specs.Tree.{place_among}
use Rattle.hem_system.proofs.Kids.{at_child, child_at}
use Rattle.hem_walk.specs.Walk.{position}
use Rattle.hem_walk.specs.Marks.{is_in}
use Rattle.hem_walk.specs.Near.{reaches_place}
use Rattle.hem_walk.proofs.Marked.{child_there, kid_at, sent_down}
use Rattle.hem_walk.proofs.working.Walking.mark_below.Goals as goal

pub mark_if-requires-clause-there : goal.mark_if-requires-clause-there
mark_if-requires-clause-there c =
    let d : ObjectId = record { 0 = 0 } in
    let at = kid_at c.children-children.result.now c.loop-place.place d c.loop-place-test.true in
    let child = at_child c.args.tree.now c.args.firing.object.0 c.loop-place.place (get_or c.children-children.result.now c.loop-place.place d).0 (ap (λ ks. slice_get ks c.loop-place.place) (sym c.children-children.ensures) ∙ at) in
    child_there c.args.tree.now c.args.self.now.system c.args.firing.line.0 c.args.firing.object.0 (get_or c.children-children.result.now c.loop-place.place d).0 c.requires.there child.0

pub loop-place-preserved : goal.loop-place-preserved
loop-place-preserved c =
    let d : ObjectId = record { 0 = 0 } in
    let kids = c.children-children.result.now in
    let n = c.loop-place.place in
    let at = kid_at kids n d c.loop-place-test.true in
    record {
      below = λ i low less there wanted.
          ⊎_elim
          (λ before. c.mark_if.ensures.kept (position c.args.tree.now c.args.firing.line.0 low) (c.loop-place.invariant.below i low before there wanted))
          (λ past.
          let same : i ≡ n = omega (arith, less, past) in
          let both : Some (get_or kids n d).0 ≡ Some low = sym at ∙ ap (slice_get (map (λ id. id.0) kids)) (sym same) ∙ there in
          let is : low ≡ (get_or kids n d).0 = cc in
          let now = c.reaches_place-wanted.ensures ∙ ap (reaches_place c.args.to) (sym same) ∙ wanted in
          ap (λ k. is_in c.mark_if.new.marks (position c.args.tree.now c.args.firing.line.0 k)) is ∙ c.mark_if.ensures.here now)
          (order i n);
      kept = λ m is. c.mark_if.ensures.kept m (c.loop-place.invariant.kept m is);
      size = c.mark_if.ensures.size ∙ c.loop-place.invariant.size;
    }

pub returns-clause-below : goal.returns-clause-below
returns-clause-below c = λ low is.
    let parts = sent_down c.args.tree.now c.args.firing c.args.to low is in
    let kids = c.children-children.result.now in
    let place = place_among c.args.tree.now c.args.firing.object.0 low in
    let there = ap (λ ks. slice_get ks place) c.children-children.ensures ∙ child_at c.args.tree.now c.args.firing.object.0 low parts.0 in
    let within = slice_get_within (map (λ (id : ObjectId). id.0) kids) place low there in
    let long = length-map kids (λ (id : ObjectId). id.0) in
    let past = c.loop-place-test.false in
    c.loop-place.invariant.below place low (omega (arith, within, long, past)) there parts.1
