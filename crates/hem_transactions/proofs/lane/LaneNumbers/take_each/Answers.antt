use Rattle.std.proofs.Common.{◌∙◌, ◌+◌, refl, sym, ap, cond, drop, get_or, arith}
use Rattle.std.specs.Prelude.{◌==◌, ◌&&◌}
use Rattle.hem_base.specs.declared.ids.ObjectId.{ObjectId}
use Rattle.hem_system.proofs.OwnPlace.{child_here, child_count}
use Rattle.hem_transactions.specs.Carried.{numbers_at}
use Rattle.hem_transactions.proofs.ChildrenMet.{is_child_before, is_child_at, child_first, child_there, child_next, child_all, child_none, take_next}
use Rattle.hem_transactions.proofs.lane.LaneNumbers.take_each.Goals as goal

pub loop-place-init : goal.loop-place-init
loop-place-init c = record {
  size = refl;
  taken = λ k. ap (λ b. drop (cond b 1 0) (numbers_at c.args.self.now k)) (sym (child_first c.args.tree.now c.args.object.0 c.args.kids.0 k));
}

pub take-requires : goal.take-requires
take-requires c =
    let tree = c.args.tree.now in
    let o = c.args.object.0 in
    let n = c.loop-place.place in
    let ids = c.children-child-items.result.now in
    let d : ObjectId = record { 0 = 0 } in
    let at = child_here tree o n ids d c.children-child-items.ensures c.loop-place-test.true in
    let within = child_there tree o n (get_or ids n d).0 at in
    let size = c.loop-place.invariant.size in
    let all = c.requires.all in
    omega (arith, within, size, all)

pub loop-place-preserved : goal.loop-place-preserved
loop-place-preserved c =
    let tree = c.args.tree.now in
    let o = c.args.object.0 in
    let bits = c.args.kids.0 in
    let n = c.loop-place.place in
    let d : ObjectId = record { 0 = 0 } in
    let child = (get_or c.children-child-items.result.now n d).0 in
    let at = child_here tree o n c.children-child-items.result.now d c.children-child-items.ensures c.loop-place-test.true in
    record {
      size = c.take.ensures.size ∙ c.loop-place.invariant.size;
      taken = λ k.
          c.take.ensures.taken k
          ∙ ap (λ b. drop (cond (b && k == child) 1 0) (numbers_at c.loop-place.self k)) c.has.ensures
          ∙ ap (drop (cond (is_child_at bits n child k) 1 0)) (c.loop-place.invariant.taken k)
          ∙ take_next (is_child_before tree o bits n k) (is_child_before tree o bits (n + 1) k) (is_child_at bits n child k) (numbers_at c.args.self.now k) (child_next tree o bits n child k at);
    }

pub returns : goal.returns
returns c =
    let tree = c.args.tree.now in
    let o = c.args.object.0 in
    let n = c.loop-place.place in
    let ids = c.children-child-items.result.now in
    let count = child_count tree o ids c.children-child-items.ensures in
    let end = c.loop-place-test.false in
    let most = c.loop-place.auto.place-end in
    record {
      size = c.loop-place.invariant.size;
      taken = λ k. c.loop-place.invariant.taken k ∙ ap (λ b. drop (cond b 1 0) (numbers_at c.args.self.now k)) (child_all tree o c.args.kids.0 n k (omega (arith, count, end, most)));
    }

pub returns-then-kids-eq0 : goal.returns-then-kids-eq0
returns-then-kids-eq0 c = record {
  size = refl;
  taken = λ k. ap (λ b. drop (cond b 1 0) (numbers_at c.args.self.now k)) (sym (child_none c.args.tree.now c.args.object.0 c.args.kids.0 k c.if-kids-eq0.true));
}
