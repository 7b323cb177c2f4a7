use Rattle.std.proofs.Common.{◌∙◌, ◌+◌, refl, sym, ap, cond, ◌++◌, ◌∷◌, [], append-nil, get_or, arith}
use Rattle.std.specs.Prelude.{◌==◌, ◌&&◌}
use Rattle.hem_base.specs.declared.ids.ObjectId.{ObjectId}
use Rattle.hem_system.proofs.OwnPlace.{child_here, child_count}
use Rattle.hem_transactions.specs.Carried.{numbers_at}
use Rattle.hem_transactions.proofs.ChildrenMet.{is_child_before, is_child_at, child_first, child_there, child_next, child_all, put_next}
use Rattle.hem_transactions.proofs.lane.LaneNumbers.put_each.Goals as goal

pub loop-place-init : goal.loop-place-init
loop-place-init c = record {
  size = refl;
  sent = λ k.
      let old = numbers_at c.args.self.now k in
      sym (append-nil old) ∙ ap (λ b. old ++ cond b (c.args.number ∷ []) []) (sym (child_first c.args.tree.now c.args.object.0 c.args.kids.0 k));
}

pub put-requires : goal.put-requires
put-requires c =
    let tree = c.args.tree.now in
    let o = c.args.object.0 in
    let n = c.loop-place.place in
    let ids = c.children-child-items.result.now in
    let d : ObjectId = record { 0 = 0 } in
    let at = child_here tree o n ids d c.children-child-items.ensures c.loop-place-test.true in
    let within = child_there tree o n (get_or ids n d).0 at in
    let size = c.loop-place.invariant.size in
    let all = c.requires.all in
    omega (arith, within, size, all)

pub loop-place-preserved : goal.loop-place-preserved
loop-place-preserved c =
    let tree = c.args.tree.now in
    let o = c.args.object.0 in
    let bits = c.args.kids.0 in
    let number = c.args.number in
    let n = c.loop-place.place in
    let d : ObjectId = record { 0 = 0 } in
    let child = (get_or c.children-child-items.result.now n d).0 in
    let at = child_here tree o n c.children-child-items.result.now d c.children-child-items.ensures c.loop-place-test.true in
    record {
      size = c.in_ok-put.ensures.size ∙ c.loop-place.invariant.size;
      sent = λ k.
          c.in_ok-put.ensures.sent k
          ∙ ap (λ b. numbers_at c.loop-place.self k ++ cond (b && k == child) (number ∷ []) []) c.has.ensures
          ∙ ap (λ xs. xs ++ cond (is_child_at bits n child k) (number ∷ []) []) (c.loop-place.invariant.sent k)
          ∙ put_next (is_child_before tree o bits n k) (is_child_before tree o bits (n + 1) k) (is_child_at bits n child k) (numbers_at c.args.self.now k) number (child_next tree o bits n child k at);
    }

pub returns : goal.returns
returns c =
    let tree = c.args.tree.now in
    let o = c.args.object.0 in
    let n = c.loop-place.place in
    let ids = c.children-child-items.result.now in
    let count = child_count tree o ids c.children-child-items.ensures in
    let end = c.loop-place-test.false in
    let most = c.loop-place.auto.place-end in
    record {
      size = c.loop-place.invariant.size;
      sent = λ k. c.loop-place.invariant.sent k ∙ ap (λ b. numbers_at c.args.self.now k ++ cond b (c.args.number ∷ []) []) (child_all tree o c.args.kids.0 n k (omega (arith, count, end, most)));
    }
