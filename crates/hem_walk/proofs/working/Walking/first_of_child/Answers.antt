use Rattle.std.proofs.Common.{sym, ◌∙◌, Some}
use Rattle.hem_base.specs.declared.ids.ObjectId.{ObjectId}
use Rattle.hem_walk.specs.Walk.{firing_of, is_ready}
use Rattle.hem_walk.proofs.Finding.{mapped_next, mapped_here, mapped_end}
use Rattle.hem_walk.proofs.Tried.{child_among}
use Rattle.hem_walk.proofs.working.Walking.first_of_child.Goals as goal

pub returns-then-is_ready_with : goal.returns-then-is_ready_with
returns-then-is_ready_with c =
    let d : ObjectId = record { 0 = 0 } in
    let test = is_ready c.args.p.now c.args.tree.now c.args.work.now.self_count c.args.self.now.journal c.args.self.now.system in
    let with_child = λ (id : ObjectId). firing_of c.args.line.0 c.args.object.0 c.args.rule.now (Some id) in
    let here = mapped_here test with_child c.children-children.result.now c.loop-child.child-index d c.loop-child-test.true (sym c.is_ready_with.ensures ∙ c.if-is_ready_with.true) in
    sym (child_among test c.args.tree.now c.args.line.0 c.args.object.0 c.args.rule.now c.children-children.result.now _ c.children-children.ensures (sym c.loop-child.invariant ∙ here))

pub loop-child-preserved : goal.loop-child-preserved
loop-child-preserved c =
    let d : ObjectId = record { 0 = 0 } in
    let test = is_ready c.args.p.now c.args.tree.now c.args.work.now.self_count c.args.self.now.journal c.args.self.now.system in
    let with_child = λ (id : ObjectId). firing_of c.args.line.0 c.args.object.0 c.args.rule.now (Some id) in
    mapped_next test with_child c.children-children.result.now c.loop-child.child-index d c.loop-child-test.true (sym c.is_ready_with.ensures ∙ c.if-is_ready_with.false)
    ∙ c.loop-child.invariant

pub returns : goal.returns
returns c =
    let test = is_ready c.args.p.now c.args.tree.now c.args.work.now.self_count c.args.self.now.journal c.args.self.now.system in
    let with_child = λ (id : ObjectId). firing_of c.args.line.0 c.args.object.0 c.args.rule.now (Some id) in
    let end = mapped_end test with_child c.children-children.result.now c.loop-child.child-index c.loop-child-test.false in
    sym (child_among test c.args.tree.now c.args.line.0 c.args.object.0 c.args.rule.now c.children-children.result.now _ c.children-children.ensures (sym c.loop-child.invariant ∙ end))
