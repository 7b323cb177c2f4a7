use Rattle.std.proofs.Common.{◌∙◌, ap, ◌++◌, ◌∷◌, [], Bool, cond, get_or, Option, None}
use Rattle.hem_base.specs.declared.ids.ObjectId.{ObjectId}
use Rattle.hem_base.specs.declared.ids.Message.{Message}
use Rattle.hem_system.specs.declared.lane.Lane.TheVariants.{UpResponses}
use Rattle.hem_system.specs.State.{head_at}
use Rattle.hem_system.specs.Cells.{line_of}
use Rattle.hem_system.proofs.Effects.{response_more}
use Rattle.hem_system.proofs.possible.response_heads.Goals as goal

pub loop-place-preserved : goal.loop-place-preserved
loop-place-preserved c =
    let d : ObjectId = record { 0 = 0 } in
    let child = get_or c.args.children.now c.loop-place.place d in
    let head = c.response_head.ensures ∙ ap (λ (b : Bool). cond b (head_at (line_of c.args.cells.now) child.0 UpResponses) None) c.has.ensures in
    response_more (line_of c.args.cells.now) c.args.kids c.loop-place.place c.args.children.now d c.loop-place.heads.items c.push.new.self.items c.loop-place-test.true c.loop-place.invariant
    (c.push.ensures.items ∙ ap (λ (h : Option Message). c.loop-place.heads.items ++ h ∷ []) head)
