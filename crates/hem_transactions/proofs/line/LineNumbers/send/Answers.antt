use Rattle.std.proofs.Common.{◌≡◌, ◌∙◌, sym, ap, subst, arith, None, Some, OnOk}
use Rattle.std.specs.Prelude.{slice_get, option_map}
use Rattle.std.proofs.lemmas.Result.{on_ok_weaker}
use Rattle.hem_base.specs.declared.ids.ObjectId.{ObjectId}
use Rattle.hem_fire.specs.declared.outs.To.{To}
use Rattle.hem_tree.specs.Tree.{children_of}
use Rattle.hem_transactions.specs.Along.{MessageSent}
use Rattle.hem_transactions.proofs.ChildrenMet.{child_there}
use Rattle.hem_transactions.proofs.Lanes.{kid_sent, nobody_sent}
use Rattle.hem_transactions.proofs.line.LineNumbers.send.Goals as goal

pub put-requires-in-Some : goal.put-requires-in-Some
put-requires-in-Some c =
    let tree = c.args.tree.now in
    let o = c.args.firing.object.0 in
    let at : slice_get (children_of tree o) c.from.result ≡ Some c.in-Some.child.0 = sym c.child_at.ensures ∙ ap (option_map (λ (id : ObjectId). id.0)) c.in-Some.is in
    let within = child_there tree o c.from.result c.in-Some.child.0 at in
    let down = c.requires.lists.down in
    omega (arith, within, down)

pub returns-in-Some-clause-sent : goal.returns-in-Some-clause-sent
returns-in-Some-clause-sent c =
    let tree = c.args.tree.now in
    let f = c.args.firing in
    let old = c.args.self.now in
    let place = c.in-Kid.place in
    let down = c.put-in-Some.new.self in
    let at : slice_get (children_of tree f.object.0) place ≡ Some c.in-Some.child.0 = ap (slice_get (children_of tree f.object.0)) (sym c.from.ensures) ∙ sym c.child_at.ensures ∙ ap (option_map (λ (id : ObjectId). id.0)) c.in-Some.is in
    subst (λ (to : To). OnOk c.put-in-Some.result (MessageSent tree f to c.args.number old (record { up_requests = old.up_requests; up_responses = old.up_responses; down = down }))) (sym c.in-Kid.is)
    (on_ok_weaker c.put-in-Some.result (λ sent. kid_sent tree f place c.args.number c.in-Some.child old down at sent) c.put-in-Some.ensures.sent)

pub returns-in-None-clause-sent : goal.returns-in-None-clause-sent
returns-in-None-clause-sent c =
    let tree = c.args.tree.now in
    let f = c.args.firing in
    let place = c.in-Kid.place in
    let at : slice_get (children_of tree f.object.0) place ≡ None = ap (slice_get (children_of tree f.object.0)) (sym c.from.ensures) ∙ sym c.child_at.ensures ∙ ap (option_map (λ (id : ObjectId). id.0)) c.in-None.is in
    subst (λ (to : To). MessageSent tree f to c.args.number c.args.self.now c.args.self.now) (sym c.in-Kid.is) (nobody_sent tree f place c.args.number c.args.self.now at)
