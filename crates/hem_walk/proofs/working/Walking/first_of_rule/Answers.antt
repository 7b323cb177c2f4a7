use Rattle.std.proofs.Common.{sym, ◌∙◌}
use Rattle.hem_tree.specs.Tree.{children_of}
use Rattle.hem_walk.specs.Walk.{is_ready}
use Rattle.hem_walk.proofs.Begun.{none_with_child}
use Rattle.hem_walk.proofs.Tried.{alone_first, children_first}
use Rattle.hem_walk.proofs.working.Walking.first_of_rule.Goals as goal

pub returns-then-is_ready_alone : goal.returns-then-is_ready_alone
returns-then-is_ready_alone c =
    let test = is_ready c.args.p.now c.args.tree.now c.args.work.now.self_count c.args.self.now.journal c.args.self.now.system in
    sym (alone_first test c.args.tree.now c.args.line.0 c.args.object.0 c.args.rule.now (sym c.is_ready_alone.ensures ∙ c.if-is_ready_alone.true))

pub returns-then-names_child : goal.returns-then-names_child
returns-then-names_child c =
    let test = is_ready c.args.p.now c.args.tree.now c.args.work.now.self_count c.args.self.now.journal c.args.self.now.system in
    sym (children_first test c.args.tree.now c.args.line.0 c.args.object.0 c.args.rule.now _ (sym c.is_ready_alone.ensures ∙ c.if-is_ready_alone.false) (sym c.first_of_child.ensures))

pub returns-else-names_child : goal.returns-else-names_child
returns-else-names_child c =
    let test = is_ready c.args.p.now c.args.tree.now c.args.work.now.self_count c.args.self.now.journal c.args.self.now.system in
    sym (children_first test c.args.tree.now c.args.line.0 c.args.object.0 c.args.rule.now _ (sym c.is_ready_alone.ensures ∙ c.if-is_ready_alone.false)
    (none_with_child c.args.p.now c.args.tree.now c.args.work.now.self_count c.args.self.now.journal c.args.self.now.system c.args.line.0 c.args.object.0 c.args.rule.now (children_of c.args.tree.now c.args.object.0) c.requires.rule (sym c.names_child.ensures ∙ c.if-names_child.false)))
