use Rattle.std.proofs.Common.{◌≡◌, ◌++◌, ap, ◌∙◌, subst, OnOk, length}
use Rattle.std.specs.List.{flat_map}
use Rattle.hem_tree.specs.Tree.{below}
use Rattle.hem_translate.specs.ByObject.{object_rules}
use Rattle.hem_translate.proofs.AllRules.{all_written}
use Rattle.hem_translate.proofs.objects.push_written.Goals as goal

pub returns : goal.returns
returns c =
    let p = c.args.p.now in
    let tree = c.args.tree.now in
    subst (λ xs. OnOk c.push_objects.result (c.push_objects.new.rules ≡ c.args.rules.now ++ xs)) (ap (λ m. flat_map (object_rules m p tree) (below (length tree))) c.requires ∙ all_written p tree) c.push_objects.ensures
