use Rattle.std.proofs.Common.{◌≡◌, ◌++◌, map, ap, ◌∙◌, subst, OnOk}
use Rattle.hem_translate.specs.Places.{reg_of}
use Rattle.hem_translate.specs.ByObject.{registers_of_kids}
use Rattle.hem_translate.proofs.Laid.{kids_laid}
use Rattle.hem_translate.proofs.layout.push_kids.Goals as goal

pub returns : goal.returns
returns c = subst (λ rs. OnOk c.push_children.result (map reg_of c.push_children.new.regs ≡ map reg_of c.args.regs.now ++ rs)) (kids_laid c.children.result.now ∙ ap registers_of_kids c.children.ensures) c.push_children.ensures
