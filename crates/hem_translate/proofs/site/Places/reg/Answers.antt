use Rattle.std.proofs.Common.{ap, ◌∙◌}
use Rattle.std.specs.Prelude.{unwrap_or}
use Rattle.hem_emit.specs.Names.{same_reg}
use Rattle.hem_translate.specs.Places.{reg_of}
use Rattle.hem_translate.specs.ByPlace.{Places, reg_at}
use Rattle.hem_translate.proofs.Found.{position_as, reg_alike}
use Rattle.hem_translate.proofs.site.Places.reg.Goals as goal

pub returns : goal.returns
returns c =
    c.unwrap_or.ensures
    ∙ ap (λ o. unwrap_or o 0) (c.get_index_of.ensures.index ∙ position_as _ (same_reg (reg_of c.args.r)) reg_of (reg_alike c.args.r) c.self.inside.regs.keys)
    ∙ ap (λ (l : Places). reg_at l (reg_of c.args.r)) c.self.view_is
