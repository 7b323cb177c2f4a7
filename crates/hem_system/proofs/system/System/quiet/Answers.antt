use Rattle.std.proofs.Common.{◌∙◌, ap, sym}
use Rattle.std.specs.List.{list_all}
use Rattle.hem_system.specs.Cells.{seen}
use Rattle.hem_system.specs.Quiet.{is_idle, is_quiet}
use Rattle.hem_system.proofs.Quiets.{quiet-state}
use Rattle.hem_system.proofs.system.System.quiet.Goals as goal

pub returns : goal.returns
returns c = c.are_idle.ensures ∙ ap (λ lines. list_all (λ line. list_all (λ cell. is_idle (seen cell)) line) lines) c.as_slice.ensures ∙ sym (quiet-state c.self.inside.lines) ∙ ap is_quiet c.self.view_is
