use Rattle.hem_syntax.proofs.DeclaredNames.{pair_word}
use Rattle.hem_modprint.proofs.modules.write_register_at.Goals as goal

pub write_register_line-requires : goal.write_register_line-requires
write_register_line-requires c = pair_word c.args.regs.now c.args.place c.in-Some.name.now c.requires c.in-Some.ensures
