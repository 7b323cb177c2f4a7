use Rattle.hem_modprint.proofs.Words.{register_word}
use Rattle.hem_modprint.proofs.names.write_register.Goals as goal

pub name-requires-in-Some : goal.name-requires-in-Some
name-requires-in-Some c = register_word c.args.m.now c.regs.result.now c.args.register c.in-Some.name.now c.rules-rules.ensures.lawful c.regs.ensures c.in-Some.ensures
