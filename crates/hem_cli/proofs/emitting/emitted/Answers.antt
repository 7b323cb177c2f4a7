use Rattle.std.proofs.Common.{string_bytes}
use Rattle.hem_cli.proofs.ModuleReplies.{emitted_told}
use Rattle.hem_cli.proofs.emitting.emitted.Goals as goal

pub returns : goal.returns
returns c =
    emitted_told (λ s. string_bytes s) c.args.accepted.now c.args.tree.now c.in_ok-modules.modules c.modules_text.result
    c.in_ok-modules.ensures.modules c.in_ok-modules.ensures.matches c.modules_text.ensures.text c.modules_text.ensures.reads_back
