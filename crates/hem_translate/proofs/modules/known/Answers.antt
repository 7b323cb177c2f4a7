use Rattle.std.proofs.Common.{subst}
use Rattle.hem_module.specs.Lawful.{IsModules}
use Rattle.hem_emit.specs.Matches.{Matches}
use Rattle.hem_emit.specs.Written.{modules_of}
use Rattle.hem_translate.proofs.modules.known.Goals as goal

pub returns-clause-lawful : goal.returns-clause-lawful
returns-clause-lawful c =
    let p = c.protocol-p.result.now in
    let tree = c.args.tree.now in
    subst (λ p. IsModules (modules_of p tree)) c.protocol-p.ensures.same (c.modules_may_be_written.ensures p tree c.part-lawful.ensures.lawful (c.disciplined_protocols_are_templated_and_stable.ensures.templates p c.protocol-p.ensures.disciplined) c.objects-count.ensures.lawful)

pub returns-clause-matches : goal.returns-clause-matches
returns-clause-matches c =
    let p = c.protocol-p.result.now in
    let tree = c.args.tree.now in
    subst (λ p. Matches p tree (modules_of p tree)) c.protocol-p.ensures.same (c.modules_match_the_protocol.ensures p tree c.part-lawful.ensures.lawful (c.disciplined_protocols_are_templated_and_stable.ensures.templates p c.protocol-p.ensures.disciplined) c.objects-count.ensures.lawful)
