use Rattle.std.proofs.Common.{◌∙◌, sym}
use Rattle.hem_cli.proofs.Replies.{prepared_of, refused_before}
use Rattle.hem_cli.proofs.preparing.prepare.Goals as goal

pub returns-in-Ok : goal.returns-in-Ok
returns-in-Ok c = prepared_of c.args.document c.in-Ok.accepted c.prepare_over.result c.in-Ok.ensures.accepted c.prepare_over.ensures

pub returns : goal.returns
returns c =
    refused_before c.args.document c.in-Err.refusal c.refused-reply.result c.in_ok-letting_go-in-Err.field-0 (sym c.letting_go.ensures ∙ c.in_ok-letting_go-in-Err.was)
    c.in-Err.ensures.refused c.refused-reply.ensures.status c.refused-reply.ensures.text
