use Rattle.std.proofs.Common.{◌≡◌, refl, string_bytes}
use Rattle.hem_cli.specs.Making.{made_text}
use Rattle.hem_cli.specs.declared.status.Status.TheVariants.{Done}
use Rattle.hem_cli.proofs.Replies.{generated_done}
use Rattle.hem_cli.proofs.making.made.Goals as goal

pub returns-in_ok-made_text-in-Ok : goal.returns-in_ok-made_text-in-Ok
returns-in_ok-made_text-in-Ok c =
    generated_done c.args.ready.now.accepted c.protocol-p.result.now c.args.ready.now.tree c.args.ready.now.work c.in-Ok.work c.args.count c.args.seed
    (λ with_more text. text ≡ made_text c.args.bytes.now c.args.ready.now.accepted c.args.ready.now.tree with_more)
    Done (string_bytes c.in_ok-made_text-in-Ok.field-0) c.protocol-p.ensures.same c.in-Ok.ensures.data c.in-Ok.ensures.faultless refl c.in_ok-made_text-in-Ok.ensures
