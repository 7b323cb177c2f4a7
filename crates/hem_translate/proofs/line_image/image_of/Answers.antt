use Rattle.std.proofs.Common.{ap, sym, ◌∙◌, map}
use Rattle.hem_system.specs.State.{list_at}
use Rattle.hem_emit.specs.Names.{Queue}
use Rattle.hem_emit.specs.Image.{number_of}
use Rattle.hem_translate.specs.Places.{reg_of, queue_of}
use Rattle.hem_translate.specs.Lines.{line_at}
use Rattle.hem_translate.proofs.NamedApart.{map_map}
use Rattle.hem_translate.proofs.OnLine.{parts_are}
use Rattle.hem_translate.proofs.line_image.image_of.Goals as goal

pub returns : goal.returns
returns c =
    let number = number_of c.args.tree.now (line_at c.args.s.now c.args.line.0) in
    let messages = λ (q : Queue). list_at (line_at c.args.s.now c.args.line.0) q.object q.lane in
    parts_are c.filled.result _ _ _ _ c.filled.ensures.regs c.filled.ensures.queues
    (sym (map_map number reg_of c.args.regs.now) ∙ ap (map number) c.requires.regs)
    (sym (map_map messages queue_of c.args.queues.now) ∙ ap (map messages) c.requires.queues)
