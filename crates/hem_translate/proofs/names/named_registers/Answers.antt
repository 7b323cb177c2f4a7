use Rattle.std.proofs.Common.{ap, ◌∙◌, map, take}
use Rattle.hem_syntax.specs.Names.{is_among}
use Rattle.hem_emit.specs.Written.{written_register}
use Rattle.hem_translate.specs.Places.{reg_of}
use Rattle.hem_translate.proofs.NamedApart.{new_register}
use Rattle.hem_translate.proofs.names.named_registers.Goals as goal

pub push-requires : goal.push-requires
push-requires c =
    let p = c.args.p.now in
    let tree = c.args.tree.now in
    let regs = c.args.regs.now in
    let i = c.loop-reg.reg-index in
    ap (λ table. is_among table c.reg_name.result) c.loop-reg.invariant
    ∙ ap (is_among (map (λ r. written_register p tree (reg_of r)) (take i regs))) c.reg_name.ensures
    ∙ new_register p tree regs i _ c.requires c.loop-reg-test.true
