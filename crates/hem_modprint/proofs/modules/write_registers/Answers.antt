use Rattle.std.specs.Prelude.{ℕ}
use Rattle.std.proofs.Common.{List}
use Rattle.hem_modprint.specs.ModulesText.{register_text}
use Rattle.hem_modprint.specs.ReadsBack.{fits}
use Rattle.hem_modprint.proofs.Words.{text_at, all_at_place}
use Rattle.hem_modprint.proofs.modules.write_registers.Goals as goal

pub loop-place-preserved : goal.loop-place-preserved
loop-place-preserved c = record {
  text = text_at register_text _ c.loop-place.output c.write_register_at.new.output c.args.regs.now c.loop-place.place c.in_ok-write_register_at.ensures.text c.loop-place.invariant.text;
  fits = all_at_place (λ (r : List ℕ × ℕ). fits r.1) c.args.regs.now c.loop-place.place c.in_ok-write_register_at.ensures.fits c.loop-place.invariant.fits;
}
