use Rattle.std.proofs.Common.{◌≡◌, ◌++◌, drop}
use Rattle.std.specs.Prelude.{flat_map}
use Rattle.std.specs.List.{list_all}
use Rattle.hem_modprint.specs.ModulesText.{register_text}
use Rattle.hem_modprint.specs.ReadsBack.{fits}
use Rattle.hem_modprint.proofs.modules.write_registers.Given as goal

-- the text so far and what is left make the whole text, and the numbers of all are such as those of what is left are
abbrev pub invariant-loop-place : goal.invariant-loop-place
invariant-loop-place l = record {
  text : l.output ++ flat_map (register_text) (drop l.place l.regs) ≡ l.fn.output ++ flat_map (register_text) l.regs;
  fits : list_all (λ r. fits r.1) (drop l.place l.regs) ≡ list_all (λ r. fits r.1) l.regs;
}
