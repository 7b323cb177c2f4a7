use Rattle.std.proofs.Common.{◌≡◌, ◌++◌, drop}
use Rattle.std.specs.List.{flat_map}
use Rattle.hem_report.specs.Texts.{firing_text}
use Rattle.hem_report.proofs.firings.write_firings.Given as goal

-- the text so far and the firings that are left make the whole text
abbrev pub invariant-loop-firing : goal.invariant-loop-firing
invariant-loop-firing l = l.output ++ flat_map (firing_text l.p) (drop l.firing-index l.firings) ≡ l.fn.output ++ flat_map (firing_text l.p) l.firings
