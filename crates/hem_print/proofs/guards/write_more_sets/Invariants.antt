use Rattle.std.proofs.Common.{◌≡◌, ◌++◌, drop}
use Rattle.hem_base.specs.declared.words.Sign.TheVariants as sign
use Rattle.hem_syntax.specs.Protocol.{part}
use Rattle.hem_print.specs.Canonical.{signed, led, words_text, assign_words}
use Rattle.hem_print.proofs.guards.write_more_sets.Given as goal

-- the text so far and the sets that are left make the whole text
abbrev pub invariant-loop-assign : goal.invariant-loop-assign
invariant-loop-assign l = l.output ++ words_text (led (signed sign.Comma) (assign_words l.p (part l.p l.kind)) (drop l.assign-index l.sets)) ≡ l.fn.output ++ words_text (led (signed sign.Comma) (assign_words l.p (part l.p l.kind)) l.sets)
