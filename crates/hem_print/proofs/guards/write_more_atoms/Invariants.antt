use Rattle.std.proofs.Common.{◌≡◌, ◌++◌, drop}
use Rattle.hem_base.specs.declared.words.Sign.TheVariants as sign
use Rattle.hem_syntax.specs.Protocol.{part}
use Rattle.hem_print.specs.Canonical.{signed, led, words_text, atom_words}
use Rattle.hem_print.proofs.guards.write_more_atoms.Given as goal

-- the text so far and the conditions that are left make the whole text
abbrev pub invariant-loop-atom : goal.invariant-loop-atom
invariant-loop-atom l = l.output ++ words_text (led (signed sign.Comma) (atom_words l.p (part l.p l.kind)) (drop l.atom-index l.atoms)) ≡ l.fn.output ++ words_text (led (signed sign.Comma) (atom_words l.p (part l.p l.kind)) l.atoms)
