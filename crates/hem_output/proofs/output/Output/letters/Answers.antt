use Rattle.std.proofs.Common.{subst, sym}
use Rattle.std.specs.Str.{IsUtf8}
use Rattle.std.proofs.lemmas.Str.{IsUtf8-append}
use Rattle.hem_output.proofs.Ascii.{word_utf8}
use Rattle.hem_output.proofs.output.Output.letters.Goals as goal

pub invariant_of-self-2 : goal.invariant_of-self-2
invariant_of-self-2 c = subst IsUtf8 (sym c.in_ok-extend_from_slice.ensures.items) (IsUtf8-append _ _ c.self.invariant (word_utf8 c.args.word.now c.requires))
