-- Requesters as the code has them.
use Rattle.hem_translate.specs.declared.clauses.Asker.{Asker as Requester}
use Rattle.hem_translate.specs.declared.clauses.Asker.TheVariants as asker
use Rattle.hem_emit.specs.Place.{Asker, fixed, holder}

-- a requester by the name of the definitions
abbrev pub asker_is : Requester → Asker
asker_is (asker.Fixed me) = fixed me
asker_is (asker.Holder side) = holder side
