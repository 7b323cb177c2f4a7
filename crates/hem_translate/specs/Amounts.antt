-- The numbers that a rule writes and sends, as the code has them.
use Rattle.std.specs.Prelude.{List, [], ◌∷◌, ◌++◌, map}
use Rattle.hem_module.specs.declared.rules.ModAtom.{ModAtom}
use Rattle.hem_module.specs.declared.rules.ModValue.{ModValue}
use Rattle.hem_module.specs.declared.rules.Act.{Act}
use Rattle.hem_module.specs.declared.rules.Act.TheVariants as act
use Rattle.hem_module.specs.declared.rules.Action as written
use Rattle.hem_emit.specs.Place.{Test, Amount}
use Rattle.hem_translate.specs.declared.amounts.Amount as counted
use Rattle.hem_translate.specs.declared.amounts.Deed.{Deed}
use Rattle.hem_translate.specs.declared.amounts.Deed.TheVariants as deed
use Rattle.hem_translate.specs.ByPlace.{Places, test_at, amount_at}

-- what is done with a number
abbrev pub done : Deed → ModValue → Act
done (deed.Put r) v = act.Set r v
done (deed.Send q id) v = act.Enq q id v

-- an amount with its tests, by places
abbrev pub counted_at : Places → List Test × Amount → counted.Amount
counted_at l a = record { tests = map (test_at l) a.0; value = amount_at l a.1 }

-- an amount without tests
abbrev pub alone : ModValue → List counted.Amount
alone v = record { tests = []; value = v } ∷ []

-- a deed with an amount, under further tests
abbrev pub acted : List ModAtom → Deed → counted.Amount → written.Action
acted tests deed a = record { cond = tests ++ a.tests; act = done deed a.value }
