use Rattle.hem_emit.specs.Names.{names}
use Rattle.hem_module.specs.Places.{places}
use Rattle.hem_emit.proofs.NumberingPlaces.{places_one_to_one}
use Rattle.hem_emit.proofs.NumberingRules.{numbers_agree}
use Rattle.hem_emit.proofs.NumberingSteps.{can_alike, actions_alike}
use Rattle.hem_emit.proofs.by_place.steps_over_numbers_are_steps_over_names.Goals as goal

pub returns : goal.returns
returns c = record { places = places_one_to_one; agrees = numbers_agree; can = can_alike names places; leads = actions_alike names places }
