use Rattle.hem_emit.proofs.Slots.{slot_is}
use Rattle.hem_emit.proofs.NumberingFirings.{slots_apart}
use Rattle.hem_emit.proofs.NumberingThere.{slot_there}
use Rattle.hem_emit.proofs.NumberingRules.{rules_of_slots, named_fits, child_once}
use Rattle.hem_emit.proofs.by_place.rules_are_named_after_firings.Goals as goal

pub returns : goal.returns
returns c = record { slots = rules_of_slots; apart = slots_apart; there = slot_there; firing = slot_is; fits = named_fits; once = child_once }
