use Rattle.hem_document.proofs.SetUpOnce.{setup_fault_once, lawful_excludes}
use Rattle.hem_document.proofs.laws.setups_have_one_fault.Goals as goal

pub returns-clause-once : goal.returns-clause-once
returns-clause-once c = setup_fault_once

pub returns-clause-excludes : goal.returns-clause-excludes
returns-clause-excludes c = lawful_excludes
