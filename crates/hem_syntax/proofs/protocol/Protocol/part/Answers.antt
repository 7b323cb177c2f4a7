use Rattle.std.proofs.Common.{subst}
use Rattle.hem_syntax.specs.Lawful.{IsProtocol}
use Rattle.hem_syntax.proofs.protocol.Protocol.part.Goals as goal

pub returns-in-Root-clause-lawful : goal.returns-in-Root-clause-lawful
returns-in-Root-clause-lawful c = subst IsProtocol c.self.view_is c.self.invariant

pub returns-in-Mid-clause-lawful : goal.returns-in-Mid-clause-lawful
returns-in-Mid-clause-lawful c = subst IsProtocol c.self.view_is c.self.invariant

pub returns-in-Leaf-clause-lawful : goal.returns-in-Leaf-clause-lawful
returns-in-Leaf-clause-lawful c = subst IsProtocol c.self.view_is c.self.invariant
