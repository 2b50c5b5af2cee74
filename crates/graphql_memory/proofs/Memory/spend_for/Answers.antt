use Rattle.std.proofs.Common.{arith, inr}
use Rattle.graphql_memory.proofs.Memory.spend_for.Goals as goal

pub returns-in-None-clause-denied : goal.returns-in-None-clause-denied
returns-in-None-clause-denied g c = inr (omega arith, inr (grind (arith, c.in-None.ensures), omega arith))
