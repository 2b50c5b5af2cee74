use Rattle.std.proofs.Common.{arith, inr}
use Rattle.graphql_memory.specs.Memory.{Refused}
use Rattle.graphql_memory.proofs.Memory.spend.Goals as goal

pub returns-then-self-bytes-clause-refused : goal.returns-then-self-bytes-clause-refused
unfolding Refused
returns-then-self-bytes-clause-refused c = inr (omega arith)
