use Rattle.std.proofs.Common.{arith, inl}
use Rattle.graphql_memory.specs.Memory.{Refused}
use Rattle.graphql_memory.proofs.Memory.refuse.Goals as goal
use Rattle.graphql_memory.proofs.Memory.refuse.Goals.{then-self, else-self}

pub returns-clause-refused : goal.returns-clause-refused
unfolding Refused
returns-clause-refused c = inl (elim c.if-self.branch [ then-self w ↦ rw w.self-is (omega arith) | else-self w ↦ rw w.self-is (omega arith) ])
