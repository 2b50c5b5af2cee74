use Rattle.std.proofs.Common.{arith, inl, inr}
use Rattle.graphql_memory.specs.Memory.{Refused}
use Rattle.graphql_memory.proofs.Memory.settle.Goals as goal

pub returns-else-lent-gt0-clause-refused : goal.returns-else-lent-gt0-clause-refused
unfolding Refused
returns-else-lent-gt0-clause-refused c = elim [ inl some ↦ absurd (some (omega arith)) | inr less ↦ inr less ]
