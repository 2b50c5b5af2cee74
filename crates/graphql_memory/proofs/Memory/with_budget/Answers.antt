use Rattle.std.proofs.Common.{arith, inl, inr, refl}
use Rattle.graphql_memory.specs.Memory.{Refused}
use Rattle.graphql_memory.proofs.Memory.with_budget.Goals as goal

pub returns-clause-granted : goal.returns-clause-granted
unfolding Refused
returns-clause-granted c = elim [ inl some ↦ some refl | inr less ↦ omega (arith, less) ]
