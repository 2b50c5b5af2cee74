use Rattle.std.proofs.Common.{arith}
use Rattle.graphql_editor.proofs.chain.Chain.finish.Goals as goal

pub returns-clause-within : goal.returns-clause-within
returns-clause-within c = rw (← c.self.view_is) (c.push_around.ensures.within c.self.inside.size c.self.invariant.0 (record { ordered = omega arith; within = omega arith }))
