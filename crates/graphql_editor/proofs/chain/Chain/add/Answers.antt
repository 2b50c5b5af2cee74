use Rattle.std.proofs.Common.{arith}
use Rattle.graphql_editor.proofs.chain.Chain.add.Goals as goal

pub invariant_of-self : goal.invariant_of-self
invariant_of-self c = (c.push_around.ensures.within c.self.inside.size c.self.invariant.0 c.span_within-span.ensures, c.push_around.ensures.growing, omega (arith, c.push_around.ensures.few))

pub invariant_of-self-then-len-lt-MOST : goal.invariant_of-self-then-len-lt-MOST
invariant_of-self-then-len-lt-MOST c = (c.push_around.ensures.within c.self.inside.size c.self.invariant.0 c.span_within-span.ensures, c.push_around.ensures.growing, omega (arith, c.push_around.ensures.few))
