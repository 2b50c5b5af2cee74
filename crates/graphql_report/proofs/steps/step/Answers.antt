use Rattle.std.proofs.Common.{subst}
use Rattle.graphql_report.specs.inner.Left.{Becomes}
use Rattle.graphql_report.proofs.Apart.{steps-so}
use Rattle.graphql_report.proofs.steps.step.Goals as goal

pub returns-in-Some-is_token : goal.returns-in-Some-is_token
returns-in-Some-is_token c = steps-so c.args.limits c.args.parser.now.hand.bare c.args.left.now.items c.pop.new.self.items c.in-Some.phrase c.in-Some-is_token.is_next (subst (Becomes c.args.limits c.args.parser.now.hand.bare c.args.left.now.items) c.in-Some.ensures.items c.loop.invariant) (c.in-Some-is_token.ensures c.args.limits)
