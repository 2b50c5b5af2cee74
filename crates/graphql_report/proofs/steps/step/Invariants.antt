use Rattle.graphql_report.specs.inner.Left.{Becomes}
use Rattle.graphql_report.proofs.steps.step.Given as goal

abbrev pub invariant-loop : goal.invariant-loop
invariant-loop l = Becomes l.limits l.parser.hand.bare l.fn.left.items l.left.items
