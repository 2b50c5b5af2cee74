use Rattle.graphql_report.proofs.LaterLines.{begins-at-top}
use Rattle.graphql_report.proofs.rests.ReadFrom.top.Goals as goal

pub returns-clause-begins : goal.returns-clause-begins
returns-clause-begins c = begins-at-top c.args.text.now c.utf8.text
