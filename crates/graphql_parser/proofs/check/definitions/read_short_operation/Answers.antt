use Rattle.std.proofs.Common.{ap}
use Rattle.graphql_parser.proofs.ShortOperations.{short-head}
use Rattle.graphql_parser.proofs.check.definitions.read_short_operation.Goals as goal

pub returns-clause-gives : goal.returns-clause-gives
returns-clause-gives c = (
  short-head c.args.limits c.args.parser.now.hand c.args.parser.now.after _ c.hand.result.pos (ap (λ t. t.pos) c.hand.ensures.token) c.in_ok-check_selection_set.ensures.checks.0,
  c.in_ok-check_selection_set.ensures.checks.1,
)
