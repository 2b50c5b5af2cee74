use Rattle.std.proofs.Common.{rules}
use Rattle.graphql_reading.specs.reading.Outcome.{opt_at}
use Rattle.graphql_parser.proofs.check.schemas.members.check_maybe_implements.Goals as goal

pub returns-in_err-check_separated-clause-checks : goal.returns-in_err-check_separated-clause-checks
unfolding opt_at
returns-in_err-check_separated-clause-checks c = search rules
