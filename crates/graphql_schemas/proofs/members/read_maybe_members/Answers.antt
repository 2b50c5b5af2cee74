use Rattle.std.proofs.Common.{rules}
use Rattle.graphql_reading.specs.reading.Outcome.{opt_at}
use Rattle.graphql_schemas.proofs.members.read_maybe_members.Goals as goal

pub returns-in_err-names-clause-gives : goal.returns-in_err-names-clause-gives
unfolding opt_at
returns-in_err-names-clause-gives c = search rules
