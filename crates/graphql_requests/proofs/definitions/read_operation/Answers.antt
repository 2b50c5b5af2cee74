use Rattle.graphql_requests.proofs.VariableProductions.{takes-variable_definition}
use Rattle.graphql_requests.proofs.definitions.read_operation.Goals as goal

pub maybe_bracketed-requires-clause-takes : goal.maybe_bracketed-requires-clause-takes
maybe_bracketed-requires-clause-takes c = takes-variable_definition c.args.limits.values c.args.limits.types
