use Rattle.graphql_requests.proofs.VariableProductions.{takes-variable_definition}
use Rattle.graphql_parser.proofs.check.variables.check_maybe_variable_definitions.Goals as goal

pub check_maybe_bracketed-requires : goal.check_maybe_bracketed-requires
check_maybe_bracketed-requires c = takes-variable_definition c.args.limits.values c.args.limits.types
