use Rattle.graphql_schemas.proofs.InputValueProductions.{takes-input_value}
use Rattle.graphql_schemas.proofs.input_values.read_maybe_arguments_definition.Goals as goal

pub maybe_bracketed-requires-clause-takes : goal.maybe_bracketed-requires-clause-takes
maybe_bracketed-requires-clause-takes c = takes-input_value c.args.limits
