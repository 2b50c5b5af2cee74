use Rattle.graphql_schemas.proofs.InputValueProductions.{takes-input_value}
use Rattle.graphql_parser.proofs.check.schemas.input_values.check_maybe_arguments_definition.Goals as goal

pub check_maybe_bracketed-requires : goal.check_maybe_bracketed-requires
check_maybe_bracketed-requires c = takes-input_value c.args.limits
