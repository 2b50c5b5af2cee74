use Rattle.graphql_schemas.proofs.InputValueProductions.{takes-input_value}
use Rattle.graphql_schemas.proofs.MemberProductions.{takes-enum_value}
use Rattle.graphql_parser.proofs.check.schemas.types.check_rest.Goals as goal

pub check_braced-requires : goal.check_braced-requires
check_braced-requires c = takes-enum_value c.args.limits

pub check_braced-requires-in-Input : goal.check_braced-requires-in-Input
check_braced-requires-in-Input c = takes-input_value c.args.limits
