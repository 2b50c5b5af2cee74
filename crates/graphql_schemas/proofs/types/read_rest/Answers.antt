use Rattle.graphql_schemas.proofs.InputValueProductions.{takes-input_value}
use Rattle.graphql_schemas.proofs.MemberProductions.{takes-enum_value}
use Rattle.graphql_schemas.proofs.types.read_rest.Goals as goal

pub read_braced-requires-clause-takes : goal.read_braced-requires-clause-takes
read_braced-requires-clause-takes c = takes-enum_value c.args.limits

pub read_braced-requires-in-Input-clause-takes : goal.read_braced-requires-in-Input-clause-takes
read_braced-requires-in-Input-clause-takes c = takes-input_value c.args.limits
